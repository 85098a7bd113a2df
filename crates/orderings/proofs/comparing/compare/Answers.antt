use Rattle.std.proofs.Common.{refl, inl, inr}
use Rattle.std.proofs.lemmas.Bool.Decides.{not_from_Decides}
use Rattle.orderings.proofs.Compared.{stands_from, compare_has_one_answer, swapping_mirrors_compare}
use Rattle.orderings.proofs.Lines.{compare_is_a_total_order}
use Rattle.orderings.proofs.comparing.compare.Goals as goal
use Rattle.orderings.proofs.comparing.compare.Goals.{then-not-is_fit-via-then-not-is_fit, then-not-is_fit-via-else-not-is_fit+then-not-is_fit-2}

pub returns-then-not-is_variable_count : goal.returns-then-not-is_variable_count
returns-then-not-is_variable_count g c = record {
  answers = inl (
    not_from_Decides _ c.is_variable_count.ensures c.if-not-is_variable_count.true,
    refl,
  );
  total = compare_is_a_total_order;
  once = compare_has_one_answer;
  mirrored = swapping_mirrors_compare;
}

pub returns-then-not-is_fit : goal.returns-then-not-is_fit
returns-then-not-is_fit g c = record {
  answers = inr (
    c.if-not-is_variable_count.ensures.0 refl,
    inl (
      λ f. elim c.then-not-is_fit.branch [
        | then-not-is_fit-via-then-not-is_fit w ↦ not_from_Decides _ c.is_fit.ensures w.if-not-is_fit.true f.0
        | then-not-is_fit-via-else-not-is_fit+then-not-is_fit-2 w ↦
            not_from_Decides _ w.is_fit-else-not-is_fit.ensures w.if-not-is_fit-2.true f.1
      ],
      refl,
    ),
  );
  total = compare_is_a_total_order;
  once = compare_has_one_answer;
  mirrored = swapping_mirrors_compare;
}

pub returns-then-not-is_ordering : goal.returns-then-not-is_ordering
returns-then-not-is_ordering g c = record {
  answers = inr (
    c.if-not-is_variable_count.ensures.0 refl,
    inr (
      (c.if-not-is_fit.ensures.0 refl, c.if-not-is_fit-2.ensures.0 refl),
      inl (not_from_Decides _ c.is_ordering.ensures.test c.if-not-is_ordering.true, refl),
    ),
  );
  total = compare_is_a_total_order;
  once = compare_has_one_answer;
  mirrored = swapping_mirrors_compare;
}

pub returns : goal.returns
returns g c =
    let o = c.if-not-is_ordering.ensures.test.0 refl in
    let u = c.if-not-is_fit.ensures.0 refl in
    let w = c.if-not-is_fit-2.ensures.0 refl in
    record {
      answers = inr (
        c.if-not-is_variable_count.ensures.0 refl,
        inr (
          (u, w),
          inr (
            o,
            stands_from g.E.Kind.admitted c.args.n c.args.order.now (g.E.Element.shown c.args.u.now)
                (g.E.Element.shown c.args.w.now) c.comparison_of.result o u w c.comparison_of.ensures,
          ),
        ),
      );
      total = compare_is_a_total_order;
      once = compare_has_one_answer;
      mirrored = swapping_mirrors_compare;
    }
