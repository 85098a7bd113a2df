use Rattle.std.proofs.Common.{◌≡◌, ℕ, ◌≤◌, Bool, false, rules, map, sym, ◌∙◌, inl, inr, arith, eq-eqb}
use Rattle.std.specs.Prelude.{◌==◌}
use Rattle.std.proofs.lemmas.Bool.{cases_eq, false≢true}
use Rattle.sheets.proofs.Settled.{unserved_by, served_by}
use Rattle.sheets.proofs.Steps.{as_promised}
use Rattle.sheets.proofs.open_sheet.OpenSheet.serving_ordering.Goals as goal

-- rows that are not told to be empty are some
some_rows : {b : Bool} {count rows : ℕ} → b ≡ (count == 0) → b ≡ false → count ≡ rows → 1 ≤ rows
some_rows {count = count} is not_empty same = elim (cases_eq count 0) [
  | inl none ↦ absurd (false≢true (sym not_empty ∙ is ∙ eq-eqb count 0 none))
  | inr some ↦ omega (arith, some, same)
]

pub returns-in-None-clause-none_found : goal.returns-in-None-clause-none_found
returns-in-None-clause-none_found g c =
    let (st, same) = c.in_ok-of.ensures in
    let s = c.search-found.ensures in
    unserved_by g.E.Kind.admitted g.E.Element.shown c.args.self.now.parts st
    (some_rows c.is_empty.ensures c.if-is_empty.false (rw same at c.rows-rows.ensures.count))
    (g.D.Division.meaning c.args.division.now) (g.met.D.Division.lawful c.args.division.now)
    s.theorems.the_answer_is_the_first_complete_ordering (map g.E.Element.shown c.rows-rows.result.now)
    (rw same at c.rows-rows.ensures.rows)
    c.search-found.result.tested s.tested (λ r. sym c.in-None.is ∙ s.ordering r)

pub returns-in-Some-clause-found : goal.returns-in-Some-clause-found
returns-in-Some-clause-found g c =
    let (st, same) = c.in_ok-of.ensures in
    let s = c.search-found.ensures in
    λ q table header order. served_by g.E.Kind.admitted g.E.Element.shown c.args.self.now.parts st
    (some_rows c.is_empty.ensures c.if-is_empty.false (rw same at c.rows-rows.ensures.count))
    (g.D.Division.meaning c.args.division.now) (g.met.D.Division.lawful c.args.division.now)
    s.theorems.the_answer_is_the_first_complete_ordering (map g.E.Element.shown c.rows-rows.result.now)
    (rw same at c.rows-rows.ensures.rows)
    c.search-found.result.tested s.tested q c.in-Some.ordering (λ r. sym c.in-Some.is ∙ s.ordering r) table header order

pub returns-then-is_empty-clause-none_found : goal.returns-then-is_empty-clause-none_found
returns-then-is_empty-clause-none_found g c =
    as_promised g.E.Kind.admitted g.E.Element.shown (g.met.D.Division.lawful c.args.division.now) (search rules)
