use Rattle.std.proofs.Common.{◌<◌, length, map, sym, ap, ◌∙◌, arith}
use Rattle.std.proofs.lemmas.Bool.Decides.{not_from_Decides}
use Rattle.std.proofs.lemmas.List.{length-map}
use Rattle.elements.specs.Element.{Shown}
use Rattle.orderings.proofs.Places.{row_read}
use Rattle.barcode.proofs.Tops.{tops_of_one_more, tops_tell}
use Rattle.barcode.proofs.greatest.greatest_exponents.Goals as goal

pub returns-then-not-same_family-clause-one_family : goal.returns-then-not-same_family-clause-one_family
returns-then-not-same_family-clause-one_family g c =
    let shown = g.E.Element.shown in
    let rows = c.args.rows.now in
    let i = c.loop-w.w-index in
    let here = c.loop-w-test.true in
    let first = row_read shown rows 0 c.index-rows-0.result (omega arith) c.index-rows-0.is in
    let read = row_read shown rows i c.w-item.result here c.w-item.is in
    let inside : i < length (map shown rows) = omega (arith, here, length-map rows shown) in (
      λ e. absurd cc,
      λ all. absurd (not_from_Decides _ c.same_family.ensures c.if-not-same_family.true
          (ap (λ (s : Shown). s.family) (sym first) ∙ all i inside ∙ ap (λ (s : Shown). s.family) read)),
    )

pub loop-w-preserved : goal.loop-w-preserved
loop-w-preserved g c =
    let shown = g.E.Element.shown in
    let rows = c.args.rows.now in
    let i = c.loop-w.w-index in
    let here = c.loop-w-test.true in
    let first = row_read shown rows 0 c.index-rows-0.result (omega arith) c.index-rows-0.is in
    let read = row_read shown rows i c.w-item.result here c.w-item.is in
    tops_of_one_more c.raised-more.result c.loop-w.invariant
    (ap (λ (s : Shown). s.family) first ∙ c.same_family.ensures.0 c.if-not-same_family.false ∙
    ap (λ (s : Shown). s.family) (sym read))
    (λ v. rw (read, sym c.exponents-exponents.ensures) (c.raised-more.ensures v))

pub returns-clause-greatest : goal.returns-clause-greatest
returns-clause-greatest g c =
    tops_tell c.loop-w.invariant (omega (arith, length-map c.args.rows.now g.E.Element.shown))
