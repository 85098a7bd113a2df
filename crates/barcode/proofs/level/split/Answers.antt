use Rattle.std.proofs.Common.{◌≡◌, map, arith, sym, ap, ◌∙◌}
use Rattle.elements.specs.Element.{Shown, exponent}
use Rattle.orderings.specs.Rows.{row}
use Rattle.orderings.proofs.Places.{row_read}
use Rattle.std.proofs.lemmas.List.{length-map}
use Rattle.barcode.specs.BarSets.{Has, row_set}
use Rattle.barcode.proofs.Levels.{sets_more, sets_below}
use Rattle.std.proofs.lemmas.List.{length-set}
use Rattle.places.specs.declared.Places.{Places}
use Rattle.barcode.proofs.level.split.Goals as goal

pub loop-place-preserved : goal.loop-place-preserved
loop-place-preserved g c =
    let shown = g.E.Element.shown in
    let rows = c.args.rows.now in
    let i = c.loop-place.place in
    let read = row_read shown rows i c.index-rows-place.result c.loop-place-test.true c.index-rows-place.is in
    let given : exponent (row (map shown rows) i) c.args.variable ≡ c.exponent.result =
    ap (λ (u : Shown). exponent u c.args.variable) read ∙ sym c.exponent.ensures in
    record {
      long = omega (arith, length-set {A = Places}, c.loop-place.invariant.long);
      told = sets_more c.loop-place.sets i c.with_exponent.result
          (λ q w. Has (row_set c.args.above.now.sets q) w ×
          (exponent (row (map shown rows) q) c.args.variable ≡ exponent (row (map shown rows) w) c.args.variable))
          (omega (arith, c.loop-place.invariant.long, c.requires.few))
          c.loop-place.invariant.told (rw given c.with_exponent.ensures);
    }

pub returns : goal.returns
returns g c = λ order k read told.
    sets_below (map g.E.Element.shown c.args.rows.now) order k c.args.variable c.args.above.now.sets c.loop-place.sets
    read told
    (λ q l. c.loop-place.invariant.told q
    (omega (arith, l, c.loop-place-test.false, length-map c.args.rows.now g.E.Element.shown)))
