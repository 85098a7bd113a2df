use Rattle.std.proofs.Common.{◌≡◌, ◌<◌, map}
use Rattle.orderings.specs.Rows.{row}
use Rattle.barcode.specs.BarSets.{ConsistsOf}
use Rattle.barcode.proofs.level.of_the_family.Given as goal

abbrev pub invariant-loop-place : goal.invariant-loop-place
invariant-loop-place g l =
    let rows = map g.E.Element.shown l.rows in
    ConsistsOf l.family (λ w. (w < l.place) × ((g.E.Element.shown l.u).family ≡ (row rows w).family))
