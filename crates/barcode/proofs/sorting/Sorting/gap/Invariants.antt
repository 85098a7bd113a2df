use Rattle.std.proofs.Common.{◌≡◌, suc, ◌-◌, ◌<◌, map, length}
use Rattle.orderings.specs.Order.{Agree}
use Rattle.orderings.specs.Rows.{row}
use Rattle.barcode.specs.Sorting.{ranked}
use Rattle.barcode.proofs.sorting.Sorting.gap.Given as goal

abbrev pub invariant-loop-rank : goal.invariant-loop-rank
invariant-loop-rank g l =
    let rows = map g.E.Element.shown l.rows in
    record {
      within : l.rank < length l.rows;
      family : (row rows l.place).family ≡ (ranked rows l.self.places l.rank).family;
      agree : Agree l.order (suc l.here) (row rows l.place) (ranked rows l.self.places l.rank);
    }

abbrev pub decreases-loop-rank : goal.decreases-loop-rank
decreases-loop-rank g l = length l.rows - l.rank
