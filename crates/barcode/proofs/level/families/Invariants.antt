use Rattle.std.proofs.Common.{◌≡◌, ℕ, ◌<◌, map, length}
use Rattle.orderings.specs.Rows.{row}
use Rattle.barcode.specs.BarSets.{ConsistsOf, row_set}
use Rattle.barcode.proofs.level.families.Given as goal

abbrev pub invariant-loop-place : goal.invariant-loop-place
invariant-loop-place g l = record {
  long : length l.sets ≡ 64;
  told : (q : ℕ) → q < l.place →
      let rows = map g.E.Element.shown l.rows in
      ConsistsOf (row_set l.sets q) (λ w. (w < length l.rows) × ((row rows q).family ≡ (row rows w).family));
}
