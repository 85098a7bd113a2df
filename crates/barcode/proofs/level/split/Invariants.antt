use Rattle.std.proofs.Common.{◌≡◌, ℕ, ◌<◌, map, length}
use Rattle.elements.specs.Element.{exponent}
use Rattle.orderings.specs.Rows.{row}
use Rattle.barcode.specs.BarSets.{Has, ConsistsOf, row_set}
use Rattle.barcode.proofs.level.split.Given as goal

abbrev pub invariant-loop-place : goal.invariant-loop-place
invariant-loop-place g l = record {
  long : length l.sets ≡ 64;
  told : (q : ℕ) → q < l.place →
      let rows = map g.E.Element.shown l.rows in
      ConsistsOf (row_set l.sets q) (λ w. Has (row_set l.above.sets q) w ×
      (exponent (row rows q) l.variable ≡ exponent (row rows w) l.variable));
}
