use Rattle.std.proofs.Common.{◌≡◌, ℕ, map}
use Rattle.elements.specs.Element.{exponent}
use Rattle.orderings.specs.Rows.{row}
use Rattle.places.specs.Places.{contains}
use Rattle.barcode.specs.BarSets.{Has, ConsistsOf}
use Rattle.barcode.proofs.Walks.{Passed}
use Rattle.barcode.proofs.level.with_exponent.Given as goal

abbrev pub invariant-loop-place : goal.invariant-loop-place
invariant-loop-place g l = record {
  within : (w : ℕ) → Has l.left w → Has l.initial.left w;
  told : let rows = map g.E.Element.shown l.rows in
      ConsistsOf l.kept (λ w.
      Passed (contains l.initial.left) (contains l.left) w × (l.given ≡ exponent (row rows w) l.variable));
}

abbrev pub decreases-loop-place : goal.decreases-loop-place
decreases-loop-place g l = l.left.bits
