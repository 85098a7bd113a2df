use Rattle.std.proofs.Common.{ℕ, map}
use Rattle.places.specs.Places.{contains}
use Rattle.barcode.specs.BarSets.{Has}
use Rattle.barcode.specs.Rise.{IsLeastRise}
use Rattle.barcode.proofs.Walks.{Passed}
use Rattle.barcode.proofs.rises.least_rise.Given as goal

abbrev pub invariant-loop-place : goal.invariant-loop-place
invariant-loop-place g l = record {
  within : (w : ℕ) → Has l.left w → Has l.initial.left w;
  told : IsLeastRise (map g.E.Element.shown l.rows) (Passed (contains l.initial.left) (contains l.left)) l.variable
      (g.E.Element.shown l.u) l.least;
}

abbrev pub decreases-loop-place : goal.decreases-loop-place
decreases-loop-place g l = l.left.bits
