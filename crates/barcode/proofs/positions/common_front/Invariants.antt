use Rattle.std.proofs.Common.{◌≡◌, ℕ, ◌<◌, ◌≤◌, ◌-◌, length}
use Rattle.orderings.specs.Order.{at}
use Rattle.barcode.proofs.positions.common_front.Given as goal

abbrev pub invariant-loop-front : goal.invariant-loop-front
invariant-loop-front l = record {
  left : l.front ≤ length l.a;
  right : l.front ≤ length l.b;
  same : (j : ℕ) → j < l.front → at l.a j ≡ at l.b j;
}

abbrev pub decreases-loop-front : goal.decreases-loop-front
decreases-loop-front l = length l.a - l.front
