use Rattle.std.proofs.Common.{◌≡◌, ℕ, ◌<◌, ◌≤◌, ◌-◌, length}
use Rattle.orderings.specs.Order.{at}
use Rattle.barcode.proofs.bars.Bars.learn.Given as goal

abbrev pub invariant-loop-self : goal.invariant-loop-self
invariant-loop-self g l = record {
  rows : l.self.rows.now ≡ l.initial.self.rows.now;
  few : length l.self.rows.now ≤ 64;
  these : (k : ℕ) → k < l.self.known → (k < length l.order) × (at l.self.listed k ≡ at l.order k);
}

abbrev pub decreases-loop-self : goal.decreases-loop-self
decreases-loop-self g l = l.most - l.self.known
