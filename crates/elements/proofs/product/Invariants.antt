use Rattle.std.proofs.Common.{◌≡◌, ℕ, ◌+◌, ◌<◌, ◌≤◌, length, get_or}
use Rattle.elements.proofs.product.Given as goal

-- the first i sums are written, and the rest is as it was
abbrev pub invariant-loop-i : goal.invariant-loop-i
invariant-loop-i g l = record {
  long : length l.sums ≡ 8;
  written : (k : ℕ) → k < l.i → get_or l.sums k 0 ≡ get_or l.initial.sums k 0 + get_or l.term k 0;
  rest : (k : ℕ) → l.i ≤ k → get_or l.sums k 0 ≡ get_or l.initial.sums k 0;
}
