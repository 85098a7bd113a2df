use Rattle.std.proofs.Common.{◌≡◌, ℕ, ◌<◌, length, get_or}
use Rattle.barcode.specs.Sorting.{HasRank}
use Rattle.barcode.proofs.sorting.ranks_of.Given as goal

abbrev pub invariant-loop-i : goal.invariant-loop-i
invariant-loop-i l = record {
  long : length l.ranks ≡ 64;
  told : (j : ℕ) → j < l.i → HasRank l.places l.ranks l.count (get_or l.places j 0);
}
