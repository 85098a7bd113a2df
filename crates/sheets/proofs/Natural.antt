-- The ordering 1, 2, .. n. Assumes nothing.
use Rattle.std.proofs.Common.{◌≡◌, ℕ, ◌+◌, ◌-◌, ◌<◌, ◌≤◌, List, length, get_or, replicate, sym, ◌∙◌, inl, inr, arith}
use Rattle.std.specs.List.{range_with_len}
use Rattle.std.proofs.lemmas.List.FromFn.{length-range_with_len, get_or-range_with_len}
use Rattle.std.proofs.lemmas.List.{ext_get_or, get_or_append_left, get_or-append_right, get_or_past, get_or-replicate, length-append, length-replicate}
use Rattle.std.proofs.lemmas.Bool.{cases_lt}
use Rattle.orderings.specs.Order.{at, IsOrdering}
use Rattle.sheets.specs.Sheet.{natural_order}

module _ (n : ℕ) (few : n ≤ 8) where
  natural_length : length (natural_order n) ≡ 8
  natural_length = omega (
    arith,
    length-append (range_with_len 1 n) (replicate (8 - n) 0),
    length-range_with_len 1 n,
    length-replicate {A = ℕ} (8 - n) 0,
  )

  natural_low : (k : ℕ) → k < n → at (natural_order n) k ≡ k + 1
  natural_low k l =
      get_or_append_left (range_with_len 1 n) (replicate (8 - n) 0) 0 k (omega (arith, length-range_with_len 1 n)) ∙
      get_or-range_with_len 1 n k 0 l ∙ omega arith

  natural_high : (k : ℕ) → n ≤ k → at (natural_order n) k ≡ 0
  natural_high k l = elim (cases_lt k 8) [
    | inl h ↦ get_or-append_right (range_with_len 1 n) (replicate (8 - n) 0) n k 0 (length-range_with_len 1 n) l ∙
        get_or-replicate (8 - n) (k - n) 0 0 (omega arith)
    | inr h ↦ get_or_past (natural_order n) k 0 (omega (arith, natural_length))
  ]

  -- it is an ordering
  pub natural_ordered : IsOrdering n (natural_order n)
  natural_ordered = record {
    eight = natural_length;
    low = λ k l. omega (arith, natural_low k l);
    high = λ k l. omega (arith, natural_low k l);
    distinct = λ j k h l e. omega (arith, natural_low j (omega arith), natural_low k l);
    zeros = natural_high;
  }

-- eight bytes are it where the first n variables are written at their places, and 0 at the others
pub natural_written : (n : ℕ) (xs : List ℕ) → n ≤ 8 → length xs ≡ 8 → ((j : ℕ) → j < n → get_or xs j 0 ≡ j + 1) →
    ((j : ℕ) → n ≤ j → get_or xs j 0 ≡ 0) → xs ≡ natural_order n
natural_written n xs few eight own others =
    ext_get_or 0 xs (natural_order n) (eight ∙ sym (natural_length n few)) (λ k l. elim (cases_lt k n) [
      | inl m ↦ own k m ∙ sym (natural_low n few k m)
      | inr m ↦ others k m ∙ sym (natural_high n few k m)
    ])
