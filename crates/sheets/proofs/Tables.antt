-- Tables of elements, by what they show. Assumes nothing.
use Rattle.std.proofs.Common.{◌≡◌, ℕ, ◌+◌, ◌-◌, ◌<◌, ◌≤◌, List, map, length, take, drop, set, Some, None, Option, sym, ap, ◌∙◌, arith, MatchOption}
use Rattle.std.proofs.lemmas.List.{map-set, get_or-set_same, get_or-set_other, get_or-drop, get_or-take, length-map, take-map, drop-map}
use Rattle.std.specs.List.{ContainsAt}
use Rattle.elements.specs.Element.{Shown, blank}
use Rattle.orderings.specs.Rows.{row}

module _ {E : Type 0} (shown : E → Shown) where
  -- the rows, as the code cuts them off
  pub front_part : (xs ys : List E) (count : ℕ) → ys ≡ take count xs → map shown ys ≡ take count (map shown xs)
  front_part xs ys count e = rw e (sym (take-map shown count xs))

  -- the places after the rows, as the code cuts them off
  module _ (xs ys : List E) (count : ℕ) (e : ys ≡ drop count xs) where
    back_part : (p : ℕ) → row (map shown ys) p ≡ row (map shown xs) (count + p)
    back_part p = rw (e, ← drop-map) (get_or-drop count (map shown xs) p blank)

    pub blanks_from : ((p : ℕ) → row (map shown ys) p ≡ blank) → (p : ℕ) → count ≤ p → row (map shown xs) p ≡ blank
    blanks_from h p m = let z : count + (p - count) ≡ p = omega arith in
        rw z at (sym (back_part (p - count)) ∙ h (p - count))

    pub blanks_to : ((p : ℕ) → count ≤ p → row (map shown xs) p ≡ blank) → (p : ℕ) → row (map shown ys) p ≡ blank
    blanks_to h p = back_part p ∙ h (count + p) (omega arith)

  -- the place that a search of the rows gives
  pub place_in : (xs rows : List E) (count : ℕ) (s : Shown) (r : Option ℕ) →
      map shown rows ≡ take count (map shown xs) → length rows ≡ count →
      MatchOption r ((k : ℕ) → k < length rows → row (map shown rows) k ≡ s → ⊥)
      (λ p. (p < length rows) × (row (map shown rows) p ≡ s) × ((k : ℕ) → k < p → row (map shown rows) k ≡ s → ⊥)) →
      MatchOption r (ContainsAt (take count (map shown xs)) s → ⊥) (λ p. (p < count) × (row (map shown xs) p ≡ s))
  place_in xs rows count s None e l none =
      let n : length rows ≡ length (take count (map shown xs)) = sym (length-map rows shown) ∙ ap length e in
      λ h. none h.0 (omega (arith, h.1)) (rw e (h.2 blank))
  place_in xs rows count s (Some p) e l found =
      let h : p < count = omega (arith, found.0) in
      (h, sym (get_or-take count (map shown xs) p blank h) ∙ sym (ap (λ t. row t p) e) ∙ found.1)

  -- a written place, and the places before it
  pub row_written : (xs : List E) (i : ℕ) (x : E) → i < length xs → row (map shown (set xs i x)) i ≡ shown x
  row_written xs i x l = rw map-set (get_or-set_same (map shown xs) i (shown x) blank
      (omega (arith, length-map xs shown)))

  pub row_kept : (xs : List E) (i j : ℕ) (x : E) → j < i → row (map shown (set xs i x)) j ≡ row (map shown xs) j
  row_kept xs i j x l = rw map-set (get_or-set_other (map shown xs) i j (shown x) blank (λ e. omega arith))
