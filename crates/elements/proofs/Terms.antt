-- Exponents by place and by variable. Assumes nothing.
use Rattle.std.proofs.Common.{◌≡◌, ℕ, zero, suc, ◌+◌, ◌-◌, ◌<◌, ◌≤◌, Bool, true, false, cond, eqb, List, length, get_or, set, replicate, Decides, sym, refl, ap, ◌∙◌, inl, inr, arith}
use Rattle.std.proofs.lemmas.List.FromFn.{length-map-range_with_len, get_or-map-range_with_len}
use Rattle.std.proofs.lemmas.List.{get_or_past, ext_get_or, get_or-set_same, get_or-set_other, get_or-replicate, length-set}
use Rattle.std.proofs.lemmas.Slice.Zip.{length-zip, get_or-zip}
use Rattle.std.specs.List.{zip, AllWithin, HoldsAt}
use Rattle.std.specs.Bool.{MatchBool}
use Rattle.std.proofs.lemmas.Bool.{false≢true, cases_lt, cases_eq, eq-eqb, ne_eqb, cond-true, cond-false, cond_both}
use Rattle.elements.specs.Element.{Shown, entry, exponent, Divides, term, power, product, quotient, Variable, Overflows}

-- a variable past the end has exponent 0
pub entry_past : (xs : List ℕ) (v : ℕ) → length xs < v → entry xs v ≡ 0
entry_past xs zero h = refl
entry_past xs (suc k) h = let past : length xs ≤ k = omega arith in get_or_past xs k 0 past

-- there is no variable 0
pub entry_none : (xs : List ℕ) (v : ℕ) → v < 1 → entry xs v ≡ 0
entry_none xs zero h = refl
entry_none xs (suc k) h = absurd (omega arith)

-- what holds at the eight places holds of every variable
pub each_variable : (a b : List ℕ) → length a ≡ 8 → ((k : ℕ) → k < 8 → get_or a k 0 ≤ get_or b k 0) → (v : ℕ) →
    entry a v ≤ entry b v
each_variable a b n h zero = omega arith
each_variable a b n h (suc k) = elim (cases_lt k 8) [
  | inl l ↦ h k l
  | inr m ↦ (let past : length a ≤ k = omega arith in omega (arith, get_or_past a k 0 past))
]

-- eight exponents are a term by what stands at each place
pub term_by_places : (f : ℕ → ℕ) (xs : List ℕ) → length xs ≡ 8 → ((k : ℕ) → k < 8 → get_or xs k 0 ≡ f (suc k)) →
    xs ≡ term f
term_by_places f xs n h =
    ext_get_or 0 xs (term f) (n ∙ sym (length-map-range_with_len f 1 8))
    (λ k l. let small : k < 8 = omega arith in
    h k small ∙ sym (get_or-map-range_with_len f 1 8 k (suc k) 0 small (omega arith)))

-- the exponent of a variable in a term
pub entry_term : (f : ℕ → ℕ) (v : ℕ) → Variable v → entry (term f) v ≡ f v
entry_term f zero r = absurd (omega (arith, r.low))
entry_term f (suc k) r = get_or-map-range_with_len f 1 8 k (suc k) 0 (omega (arith, r.high)) (omega arith)

-- one exponent written over eight zeros
pub power_by_set : (v m : ℕ) → Variable v → set (replicate 8 0) (v - 1) m ≡ power v m
unfolding power
power_by_set v m r =
    let n : length (set (replicate 8 0) (v - 1) m) ≡ 8 = length-set (replicate 8 0) (v - 1) m in
    term_by_places (λ x. cond (eqb x v) m 0) (set (replicate 8 0) (v - 1) m) n (λ k l. elim (cases_eq (suc k) v) [
      | inl e ↦ (let at : v - 1 ≡ k = omega arith in
          rw at (get_or-set_same (replicate 8 0) k m 0 l) ∙ sym (cond-true (eqb (suc k) v) m 0 (eq-eqb (suc k) v e)))
      | inr d ↦ (let other : k ≡ v - 1 → ⊥ = λ e. d (omega (arith, r.low)) in
          get_or-set_other (replicate 8 0) (v - 1) k m 0 other ∙ get_or-replicate 8 k 0 0 l ∙
          sym (cond-false (eqb (suc k) v) m 0 (ne_eqb (suc k) v d)))
    ])

-- elements that show the same family and the same exponents show the same
pub shown_path : (u w : Shown) → u.family ≡ w.family → u.exponents ≡ w.exponents → u ≡ w
shown_path u w e f =
    ap (λ (x : ℕ). record { family = x; exponents = u.exponents }) e ∙
    ap (λ (y : List ℕ). record { family = w.family; exponents = y }) f

pub product_family : (u : Shown) (t : List ℕ) → (product u t).family ≡ u.family
unfolding product
product_family u t = refl

-- sums, place by place, are a product
pub product_by_places : (u : Shown) (t xs : List ℕ) → length xs ≡ 8 →
    ((k : ℕ) → k < 8 → get_or xs k 0 ≡ get_or u.exponents k 0 + get_or t k 0) → xs ≡ (product u t).exponents
unfolding product
product_by_places u t xs n h = term_by_places (λ v. exponent u v + entry t v) xs n h

-- differences, place by place, are a quotient
pub quotient_by_places : (u w : Shown) (xs : List ℕ) → length xs ≡ 8 →
    ((k : ℕ) → k < 8 → get_or xs k 0 ≡ get_or w.exponents k 0 - get_or u.exponents k 0) → xs ≡ quotient u w
unfolding quotient
quotient_by_places u w xs n h = term_by_places (λ v. exponent w v - exponent u v) xs n h

-- the tests and sums of the code, over what the elements show
module _ (u w : Shown) (a b : List ℕ) (ea : a ≡ u.exponents) (eb : b ≡ w.exponents) where
  -- a greater exponent at one place
  pub not_at : (k : ℕ) → get_or b k 0 < get_or a k 0 → Divides u w → ⊥
  not_at k l d = let s = rw (← ea, ← eb) at (d.smaller (suc k)) in omega (arith, s)

  -- no greater exponent at any
  pub at_each : length a ≡ 8 → u.family ≡ w.family → ((k : ℕ) → k < 8 → get_or a k 0 ≤ get_or b k 0) → Divides u w
  at_each n f h = record { family = f; smaller = rw (← ea, ← eb) (each_variable a b n h) }

  -- the pairs of exponents at one place, each tested
  pub divides_by_pairs : (r : Bool) → length a ≡ 8 → length b ≡ 8 → u.family ≡ w.family →
      MatchBool r (AllWithin (λ p. p.0 ≤ p.1) (zip a b) 0 (length (zip a b)))
      ((k : ℕ) × (k < length (zip a b)) × HoldsAt (λ p. p.1 < p.0) (zip a b) k) →
      Decides r (Divides u w)
  divides_by_pairs true n m f h = (
    λ _. at_each n f (λ k l. rw (get_or-zip a b k (0, 0) (omega (arith, n)) (omega (arith, m))) at
        (h k (0, 0) (omega arith) (omega (arith, length-zip a b, n, m)))),
    λ _. refl,
  )
  divides_by_pairs false n m f (k, l, h) =
      let at = rw (get_or-zip a b k (0, 0) (omega (arith, length-zip a b, n, m)) (omega (arith, length-zip a b, n, m)))
      at (h (0, 0)) in
      (λ e. absurd (false≢true e), λ d. absurd (not_at k at d))

  -- differences that are written place by place
  pub quotient_written : (xs : List ℕ) → length xs ≡ 8 →
      ((k : ℕ) → k < 8 → get_or xs k 0 ≡ get_or b k 0 - get_or a k 0) → xs ≡ quotient u w
  quotient_written xs n h = quotient_by_places u w xs n (rw (← ea, ← eb) h)

  -- no place of a divisor is greater
  pub place_of : Divides u w → (k : ℕ) → get_or a k 0 ≤ get_or b k 0
  place_of d k = rw (← ea, ← eb) at (d.smaller (suc k))

  -- the product of the divisor and the quotient is the multiple
  pub quotient_back : (xs : List ℕ) → length xs ≡ 8 → length b ≡ 8 → Divides u w →
      ((k : ℕ) → k < 8 → get_or xs k 0 ≡ get_or b k 0 - get_or a k 0) → product u xs ≡ w
  quotient_back xs n m d h =
      let e : b ≡ (product u xs).exponents = product_by_places u xs b m
      (λ k l. rw (← ea) (omega (arith, place_of d k, h k l))) in
      shown_path _ _ (product_family u xs ∙ d.family) (sym e ∙ eb)

-- a sum that does not fit 16 bits
pub overflows_at : (u : Shown) (a t : List ℕ) → a ≡ u.exponents → (k x : ℕ) → x ≡ get_or a k 0 →
    (x + get_or t k 0 < 65536 → ⊥) → Overflows u t
overflows_at u a t e k x is none = (suc k, rw (← e, ← is) (omega (arith, none)))

-- sums that are written place by place, in an element
pub product_written : (u p : Shown) (a t xs : List ℕ) (f : ℕ) → a ≡ u.exponents → f ≡ u.family →
    p ≡ record { family = f; exponents = xs } →
    length xs ≡ 8 → ((k : ℕ) → k < 8 → get_or xs k 0 ≡ get_or a k 0 + get_or t k 0) → p ≡ product u t
product_written u p a t xs f ea ef ep n h =
    ep ∙ shown_path _ _ (ef ∙ sym (product_family u t)) (product_by_places u t xs n (rw (← ea) h))

-- the exponents of a power
pub power_entry : (v m x : ℕ) → entry (power v m) x ≤ m
unfolding power
power_entry v m zero = omega arith
power_entry v m (suc k) = elim (cases_lt k 8) [
  | inl l ↦ (let e = entry_term (λ x. cond (eqb x v) m 0) (suc k) (record { low = omega arith; high = l }) in
      rw e (cond_both (eqb (suc k) v) m 0 (λ y. y ≤ m) (λ _. omega arith) (λ _. omega arith)))
  | inr l ↦ (let e = entry_past (term (λ x. cond (eqb x v) m 0)) (suc k)
      (omega (arith, length-map-range_with_len (λ x. cond (eqb x v) m 0) 1 8)) in
      omega (arith, e))
]

-- exponents up to 4,095 have their product with a power up to 4,096
pub small_power : (u : Shown) (v m : ℕ) → ((x : ℕ) → exponent u x ≤ 4095) → m ≤ 4096 → Overflows u (power v m) → ⊥
small_power u v m h l o = omega (arith, o.1, h o.0, power_entry v m o.0)
