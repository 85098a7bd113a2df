-- Shapes by what stands at each place. Assumes nothing.
use Rattle.std.proofs.Common.{◌≡◌, ℕ, suc, ◌+◌, ◌-◌, ◌<◌, ◌≤◌, false, cond, eqb, List, length, get_or, set, sym, refl, ap, ◌∙◌, inl, inr, arith}
use Rattle.std.proofs.lemmas.List.{ext_get_or, get_or-set_same, get_or-set_other}
use Rattle.std.proofs.lemmas.Bool.{cases_eq, cond-true, cond-false, eq-eqb, ne_eqb}
use Rattle.elements.specs.Element.{Shown, power, times}
use Rattle.elements.proofs.Terms.{entry_term, shown_path, product_written}

-- the exponents of an element
pub shape_of : (u : Shown) (a xs : List ℕ) (f : ℕ) → f ≡ u.family → a ≡ u.exponents → length xs ≡ length a →
    ((k : ℕ) → k < length a → get_or xs k 0 ≡ get_or a k 0) → record { family = f; exponents = xs } ≡ u
shape_of u a xs f ef ea n h = shown_path _ u ef (ext_get_or 0 xs a n (λ k l. h k (omega arith)) ∙ ea)

power_place : (v m k : ℕ) → k < 8 → get_or (power v m) k 0 ≡ cond (eqb (k + 1) v) m 0
unfolding power
power_place v m k l =
    let next : k + 1 ≡ suc k = omega arith in
    rw next (entry_term (λ x. cond (eqb x v) m 0) (suc k) (record { low = omega arith; high = l }))

-- those of its product with a power
pub shape_of_product : (u : Shown) (v m : ℕ) (a xs : List ℕ) (f : ℕ) → f ≡ u.family → a ≡ u.exponents → length xs ≡ 8 →
    ((k : ℕ) → k < 8 → get_or xs k 0 ≡ get_or a k 0 + cond (eqb (k + 1) v) m 0) →
    record { family = f; exponents = xs } ≡ times u v m
shape_of_product u v m a xs f ef ea n h =
    product_written u _ a (power v m) xs f ea ef refl n
    (λ k l. h k l ∙ ap (λ y. get_or a k 0 + y) (sym (power_place v m k l)))

-- exponents to which the power is added at its place
pub raised_at : (a xs : List ℕ) (v m x : ℕ) → length xs ≡ 8 →
    ((k : ℕ) → k < 8 → get_or xs k 0 ≡ get_or a k 0) → 1 ≤ v → v ≤ 8 → x ≡ get_or a (v - 1) 0 + m →
    (k : ℕ) → k < 8 → get_or (set xs (v - 1) x) k 0 ≡ get_or a k 0 + cond (eqb (k + 1) v) m 0
raised_at a xs v m x n same low high is k l = elim (cases_eq k (v - 1)) [
  | inl e ↦ (let there : k + 1 ≡ v = omega (arith, e, low) in
      rw (cond-true (eqb (k + 1) v) m 0 (eq-eqb (k + 1) v there), e, get_or-set_same xs (v - 1) x 0 (omega arith)) is)
  | inr d ↦ (let other : eqb (k + 1) v ≡ false = ne_eqb (k + 1) v (λ e. d (omega arith)) in
      rw (cond-false (eqb (k + 1) v) m 0 other, get_or-set_other xs (v - 1) k x 0 d) (omega (arith, same k l)))
]

-- no variable has such a number
pub raised_nowhere : (a xs : List ℕ) (v m : ℕ) →
    ((k : ℕ) → k < 8 → get_or xs k 0 ≡ get_or a k 0) → ((1 ≤ v) × (v ≤ 8) → ⊥) →
    (k : ℕ) → k < 8 → get_or xs k 0 ≡ get_or a k 0 + cond (eqb (k + 1) v) m 0
raised_nowhere a xs v m same none k l =
    let other : eqb (k + 1) v ≡ false = ne_eqb (k + 1) v (λ e. none (omega (arith, e), omega (arith, e))) in
    rw (cond-false (eqb (k + 1) v) m 0 other) (omega (arith, same k l))
