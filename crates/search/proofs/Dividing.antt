-- The rows that divide another but for one variable, as they are found and kept. Assumes nothing.
use Rattle.std.proofs.Common.{◌≡◌, ℕ, ◌+◌, ◌-◌, ◌*◌, ◌<◌, ◌≤◌, ◌≢◌, Bool, true, false, eqb, ◌⊎◌, List, length, get_or, set, replicate, Some, None, Option, MatchOption, Decides, sym, refl, ap, ◌∙◌, inl, inr, arith}
use Rattle.std.specs.Bool.{MatchBool}
use Rattle.std.specs.List.{range_with_len, AllWithin, HoldsAt}
use Rattle.std.proofs.lemmas.List.FromFn.{length-range_with_len, get_or-range_with_len}
use Rattle.std.proofs.lemmas.List.{get_or-set_same, get_or-set_other, get_or-replicate, get_or_past}
use Rattle.std.proofs.lemmas.Bool.{cases_eq, cases_lt, eq-eqb, ne_eqb, cond-false, false≢true}
use Rattle.std.proofs.lemmas.Bool.Decides.{Decides-like}
use Rattle.elements.specs.Element.{Shown, exponent, Variable, Divides, power, times}
use Rattle.elements.proofs.Terms.{product_family}
use Rattle.orderings.specs.Rows.{row}
use Rattle.places.specs.Places.{contains, IsEmpty, Adds}
use Rattle.places.specs.declared.Places.{Places}
use Rattle.places.proofs.Bits.{zero_below}
use Rattle.cones.specs.Cones.{Limits, InCone}
use Rattle.search.specs.Divisors.{DividesBut, HasDivisorsBut, set_at, Known}
use Rattle.search.specs.Liveness.{raised}
use Rattle.search.proofs.Testing.{times_at}

-- what is asked of variable i + 1
abbrev pub Passes : ℕ → Shown → Shown → ℕ → Type 0
Passes v u w i = (i + 1 ≡ v) ⊎ (exponent u (i + 1) ≤ exponent w (i + 1))

pub divides_told : (v : ℕ) (u w : Shown) (r : Bool) → u.family ≡ w.family →
    MatchBool r (AllWithin (Passes v u w) (range_with_len 0 8) 0 (length (range_with_len 0 8)))
    ((k : ℕ) × (k < length (range_with_len 0 8)) × HoldsAt (λ i. Passes v u w i → ⊥) (range_with_len 0 8) k) →
    Decides r (DividesBut v u w)
divides_told v u w true f all = (λ _. record { family = f; smaller = λ y is other. smaller y is other }, λ _. refl)
  where
    smaller : (y : ℕ) → Variable y → y ≢ v → exponent u y ≤ exponent w y
    smaller y is other =
        let k : ℕ = y - 1 in
        let small : k < 8 = omega (arith, is.low, is.high) in
        let here : get_or (range_with_len 0 8) k 0 ≡ k = get_or-range_with_len 0 8 k 0 small ∙ omega arith in
        let back : k + 1 ≡ y = omega (arith, is.low) in
        elim (rw (here, back) at (all k 0 (omega arith) (omega (arith, small, length-range_with_len 0 8))))
        [ inl e ↦ absurd (other e) | inr l ↦ l ]
divides_told v u w false f (k, l, fails) =
    let small : k < 8 = omega (arith, l, length-range_with_len 0 8) in
    let here : get_or (range_with_len 0 8) k 0 ≡ k = get_or-range_with_len 0 8 k 0 small ∙ omega arith in
    let never : Passes v u w k → ⊥ = rw here at (fails 0) in (
      λ t. absurd (false≢true t),
      λ d. absurd (never (elim (cases_eq (k + 1) v) [
        | inl e ↦ inl e
        | inr o ↦ inr (d.smaller (k + 1) (record { low = omega arith; high = omega (arith, small) })
            o)
      ])),
    )

-- the set has the places of the first p rows that divide u but for variable v
abbrev pub Gathered : ℕ → List Shown → Shown → ℕ → Places → Type 0
Gathered v rows u p places = (s : ℕ) → Decides (contains places s) ((s < p) × DividesBut v (row rows s) u)

module _ (v : ℕ) (rows : List Shown) (u : Shown) where
  pub gathered_start : (places : Places) → IsEmpty places → Gathered v rows u 0 places
  gathered_start places none s = (λ t. absurd (false≢true (sym (none s) ∙ t)), λ h. absurd (omega (arith, h.0)))

  module _ (p : ℕ) (places : Places) (g : Gathered v rows u p places) where
    pub gathered_with : (more : Places) → Adds places more p → DividesBut v (row rows p) u →
        Gathered v rows u (p + 1) more
    gathered_with more is d s = elim (cases_eq s p) [
      | inl e ↦ (λ _. (omega (arith, e), rw e d), λ _. is s ∙ rw (eq-eqb s p e) refl)
      | inr o ↦ (let same : contains more s ≡ contains places s = is s ∙ rw (ne_eqb s p o) refl in
          rw same (Decides-like (contains places s) (λ h. (omega (arith, h.0), h.1))
          (λ h. (omega (arith, h.0, o), h.1)) (g s)))
    ]

    pub gathered_past : (DividesBut v (row rows p) u → ⊥) → Gathered v rows u (p + 1) places
    gathered_past fails s = Decides-like (contains places s) (λ h. (omega (arith, h.0), h.1))
        (λ h. (elim (cases_eq s p) [ inl e ↦ absurd (fails (rw e at h.1)) | inr o ↦ omega (arith, h.0, o) ], h.1)) (g s)

    pub gathered_end : length rows ≤ p → HasDivisorsBut v rows u places
    gathered_end all s l = Decides-like (contains places s) (λ h. h.1) (λ d. (omega (arith, all, l), d)) (g s)

-- nothing is known at the start
pub known_start : (rows : List Shown) → (none : Places) → IsEmpty none → Known rows (replicate 512 none)
known_start rows none empty q v hq low high some = absurd (some (λ p. elim (cases_lt (q * 8 + v - 1) 512) [
  | inl l ↦ ap (λ (x : Places). contains x p) (get_or-replicate 512 (q * 8 + v - 1) none (record { bits = 0 }) l)
      ∙ empty p
  | inr l ↦ ap (λ (x : Places). contains x p) (get_or_past (replicate 512 none) (q * 8 + v - 1) (record { bits = 0 })
      l) ∙ zero_below p
]))

-- what is found for a row and a variable is kept
pub known_more : (rows : List Shown) (table : List Places) → Known rows table → (p x : ℕ) (found : Places) →
    p * 8 + x - 1 < length table → 1 ≤ x → x ≤ 8 →
    HasDivisorsBut x rows (row rows p) found → Known rows (set table (p * 8 + x - 1) found)
known_more rows table known p x found inside least most here q v hq low high some =
    elim (cases_eq (q * 8 + v - 1) (p * 8 + x - 1)) [
      | inl e ↦ (let a : q ≡ p = omega (arith, e, low, high, least, most) in
          let b : v ≡ x = omega (arith, e, a, low, least) in
          rw (a, b, get_or-set_same table (p * 8 + x - 1) found (record { bits = 0 }) inside) here)
      | inr o ↦ (let none : Places = record { bits = 0 } in
          let same : set_at (set table (p * 8 + x - 1) found) q v ≡ set_at table q v =
          get_or-set_other table (p * 8 + x - 1) (q * 8 + v - 1) found none o in
          rw same (known q v hq low high (λ z. some (λ y. ap (λ (x : Places). contains x y) same ∙ z y))))
    ]

-- who divides a product with a power of v divides the factor but for v
pub divides_factor : (v d : ℕ) (u s : Shown) → Divides s (times u v d) → DividesBut v s u
divides_factor v d u s h = record {
  family = h.family ∙ product_family u (power v d);
  smaller = λ y is other.
      let same : raised u v d y ≡ exponent u y + 0 =
      ap (λ (b : ℕ). exponent u y + b) (cond-false (eqb y v) d 0 (ne_eqb y v other)) in
      omega (arith, h.smaller y, times_at u v d y is, same);
}

-- a cone that is sought among the places of the rows that can divide the product is sought among all
module _ (n : ℕ) (rows : List Shown) (lim : Limits) (p v d : ℕ) (u : Shown) (here : row rows p ≡ u) (places : Places)
    (told : HasDivisorsBut v rows (row rows p) places) where
  pub among_all : (o : Option ℕ) → MatchOption o ((s : ℕ) → contains places s ≡ true →
      InCone n rows lim s (times u v d) → ⊥) (λ s. InCone n rows lim s (times u v d)) →
      MatchOption o ((s : ℕ) → InCone n rows lim s (times u v d) → ⊥) (λ s. InCone n rows lim s (times u v d))
  among_all None none =
      λ s cone. none s ((told s cone.place).1 (rw here (divides_factor v d u (row rows s) cone.divides))) cone
  among_all (Some s) cone = cone
