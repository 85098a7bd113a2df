-- Quotients and products, by the exponents of variables. Assumes nothing.
use Rattle.std.proofs.Common.{◌≡◌, ℕ, ◌+◌, ◌-◌, ◌<◌, ◌≤◌, cond, eqb, ◌⊎◌, List, length, sym, ◌∙◌, inl, inr, arith}
use Rattle.std.proofs.lemmas.List.FromFn.{length-map-range_with_len}
use Rattle.std.proofs.lemmas.Bool.{cases_eq, cases_lt, eq-eqb, ne_eqb, cond-true, cond-false}
use Rattle.elements.specs.Element.{Shown, entry, exponent, Divides, term, power, product, times, quotient, Variable}
use Rattle.elements.proofs.Terms.{entry_none, entry_past, entry_term, product_family}
use Rattle.orderings.proofs.Lines.{first}

pub quotient_at : (u w : Shown) (v : ℕ) → Variable v → entry (quotient u w) v ≡ exponent w v - exponent u v
unfolding quotient
quotient_at u w v r = entry_term (λ x. exponent w x - exponent u x) v r

product_at : (u : Shown) (t : List ℕ) (v : ℕ) → Variable v → exponent (product u t) v ≡ exponent u v + entry t v
unfolding product
product_at u t v r = entry_term (λ x. exponent u x + entry t x) v r

product_past : (u : Shown) (t : List ℕ) (v : ℕ) → 8 < v → exponent (product u t) v ≡ 0
unfolding product
product_past u t v l =
    let sum : ℕ → ℕ = λ x. exponent u x + entry t x in
    entry_past (term sum) v (omega (arith, length-map-range_with_len sum 1 8))

power_at : (v m : ℕ) → Variable v → entry (power v m) v ≡ m
unfolding power
power_at v m r = entry_term (λ x. cond (eqb x v) m 0) v r ∙ cond-true (eqb v v) m 0 (eq-eqb v v (omega arith))

power_other : (v m x : ℕ) → Variable x → (x ≡ v → ⊥) → entry (power v m) x ≡ 0
unfolding power
power_other v m x r d = entry_term (λ x. cond (eqb x v) m 0) x r ∙ cond-false (eqb x v) m 0 (ne_eqb x v d)

-- what holds for variable v, for each other variable, and for exponent 0, holds for every variable of a product with a
-- power of v
times_each : (P : ℕ → ℕ → Type 0) (u : Shown) (v m : ℕ) → Variable v →
    P v (exponent u v + m) → ((x : ℕ) → Variable x → P x (exponent u x)) →
    ((x : ℕ) → (Variable x → ⊥) → P x 0) → (x : ℕ) → P x (exponent (times u v m) x)
times_each P u v m r here other none x = elim (cases_lt x 1) [
  | inl l ↦ rw (entry_none (times u v m).exponents x l) (none x (λ (h : Variable x). omega (arith, h.low)))
  | inr low ↦ elim (cases_lt 8 x) [
    | inl l ↦ rw (product_past u (power v m) x l) (none x (λ (h : Variable x). omega (arith, h.high)))
    | inr high ↦ (let is : Variable x = record { low = low; high = high } in elim (cases_eq x v) [
      | inl e ↦ (let added = product_at u (power v m) v r ∙ rw (power_at v m r) in
          let sum : exponent (times u v m) x ≡ exponent u v + m = rw e added in
          rw (sum, e) here)
      | inr d ↦ (let there = product_at u (power v m) x is in
          let same : exponent (times u v m) x ≡ exponent u x = omega (arith, there, power_other v m x is d) in
          rw same (other x is))
    ])
  ]
]

-- the exponents of u that are none of the eight variables'
past : (u : Shown) (x : ℕ) → length u.exponents ≡ 8 → (Variable x → ⊥) → exponent u x ≡ 0
past u x n not = elim (cases_lt x 1) [
  | inl l ↦ entry_none u.exponents x l
  | inr low ↦ elim (cases_lt 8 x) [
    | inl l ↦ entry_past u.exponents x (omega arith)
    | inr high ↦ absurd (not (record { low = low; high = high }))
  ]
]

module _ (u : Shown) (v m : ℕ) (r : Variable v) where
  pub raised : exponent (times u v m) v ≡ exponent u v + m
  raised = product_at u (power v m) v r ∙ rw (power_at v m r)

  -- u divides its product
  pub into_times : length u.exponents ≡ 8 → Divides u (times u v m)
  into_times n = record {
    family = sym (product_family u (power v m));
    smaller = times_each (λ x e. exponent u x ≤ e) u v m r (omega arith) (λ x _. omega arith)
        (λ x not. omega (arith, past u x n not));
  }

  -- a multiple of u that has m more in v is one of the product
  pub from_times : (w : Shown) → Divides u w → exponent u v + m ≤ exponent w v → Divides (times u v m) w
  from_times w d l = record {
    family = product_family u (power v m) ∙ d.family;
    smaller = times_each (λ x e. e ≤ exponent w x) u v m r l (λ x _. d.smaller x) (λ x _. omega arith);
  }

pub divides_on : (a b c : Shown) → Divides a b → Divides b c → Divides a c
divides_on a b c x y =
    record { family = x.family ∙ y.family; smaller = λ v. omega (arith, x.smaller v, y.smaller v) }

-- whether eight exponents divide
pub divides? : (u w : Shown) → length u.exponents ≡ 8 → Divides u w ⊎ (Divides u w → ⊥)
divides? u w n = elim (cases_eq u.family w.family) [
  | inl e ↦ elim (first (λ v. exponent u v ≤ exponent w v) fits 9) [
    | inl all ↦ inl (record {
      family = e;
      smaller = λ v. elim (cases_lt v 9) [
        | inl l ↦ all v l
        | inr l ↦ omega (arith, entry_past u.exponents v (omega arith))
      ];
    })
    | inr f ↦ inr (λ d. f.3 (d.smaller f.0))
  ]
  | inr not ↦ inr (λ d. not d.family)
]
  where
    fits : (v : ℕ) → (exponent u v ≤ exponent w v) ⊎ (exponent u v ≤ exponent w v → ⊥)
    fits v = elim (cases_lt (exponent w v) (exponent u v)) [ inl l ↦ inr (λ h. omega arith) | inr l ↦ inl l ]
