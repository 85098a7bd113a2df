-- The positions of an ordering. Assumes nothing.
use Rattle.std.proofs.Common.{◌≡◌, ℕ, zero, suc, ◌+◌, ◌-◌, ◌<◌, ◌≤◌, min, Bool, true, false, List, length, drop, get_or, Decides, sym, refl, ap, ◌∙◌, inl, inr, arith}
use Rattle.std.specs.Bool.{MatchBool}
use Rattle.std.specs.List.{AllWithin, HoldsAt, range_with_len}
use Rattle.std.proofs.lemmas.List.{get_or_past, get_or-drop, length-drop}
use Rattle.std.proofs.lemmas.List.FromFn.{length-range_with_len, get_or-range_with_len}
use Rattle.std.proofs.lemmas.Bool.{cases_lt, cases_order, false≢true}
use Rattle.orderings.specs.Order.{at, IsNew, IsOrdering, EachVariableStandsOnce}

-- n different numbers below n are all of them
onto : (n : ℕ) (f : ℕ → ℕ) → ((k : ℕ) → k < n → f k < n) → ((j k : ℕ) → j < k → k < n → f j ≡ f k → ⊥) →
    (v : ℕ) → v < n → (k : ℕ) × (k < n) × (f k ≡ v)
onto zero f within apart v h = absurd (omega arith)
onto (suc n) f within apart v h =
    let go : (v : ℕ) → v < n → (k : ℕ) × (k < n) × (f k - min 1 (f k - f n) ≡ v) =
    onto n (λ k. f k - min 1 (f k - f n))
    (λ k hk. omega (arith, within k, within n, apart k n hk))
    (λ j k hj hk e. omega (arith, apart j k hj, apart j n, apart k n hk)) in
    elim (cases_order v (f n)) [
      | inl e ↦ (n, omega arith, sym e)
      | inr o ↦ elim o [
        | inl l ↦ (let (k, hk, e) = go v (omega (arith, within n)) in (k, omega arith, omega (arith, apart k n hk)))
        | inr l ↦ (let (k, hk, e) = go (v - 1) (omega arith) in (k, omega arith, omega (arith, apart k n hk)))
      ]
    ]

module _ (n : ℕ) (order : List ℕ) (o : IsOrdering n order) where
  -- a position that holds a variable is one of the first n
  pub listed : (k : ℕ) → 1 ≤ at order k → k < n
  listed k l = elim (cases_lt k n) [ inl h ↦ h | inr h ↦ absurd (omega (arith, o.zeros k h)) ]

  -- no more than eight variables can be ordered
  pub few : n ≤ 8
  few = elim (cases_lt 8 n) [
    | inl h ↦ absurd (omega (arith, o.low 8 h, get_or_past order 8 0 (omega (arith, o.eight))))
    | inr h ↦ h
  ]

  pub one_position : (j k : ℕ) → 1 ≤ at order j → at order j ≡ at order k → j ≡ k
  one_position j k l e = elim (cases_order j k) [
    | inl s ↦ s
    | inr d ↦ absurd (elim d [
      | inl h ↦ o.distinct j k h (listed k (omega (arith, e))) e
      | inr h ↦ o.distinct k j h (listed j l) (sym e)
    ])
  ]

  pub position : (v : ℕ) → 1 ≤ v → v ≤ n → (k : ℕ) × (k < n) × (at order k ≡ v)
  position v low high =
      let (k, hk, e) = onto n (λ k. at order k - 1) (λ k hk. omega (arith, o.low k hk, o.high k hk))
      (λ j k hj hk e. omega (arith, o.distinct j k hj hk, o.low j, o.low k hk)) (v - 1) (omega arith) in
      (k, hk, omega (arith, o.low k hk, e))

pub each_variable_stands_once : EachVariableStandsOnce
each_variable_stands_once n order o v low high =
    let (k, hk, e) = position n order o v low high in
    (k, hk, e, λ j f. one_position n order o j k (omega (arith, f)) (f ∙ sym e))

counted : (n k : ℕ) → k < n → get_or (range_with_len 0 n) k 0 ≡ k
counted n k l = omega (arith, get_or-range_with_len 0 n k 0 l)

-- an entry of the first n that is not new
pub ordering_not : (n : ℕ) (list : List ℕ) →
    ((k : ℕ) × (k < length (range_with_len 0 n)) × HoldsAt (λ i. IsNew n list i → ⊥) (range_with_len 0 n) k) →
    IsOrdering n list → ⊥
ordering_not n list (k, l, h) o =
    let small : k < n = omega (arith, length-range_with_len 0 n) in
    rw (counted n k small) at (h 0) (o.low k small, o.high k small, λ (j, m, e). o.distinct j k m small e)

-- the first n entries are new; the rest is 0 exactly where the list is an ordering
pub ordering_by_parts : (n : ℕ) (list : List ℕ) (r : Bool) → n ≤ 8 → length list ≡ 8 →
    AllWithin (IsNew n list) (range_with_len 0 n) 0 (length (range_with_len 0 n)) →
    MatchBool r (AllWithin (λ x. x ≡ 0) (drop n list) 0 (length (drop n list)))
    ((k : ℕ) × (k < length (drop n list)) × HoldsAt (λ x. x ≡ 0 → ⊥) (drop n list) k) →
    Decides r (IsOrdering n list)
ordering_by_parts n list r most eight each rest = told r rest
  where
    first : (k : ℕ) → k < n → IsNew n list k
    first k l = rw (counted n k l) at (each k 0 (omega arith) (omega (arith, length-range_with_len 0 n)))

    told : (r : Bool) → MatchBool r (AllWithin (λ x. x ≡ 0) (drop n list) 0 (length (drop n list)))
        ((k : ℕ) × (k < length (drop n list)) × HoldsAt (λ x. x ≡ 0 → ⊥) (drop n list) k) →
        Decides r (IsOrdering n list)
    told true zero_rest = (
      λ _. record {
        eight = eight;
        low = λ k l. (first k l).0;
        high = λ k l. (first k l).1;
        distinct = λ j k h l e. (first k l).2 (j, h, e);
        zeros = λ k l. elim (cases_lt k 8) [
          | inl h ↦ (let e : n + (k - n) ≡ k = omega arith in
              ap (at list) (sym e) ∙ sym (get_or-drop n list (k - n) 0) ∙
              zero_rest (k - n) 0 (omega arith) (omega (arith, length-drop n list, eight)))
          | inr h ↦ get_or_past list k 0 (omega arith)
        ];
      },
      λ _. refl,
    )
    told false (k, l, h) =
        (λ e. absurd (false≢true e), λ o. absurd (h 0 (get_or-drop n list k 0 ∙ o.zeros (n + k) (omega arith))))
