-- Which numbers a prefix has, and the numbers that it lacks. Assumes nothing.
use Rattle.std.proofs.Common.{◌≡◌, ℕ, zero, suc, ◌+◌, ◌-◌, ◌<◌, ◌≤◌, true, false, cond, not, eqb, List, [], ◌∷◌, ◌++◌, length, map, get_or, MatchOption, Option, sym, refl, ◌∙◌, subst, inl, inr, le_of_suc-le-suc, not-suc-le-zero, add-one, arith}
use Rattle.std.specs.List.{range_with_len, find}
use Rattle.std.proofs.lemmas.Bool.{cases_Bool, eq-eqb, ne_eqb, or_left, or_right, or_from, or_parts, cond-true, cond-false, not_from_true, not_from_false}
use Rattle.search.specs.Prefixes.{has, unused_above}

pub has_at : (q : List ℕ) (i x : ℕ) → i < length q → get_or q i 0 ≡ x → has x q ≡ true
has_at [] i x h e = absurd (not-suc-le-zero h)
has_at (y ∷ ys) zero x h e = or_left (eqb y x) (has x ys) (eq-eqb y x e)
has_at (y ∷ ys) (suc i) x h e = or_right (eqb y x) (has x ys) (has_at ys i x (le_of_suc-le-suc h) e)

pub has_snoc : (q : List ℕ) (y x : ℕ) → has x q ≡ false → (y ≡ x → ⊥) → has x (q ++ (y ∷ [])) ≡ false
has_snoc [] y x h k = or_from (eqb y x) false (ne_eqb y x k) refl
has_snoc (z ∷ zs) y x h k =
    let p = or_parts (eqb z x) (has x zs) h in or_from (eqb z x) (has x (zs ++ (y ∷ []))) p.0 (has_snoc zs y x p.1 k)

pub above_none : (n : ℕ) (q : List ℕ) (m : ℕ) → n ≤ m → unused_above n q m ≡ []
above_none n q m h = let e : n - m ≡ 0 = omega arith in rw e

pub above_more : (n : ℕ) (q : List ℕ) (m : ℕ) → m < n
    → unused_above n q m ≡ cond (not (has (m + 1) q)) ((m + 1) ∷ unused_above n q (m + 1)) (unused_above n q (m + 1))
above_more n q m h = let e : n - m ≡ suc (n - suc m) = omega arith in rw (e, add-one)

pub above_yes : (n : ℕ) (q : List ℕ) (m : ℕ) → m < n → has (m + 1) q ≡ false →
    unused_above n q m ≡ (m + 1) ∷ unused_above n q (m + 1)
above_yes n q m h e = above_more n q m h ∙ cond-true (not (has (m + 1) q)) _ _ (not_from_false _ e)

pub above_no : (n : ℕ) (q : List ℕ) (m : ℕ) → m < n → has (m + 1) q ≡ true →
    unused_above n q m ≡ unused_above n q (m + 1)
above_no n q m h e = above_more n q m h ∙ cond-false (not (has (m + 1) q)) _ _ (not_from_true _ e)

-- the first number above m that is found not to be in q is the next that q lacks
pub next_found : (n : ℕ) (q : List ℕ) (k m : ℕ) (r : Option ℕ) → n - m ≡ k →
    r ≡ find (λ x. not (has x q)) (map (λ b. b + 1) (range_with_len m k)) →
    MatchOption r (unused_above n q m ≡ []) (λ x. unused_above n q m ≡ x ∷ unused_above n q x)
next_found n q zero m r e f = subst (λ o. MatchOption o (unused_above n q m ≡ [])
    (λ x. unused_above n q m ≡ x ∷ unused_above n q x)) (sym f) (above_none n q m (omega (arith, e)))
next_found n q (suc k) m r e f = elim (cases_Bool (has (m + 1) q)) [
  | inl t ↦ subst (λ us. MatchOption r (us ≡ []) (λ x. us ≡ x ∷ unused_above n q x))
      (sym (above_no n q m (omega (arith, e)) t))
      (next_found n q k (m + 1) r (omega (arith, e)) (f ∙ cond-false (not (has (m + 1) q)) _ _ (not_from_true _ t)))
  | inr t ↦ subst (λ o. MatchOption o (unused_above n q m ≡ []) (λ x. unused_above n q m ≡ x ∷ unused_above n q x))
      (sym (f ∙ cond-true (not (has (m + 1) q)) _ _ (not_from_false _ t)))
      (above_yes n q m (omega (arith, e)) t)
]
