-- Where a variable stands in an ordering. Assumes nothing.
use Rattle.std.proofs.Common.{◌≡◌, ℕ, zero, suc, ◌<◌, ◌≤◌, eqb, List, [], ◌∷◌, length, sym, refl, ap, ◌∙◌, inl, inr, arith}
use Rattle.std.proofs.lemmas.Bool.{cond-true, cond-false, cases_eq, eq-eqb, ne_eqb}
use Rattle.orderings.specs.Order.{at, IsOrdering}
use Rattle.orderings.proofs.Positions.{few, position as found}
use Rattle.barcode.specs.Bars.{position}

pub position_is : (xs : List ℕ) (k v : ℕ) → k < length xs → at xs k ≡ v → ((j : ℕ) → j < k → at xs j ≡ v → ⊥) →
    position xs v ≡ k
position_is [] k v l e h = absurd (omega arith)
position_is (x ∷ xs) zero v l e h = cond-true (eqb x v) 0 (suc (position xs v)) (eq-eqb x v e)
position_is (x ∷ xs) (suc k) v l e h =
    cond-false (eqb x v) 0 (suc (position xs v)) (ne_eqb x v (h 0 (omega arith))) ∙
    ap suc (position_is xs k v (omega arith) e (λ j m. h (suc j) (omega arith)))

-- where a variable has a position in the list, it stands there
pub position_holds : (xs : List ℕ) (v : ℕ) → position xs v < length xs → at xs (position xs v) ≡ v
position_holds [] v l = absurd (omega arith)
position_holds (x ∷ xs) v l = elim (cases_eq x v) [
  | inl e ↦ (let p = cond-true (eqb x v) 0 (suc (position xs v)) (eq-eqb x v e) in rw p e)
  | inr ne ↦ (let p = cond-false (eqb x v) 0 (suc (position xs v)) (ne_eqb x v ne) in
      rw p (position_holds xs v (omega (arith, l, p))))
]

-- the variable at a position of an ordering stands there first
pub position_at : (n : ℕ) (order : List ℕ) → IsOrdering n order → (k : ℕ) → k < n → n ≤ 8 →
    position order (at order k) ≡ k
position_at n order o k l few =
    position_is order k (at order k) (omega (arith, o.eight)) refl (λ j m e. o.distinct j k m l e)

-- each variable of an ordering stands at its position
pub stands_at : (n : ℕ) (order : List ℕ) → IsOrdering n order → (v : ℕ) → 1 ≤ v → v ≤ n →
    (r : ℕ) → r ≡ position order v → (r < n) × (at order r ≡ v)
stands_at n order o v low high r e =
    let (k, l, h) = found n order o v low high in
    let same : position order v ≡ k = ap (position order) (sym h) ∙ position_at n order o k l (few n order o) in
    let here : r ≡ k = e ∙ same in
    (omega arith, ap (at order) here ∙ h)
