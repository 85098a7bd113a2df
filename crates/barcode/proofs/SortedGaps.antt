-- What rows in increasing order tell of gaps. Assumes nothing.
use Rattle.std.proofs.Common.{◌≡◌, ℕ, suc, ◌+◌, ◌-◌, ◌<◌, ◌≤◌, List, length, set, get_or, None, Option, refl, ◌∙◌, inl, inr, arith}
use Rattle.std.proofs.lemmas.List.{get_or-set_same, get_or-set_other}
use Rattle.std.proofs.lemmas.Bool.{cases_lt, cases_eq}
use Rattle.elements.specs.Element.{Shown, exponent}
use Rattle.orderings.specs.Order.{at, Agree}
use Rattle.barcode.specs.Gap.{IsGapAt}
use Rattle.barcode.specs.Rise.{IsRise}
use Rattle.barcode.specs.Sorting.{IsCommon, IsSorting, ranked}
use Rattle.barcode.specs.declared.sorting.Sorting.{Sorting}
use Rattle.barcode.proofs.Next.{IsNext, gap_of_greatest, gap_alike, gap_of_last_in_family, gap_there, gap_below}

-- what one pair of neighbours more has in common is written
pub common_more : (rows : List Shown) (order places commons : List ℕ) (i c : ℕ) → i < length commons →
    ((j : ℕ) → j < i → IsCommon order (ranked rows places j) (ranked rows places (j + 1)) (get_or commons j 0)) →
    IsCommon order (ranked rows places i) (ranked rows places (i + 1)) c →
    (j : ℕ) → j < i + 1 →
    IsCommon order (ranked rows places j) (ranked rows places (j + 1)) (get_or (set commons i c) j 0)
common_more rows order places commons i c room old here j h = elim (cases_eq j i) [
  | inl e ↦ rw (e, get_or-set_same commons i c 0 room) here
  | inr d ↦ rw (get_or-set_other commons i j c 0 d) (old j (omega (arith, d, h)))
]

module _ (rows : List Shown) (order : List ℕ) (sorting : Sorting) (sorted : IsSorting rows order sorting) where
  abbrev pub stands : ℕ → Shown
  stands i = ranked rows sorting.places i

  neighbours : (i : ℕ) → i + 1 < length rows → IsNext rows order (stands i) (stands (i + 1))
  neighbours i l =
      record {
        place = get_or sorting.places (i + 1) 0;
        within = sorted.places (i + 1) l;
        is = refl;
        after = sorted.increasing i (i + 1) (omega arith) l;
        none_between = λ q h a b. (let (r, e) = sorted.ranks q h in
            elim (cases_lt (get_or sorting.ranks q 0) (i + 1)) [
              | inl s ↦ sorted.increasing (get_or sorting.ranks q 0) i (omega arith) (omega arith) (rw e a)
              | inr s ↦ sorted.increasing (i + 1) (get_or sorting.ranks q 0) s r (rw e b)
            ]);
      }

  module _ (u : Shown) (k i : ℕ) (l : i < length rows) (family : u.family ≡ (stands i).family)
      (agree : Agree order (suc k) u (stands i)) where
    -- the row of the next rank agrees with it too
    pub agree_next : i + 1 < length rows → k + 1 < get_or sorting.common i 0 →
        (u.family ≡ (stands (i + 1)).family) × Agree order (suc k) u (stands (i + 1))
    agree_next h more =
        let c = sorted.common i h in
        let some : 0 < get_or sorting.common i 0 = omega arith in
        (family ∙ c.family some, λ j s. agree j s ∙ c.agree some j (omega arith))

    -- the greatest row has no gap
    pub none_at_end : length rows ≤ i + 1 → IsGapAt rows order k u None
    none_at_end h =
        gap_alike rows order u (stands i) family k agree None
        (gap_of_greatest rows order (stands i)
        (λ q s b. (let (r, e) = sorted.ranks q s in
        sorted.increasing (get_or sorting.ranks q 0) i (omega arith) l (rw e b))) k)

    -- the row of the next rank parts earlier
    pub none_where_earlier : i + 1 < length rows → k < length order → get_or sorting.common i 0 < k + 1 →
        IsGapAt rows order k u None
    none_where_earlier h inside less =
        let c = sorted.common i h in
        gap_alike rows order u (stands i) family k agree None (elim (cases_eq (get_or sorting.common i 0) 0) [
          | inl e ↦ gap_of_last_in_family rows order (stands i) (stands (i + 1)) (neighbours i h) (c.nothing e) k
          | inr ne ↦ (let some : 0 < get_or sorting.common i 0 = omega (arith, ne) in
              gap_below rows order (stands i) (stands (i + 1)) (neighbours i h) (c.family some)
              (get_or sorting.common i 0 - 1)
              (record { inside = omega (arith, some); above = c.agree some; here = c.differ some (omega arith) })
              k (omega (arith, some)))
        ])

    -- the row of the next rank parts there
    pub rise_there : i + 1 < length rows → k < length order → get_or sorting.common i 0 ≡ k + 1 →
        (x : ℕ) → at order k ≡ x → (r : Option ℕ) →
        IsRise (exponent (stands i) x) (exponent (stands (i + 1)) x) r → IsGapAt rows order k u r
    rise_there h inside e x read r rise =
        let c = sorted.common i h in
        let some : 0 < get_or sorting.common i 0 = omega (arith, e) in
        let there : get_or sorting.common i 0 - 1 ≡ k = omega (arith, e) in
        gap_alike rows order u (stands i) family k agree r
        (gap_there rows order (stands i) (stands (i + 1)) (neighbours i h) (c.family some) k
        (record {
          inside = inside;
          above = rw there at (c.agree some);
          here = rw there at (c.differ some (omega arith));
        }) r (rw read rise))
