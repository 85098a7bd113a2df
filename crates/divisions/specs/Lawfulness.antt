-- Janet, Janet-like and Thomas division keep the laws. The proofs stand here, and not in proofs/,
-- since the impls name them. Assumes nothing.
use Rattle.std.specs.Prelude.{◌≡◌, ℕ, suc, ◌+◌, ◌-◌, ◌<◌, ◌≤◌, Bool, true, false, if◌then◌else◌, ◌&&◌, List, map, length, take, Some, None, Option, ◌==◌, nat_lt, slice_index, refl}
use Rattle.std.proofs.Common.{sym, ap, subst, ◌∙◌, inl, inr, arith}
use Rattle.std.proofs.lemmas.Bool.{cases_lt}
use Rattle.std.proofs.lemmas.Option.{none-some}
use Rattle.std.proofs.lemmas.List.{get_or-take as slice_index-take, take-take}
use Rattle.elements.specs.Element.{Shown, exponent}
use Rattle.orderings.specs.Order.{at, IsOrdering, PartAt}
use Rattle.orderings.specs.Rows.{row}
use Rattle.orderings.proofs.Positions.{listed, few}
use Rattle.barcode.specs.Bars.{position, agrees}
use Rattle.barcode.specs.Exceeded.{Exceeds, is_exceeded}
use Rattle.barcode.specs.Gap.{least, gap, IsGap}
use Rattle.barcode.proofs.Listed.{position_at}
use Rattle.barcode.proofs.Exceeding.{exceeded_decides}
use Rattle.barcode.proofs.Gaps.{gap_is}
use Rattle.divisions.specs.Laws.{Ranged, Separates, FromTheTop, Lawful}
use Rattle.divisions.specs.Janet.{one, janet, janet_like}
use Rattle.divisions.specs.Thomas.{thomas}

-- a position at which rows part is one of the ordering's
parted : (n : ℕ) (order : List ℕ) → IsOrdering n order →
    (k : ℕ) (u w : Shown) → PartAt order k u w → k < n
parted n order o k u w x = listed n order o k (elim (cases_lt (at order k) 1) [
  | inl l ↦ (let z : at order k ≡ 0 = omega arith in
      let s = rw z at x.smaller in
      absurd (omega (arith, s)))
  | inr l ↦ l
])

-- where rows part, the gap is there, and at most the difference
gap_separates : Separates gap
gap_separates n rows order s p q k hp hq x =
    let l = parted n order s.ordered k (row rows p) (row rows q) x in
    let e = position_at n order s.ordered k l (few n order s.ordered) in
    let y : PartAt order (position order (at order k)) (row rows p) (row rows q) = rw e x in
    reached (gap rows order p (at order k)) e y (gap_is rows order p (at order k) hp)
  where
    reached : (o : Option ℕ) → position order (at order k) ≡ k →
        PartAt order (position order (at order k)) (row rows p) (row rows q) →
        IsGap rows order (row rows p) (at order k) o →
        (d : ℕ) × (o ≡ Some d) ×
        (exponent (row rows p) (at order k) + d ≤ exponent (row rows q) (at order k))
    reached None e y g = absurd (g q hq y)
    reached (Some d) e y g = (d, refl, let h = g.1 q hq y in rw e at h)

-- it is a difference of exponents of rows
gap_ranged : Ranged gap
gap_ranged n rows order s p v d hp low high e =
    let is = subst (λ o. IsGap rows order (row rows p) v o) e (gap_is rows order p v hp) in
    let (q, hq, x, e) = is.0 in
    let small = (s.fit.fit q hq).small (at order (position order v)) in
    (omega (arith, x.smaller, e), omega (arith, small, e))

-- whether w counts for the gap of x at u, by the variables above x
abbrev counts : List ℕ → ℕ → Shown → Shown → Bool
counts above x u w =
    u.family == w.family && (agrees above u w && nat_lt (exponent u x) (exponent w x))

-- its rise over u, if it counts
abbrev rise : List ℕ → ℕ → Shown → Shown → Option ℕ
rise above x u w = (if counts above x u w then Some (exponent w x - exponent u x) else None)

-- the gap of x at the row of a place, by the variables above x
abbrev gap_below : List Shown → ℕ → List ℕ → ℕ → Option ℕ
gap_below rows p above x =
    (if nat_lt p (length rows) then least (map (rise above x (row rows p)) rows) else None)

-- where two orderings agree down to a variable, they give it the same gap
gap_from_the_top : FromTheTop gap
gap_from_the_top n rows order other s t k p l hp same =
    ap (λ (j : ℕ). gap_below rows p (take j order) (at order j)) here ∙
    ap (λ (xs : List ℕ). gap_below rows p xs (at order k)) above ∙
    ap (λ (x : ℕ). gap_below rows p (take k other) x) variable ∙
    sym (ap (λ (j : ℕ). gap_below rows p (take j other) (at other j)) there)
  where
    variable : at order k ≡ at other k
    variable =
        sym (slice_index-take (suc k) order k 0 (omega arith)) ∙
        ap (λ xs. slice_index xs k) same ∙
        slice_index-take (suc k) other k 0 (omega arith)

    above : take k order ≡ take k other
    above =
        sym (take-take k (suc k) order (omega arith)) ∙
        ap (take k) same ∙
        take-take k (suc k) other (omega arith)

    here : position order (at order k) ≡ k
    here = position_at n order s.ordered k l (few n order s.ordered)

    there : position other (at order k) ≡ k
    there =
        ap (position other) variable ∙
        position_at n other t.ordered k l (few n other t.ordered)

-- Janet's limits are 1
one_some : (o : Option ℕ) (d : ℕ) → one o ≡ Some d → d ≡ 1
one_some None d e = absurd (none-some d e)
one_some (Some x) d e = cc

-- a row that exceeds another gives it limit 1
exceeded_limit : (rows : List Shown) (order : List ℕ) (p q v : ℕ) →
    p < length rows → q < length rows → Exceeds v (row rows q) (row rows p) →
    thomas rows order p v ≡ Some 1
exceeded_limit rows order p q v hp hq x =
    let is : is_exceeded rows p v ≡ true = (exceeded_decides rows p v hp).1 (q, hq, x) in
    rw is refl

-- Thomas' limits are 1
if_some : (b : Bool) (d : ℕ) → ◌≡◌ {A = Option ℕ} (if b then Some 1 else None) (Some d) → d ≡ 1
if_some true d e = cc
if_some false d e = absurd (none-some d e)

pub janet_like_lawful : Lawful janet_like
janet_like_lawful = record {
  range = gap_ranged;
  separation = gap_separates;
  from_the_top = gap_from_the_top;
}

pub janet_lawful : Lawful janet
janet_lawful = record {
  range = λ n rows order s p v d hp low high e.
      let is : d ≡ 1 = one_some (gap rows order p v) d e in
      (omega arith, omega arith);
  separation = λ n rows order s p q k hp hq x.
      let (d, e, l) = gap_separates n rows order s p q k hp hq x in
      (1, ap one e, omega (arith, x.smaller));
  from_the_top = λ n rows order other s t k p l hp same.
      ap one (gap_from_the_top n rows order other s t k p l hp same);
}

pub thomas_lawful : Lawful thomas
thomas_lawful = record {
  range = λ n rows order s p v d hp low high e.
      let is : d ≡ 1 = if_some (is_exceeded rows p v) d e in
      (omega arith, omega arith);
  separation = λ n rows order s p q k hp hq x.
      let v = at order k in
      let exceeds : Exceeds v (row rows q) (row rows p) =
      record { family = sym x.family; greater = x.smaller } in
      (1, exceeded_limit rows order p q v hp hq exceeds, omega (arith, x.smaller));
  from_the_top = λ n rows order other s t k p l hp same. refl;
}
