-- The gap as a function is the gap in words. Assumes nothing.
use Rattle.std.proofs.Common.{◌≡◌, ℕ, ◌+◌, ◌-◌, ◌<◌, Bool, true, false, not, ltb, List, map, length, Some, None, Option, Decides, sym, refl, ap, ◌∙◌, subst, arith}
use Rattle.std.proofs.lemmas.List.{length-map}
use Rattle.std.specs.Option.{is_some}
use Rattle.std.proofs.lemmas.Bool.{lt-ltb, cond-true, false≢true}
use Rattle.std.proofs.lemmas.Option.{cond_some, none-some}
use Rattle.std.proofs.lemmas.Bool.Decides.{Decides-like}
use Rattle.elements.specs.Element.{Shown, blank}
use Rattle.orderings.specs.Rows.{row}
use Rattle.barcode.specs.Bars.{Rises, Star}
use Rattle.barcode.specs.Gap.{height, IsGap, rises, rise, least, gap}
use Rattle.barcode.proofs.Least.{least_under, least_found}
use Rattle.barcode.proofs.Tested.{rises_decides, rise_some}

-- a rise that is there comes from a row that counts
pub rise_from : (order : List ℕ) (v : ℕ) (u w : Shown) (d : ℕ) → rise order v u w ≡ Some d →
    Rises order v u w × (height order v u + d ≡ height order v w)
rise_from order v u w d e =
    let p = cond_some (rises order v u w) (height order v w - height order v u) d e in
    let r = (rises_decides order v u w).0 p.0 in
    (r, omega (arith, p.1, r.smaller))

module _ (rows : List Shown) (order : List ℕ) (u : Shown) (v : ℕ) where
  is_gap : (o : Option ℕ) → least (map (rise order v u) rows) ≡ o → IsGap rows order u v o
  is_gap None e = λ q l r.
      let m = least_under (rise order v u) blank rows q _ l (rise_some order v u (row rows q) r) in
      none-some m.0 (sym e ∙ m.1)
  is_gap (Some d) e =
      let found = least_found (rise order v u) blank rows d e in
      let r = rise_from order v u (row rows found.0) d found.2 in (
        (found.0, found.1, r.0, r.1),
        λ q l s.
            let m = least_under (rise order v u) blank rows q _ l (rise_some order v u (row rows q) s) in
            let h = m.1 in
            let same : d ≡ m.0 = cc in
            omega (arith, m.2, s.smaller),
      )

pub gap_is : (rows : List Shown) (order : List ℕ) (p v : ℕ) → p < length rows →
    IsGap rows order (row rows p) v (gap rows order p v)
gap_is rows order p v l =
    is_gap rows order (row rows p) v (gap rows order p v)
    (sym (cond-true (ltb p (length rows)) (least (map (rise order v (row rows p)) rows)) None
    (lt-ltb p (length rows) l)))

-- there is no gap exactly at a star
none_at_star : (rows : List Shown) (order : List ℕ) (u : Shown) (v : ℕ) (o : Option ℕ) → IsGap rows order u v o →
    Star rows order u v → o ≡ None
none_at_star rows order u v None g star = refl
none_at_star rows order u v (Some m) ((q, h, rises, e), least) star = absurd (star q h rises)

pub star_has_no_gap : (rows : List Shown) (order : List ℕ) (p v : ℕ) (r : Bool) → p < length rows →
    Decides r (Star rows order (row rows p) v) → Decides r (gap rows order p v ≡ None)
star_has_no_gap rows order p v r l d =
    Decides-like r (none_at_star rows order (row rows p) v (gap rows order p v) (gap_is rows order p v l))
    (λ e. subst (IsGap rows order (row rows p) v) e (gap_is rows order p v l)) d

pub star_by_gap : (rows : List Shown) (order : List ℕ) (p v : ℕ) (r : Bool) → p < length rows →
    Decides r (gap rows order p v ≡ None) → Decides r (Star rows order (row rows p) v)
star_by_gap rows order p v r l d =
    Decides-like r (λ e. subst (IsGap rows order (row rows p) v) e (gap_is rows order p v l))
    (none_at_star rows order (row rows p) v (gap rows order p v) (gap_is rows order p v l)) d

-- whether there is a gap
pub none_told : (o : Option ℕ) (r : Bool) → is_some o ≡ not r → Decides r (o ≡ None)
none_told None true e = (λ t. refl, λ n. refl)
none_told None false e = absurd (false≢true e)
none_told (Some m) true e = absurd (false≢true (sym e))
none_told (Some m) false e = (λ t. absurd (false≢true t), λ n. absurd (false≢true (sym (ap is_some n))))

-- the gap of the rows as code holds them
module _ {X : Type 0} (shown : X → Shown) (order : List ℕ) (v : ℕ) where
  -- the least rise of all rows
  pub gap_all : (xs : List X) (p : ℕ) (u : Shown) (best : Option ℕ) → p < length xs → row (map shown xs) p ≡ u →
      best ≡ least (map (rise order v u) (map shown xs)) →
      best ≡ gap (map shown xs) order p v
  gap_all xs p u best l e inv =
      inv ∙ ap (λ (w : Shown). least (map (rise order v w) (map shown xs))) (sym e) ∙
      sym (cond-true (ltb p (length (map shown xs))) _ None
      (lt-ltb p (length (map shown xs)) (omega (arith, length-map xs shown))))

  -- what the code returned is the gap in words
  pub returned : (xs : List X) (p : ℕ) (r : Option ℕ) → r ≡ gap (map shown xs) order p v → p < length xs →
      IsGap (map shown xs) order (row (map shown xs) p) v r
  returned xs p r e l =
      let P : Option ℕ → Type 0 = λ o. IsGap (map shown xs) order (row (map shown xs) p) v o in
      subst P (sym e) (gap_is (map shown xs) order p v (omega (arith, length-map xs shown)))
