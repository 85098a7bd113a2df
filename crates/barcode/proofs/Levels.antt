-- The bars that are kept, level by level, and what is told by them. Assumes nothing.
use Rattle.std.proofs.Common.{◌≡◌, ℕ, suc, ◌+◌, ◌<◌, ◌≤◌, Bool, true, ◌||◌, eqb, ltb, List, [], length, map, take, set, get_or, Option, Decides, sym, ap, ◌∙◌, subst, add-one, inl, inr, arith}
use Rattle.std.proofs.lemmas.Bool.{cases_eq, or_cases, or_left, or_right, eq-eqb, eqb-true, ltb-true}
use Rattle.std.proofs.lemmas.Bool.Decides.{Decides-like}
use Rattle.std.proofs.lemmas.List.{get_or-set_same, get_or-set_other, get_or_default, get_or-take, length-map, length-take, length-take-le}
use Rattle.elements.specs.Element.{Shown, exponent}
use Rattle.orderings.specs.Order.{at}
use Rattle.orderings.specs.Rows.{row}
use Rattle.places.specs.Places.{contains}
use Rattle.places.specs.declared.Places.{Places}
use Rattle.barcode.specs.declared.level.Level.{Level}
use Rattle.barcode.specs.Bars.{position, Star}
use Rattle.barcode.specs.Gap.{IsGap}
use Rattle.barcode.specs.BarSets.{Has, IsWithin, ConsistsOf, SetOver, SetsOver, AreLevels, row_set, over_first}
use Rattle.barcode.specs.Rise.{NoneRises, IsLeastRise}
use Rattle.barcode.proofs.Walks.{gap_over, star_over, alike_more, alike_less, alike_front}

-- what is kept of the places below i where P holds, with place i looked at
module _ (P : ℕ → Type 0) (i : ℕ) (kept new : ℕ → Bool) (told : (w : ℕ) → Decides (kept w) ((w < i) × P w)) where
  pub reach_in : P i → ((w : ℕ) → new w ≡ (eqb w i || kept w)) → (w : ℕ) → Decides (new w) ((w < i + 1) × P w)
  reach_in h e w = (
    λ t. elim (or_cases (eqb w i) (kept w) (sym (e w) ∙ t)) [
      | inl a ↦ (let s = eqb-true w i a in (omega (arith, s), subst P (sym s) h))
      | inr a ↦ (let d = (told w).0 a in (omega (arith, d.0), d.1))
    ],
    λ d. elim (cases_eq w i) [
      | inl a ↦ e w ∙ or_left (eqb w i) (kept w) (eq-eqb w i a)
      | inr a ↦ e w ∙ or_right (eqb w i) (kept w) ((told w).1 (omega (arith, d.0), d.1))
    ],
  )

  pub reach_out : (P i → ⊥) → (w : ℕ) → Decides (kept w) ((w < i + 1) × P w)
  reach_out h w = (
    λ t. (let d = (told w).0 t in (omega (arith, d.0), d.1)),
    λ d. elim (cases_eq w i) [
      | inl a ↦ absurd (h (subst P a d.1))
      | inr a ↦ (told w).1 (omega (arith, d.0), d.1)
    ],
  )

-- the set of one row more
pub sets_more : (sets : List Places) (i : ℕ) (new : Places) (P : ℕ → ℕ → Type 0) → i < length sets →
    ((q : ℕ) → q < i → ConsistsOf (row_set sets q) (P q)) → ConsistsOf new (P i) →
    (q : ℕ) → q < i + 1 → ConsistsOf (row_set (set sets i new) q) (P q)
sets_more sets i new P l old here q h w = elim (cases_eq q i) [
  | inl e ↦ subst (λ (x : ℕ). Decides (contains (row_set (set sets i new) x) w) (P x w)) (sym e)
      (subst (λ (s : Places). Decides (contains s w) (P i w))
      (sym (get_or-set_same sets i new (record { bits = 0 }) l)) (here w))
  | inr ne ↦ subst (λ (s : Places). Decides (contains s w) (P q w))
      (sym (get_or-set_other sets i q new (record { bits = 0 }) ne)) (old q (omega arith) w)
]

-- the sets of one variable more
pub sets_below : (rows : List Shown) (order : List ℕ) (k x : ℕ) (above sets : List Places) → at order k ≡ x →
    SetsOver rows order k above →
    ((q : ℕ) → q < length rows →
    ConsistsOf (row_set sets q) (λ w. Has (row_set above q) w × (exponent (row rows q) x ≡ exponent (row rows w) x))) →
    SetsOver rows order (suc k) sets
sets_below rows order k x above sets read told found q l w =
    let a = told q l w in
    let f = found q l w in (
      λ t. (let h = f.0 t in let b = a.0 h.0 in (b.0, alike_more order k x read (row rows q) (row rows w) b.1 h.1)),
      λ h. (let b = alike_less order k x read (row rows q) (row rows w) h.1 in f.1 (a.1 (h.0, b.0), b.1)),
    )

-- the same sets under a list with the same front
pub sets_front : (rows : List Shown) (a b : List ℕ) (k : ℕ) (sets : List Places) →
    ((j : ℕ) → j < k → at a j ≡ at b j) → SetsOver rows a k sets → SetsOver rows b k sets
sets_front rows a b k sets same told q l w =
    Decides-like (contains (row_set sets q) w) (λ h. (h.0, alike_front a b k same (row rows q) (row rows w) h.1))
    (λ h. (h.0, alike_front b a k (λ j i. sym (same j i)) (row rows q) (row rows w) h.1)) (told q l w)

-- a level is written below the others
pub levels_more : (rows : List Shown) (listed : List ℕ) (over : List Level) (k x : ℕ) (new : Level) →
    k < length listed → k + 1 < length over →
    ((j : ℕ) → j ≤ k → SetsOver rows listed j (over_first over j)) →
    ((order : List ℕ) → at order k ≡ x → SetsOver rows order k (over_first over k) →
    SetsOver rows order (suc k) new.sets) →
    (j : ℕ) → j ≤ k + 1 → SetsOver rows (set listed k x) j (over_first (set over (k + 1) new) j)
levels_more rows listed over k x new inside room told found j l =
    let same : (i : ℕ) → i < k → at listed i ≡ at (set listed k x) i =
    λ i h. sym (get_or-set_other listed k i x 0 (omega arith)) in
    elim (cases_eq j (k + 1)) [
      | inl e ↦ subst (λ (y : ℕ). SetsOver rows (set listed k x) y (over_first (set over (k + 1) new) y)) (sym e)
          (subst (λ (s : Level). SetsOver rows (set listed k x) (k + 1) s.sets)
          (sym (get_or-set_same over (k + 1) new (record { sets = [] }) room))
          (rw add-one
          (found (set listed k x) (get_or-set_same listed k x 0 inside)
          (sets_front rows listed (set listed k x) k (over_first over k) same (told k (omega arith))))))
      | inr ne ↦ subst (λ (s : Level). SetsOver rows (set listed k x) j s.sets)
          (sym (get_or-set_other over (k + 1) j new (record { sets = [] }) ne))
          (sets_front rows listed (set listed k x) j (over_first over j) (λ i h. same i (omega arith))
          (told j (omega arith)))
    ]

-- the levels of a common front are lent
pub levels_lent : (rows : List Shown) (listed order : List ℕ) (over : List Level) (known front : ℕ) →
    front ≤ length (take known listed) → known ≤ length listed →
    ((j : ℕ) → j < front → at (take known listed) j ≡ at order j) →
    ((j : ℕ) → j ≤ known → SetsOver rows listed j (over_first over j)) →
    (k : ℕ) → k < length (take (front + 1) over) → SetsOver rows order k (over_first (take (front + 1) over) k)
levels_lent rows listed order over known front l long same told k h =
    let upper : front ≤ known = omega (arith, length-take-le known listed long) in
    let low : k < front + 1 = omega (arith, length-take (front + 1) over) in
    subst (λ (s : Level). SetsOver rows order k s.sets)
    (sym (get_or-take (front + 1) over k (record { sets = [] }) low))
    (sets_front rows listed order k (over_first over k)
    (λ j i. sym (get_or-take known listed j 0 (omega arith)) ∙ same j (omega arith)) (told k (omega arith)))

-- the set that is read for the row of a place
pub set_read : (rows : List Shown) (order : List ℕ) (bars : List Level) (place here : ℕ) (level : Level) →
    AreLevels rows order bars → place < length rows → true ≡ ltb here (length bars) →
    level ≡ get_or bars here level → SetOver rows order here place (row_set level.sets place)
set_read rows order bars place here level right l inside read =
    let low : here < length bars = ltb-true _ _ (sym inside) in
    let same : over_first bars here ≡ level.sets = ap (λ (s : Level). s.sets)
    (sym (read ∙ get_or_default bars here level (record { sets = [] }) low)) in
    subst (λ (s : List Places). SetsOver rows order here s) same (right here low) place l

-- what a set tells of the rows over a bar
module _ {X : Type 0} (shown : X → Shown) (xs : List X) (order : List ℕ) (place v here : ℕ) (over : Places)
    (is : here ≡ position order v) (told : SetOver (map shown xs) order here place over) where
  pub set_within : IsWithin over (length xs)
  set_within w t = omega (arith, ((told w).0 t).0, length-map xs shown)

  module _ (u : X) (x : ℕ) (e : row (map shown xs) place ≡ shown u) (f : x ≡ at order here) where
    told_there : SetOver (map shown xs) order (position order v) place over
    told_there = subst (λ (k : ℕ). SetOver (map shown xs) order k place over) is told

    listed_there : x ≡ at order (position order v)
    listed_there = f ∙ ap (λ (k : ℕ). at order k) is

    pub gap_kept : (r : Option ℕ) → IsLeastRise (map shown xs) (Has over) x (shown u) r →
        IsGap (map shown xs) order (row (map shown xs) place) v r
    gap_kept r h =
        gap_over (map shown xs) order v (row (map shown xs) place) (contains over) told_there r
        (subst (λ (y : ℕ). IsLeastRise (map shown xs) (Has over) y (row (map shown xs) place) r)
        listed_there
        (subst (λ (y : Shown). IsLeastRise (map shown xs) (Has over) x y r) (sym e) h))

    pub star_kept : (b : Bool) → Decides b (NoneRises (map shown xs) (Has over) x (shown u)) →
        Decides b (Star (map shown xs) order (row (map shown xs) place) v)
    star_kept b h =
        star_over (map shown xs) order v (row (map shown xs) place) (contains over) told_there b
        (subst (λ (y : ℕ). Decides b
        (NoneRises (map shown xs) (Has over) y (row (map shown xs) place))) listed_there
        (subst (λ (y : Shown). Decides b (NoneRises (map shown xs) (Has over) x y)) (sym e) h))
