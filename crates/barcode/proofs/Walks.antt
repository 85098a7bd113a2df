-- What walks over sets of places find. Assumes nothing.
use Rattle.std.proofs.Common.{◌≡◌, ℕ, suc, ◌<◌, ◌≤◌, Bool, true, false, not, ◌&&◌, ◌||◌, eqb, ◌⊎◌, List, length, Some, None, Option, Decides, sym, refl, ap, ◌∙◌, subst, inl, inr, arith}
use Rattle.std.proofs.lemmas.Bool.{cases_Bool, cases_lt, cases_eq, and_parts, and_from, and_left, and_right, or_cases, or_left, or_right, eq-eqb, eqb-true, ne_eqb, not_from_true, not_from_false, both_ways}
use Rattle.std.proofs.lemmas.Bool.Decides.{Decides-like}
use Rattle.elements.specs.Element.{Shown, exponent}
use Rattle.orderings.specs.Order.{at}
use Rattle.orderings.specs.Rows.{row}
use Rattle.barcode.specs.Bars.{position, Rises, Star}
use Rattle.barcode.specs.Gap.{height, IsGap, lesser, gap}
use Rattle.barcode.specs.BarSets.{Alike}
use Rattle.barcode.specs.Rise.{IsRise, NoneRises, IsLeastRise}
use Rattle.barcode.proofs.Gaps.{gap_is}

-- of the places that a walk began with, those that it has passed
abbrev pub Passed : (ℕ → Bool) → (ℕ → Bool) → ℕ → Type 0
Passed all left q = (all q ≡ true) × (left q ≡ false)

-- a walk takes place f
module _ (all left next : ℕ → Bool) (f : ℕ) (within : (p : ℕ) → left p ≡ true → all p ≡ true) (here : left f ≡ true)
    (taken : (p : ℕ) → next p ≡ (not (eqb p f) && left p)) where
  pub still_within : (p : ℕ) → next p ≡ true → all p ≡ true
  still_within p t = within p (and_parts (not (eqb p f)) (left p) (sym (taken p) ∙ t)).1

  pub passed_here : Passed all next f
  passed_here = (within f here, taken f ∙ and_left (not (eqb f f)) (left f) (not_from_true _ (eq-eqb f f refl)))

  pub passed_before : (p : ℕ) → Passed all left p → Passed all next p
  passed_before p s = (s.0, taken p ∙ and_right (not (eqb p f)) (left p) s.1)

  pub passed_now : (p : ℕ) → Passed all next p → (p ≡ f) ⊎ Passed all left p
  passed_now p s = elim (cases_eq p f) [
    | inl e ↦ inl e
    | inr ne ↦ inr (
      s.0,
      elim (cases_Bool (left p)) [
        | inl t ↦ absurd (both_ways (next p) s.1
            (taken p ∙ and_from (not (eqb p f)) (left p) (not_from_false _ (ne_eqb p f ne)) t))
        | inr t ↦ t
      ],
    )
  ]

  -- what is kept of the passed places where P holds: f is put in, or left out
  module _ (P : ℕ → Type 0) (kept new : ℕ → Bool) (told : (p : ℕ) → Decides (kept p) (Passed all left p × P p)) where
    pub put_in : P f → ((p : ℕ) → new p ≡ (eqb p f || kept p)) → (p : ℕ) → Decides (new p) (Passed all next p × P p)
    put_in h e p = (
      λ t. elim (or_cases (eqb p f) (kept p) (sym (e p) ∙ t)) [
        | inl a ↦ (let s = eqb-true p f a in
            (subst (λ (x : ℕ). Passed all next x) (sym s) passed_here, subst P (sym s) h))
        | inr a ↦ (let d = (told p).0 a in (passed_before p d.0, d.1))
      ],
      λ d. elim (passed_now p d.0) [
        | inl a ↦ e p ∙ or_left (eqb p f) (kept p) (eq-eqb p f a)
        | inr a ↦ e p ∙ or_right (eqb p f) (kept p) ((told p).1 (a, d.1))
      ],
    )

    pub left_out : (P f → ⊥) → (p : ℕ) → Decides (kept p) (Passed all next p × P p)
    left_out h p = (
      λ t. (let d = (told p).0 t in (passed_before p d.0, d.1)),
      λ d. elim (passed_now p d.0) [
        | inl a ↦ absurd (h (subst P a d.1))
        | inr a ↦ (told p).1 (a, d.1)
      ],
    )

-- the least rise with one row more
module _ (rows : List Shown) (v : ℕ) (u : Shown) (few more : ℕ → Type 0) (f : ℕ) (here : more f)
    (before : (q : ℕ) → few q → more q) (now : (q : ℕ) → more q → (q ≡ f) ⊎ few q) where
  at_f : (q : ℕ) → q ≡ f → exponent (row rows q) v ≡ exponent (row rows f) v
  at_f q e = ap (λ (x : ℕ). exponent (row rows x) v) e

  pub none_more : NoneRises rows few v u → exponent (row rows f) v ≤ exponent u v → NoneRises rows more v u
  none_more n h q m = elim (now q m) [ inl e ↦ omega (arith, at_f q e) | inr s ↦ n q s ]

  pub least_more : (o r : Option ℕ) → IsLeastRise rows few v u o → IsRise (exponent u v) (exponent (row rows f) v) r →
      IsLeastRise rows more v u (lesser o r)
  least_more None None n h = none_more n h
  least_more None (Some d) n h = (
    (f, here, h.0, h.1),
    λ q m l. elim (now q m) [ inl e ↦ omega (arith, at_f q e, h.1) | inr s ↦ absurd (omega (arith, n q s)) ],
  )
  least_more (Some x) None (a, b) h = (
    (a.0, before a.0 a.1, a.2, a.3),
    λ q m l. elim (now q m) [ inl e ↦ absurd (omega (arith, at_f q e)) | inr s ↦ b q s l ],
  )
  least_more (Some x) (Some y) (a, b) h = (
    elim (cases_lt x y) [
      | inl l ↦ (a.0, before a.0 a.1, omega (arith, a.2), omega (arith, a.3))
      | inr l ↦ (f, here, omega (arith, h.0), omega (arith, h.1))
    ],
    λ q m l. elim (now q m) [ inl e ↦ omega (arith, at_f q e, h.1) | inr s ↦ omega (arith, b q s l) ],
  )

-- the least rise of the same places
pub least_same : (rows : List Shown) (v : ℕ) (u : Shown) (A B : ℕ → Type 0) → ((q : ℕ) → A q → B q) →
    ((q : ℕ) → B q → A q) → (o : Option ℕ) → IsLeastRise rows A v u o → IsLeastRise rows B v u o
least_same rows v u A B to from None n = λ q b. n q (from q b)
least_same rows v u A B to from (Some m) (a, b) = ((a.0, to a.0 a.1, a.2, a.3), λ q c l. b q (from q c) l)

-- the gap and the star over a bar
module _ (rows : List Shown) (order : List ℕ) (v : ℕ) (u : Shown) (over : ℕ → Bool)
    (told : (w : ℕ) → Decides (over w) ((w < length rows) × Alike order (position order v) u (row rows w))) where
  chosen : (q : ℕ) → q < length rows → Rises order v u (row rows q) → over q ≡ true
  chosen q l r = (told q).1 (l, (r.family, r.above))

  rises_over : (q : ℕ) → over q ≡ true → height order v u < height order v (row rows q) → Rises order v u (row rows q)
  rises_over q t l = let d = (told q).0 t in record { family = d.1.0; above = d.1.1; smaller = l }

  pub gap_over : (o : Option ℕ) → IsLeastRise rows (λ q. over q ≡ true) (at order (position order v)) u o →
      IsGap rows order u v o
  gap_over None n = λ q l r. omega (arith, n q (chosen q l r), r.smaller)
  gap_over (Some m) (a, b) = (
    (a.0, ((told a.0).0 a.1).0, rises_over a.0 a.1 (omega (arith, a.2, a.3)), a.3),
    λ q l r. b q (chosen q l r) r.smaller,
  )

  pub star_over : (b : Bool) → Decides b (NoneRises rows (λ q. over q ≡ true) (at order (position order v)) u) →
      Decides b (Star rows order u v)
  star_over b d =
      Decides-like b (λ n q l r. omega (arith, n q (chosen q l r), r.smaller))
      (λ star q t. elim (cases_lt (height order v u) (height order v (row rows q))) [
        | inl l ↦ absurd (star q ((told q).0 t).0 (rises_over q t l))
        | inr l ↦ l
      ]) d

-- there is one gap
pub one_gap : (rows : List Shown) (order : List ℕ) (u : Shown) (v : ℕ) (a b : Option ℕ) → IsGap rows order u v a →
    IsGap rows order u v b → a ≡ b
one_gap rows order u v None None g h = refl
one_gap rows order u v None (Some n) g (h, k) = absurd (g h.0 h.1 h.2)
one_gap rows order u v (Some m) None (g, k) h = absurd (h g.0 g.1 g.2)
one_gap rows order u v (Some m) (Some n) (g, k) (h, i) = ap Some (omega (arith, g.3, h.3, k h.0 h.1 h.2, i g.0 g.1 g.2))

pub gap_told : (rows : List Shown) (order : List ℕ) (p v : ℕ) (o : Option ℕ) → p < length rows →
    IsGap rows order (row rows p) v o → o ≡ gap rows order p v
gap_told rows order p v o l g = one_gap rows order (row rows p) v o (gap rows order p v) g (gap_is rows order p v l)

-- the bars of one variable more
module _ (order : List ℕ) (k x : ℕ) (read : at order k ≡ x) (u w : Shown) where
  pub alike_more : Alike order k u w → exponent u x ≡ exponent w x → Alike order (suc k) u w
  alike_more a e = (
    a.0,
    λ j l. elim (cases_eq j k) [
      | inl h ↦ rw (h, read) e
      | inr h ↦ a.1 j (omega arith)
    ],
  )

  pub alike_less : Alike order (suc k) u w → Alike order k u w × (exponent u x ≡ exponent w x)
  alike_less a = ((a.0, λ j l. a.1 j (omega arith)), rw (sym read) (a.1 k (omega arith)))

-- elements that agree under one list agree under another with the same front
pub alike_front : (a b : List ℕ) (k : ℕ) → ((j : ℕ) → j < k → at a j ≡ at b j) → (u w : Shown) → Alike a k u w →
    Alike b k u w
alike_front a b k same u w h = (h.0, λ j l. rw (sym (same j l)) (h.1 j l))
