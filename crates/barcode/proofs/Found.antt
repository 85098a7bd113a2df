-- What the code finds of bars. Assumes nothing.
use Rattle.std.proofs.Common.{◌≡◌, ℕ, zero, suc, ◌-◌, ◌<◌, ◌≤◌, Bool, true, false, not, List, length, map, take, get_or, Some, None, Option, MatchOption, Decides, sym, refl, ap, ◌∙◌, inl, inr, arith}
use Rattle.std.specs.Bool.{MatchBool}
use Rattle.std.specs.List.{AllWithin, HoldsAt}
use Rattle.std.proofs.lemmas.List.{get_or_past, get_or-map, length-map, get_or-take, length-take, length-take-le}
use Rattle.std.proofs.lemmas.Bool.{cases_lt, cases_eq, cases_order, false≢true, and_left, and_right, and_from, not_from_true, not_from_false}
use Rattle.elements.specs.Element.{Shown, exponent, blank}
use Rattle.orderings.specs.Order.{at, Agree, DifferAt, PartAt}
use Rattle.orderings.specs.Rows.{row}
use Rattle.barcode.specs.Bars.{position, SameBar, LowerBar, Rises, Star, same_bar, opens_bar}
use Rattle.barcode.specs.Gap.{rise}
use Rattle.barcode.proofs.Tested.{same_bar_decides, rise_some}

module _ (order : List ℕ) (v : ℕ) (u w : Shown) where
  -- who agrees in the whole list agrees at every position
  pub agree_all : Agree order (length order) u w → (k : ℕ) → Agree order k u w
  agree_all a k j l = elim (cases_lt j (length order)) [
    | inl h ↦ a j h
    | inr h ↦ (let z = get_or_past order j 0 h in rw z refl)
  ]

  never_lower : Agree order (length order) u w → LowerBar order v u w → ⊥
  never_lower a b = omega (arith, agree_all a (suc b.at_position) b.at_position (omega arith), b.parts.smaller)

  -- the bar of u is lower exactly where u has the smaller exponent at the first difference, if that is not past v
  pub lower_told : (part : Option ℕ) (r : Bool) (Told : ℕ → Type 0) → u.family ≡ w.family →
      MatchOption part (Agree order (length order) u w) (λ k. DifferAt order k u w) →
      MatchOption part (r ≡ false) Told →
      ((k : ℕ) → Told k →
      Decides r ((k ≤ position order v) × (exponent u (at order k) < exponent w (at order k)))) →
      Decides r (LowerBar order v u w)
  lower_told None r Told f a none told = (λ t. absurd (false≢true (sym none ∙ t)), λ b. absurd (never_lower a b))
  lower_told (Some k) r Told f d here told =
      let t = told k here in (
        λ e. record {
          at_position = k;
          down_to = (t.0 e).0;
          parts = record { family = f; above = d.above; smaller = (t.0 e).1 };
        },
        λ b. t.1 (at_first b),
      )
    where
      at_first : LowerBar order v u w → (k ≤ position order v) × (exponent u (at order k) < exponent w (at order k))
      at_first b = elim (cases_order k b.at_position) [
        | inl e ↦ (omega (arith, e, b.down_to), rw e b.parts.smaller)
        | inr o ↦ elim o [
          | inl l ↦ absurd (d.here (b.parts.above k l))
          | inr l ↦ absurd (omega (arith, d.above b.at_position l, b.parts.smaller))
        ]
      ]

-- what the code reads at position k of a list, and of the variables before it
module _ (order : List ℕ) (k x : ℕ) (u w : Shown) (inside : k < length order) (read : x ≡ at order k) where
  -- u and w part there exactly where they agree before, if they are of one family and w is above in the variable there
  pub parts_told : (r : Bool) → u.family ≡ w.family → exponent u x < exponent w x →
      MatchBool r (AllWithin (λ y. exponent u y ≡ exponent w y) (take k order) 0 (length (take k order)))
      ((j : ℕ) × (j < length (take k order)) × HoldsAt (λ y. exponent u y ≡ exponent w y → ⊥) (take k order) j) →
      Decides r (PartAt order k u w)
  parts_told true f low all = (
    λ _. record {
      family = f;
      above = λ j l. rw (get_or-take k order j 0 l)
          at (all j 0 (omega arith) (omega (arith, l, length-take-le k order (omega arith))));
      smaller = rw read at low;
    },
    λ _. refl,
  )
  parts_told false f low (j, l, differ) =
      let before : j < k = omega (arith, l, length-take-le k order (omega arith)) in
      (λ t. absurd (false≢true t), λ p. absurd (rw (get_or-take k order j 0 before) at (differ 0) (p.above j before)))

  -- how far w rises at a variable that stands there
  pub rise_by : (v low high : ℕ) → position order v ≡ k → low ≡ exponent u x → high ≡ exponent w x →
      PartAt order k u w → Some (high - low) ≡ rise order v u w
  rise_by v low high here el eh p =
      let r : Rises order v u w = rw (sym here) at p in
      rw (el, eh, read, sym here) (sym (rise_some order v u w r))

-- a row over the same bar before place q
module _ (rows : List Shown) (order : List ℕ) (v q : ℕ) where
  pub opens_not : (j k : ℕ) → j < k → SameBar order v (row rows j) (row rows q) → opens_bar rows order v q k ≡ false
  opens_not j zero l s = absurd (omega arith)
  opens_not j (suc k) l s = elim (cases_eq j k) [
    | inl e ↦ and_left (not (same_bar order v (row rows k) (row rows q))) _
        (not_from_true _ ((same_bar_decides order v (row rows k) (row rows q)).1 (rw e at s)))
    | inr ne ↦ and_right (not (same_bar order v (row rows k) (row rows q))) _ (opens_not j k (omega arith) s)
  ]

  pub opens_all : (k : ℕ) → ((j : ℕ) → j < k → SameBar order v (row rows j) (row rows q) → ⊥) →
      opens_bar rows order v q k ≡ true
  opens_all zero h = refl
  opens_all (suc k) h =
      and_from (not (same_bar order v (row rows k) (row rows q))) _
      (not_from_false _
      (false_from (same_bar order v (row rows k) (row rows q))
      (same_bar_decides order v (row rows k) (row rows q)) (h k (omega arith))))
      (opens_all k (λ j l. h j (omega arith)))
    where
      false_from : (b : Bool) → Decides b (SameBar order v (row rows k) (row rows q)) →
          (SameBar order v (row rows k) (row rows q) → ⊥) → b ≡ false
      false_from true d h = absurd (h (d.0 refl))
      false_from false d h = refl

-- what the code finds among the rows before place q
module _ {X : Type 0} (shown : X → Shown) (xs : List X) (order : List ℕ) (v q : ℕ) (u : X) (l : q < length xs)
    (e : row (map shown xs) q ≡ shown u) where
  before : (k : ℕ) → k < q → row (map shown xs) k ≡ shown (get_or (take q xs) k u)
  before k h = get_or-map shown xs k u blank (omega arith) ∙ ap shown (sym (get_or-take q xs k u h))

  pub opens_told : (r : Bool) →
      MatchBool r
      ((k : ℕ) × (k < length (take q xs)) × HoldsAt (λ x. SameBar order v (shown x) (shown u)) (take q xs) k)
      (AllWithin (λ x. SameBar order v (shown x) (shown u) → ⊥) (take q xs) 0 (length (take q xs))) →
      not r ≡ opens_bar (map shown xs) order v q q
  opens_told true (k, h, s) =
      let small : k < q = omega (arith, length-take q xs) in
      sym (opens_not (map shown xs) order v q k q small (rw (before k small, e) (s u)))
  opens_told false none =
      sym (opens_all (map shown xs) order v q q
      (λ j h. rw (before j h, e) (none j u (omega arith) (omega (arith, length-take q xs)))))

-- what the code finds among the rows as code holds them: none rises exactly where there is a star
pub star_told : {X : Type 0} (shown : X → Shown) (xs : List X) (order : List ℕ) (v : ℕ) (u : X) (r : Bool) →
    MatchBool r ((k : ℕ) × (k < length xs) × HoldsAt (λ x. Rises order v (shown u) (shown x)) xs k)
    (AllWithin (λ x. Rises order v (shown u) (shown x) → ⊥) xs 0 (length xs)) →
    Decides (not r) (Star (map shown xs) order (shown u) v)
star_told shown xs order v u true (k, l, h) = (
  λ t. absurd (false≢true t),
  λ star. absurd (star k (omega (arith, l, length-map xs shown)) (rw (get_or-map shown xs k u blank l) (h u))),
)
star_told shown xs order v u false none = (
  λ _ q l r. (let small : q < length xs = omega (arith, l, length-map xs shown) in
      none q u (omega arith) (omega (arith, small)) (rw (get_or-map shown xs q u blank small) at r)),
  λ _. refl,
)
