-- The number of a bar counts the different lower bars. Assumes nothing.
use Rattle.std.proofs.Common.{◌≡◌, ℕ, zero, suc, ◌+◌, ◌<◌, ◌≤◌, Bool, true, ◌&&◌, ◌⊎◌, List, [], ◌∷◌, length, map, filter, add-one, sym, refl, ap, ◌∙◌, subst, inl, inr, arith}
use Rattle.std.specs.List.{range_with_len, Contains}
use Rattle.std.specs.List.Sorted.{IsStrictlyIncreasing}
use Rattle.std.proofs.lemmas.List.{length-map}
use Rattle.std.proofs.lemmas.List.Elements.{All-contains, All-filter, Contains-append_right, filter_passes}
use Rattle.std.proofs.lemmas.List.FromFn.{length-range_with_len, get_or-range_with_len}
use Rattle.std.proofs.lemmas.List.Kept.{IsStrictlyIncreasing-filter}
use Rattle.std.proofs.lemmas.Bool.{cases_Bool, cases_order, cases_lt, cond-true, cond_both, and_parts, and_from, both_ways}
use Rattle.elements.specs.Element.{Shown}
use Rattle.orderings.specs.Rows.{row}
use Rattle.orderings.proofs.Lines.{first}
use Rattle.barcode.specs.Bars.{SameBar, LowerBar, same_bar, lower_bar, opens_bar, bar_number, BarNumberCountsTheDifferentLowerBars}
use Rattle.barcode.proofs.Tested.{same_bar_decides, lower_bar_decides}
use Rattle.barcode.proofs.Found.{opens_not, opens_all}

module _ (f : ℕ → Bool) where
  at_most : (a n : ℕ) → length (filter f (range_with_len a n)) ≤ n
  at_most a zero = omega arith
  at_most a (suc n) =
      cond_both (f a) (a ∷ filter f (range_with_len (a + 1) n)) (filter f (range_with_len (a + 1) n))
      (λ xs. length xs ≤ suc n)
      (λ _. omega (arith, at_most (a + 1) n)) (λ _. omega (arith, at_most (a + 1) n))

  -- not all are counted where one is passed over
  pub fewer : (a n p : ℕ) → a ≤ p → p < a + n → (f p ≡ true → ⊥) → length (filter f (range_with_len a n)) < n
  fewer a zero p l h out = absurd (omega arith)
  fewer a (suc n) p l h out = elim (cases_lt a p) [
    | inl m ↦ cond_both (f a) (a ∷ filter f (range_with_len (a + 1) n)) (filter f (range_with_len (a + 1) n))
        (λ xs. length xs < suc n)
        (λ _. omega (arith, fewer (a + 1) n p (omega arith) (omega arith) out)) (λ _. omega (arith, at_most (a + 1) n))
    | inr m ↦ (let here : a ≡ p = omega arith in
        cond_both (f a) (a ∷ filter f (range_with_len (a + 1) n)) (filter f (range_with_len (a + 1) n))
        (λ xs. length xs < suc n)
        (λ t. absurd (out (ap f (sym here) ∙ t))) (λ _. omega (arith, at_most (a + 1) n)))
  ]

  -- a number of the list that passes is kept
  kept_has : (a n x : ℕ) → a ≤ x → x < a + n → f x ≡ true → Contains (filter f (range_with_len a n)) x
  kept_has a zero x l h t = absurd (omega arith)
  kept_has a (suc n) x l h t = elim (cases_lt a x) [
    | inl m ↦ (let later = kept_has (a + 1) n x (omega arith) (omega arith) t in
        cond_both (f a) (a ∷ filter f (range_with_len (a + 1) n)) (filter f (range_with_len (a + 1) n))
        (λ xs. Contains xs x)
        (λ _. Contains-append_right (a ∷ []) (filter f (range_with_len (a + 1) n)) x later) (λ _. later))
    | inr m ↦ (let here : a ≡ x = omega arith in
        rw (cond-true (f a) (a ∷ filter f (range_with_len (a + 1) n)) (filter f (range_with_len (a + 1) n))
        (ap f here ∙ t)) (0, omega arith, here))
  ]

  -- what is kept passes
  has_passed : (xs : List ℕ) (x : ℕ) → Contains (filter f xs) x → f x ≡ true
  has_passed xs x h = All-contains (λ y. f y ≡ true) (filter f xs) x (filter_passes f xs) h

  -- what is kept of the numbers below n is below n
  has_below : (n x : ℕ) → Contains (filter f (range_with_len 0 n)) x → x < n
  has_below n x h =
      All-contains (λ y. y < n) (filter f (range_with_len 0 n)) x
      (All-filter f (λ y. y < n) (range_with_len 0 n)
      (λ k d l. let small : k < n = omega (arith, length-range_with_len 0 n) in
      omega (arith, get_or-range_with_len 0 n k d small))) h

counting_increasing : (n : ℕ) → IsStrictlyIncreasing (range_with_len 0 n)
counting_increasing n k l =
    let inside : k + 1 < n = omega (arith, length-range_with_len 0 n) in
    omega (arith, get_or-range_with_len 0 n k 0 (omega arith), get_or-range_with_len 0 n (k + 1) 0 inside)

-- bars and their rows
module _ (order : List ℕ) (v : ℕ) where
  same_sym : (u w : Shown) → SameBar order v u w → SameBar order v w u
  same_sym u w s = record { family = sym s.family; agree = λ j l. sym (s.agree j l) }

  same_trans : (u w x : Shown) → SameBar order v u w → SameBar order v w x → SameBar order v u x
  same_trans u w x s t = record { family = s.family ∙ t.family; agree = λ j l. s.agree j l ∙ t.agree j l }

  lower_same : (p q u : Shown) → SameBar order v p q → LowerBar order v q u → LowerBar order v p u
  lower_same p q u s b =
      record {
        at_position = b.at_position;
        down_to = b.down_to;
        parts = record {
          family = s.family ∙ b.parts.family;
          above = λ j l. s.agree j (omega (arith, b.down_to)) ∙ b.parts.above j l;
          smaller = omega (arith, s.agree b.at_position (omega (arith, b.down_to)), b.parts.smaller);
        };
      }

module _ (rows : List Shown) (order : List ℕ) (v : ℕ) where
  decided : (j q : ℕ) → (SameBar order v (row rows j) (row rows q) → ⊥) ⊎
      ((SameBar order v (row rows j) (row rows q) → ⊥) → ⊥)
  decided j q = elim (cases_Bool (same_bar order v (row rows j) (row rows q))) [
    | inl t ↦ inr (λ h. h ((same_bar_decides order v (row rows j) (row rows q)).0 t))
    | inr t ↦ inl (λ s. both_ways _ t ((same_bar_decides order v (row rows j) (row rows q)).1 s))
  ]

  -- the first row over a bar
  first_over : (q : ℕ) → (p : ℕ) × (p ≤ q) × SameBar order v (row rows p) (row rows q) ×
      (opens_bar rows order v p p ≡ true)
  first_over q = elim (first (λ j. SameBar order v (row rows j) (row rows q) → ⊥) (λ j. decided j q) (suc q)) [
    | inl none ↦ absurd (none q (omega arith) (record { family = refl; agree = λ j l. refl }))
    | inr f ↦ (let s = shares f.0 f.3 in (
      f.0,
      omega (arith, f.1),
      s,
      opens_all rows order v f.0 f.0
          (λ j l t. f.2 j l (same_trans order v (row rows j) (row rows f.0) (row rows q) t s)),
    ))
  ]
    where
      shares : (j : ℕ) → ((SameBar order v (row rows j) (row rows q) → ⊥) → ⊥) →
          SameBar order v (row rows j) (row rows q)
      shares j h = elim (cases_Bool (same_bar order v (row rows j) (row rows q))) [
        | inl t ↦ (same_bar_decides order v (row rows j) (row rows q)).0 t
        | inr t ↦ absurd (h (λ s. both_ways _ t ((same_bar_decides order v (row rows j) (row rows q)).1 s)))
      ]

  one_opens : (p q : ℕ) → opens_bar rows order v p p ≡ true → opens_bar rows order v q q ≡ true →
      SameBar order v (row rows p) (row rows q) → p ≡ q
  one_opens p q op oq s = elim (cases_order p q) [
    | inl e ↦ e
    | inr o ↦ absurd (elim o [
      | inl l ↦ both_ways _ (opens_not rows order v q p q l s) oq
      | inr l ↦ both_ways _ (opens_not rows order v p q p l (same_sym order v (row rows p) (row rows q) s)) op
    ])
  ]

-- no bar is lower than itself
pub not_itself : (rows : List Shown) (order : List ℕ) (v p : ℕ) →
    (opens_bar rows order v p p && lower_bar order v (row rows p) (row rows p)) ≡ true → ⊥
not_itself rows order v p t =
    let b = (lower_bar_decides order v (row rows p) (row rows p)).0
    (and_parts (opens_bar rows order v p p) (lower_bar order v (row rows p) (row rows p)) t).1 in
    omega (arith, b.parts.smaller)

-- what the code counts: the lower bars, of which the row's own is none
module _ {X : Type 0} (shown : X → Shown) (xs : List X) (order : List ℕ) (v p : ℕ) (u : X) (l : p < length xs)
    (e : row (map shown xs) p ≡ shown u) (n : ℕ)
    (c : n ≡ length
    (filter (λ q. opens_bar (map shown xs) order v q q && lower_bar order v (row (map shown xs) q) (shown u))
    (range_with_len 0 (length xs)))) where
  pub counted : n + 1 ≡ bar_number (map shown xs) order (row (map shown xs) p) v
  counted = rw (e, length-map xs shown) (add-one n ∙ ap suc c)

  pub below_all : n < length xs
  below_all =
      omega (
        arith,
        c,
        fewer (λ q. opens_bar (map shown xs) order v q q && lower_bar order v (row (map shown xs) q) (shown u)) 0
            (length xs) p (omega arith) (omega arith)
            (λ t. not_itself (map shown xs) order v p
            (subst (λ (x : Shown).
            (opens_bar (map shown xs) order v p p && lower_bar order v (row (map shown xs) p) x) ≡ true)
            (sym e) t)),
      )

pub bar_number_counts : BarNumberCountsTheDifferentLowerBars
bar_number_counts rows order u v =
    let f = λ (q : ℕ). opens_bar rows order v q q && lower_bar order v (row rows q) u in
    let all = range_with_len 0 (length rows) in
    record {
      once = IsStrictlyIncreasing-filter f all (counting_increasing (length rows));
      lower = λ q a.
          let t = and_parts (opens_bar rows order v q q) (lower_bar order v (row rows q) u) (has_passed f all q a) in
          (has_below f (length rows) q a, (lower_bar_decides order v (row rows q) u).0 t.1);
      different = λ p q a b s.
          one_opens rows order v p q
          (and_parts (opens_bar rows order v p p) (lower_bar order v (row rows p) u) (has_passed f all p a)).0
          (and_parts (opens_bar rows order v q q) (lower_bar order v (row rows q) u) (has_passed f all q b)).0 s;
      every = λ q l b.
          let (p, le, s, o) = first_over rows order v q in
          let low = (lower_bar_decides order v (row rows p) u).1 (lower_same order v (row rows p) (row rows q) u s b)
          in (
            p,
            kept_has f 0 (length rows) p (omega arith) (omega arith)
                (and_from (opens_bar rows order v p p) (lower_bar order v (row rows p) u) o low),
            s,
          );
    }
