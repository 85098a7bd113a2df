-- The Bar Code of rows under an ordering: bars, which of two is lower, their numbers, and stars.
-- Assumes nothing.
use Rattle.std.specs.Prelude.{◌≡◌, ℕ, zero, suc, ◌<◌, ◌≤◌, Bool, true, false, if◌then◌else◌, not, ◌&&◌, ◌||◌, List, [], ◌∷◌, length, take, filter, ◌==◌, nat_lt, Contains}
use Rattle.std.specs.List.{range_with_len}
use Rattle.std.specs.List.Sorted.{IsStrictlyIncreasing}
use Rattle.elements.specs.Element.{Shown, exponent}
use Rattle.orderings.specs.Order.{Agree, PartAt}
use Rattle.orderings.specs.Rows.{row}

-- the position of variable v in an ordering: the first at which it stands, or the length where it
-- does not
abbrev pub position : List ℕ → ℕ → ℕ
position [] v = 0
position (x ∷ xs) v = if x == v then 0 else suc (position xs v)

-- u and w lie over the same bar of v: they are of one family, and agree in v and in every greater
-- variable
pub record SameBar (order : List ℕ) (v : ℕ) (u w : Shown) : Type 0 where
  pub family : u.family ≡ w.family
  pub agree : Agree order (suc (position order v)) u w

-- the bar of v under u is lower than that under w: they are of one family, and u has the smaller
-- exponent in the greatest variable in which the bars differ
pub record LowerBar (order : List ℕ) (v : ℕ) (u w : Shown) : Type 0 where
  pub at_position : ℕ
  pub down_to : at_position ≤ position order v
  pub parts : PartAt order at_position u w

-- w counts for the gap of v at u: they are of one family, agree in every greater variable, and w
-- has the greater exponent in v
abbrev pub Rises : List ℕ → ℕ → Shown → Shown → Type 0
Rises order v u w = PartAt order (position order v) u w

-- the bar of v under u is followed by a star: no row counts for a gap there
abbrev pub Star : List Shown → List ℕ → Shown → ℕ → Type 0
Star rows order u v = (q : ℕ) → q < length rows → ¬ Rises order v u (row rows q)

-- the test of the same exponents in a list of variables
abbrev pub agrees : List ℕ → Shown → Shown → Bool
agrees [] u w = true
agrees (x ∷ xs) u w = exponent u x == exponent w x && agrees xs u w

-- the test of a smaller exponent in the first of them that differs
abbrev pub below : List ℕ → Shown → Shown → Bool
below [] u w = false
below (x ∷ xs) u w =
    nat_lt (exponent u x) (exponent w x) || (exponent u x == exponent w x && below xs u w)

-- the test of the same bar
abbrev pub same_bar : List ℕ → ℕ → Shown → Shown → Bool
same_bar order v u w = u.family == w.family && agrees (take (suc (position order v)) order) u w

-- the test of a lower bar
abbrev pub lower_bar : List ℕ → ℕ → Shown → Shown → Bool
lower_bar order v u w = u.family == w.family && below (take (suc (position order v)) order) u w

-- none of the first k rows lies over the bar of v under the row of place q
abbrev pub opens_bar : List Shown → List ℕ → ℕ → ℕ → ℕ → Bool
opens_bar rows order v q zero = true
opens_bar rows order v q (suc k) =
    not (same_bar order v (row rows k) (row rows q)) && opens_bar rows order v q k

-- the places of the first row over each bar of v that is lower than u's
abbrev pub lower_bars : List Shown → List ℕ → Shown → ℕ → List ℕ
lower_bars rows order u v =
    filter (λ q. opens_bar rows order v q q && lower_bar order v (row rows q) u)
    (range_with_len 0 (length rows))

-- the number of the bar of v under u: 1 and one for each different bar of v that is lower
abbrev pub bar_number : List Shown → List ℕ → Shown → ℕ → ℕ
bar_number rows order u v = suc (length (lower_bars rows order u v))

-- places of rows that stand for all the different bars of v that are lower than u's: one row for
-- each
pub record Represent (rows : List Shown) (order : List ℕ) (u : Shown) (v : ℕ) (bars : List ℕ)
    : Type 0 where
  pub once : IsStrictlyIncreasing bars
  pub lower : (q : ℕ) → Contains bars q → (q < length rows) × LowerBar order v (row rows q) u
  pub different : (p q : ℕ) → Contains bars p → Contains bars q →
      SameBar order v (row rows p) (row rows q) → p ≡ q
  pub every : (q : ℕ) → q < length rows → LowerBar order v (row rows q) u →
      (p : ℕ) × Contains bars p × SameBar order v (row rows p) (row rows q)

-- so the number of a bar counts the different bars that are lower
abbrev pub BarNumberCountsTheDifferentLowerBars : Type 0
BarNumberCountsTheDifferentLowerBars =
    (rows : List Shown) (order : List ℕ) (u : Shown) (v : ℕ) →
    Represent rows order u v (lower_bars rows order u v)
