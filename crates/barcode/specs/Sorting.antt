-- Rows in increasing order. Assumes nothing.
use Rattle.std.specs.Prelude.{◌≡◌, ◌≢◌, ℕ, ◌+◌, ◌-◌, ◌<◌, ◌≤◌, slice_index, List, length}
use Rattle.elements.specs.Element.{Shown, exponent}
use Rattle.orderings.specs.Order.{at, Agree, Below}
use Rattle.orderings.specs.Rows.{row}
use Rattle.barcode.specs.declared.sorting.Sorting.{Sorting}

-- c counts what u and w have in common: nothing where they are of two families, else the family and
-- the first variables in which they agree
pub record IsCommon (order : List ℕ) (u w : Shown) (c : ℕ) : Type 0 where
  pub nothing : c ≡ 0 → u.family ≢ w.family
  pub family : 0 < c → u.family ≡ w.family
  pub agree : 0 < c → Agree order (c - 1) u w
  pub differ : 0 < c → c ≤ length order →
      exponent u (at order (c - 1)) ≢ exponent w (at order (c - 1))

-- the row of rank i, where `places` lists the places of the rows in increasing order
abbrev pub ranked : List Shown → List ℕ → ℕ → Shown
ranked rows places i = row rows (slice_index places i)

-- each of the first n places is below n
abbrev pub ArePlaces : List ℕ → ℕ → Type 0
ArePlaces places n = (i : ℕ) → i < n → slice_index places i < n

-- place p has a rank below n, and stands there
abbrev pub HasRank : List ℕ → List ℕ → ℕ → ℕ → Type 0
HasRank places ranks n p =
    (slice_index ranks p < n) × (slice_index places (slice_index ranks p) ≡ p)

-- none of the first n rows in increasing order is before a lesser one
abbrev pub AreInOrder : List Shown → List ℕ → List ℕ → ℕ → Type 0
AreInOrder rows order places n =
    (i j : ℕ) → i ≤ j → j < n → ¬ Below order (ranked rows places j) (ranked rows places i)

-- what each of the first n rows in increasing order has in common with the next
abbrev pub AreCommon : List Shown → List ℕ → List ℕ → List ℕ → ℕ → Type 0
AreCommon rows order places common n =
    (i : ℕ) → i + 1 < n →
    IsCommon order (ranked rows places i) (ranked rows places (i + 1)) (slice_index common i)

-- the rows in increasing order: the places of all of them, none before a lesser one, with the rank
-- of each, and what neighbours have in common
pub record IsSorting (rows : List Shown) (order : List ℕ) (sorting : Sorting) : Type 0 where
  pub few : length rows ≤ 64
  pub places : ArePlaces sorting.places (length rows)
  pub ranks : (p : ℕ) → p < length rows → HasRank sorting.places sorting.ranks (length rows) p
  pub increasing : AreInOrder rows order sorting.places (length rows)
  pub common : AreCommon rows order sorting.places sorting.common (length rows)
