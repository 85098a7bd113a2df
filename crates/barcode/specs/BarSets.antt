-- The rows over each bar, as sets of places. Assumes nothing.
use Rattle.std.specs.Prelude.{◌≡◌, ℕ, ◌<◌, true, ◌↔◌, List, [], length, slice_index_or}
use Rattle.elements.specs.Element.{Shown}
use Rattle.orderings.specs.Order.{at, Agree}
use Rattle.orderings.specs.Rows.{row}
use Rattle.places.specs.Places.{contains}
use Rattle.places.specs.declared.Places.{Places}
use Rattle.barcode.specs.declared.level.Level.{Level}

-- the place is in the set
abbrev pub Has : Places → ℕ → Type 0
Has set place = contains set place ≡ true

-- each place of the set is below n
abbrev pub IsWithin : Places → ℕ → Type 0
IsWithin set n = (w : ℕ) → Has set w → w < n

-- the set has the places that are chosen, and no other
abbrev pub ConsistsOf : Places → (ℕ → Type 0) → Type 0
ConsistsOf set Chosen = (w : ℕ) → (Has set w ↔ Chosen w)

-- u and w are of one family and agree in the first k variables: they lie over the same bar of each
-- of these
abbrev pub Alike : List ℕ → ℕ → Shown → Shown → Type 0
Alike order k u w = (u.family ≡ w.family) × Agree order k u w

-- the set that is kept for the row of place q
abbrev pub row_set : List Places → ℕ → Places
row_set sets q = slice_index_or sets q (record { bits = 0 })

-- a set has the places of the rows that are alike with the row of place q in the first k variables
abbrev pub SetOver : List Shown → List ℕ → ℕ → ℕ → Places → Type 0
SetOver rows order k q set =
    ConsistsOf set (λ w. (w < length rows) × Alike order k (row rows q) (row rows w))

-- each row has such a set
abbrev pub SetsOver : List Shown → List ℕ → ℕ → List Places → Type 0
SetsOver rows order k sets = (q : ℕ) → q < length rows → SetOver rows order k q (row_set sets q)

-- the sets that are kept of the first k variables
abbrev pub over_first : List Level → ℕ → List Places
over_first bars k = (slice_index_or bars k (record { sets = [] })).sets

-- the levels that are kept have the sets of none, one, two .. of the first variables
abbrev pub AreLevels : List Shown → List ℕ → List Level → Type 0
AreLevels rows order bars =
    (k : ℕ) → k < length bars → SetsOver rows order k (over_first bars k)

-- the first k entries of a list are those of an order, which has so many
abbrev pub StartsAs : List ℕ → List ℕ → ℕ → Type 0
StartsAs listed order k = (j : ℕ) → j < k → (j < length order) × (at listed j ≡ at order j)

-- of the first variables of an order those are known, as many as are asked for and at most eight
pub record Knows (order : List ℕ) (most : ℕ) (listed : List ℕ) (known : ℕ) : Type 0 where
  pub enough : (k : ℕ) → k < most → k < length order → k < 8 → k < known
  pub these : StartsAs listed order known
