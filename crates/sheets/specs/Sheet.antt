-- What makes a sheet, over what its places show. Assumes nothing.
use Rattle.std.specs.Prelude.{◌≡◌, ℕ, ◌-◌, ◌<◌, ◌≤◌, Bool, List, ◌++◌, length, map, take, replicate, ◌≢◌}
use Rattle.std.specs.List.{range_with_len}
use Rattle.elements.specs.Element.{Shown, blank}
use Rattle.orderings.specs.Order.{VariableCount, IsOrdering}
use Rattle.orderings.specs.Fit.{Fit}
use Rattle.orderings.specs.Rows.{row, Rows}

-- how many places a table may have
pub record PlaceCount (places : ℕ) : Type 0 where
  pub some : 1 ≤ places
  pub most : places ≤ 64

-- the row at place p fits, and stands at no place before it
abbrev pub IsNewRow : (ℕ → Bool) → ℕ → List Shown → ℕ → Type 0
IsNewRow admits n rows p =
    Fit admits n (row rows p) × ((k : ℕ) → k < p → row rows k ≢ row rows p)

module _ {E : Type 0} (shown : E → Shown) (rows : List E) (e : Shown) where
  -- e is shown at no place
  abbrev pub StandsNowhere : Type 0
  StandsNowhere = (k : ℕ) → k < length rows → row (map shown rows) k ≢ e

  -- e is shown at place p, and at no place before it
  abbrev pub StandsFirstAt : ℕ → Type 0
  StandsFirstAt p =
      (p < length rows) × (row (map shown rows) p ≡ e) ×
      ((k : ℕ) → k < p → row (map shown rows) k ≢ e)

-- every place of a table is blank
abbrev pub IsBlank : List Shown → Type 0
IsBlank table = (p : ℕ) → row table p ≡ blank

-- n, a row count, a table and order bytes make a sheet of a kind: the rows stand first, and then
-- only blanks
pub record Makes (admits : ℕ → Bool) (n count : ℕ) (table : List Shown) (order : List ℕ) :
    Type 0 where
  pub variables : VariableCount n
  pub places : PlaceCount (length table)
  pub room : count ≤ length table
  pub ordered : IsOrdering n order
  pub rows : Rows admits n (take count table)
  pub blanks : (p : ℕ) → count ≤ p → row table p ≡ blank

-- the ordering 1, 2, .. n
abbrev pub natural_order : ℕ → List ℕ
natural_order n = range_with_len 1 n ++ replicate (8 - n) 0
