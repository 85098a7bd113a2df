-- Products of rows with powers of variables. Assumes nothing.
use Rattle.std.specs.Prelude.{◌≡◌, ℕ, ◌<◌, length, Some}
use Rattle.elements.specs.Element.{Shown, times}
use Rattle.orderings.specs.Rows.{row as row_at}
use Rattle.cones.specs.declared.limited_rows.LimitedRows.{LimitedRows}
use Rattle.cones.specs.LimitedRows.{rows_of, limits_held}
use Rattle.search.specs.declared.cone_table.Product.{Product}

module _ {E : Type 0} (shown : E → Shown) where
  -- what a product shows
  abbrev pub shown_by : Product E → Shown
  shown_by p = times (shown p.row.now) p.variable p.power

  -- the product's row stands at its place
  abbrev pub IsProductOf : LimitedRows E → Product E → Type 0
  IsProductOf l p =
      (p.place < length l.rows.now) × (row_at (rows_of shown l) p.place ≡ shown p.row.now)

  -- p is the product of the row at place q with the power of v that is its limit
  pub record IsProductAt (l : LimitedRows E) (q v : ℕ) (p : Product E) : Type 0 where
    pub place : p.place ≡ q
    pub variable : p.variable ≡ v
    pub inside : q < length l.rows.now
    pub row : row_at (rows_of shown l) q ≡ shown p.row.now
    pub limit : limits_held l q v ≡ Some p.power
