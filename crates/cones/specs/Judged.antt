-- The limits that a division sets on the rows of a Bar Code, and completeness by divisions.
-- Assumes nothing.
use Rattle.std.specs.Prelude.{ℕ, List, length}
use Rattle.elements.specs.Element.{Shown}
use Rattle.elements.specs.declared.Element as element
use Rattle.barcode.specs.declared.bar_code.BarCode.{BarCode}
use Rattle.barcode.specs.BarCode.{rows_of, order_of}
use Rattle.divisions.specs.Laws.{Meaning, Lawful, OnSheet}
use Rattle.divisions.specs.Janet.{janet_like}
use Rattle.cones.specs.Cones.{Limits, Complete, Separated}
use Rattle.cones.specs.Tables.{LimitTable, Obtained}

module _ {E : Type 0} {e : element.Ghosts E} (m : Meaning) (b : BarCode E e) where
  -- the limits that a division sets at the places of the rows
  abbrev pub limits_given : Limits
  limits_given = m (rows_of b) (order_of b)

  -- a table has these limits for variables 1 to n, of which eight at most, at the first 64 rows,
  -- and no others
  abbrev pub IsLimitTable : ℕ → LimitTable → Type 0
  IsLimitTable n table = Obtained n limits_given (length (rows_of b)) table

-- the limits of a lawful division on the rows of a sheet keep the rows apart, so that what is shown
-- of separated limits is shown of them
abbrev pub LawfulLimitsAreSeparated : Type 0
LawfulLimitsAreSeparated =
    (m : Meaning) → Lawful m →
    (n : ℕ) (rows : List Shown) (order : List ℕ) → OnSheet n rows order →
    Separated order rows (m rows order)

-- rows that a lawful division makes complete under an ordering are complete under it by Janet-like
-- division
abbrev pub JanetLikeCompletesWhatAnyDivisionCompletes : Type 0
JanetLikeCompletesWhatAnyDivisionCompletes =
    (m : Meaning) → Lawful m →
    (n : ℕ) (rows : List Shown) (order : List ℕ) → OnSheet n rows order →
    Complete n rows (m rows order) → Complete n rows (janet_like rows order)
