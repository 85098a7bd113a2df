-- Rows with their limits, and what lies in their cones. Assumes nothing.
use Rattle.std.specs.Prelude.{ℕ, ◌<◌, List, map, IsTrue}
use Rattle.elements.specs.Element.{Shown}
use Rattle.places.specs.Places.{contains}
use Rattle.places.specs.declared.Places.{Places}
use Rattle.cones.specs.Cones.{Limits, InCone}
use Rattle.cones.specs.Tables.{limits_of}
use Rattle.cones.specs.declared.limited_rows.LimitedRows.{LimitedRows}

-- the limits that stand beside the rows
abbrev pub limits_held : {E : Type 0} → LimitedRows E → Limits
limits_held l = limits_of l.limits.now

module _ {E : Type 0} (shown : E → Shown) (l : LimitedRows E) where
  -- what the rows show
  abbrev pub rows_of : List Shown
  rows_of = map shown l.rows.now

  -- w lies in the cone of the row at a place
  abbrev pub LiesInCone : Shown → ℕ → Type 0
  LiesInCone w place = InCone l.n rows_of (limits_held l) place w

  -- w lies in no cone
  abbrev pub LiesInNoCone : Shown → Type 0
  LiesInNoCone w = (place : ℕ) → ¬ LiesInCone w place

  -- w lies in the cone of a place, and in that of no lower one
  abbrev pub LiesFirstInCone : Shown → ℕ → Type 0
  LiesFirstInCone w place = LiesInCone w place × ((q : ℕ) → q < place → ¬ LiesInCone w q)

  -- w lies in the cone of none of these places
  abbrev pub LiesInNoneOf : Shown → Places → Type 0
  LiesInNoneOf w places =
      (place : ℕ) → IsTrue (contains places place) → ¬ LiesInCone w place
