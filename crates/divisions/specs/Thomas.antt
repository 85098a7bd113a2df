-- Thomas division. Assumes nothing.
use Rattle.std.specs.Prelude.{ℕ, ◌<◌, if◌then◌else◌, List, length, Some, None, Option}
use Rattle.elements.specs.Element.{Shown}
use Rattle.barcode.specs.Exceeded.{IsExceeded, is_exceeded}
use Rattle.divisions.specs.Laws.{Meaning}

-- limit 1 where some row exceeds this one, no limit elsewhere; the ordering plays no part
abbrev pub thomas : Meaning
thomas rows order p v = (if is_exceeded rows p v then Some 1 else None)

-- the same in words
pub data IsThomas (rows : List Shown) (p v : ℕ) : Option ℕ → Type 0 where
  exceeded : IsExceeded rows p v → IsThomas rows p v (Some 1)
  greatest : ¬ IsExceeded rows p v → IsThomas rows p v None

-- at each row Thomas division sets limit 1 exactly where a row of the family is greater in that
-- variable, and no limit elsewhere
abbrev pub ThomasIsToldByGreaterRows : Type 0
ThomasIsToldByGreaterRows =
    (rows : List Shown) (order : List ℕ) (p v : ℕ) → p < length rows →
    IsThomas rows p v (thomas rows order p v)
