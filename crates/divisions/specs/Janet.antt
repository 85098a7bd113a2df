-- Janet and Janet-like division. Assumes nothing.
use Rattle.std.specs.Prelude.{ℕ, ◌<◌, List, length, Some, None, Option}
use Rattle.elements.specs.Element.{Shown}
use Rattle.orderings.specs.Rows.{row}
use Rattle.barcode.specs.Bars.{Star}
use Rattle.barcode.specs.Gap.{gap, IsGap}
use Rattle.divisions.specs.Laws.{Meaning}

-- 1 where there is a number
abbrev pub one : Option ℕ → Option ℕ
one None = None
one (Some d) = Some 1

-- no limit at a star, limit 1 elsewhere
abbrev pub janet : Meaning
janet rows order p v = one (gap rows order p v)

-- no limit at a star, the gap elsewhere
abbrev pub janet_like : Meaning
janet_like = gap

-- the same in words: no limit at a star, limit 1 elsewhere
pub data IsJanet (rows : List Shown) (order : List ℕ) (p v : ℕ) : Option ℕ → Type 0 where
  star : Star rows order (row rows p) v → IsJanet rows order p v None
  elsewhere : (Star rows order (row rows p) v → ⊥) → IsJanet rows order p v (Some 1)

-- at each row Janet division sets its limits by stars
abbrev pub JanetIsToldByStars : Type 0
JanetIsToldByStars =
    (rows : List Shown) (order : List ℕ) (p v : ℕ) → p < length rows →
    IsJanet rows order p v (janet rows order p v)

-- at each row Janet-like division sets its limits by gaps
abbrev pub JanetLikeIsToldByGaps : Type 0
JanetLikeIsToldByGaps =
    (rows : List Shown) (order : List ℕ) (p v : ℕ) → p < length rows →
    IsGap rows order (row rows p) v (janet_like rows order p v)
