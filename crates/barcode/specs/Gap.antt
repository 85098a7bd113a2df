-- The gap of a variable at a row. Assumes nothing.
use Rattle.std.specs.Prelude.{◌≡◌, ℕ, ◌+◌, ◌-◌, ◌<◌, ◌≤◌, min, Bool, if◌then◌else◌, ◌&&◌, List, [], ◌∷◌, map, length, take, Some, None, Option, ◌==◌, nat_lt}
use Rattle.elements.specs.Element.{Shown, exponent}
use Rattle.orderings.specs.Order.{at, PartAt}
use Rattle.orderings.specs.Rows.{row}
use Rattle.barcode.specs.Bars.{position, agrees}

-- the exponent that decides at the position of v
abbrev pub height : List ℕ → ℕ → Shown → ℕ
height order v u = exponent u (at order (position order v))

-- m is the gap at position k of a list at u, or there is none: the smallest positive difference
-- there to a row that agrees at every position before it
abbrev pub IsGapAt : List Shown → List ℕ → ℕ → Shown → Option ℕ → Type 0
IsGapAt rows order k u None = (q : ℕ) → q < length rows → ¬ PartAt order k u (row rows q)
IsGapAt rows order k u (Some m) =
    ((q : ℕ) × (q < length rows) × PartAt order k u (row rows q) ×
    (exponent u (at order k) + m ≡ exponent (row rows q) (at order k))) ×
    ((q : ℕ) → q < length rows → PartAt order k u (row rows q) →
    exponent u (at order k) + m ≤ exponent (row rows q) (at order k))

-- m is the gap of v at u, or there is none: the smallest positive difference in v to a row that
-- agrees in every greater variable
abbrev pub IsGap : List Shown → List ℕ → Shown → ℕ → Option ℕ → Type 0
IsGap rows order u v = IsGapAt rows order (position order v) u

-- the test whether w counts for the gap of v at u
abbrev pub rises : List ℕ → ℕ → Shown → Shown → Bool
rises order v u w =
    u.family == w.family &&
    (agrees (take (position order v) order) u w && nat_lt (height order v u) (height order v w))

-- how far w is above u, where it counts
abbrev pub rise : List ℕ → ℕ → Shown → Shown → Option ℕ
rise order v u w =
    if rises order v u w then Some (height order v w - height order v u) else None

-- the lesser of two numbers that may be absent
abbrev pub lesser : Option ℕ → Option ℕ → Option ℕ
lesser None b = b
lesser (Some x) None = Some x
lesser (Some x) (Some y) = Some (min x y)

-- the least of the numbers that are there
abbrev pub least : List (Option ℕ) → Option ℕ
least [] = None
least (x ∷ xs) = lesser x (least xs)

-- the gap of v at the row of place p: the least rise of all rows, and none at a place without a row
abbrev pub gap : List Shown → List ℕ → ℕ → ℕ → Option ℕ
gap rows order p v =
    if nat_lt p (length rows) then least (map (rise order v (row rows p)) rows) else None
