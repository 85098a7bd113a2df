-- How far rows are above another in one variable. Assumes nothing.
use Rattle.std.specs.Prelude.{◌≡◌, ℕ, ◌+◌, ◌<◌, ◌≤◌, List, Some, None, Option}
use Rattle.elements.specs.Element.{Shown, exponent}
use Rattle.orderings.specs.Rows.{row}

-- how far an exponent is above another, where it is
abbrev pub IsRise : ℕ → ℕ → Option ℕ → Type 0
IsRise low high None = high ≤ low
IsRise low high (Some d) = (0 < d) × (low + d ≡ high)

-- no row of the chosen places is above u in variable v
abbrev pub NoneRises : List Shown → (ℕ → Type 0) → ℕ → Shown → Type 0
NoneRises rows Chosen v u = (q : ℕ) → Chosen q → exponent (row rows q) v ≤ exponent u v

-- m is the least positive difference in variable v from u to a row of the chosen places, or there
-- is none
abbrev pub IsLeastRise : List Shown → (ℕ → Type 0) → ℕ → Shown → Option ℕ → Type 0
IsLeastRise rows Chosen v u None = NoneRises rows Chosen v u
IsLeastRise rows Chosen v u (Some m) =
    ((q : ℕ) × Chosen q × (0 < m) × (exponent u v + m ≡ exponent (row rows q) v)) ×
    ((q : ℕ) → Chosen q → exponent u v < exponent (row rows q) v →
    exponent u v + m ≤ exponent (row rows q) v)
