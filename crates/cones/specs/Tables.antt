-- How a table of limits is read. Assumes nothing.
use Rattle.std.specs.Prelude.{◌≡◌, ℕ, ◌+◌, ◌<◌, ◌≤◌, ◌⊎◌, List, ◌∷◌, replicate, Some, None, Option, slice_index_or}
use Rattle.elements.specs.Element.{Shown, exponent}
use Rattle.cones.specs.Cones.{Limits}

-- a list for each row, with an entry for each of eight variables
abbrev pub LimitTable : Type 0
LimitTable = List (List (Option ℕ))

-- the limit of variable v, which counts from 1, in a row's list; none where there is no such
-- variable
abbrev pub limit_in : List (Option ℕ) → ℕ → Option ℕ
limit_in limits v = slice_index_or (None ∷ limits) v None

-- a row's list without limits
abbrev pub no_limits : List (Option ℕ)
no_limits = replicate 8 None

-- the list of the row at place p; past the end of the table, no limits
abbrev pub limits_at : LimitTable → ℕ → List (Option ℕ)
limits_at table p = slice_index_or table p no_limits

-- the limits that a table sets
abbrev pub limits_of : LimitTable → Limits
limits_of table p v = limit_in (limits_at table p) v

-- in variable v the exponent of w is below that of u and the limit together, if there is a limit
abbrev pub IsBelowLimit : Option ℕ → ℕ → Shown → Shown → Type 0
IsBelowLimit limit v u w = (m : ℕ) → limit ≡ Some m → exponent w v < exponent u v + m

-- and so in each of the variables 1 to n
abbrev pub BelowLimits : ℕ → List (Option ℕ) → Shown → Shown → Type 0
BelowLimits n limits u w = (v : ℕ) → 1 ≤ v → v ≤ n → IsBelowLimit (limit_in limits v) v u w

-- a row's limits are those that f gives variables 1 to n, of which there are eight at most; no
-- other variable has one
pub record LimitsFrom (n : ℕ) (f : ℕ → Option ℕ) (limits : List (Option ℕ)) : Type 0 where
  pub own : (v : ℕ) → 1 ≤ v → v ≤ n → v ≤ 8 → limit_in limits v ≡ f v
  pub others : (v : ℕ) → (n < v) ⊎ (8 < v) → limit_in limits v ≡ None

-- a table has the limits that f gives the first so many rows, of which it has places for 64, and
-- the others have none
pub record Obtained (n : ℕ) (f : Limits) (count : ℕ) (table : LimitTable) : Type 0 where
  pub rows : (p : ℕ) → p < 64 → p < count → LimitsFrom n (f p) (limits_at table p)
  pub past : (p : ℕ) → (count ≤ p) ⊎ (64 ≤ p) → limits_at table p ≡ no_limits
