-- Which prefixes are dead, what the search answers, and what it tests on the way. Assumes nothing.
use Rattle.std.specs.Prelude.{ℕ, zero, suc, ◌+◌, ◌-◌, ◌≤◌, Bool, true, false, if◌then◌else◌, ◌&&◌, ◌||◌, List, length, Some, None, Option, ◌==◌, nat_le, nat_lt}
use Rattle.std.specs.List.{list_all}
use Rattle.elements.specs.Element.{Shown, exponent}
use Rattle.orderings.specs.Order.{VariableCount}
use Rattle.orderings.specs.Rows.{row, Rows}
use Rattle.divisions.specs.Laws.{Meaning}
use Rattle.cones.specs.Cones.{Limits, IsShortfall}
use Rattle.search.specs.Prefixes.{has, completed}
use Rattle.search.specs.Walks.{first_live, tested_to}

-- the rows of a sheet of n variables, of whichever kind
pub record RowsOfSheet (n : ℕ) (rows : List Shown) : Type 0 where
  pub kind : ℕ → Bool
  pub variables : VariableCount n
  pub few : length rows ≤ 64
  pub fit : Rows kind n rows

-- the limits of the listed variables, and none elsewhere
abbrev pub only : List ℕ → Limits → Limits
only p lim q v = if has v p then lim q v else None

-- the limits of a prefix's variables, by an ordering that it begins
abbrev pub prefix_limits : Meaning → ℕ → List Shown → List ℕ → Limits
prefix_limits m n rows p = only p (m rows (completed n p))

-- a row has a limit in a variable of the prefix, and its product with that power lies in no cone,
-- as far as the prefix's variables tell
abbrev pub Dead : Meaning → ℕ → List Shown → List ℕ → Type 0
Dead m n rows p =
    (q : ℕ) × (v : ℕ) × (d : ℕ) × IsShortfall n rows (prefix_limits m n rows p) q v d

abbrev pub Live : Meaning → ℕ → List Shown → List ℕ → Type 0
Live m n rows p = Dead m n rows p → ⊥

-- whether every number below k passes
abbrev pub every_below : (ℕ → Bool) → ℕ → Bool
every_below f zero = true
every_below f (suc k) = f k && every_below f k

-- whether some number below k passes
abbrev pub some_below : (ℕ → Bool) → ℕ → Bool
some_below f zero = false
some_below f (suc k) = f k || some_below f k

-- the exponent of variable x in u times v to the power d
abbrev pub raised : Shown → ℕ → ℕ → ℕ → ℕ
raised u v d x = exponent u x + (if x == v then d else 0)

-- e is below the limit, if there is one
abbrev pub within : Option ℕ → ℕ → Bool
within None e = true
within (Some l) e = nat_lt e l

-- s divides u times v to the power d
abbrev pub divides : Shown → Shown → ℕ → ℕ → Bool
divides s u v d =
    s.family == u.family && every_below (λ k. nat_le (exponent s (suc k)) (raised u v d (suc k))) 8

-- and the quotient is below each limit of s in the variables of p
abbrev pub covers : List ℕ → (ℕ → Option ℕ) → Shown → Shown → ℕ → ℕ → Bool
covers p limit s u v d =
    divides s u v d && list_all (λ x. within (limit x) (raised u v d x - exponent s x)) p

-- some row does, where u has limit d in v
abbrev pub covered : List ℕ → List Shown → Limits → Shown → ℕ → Option ℕ → Bool
covered p rows lim u v None = true
covered p rows lim u v (Some d) =
    some_below (λ s. covers p (lim s) (row rows s) u v d) (length rows)

abbrev pub no_shortfall : List ℕ → List Shown → Limits → Bool
no_shortfall p rows lim =
    every_below (λ q. list_all (λ v. covered p rows lim (row rows q) v (lim q v)) p) (length rows)

abbrev pub live : Meaning → ℕ → List Shown → List ℕ → Bool
live m n rows p = no_shortfall p rows (m rows (completed n p))

-- the answer of the search: the first live prefix of length n, if there is one
abbrev pub answer : Meaning → ℕ → List Shown → Option (List ℕ)
answer m n rows = first_live (live m n rows) n

-- the tested prefixes: of the listing down to the answer, those of which every shorter one is live
abbrev pub tested : Meaning → ℕ → List Shown → List (List ℕ)
tested m n rows = tested_to (live m n rows) n
