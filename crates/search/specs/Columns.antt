-- Tables of limits, written a column at a time, and of the places of cones. Assumes nothing.
use Rattle.std.specs.Prelude.{◌≡◌, ℕ, ◌-◌, ◌<◌, ◌≤◌, Bool, true, if◌then◌else◌, List, length, replicate, Some, None, Option, IsTrue, ◌↔◌, ◌==◌, slice_index_or}
use Rattle.elements.specs.Element.{Shown, times}
use Rattle.orderings.specs.Rows.{row}
use Rattle.places.specs.Places.{contains}
use Rattle.places.specs.declared.Places.{Places}
use Rattle.divisions.specs.Laws.{Meaning}
use Rattle.cones.specs.Cones.{Limits, InCone, IsShortfall}
use Rattle.cones.specs.Tables.{limits_at, limits_of}
use Rattle.search.specs.Liveness.{prefix_limits, live}

-- every row of the table has a limit, or none, for each of eight variables
abbrev pub Wide : List (List (Option ℕ)) → Type 0
Wide table = (q : ℕ) → length (limits_at table q) ≡ 8

-- the limits of one variable
abbrev pub column : Limits → ℕ → ℕ → Option ℕ
column lim x q = lim q x

-- at the places below k the limit of variable x is now by f, and every other there is as it was; a
-- table that was wide is wide still
abbrev pub Written : (ℕ → Option ℕ) → ℕ → ℕ → List (List (Option ℕ)) → List (List (Option ℕ)) →
    Type 0
Written f x k old new =
    Wide old →
    Wide new ×
    ((q v : ℕ) → q < k → limits_of new q v ≡ (if v == x then f q else limits_of old q v))

-- the set has at least the places below k where f has a limit
abbrev pub HasLimitedPlaces : (ℕ → Option ℕ) → ℕ → Places → Type 0
HasLimitedPlaces f k set = (q d : ℕ) → q < k → f q ≡ Some d → contains set q ≡ true

-- the set of places that a list tells for variable v, which counts from 1
abbrev pub set_of : List Places → ℕ → Places
set_of places v = slice_index_or places (v - 1) (record { bits = 0 })

-- for each variable the set that is told has at least the places below k where the variable has a
-- limit
abbrev pub Placed : ℕ → List (List (Option ℕ)) → List Places → Type 0
Placed k table places =
    (v : ℕ) → 1 ≤ v → v ≤ 8 → HasLimitedPlaces (column (limits_of table) v) k (set_of places v)

-- the table has the limits of a prefix's variables and no others
pub record Tabled (m : Meaning) (n : ℕ) (rows : List Shown) (p : List ℕ)
    (table : List (List (Option ℕ))) : Type 0 where
  pub wide : Wide table
  pub limits : (q v : ℕ) → q < length rows → 1 ≤ v → v ≤ n →
      limits_of table q v ≡ prefix_limits m n rows p q v

-- the place that a table of cones tells for variable v, which counts from 1, at the row of place q
abbrev pub cones_at : List (List ℕ) → ℕ → List ℕ
cones_at cones q = slice_index_or cones q (replicate 8 0)

abbrev pub cone_at : List (List ℕ) → ℕ → ℕ → ℕ
cone_at cones q v = slice_index_or (cones_at cones q) (v - 1) 0

-- the product of each row with its limit in a variable lies in the cone of the place that is told
pub record TellsCones (n : ℕ) (rows : List Shown) (lim : Limits)
    (cones : List (List ℕ)) : Type 0 where
  pub wide : (q : ℕ) → length (cones_at cones q) ≡ 8
  pub cone : (q v d : ℕ) → q < length rows → 1 ≤ v → v ≤ n → lim q v ≡ Some d →
      InCone n rows lim (cone_at cones q v) (times (row rows q) v d)

-- the limits but for those of variable x
abbrev pub without : ℕ → Limits → Limits
without x lim q v = if v == x then None else lim q v

-- r tells whether each product lies in a cone, and then the table tells one; it tells one in any
-- case by the limits but for those of variable x
pub record Relocated (n : ℕ) (rows : List Shown) (x : ℕ) (lim : Limits) (r : Bool)
    (cones : List (List ℕ)) : Type 0 where
  pub told : IsTrue r ↔ ((q v d : ℕ) → IsShortfall n rows lim q v d → ⊥)
  pub others : TellsCones n rows (without x lim) cones
  pub all : r ≡ true → TellsCones n rows lim cones

-- the table has the limits of the prefix p, and that of cones tells where the products lie by these
pub record TellsPrefix (m : Meaning) (n : ℕ) (rows : List Shown) (p : List ℕ)
    (table : List (List (Option ℕ))) (cones : List (List ℕ)) : Type 0 where
  pub tabled : Tabled m n rows p table
  pub located : TellsCones n rows (prefix_limits m n rows p) cones

-- r tells whether the prefix p, which is q with one entry more, is live; the table has its limits,
-- and that of cones tells where the products lie by those of q, and by those of p where it is live
pub record Extended (m : Meaning) (n : ℕ) (rows : List Shown) (q p : List ℕ) (r : Bool)
    (table : List (List (Option ℕ))) (cones : List (List ℕ)) : Type 0 where
  pub told : r ≡ live m n rows p
  pub tabled : Tabled m n rows p table
  pub shorter : TellsCones n rows (prefix_limits m n rows q) cones
  pub longer : r ≡ true → TellsCones n rows (prefix_limits m n rows p) cones
