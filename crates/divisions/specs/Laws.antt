-- What a division is, and the laws that every division keeps. Assumes nothing.
use Rattle.std.specs.Prelude.{◌≡◌, ℕ, suc, ◌+◌, ◌<◌, ◌≤◌, Bool, List, length, take, Some, Option}
use Rattle.elements.specs.Element.{Shown, exponent}
use Rattle.orderings.specs.Order.{VariableCount, at, IsOrdering, PartAt}
use Rattle.orderings.specs.Rows.{row, Rows}

-- what a division means: from the rows, an ordering, the place of a row and a variable
-- to the limit, if there is one
abbrev pub Meaning : Type 0
Meaning = List Shown → List ℕ → ℕ → ℕ → Option ℕ

-- the rows of a sheet of n variables, of whichever kind, and an ordering of these variables:
-- what the laws are owed for
pub record OnSheet (n : ℕ) (rows : List Shown) (order : List ℕ) : Type 0 where
  pub kind : ℕ → Bool
  pub variables : VariableCount n
  pub few : length rows ≤ 64
  pub fit : Rows kind n rows
  pub ordered : IsOrdering n order

-- a limit of one of the n variables is from 1 to 4,096
abbrev pub Ranged : Meaning → Type 0
Ranged m =
    (n : ℕ) (rows : List Shown) (order : List ℕ) → OnSheet n rows order →
    (p v d : ℕ) → p < length rows → 1 ≤ v → v ≤ n →
    m rows order p v ≡ Some d →
    (1 ≤ d) × (d ≤ 4096)

-- of two rows of one family, the one with the smaller exponent in the greatest variable in which
-- they differ has a limit there, and it is at most the difference
abbrev pub Separates : Meaning → Type 0
Separates m =
    (n : ℕ) (rows : List Shown) (order : List ℕ) → OnSheet n rows order →
    (p q k : ℕ) → p < length rows → q < length rows →
    let u = row rows p in
    let w = row rows q in
    let v = at order k in
    PartAt order k u w →
    (d : ℕ) × (m rows order p v ≡ Some d) × (exponent u v + d ≤ exponent w v)

-- two orderings that list the same variables in the same order down to one give it the same limit
abbrev pub FromTheTop : Meaning → Type 0
FromTheTop m =
    (n : ℕ) (rows : List Shown) (order other : List ℕ) →
    OnSheet n rows order → OnSheet n rows other →
    (k p : ℕ) → k < n → p < length rows →
    take (suc k) order ≡ take (suc k) other →
    m rows order p (at order k) ≡ m rows other p (at order k)

-- what a division means keeps the three laws
pub record Lawful (m : Meaning) : Type 0 where
  pub range : Ranged m
  pub separation : Separates m
  pub from_the_top : FromTheTop m
