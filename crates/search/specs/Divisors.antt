-- Which rows can divide the products of a row with the powers of a variable. Assumes nothing.
use Rattle.std.specs.Prelude.{◌≡◌, ℕ, ◌+◌, ◌-◌, ◌*◌, ◌<◌, ◌≤◌, ◌≢◌, IsTrue, ◌↔◌, List, length, slice_index_or}
use Rattle.elements.specs.Element.{Shown, exponent, Variable}
use Rattle.orderings.specs.Rows.{row}
use Rattle.places.specs.Places.{contains, IsEmpty}
use Rattle.places.specs.declared.Places.{Places}

-- u divides w, but for its exponent of variable v
pub record DividesBut (v : ℕ) (u w : Shown) : Type 0 where
  pub family : u.family ≡ w.family
  pub smaller : (y : ℕ) → Variable y → y ≢ v → exponent u y ≤ exponent w y

-- of the rows, the set has just the places of those that divide w but for variable v
abbrev pub HasDivisorsBut : ℕ → List Shown → Shown → Places → Type 0
HasDivisorsBut v rows w set =
    (s : ℕ) → s < length rows → (IsTrue (contains set s) ↔ DividesBut v (row rows s) w)

-- the places that a table has for variable v, which counts from 1, at the row of place q: eight
-- sets for each row
abbrev pub set_at : List Places → ℕ → ℕ → Places
set_at table q v = slice_index_or table (q * 8 + v - 1) (record { bits = 0 })

-- where a table has any place for a row and a variable, it has those of the rows that divide this
-- row but for that variable
abbrev pub Known : List Shown → List Places → Type 0
Known rows table =
    (q v : ℕ) → q < length rows → 1 ≤ v → v ≤ 8 → (IsEmpty (set_at table q v) → ⊥) →
    HasDivisorsBut v rows (row rows q) (set_at table q v)
