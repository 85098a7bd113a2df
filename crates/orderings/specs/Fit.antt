-- Which elements a sheet of n variables takes. Assumes nothing.
use Rattle.std.specs.Prelude.{◌≡◌, ℕ, ◌<◌, ◌≤◌, Bool, true, length}
use Rattle.elements.specs.Element.{Shown, exponent}

-- an element of the kind in n variables: a family to 255 that the kind admits, and eight exponents
-- to 65,535, which are 0 for the variables above n
pub record Admitted (admits : ℕ → Bool) (n : ℕ) (e : Shown) : Type 0 where
  pub family : admits e.family ≡ true
  pub byte : e.family ≤ 255
  pub eight : length e.exponents ≡ 8
  pub bound : (v : ℕ) → exponent e v ≤ 65535
  pub unused : (v : ℕ) → n < v → exponent e v ≡ 0

-- such an element that may be a row: no exponent is above 4,095
pub record Fit (admits : ℕ → Bool) (n : ℕ) (e : Shown) : Type 0 where
  pub admitted : Admitted admits n e
  pub small : (v : ℕ) → exponent e v ≤ 4095
