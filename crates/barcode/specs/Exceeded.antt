-- Rows that are exceeded in a variable, and the greatest exponents, which tell them. Assumes
-- nothing.
use Rattle.std.specs.Prelude.{◌≡◌, ℕ, ◌<◌, Bool, ◌&&◌, List, length, EachIndex, SomeIndex, ◌==◌, nat_lt}
use Rattle.std.specs.List.{list_any}
use Rattle.elements.specs.Element.{Shown, entry, exponent}
use Rattle.orderings.specs.Rows.{row}

-- w is of the family of u, and has a greater exponent in v
pub record Exceeds (v : ℕ) (w u : Shown) : Type 0 where
  pub family : w.family ≡ u.family
  pub greater : exponent u v < exponent w v

-- the test of this
abbrev pub exceeds : ℕ → Shown → Shown → Bool
exceeds v w u = nat_lt (exponent u v) (exponent w v) && w.family == u.family

-- some row exceeds the row of a place in v
abbrev pub IsExceeded : List Shown → ℕ → ℕ → Type 0
IsExceeded rows p v = SomeIndex rows (λ q. Exceeds v (row rows q) (row rows p))

-- the test of this; where there is no row, none exceeds it
abbrev pub is_exceeded : List Shown → ℕ → ℕ → Bool
is_exceeded rows p v = nat_lt p (length rows) && list_any (λ w. exceeds v w (row rows p)) rows

-- all rows are of the family of the first
abbrev pub AreOfOneFamily : List Shown → Type 0
AreOfOneFamily rows = EachIndex rows (λ q. (row rows 0).family ≡ (row rows q).family)

-- these are the greatest exponents of rows of one family: a row is exceeded in a variable where its
-- exponent is smaller
abbrev pub TellExceeded : List Shown → List ℕ → Type 0
TellExceeded rows greatest =
    (p v : ℕ) → p < length rows →
    nat_lt (exponent (row rows p) v) (entry greatest v) ≡ is_exceeded rows p v
