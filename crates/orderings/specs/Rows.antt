-- The rows of a sheet. Assumes nothing.
use Rattle.std.specs.Prelude.{ℕ, ◌<◌, Bool, List, length, ◌≢◌, slice_index_or}
use Rattle.elements.specs.Element.{Shown, blank}
use Rattle.orderings.specs.Fit.{Fit}

-- the element at a place, which counts from 0; past the end, the blank
abbrev pub row : List Shown → ℕ → Shown
row rows p = slice_index_or rows p blank

-- elements that fit a sheet of n variables, no two of them the same
pub record Rows (admits : ℕ → Bool) (n : ℕ) (rows : List Shown) : Type 0 where
  pub fit : (p : ℕ) → p < length rows → Fit admits n (row rows p)
  pub different : (p q : ℕ) → p < q → q < length rows → row rows p ≢ row rows q
