-- What a search keeps of the prefix where it stands. Assumes nothing.
use Rattle.std.specs.Prelude.{ℕ, List, Bool, Option, length, map}
use Rattle.elements.specs.Element.{Shown}
use Rattle.elements.specs.declared.Element as element
use Rattle.divisions.specs.Laws.{Meaning}
use Rattle.search.specs.Columns.{Written, TellsPrefix, Extended}
use Rattle.search.specs.declared.walk.Walk.{Walk}

module _ {E : Type 0} {e : element.Ghosts E} where
  -- what the rows show
  abbrev pub rows_of : Walk E e → List Shown
  rows_of w = map e.shown w.rows.now

  -- the tables tell the limits of the prefix p of n variables, and where the products lie
  abbrev pub IsAtPrefix : Meaning → ℕ → List ℕ → Walk E e → Type 0
  IsAtPrefix m n p w = TellsPrefix m n (rows_of w) p w.table.limits w.cones

  -- the limits of variable x are now by f, and all others are as they were
  abbrev pub WritesColumn : (ℕ → Option ℕ) → ℕ → Walk E e → Walk E e → Type 0
  WritesColumn f x old new = Written f x (length old.rows.now) old.table.limits new.table.limits

  -- the prefix p, which is q with one entry more, is taken in, and r tells whether it is live
  abbrev pub TakesIn : Meaning → ℕ → List ℕ → List ℕ → Bool → Walk E e → Walk E e → Type 0
  TakesIn m n q p r old new = Extended m n (rows_of old) q p r new.table.limits new.cones
