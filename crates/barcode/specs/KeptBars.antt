-- What is known of the bars of some rows. Assumes nothing.
use Rattle.std.specs.Prelude.{ℕ, ◌<◌, ◌≤◌, List, length}
use Rattle.elements.specs.declared.Element as element
use Rattle.barcode.specs.declared.bars.Bars.{Bars}
use Rattle.barcode.specs.BarSets.{Knows, StartsAs}

module _ {E : Type 0} {e : element.Ghosts E} (b : Bars E e) where
  -- the rows are few enough for their bars to be kept
  abbrev pub HasFewRows : Type 0
  HasFewRows = length b.rows.now ≤ 64

  -- the rows are too many for their bars to be kept
  abbrev pub HasManyRows : Type 0
  HasManyRows = 64 < length b.rows.now

  -- the bars of the first variables of an order are known: of as many as are asked for, if it has
  -- so many, and of eight at most
  abbrev pub KnowsFirst : List ℕ → ℕ → Type 0
  KnowsFirst order most = Knows order most b.listed b.known

  -- the bars of at least k variables are known
  abbrev pub KnowsSoMany : ℕ → Type 0
  KnowsSoMany k = k ≤ b.known

  -- the first k of them are the first of an order
  abbrev pub FollowsOrder : List ℕ → ℕ → Type 0
  FollowsOrder order k = StartsAs b.listed order k
