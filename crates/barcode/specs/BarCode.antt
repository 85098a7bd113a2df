-- What a Bar Code tells at the row of a place. Assumes nothing.
use Rattle.std.specs.Prelude.{◌≡◌, ℕ, ◌<◌, ◌≤◌, Bool, List, [], map, length, Option, IsSome, IsNone}
use Rattle.elements.specs.Element.{Shown}
use Rattle.elements.specs.declared.Element as element
use Rattle.orderings.specs.Rows.{row}
use Rattle.barcode.specs.declared.bar_code.BarCode.{BarCode}
use Rattle.barcode.specs.Bars.{Star, bar_number, opens_bar}
use Rattle.barcode.specs.Exceeded.{IsExceeded, is_exceeded}
use Rattle.barcode.specs.Gap.{gap, IsGap}

module _ {E : Type 0} {e : element.Ghosts E} (b : BarCode E e) where
  -- what the rows show
  abbrev pub rows_of : List Shown
  rows_of = map e.shown b.rows.now

  -- the ordering, or any other list of variables
  abbrev pub order_of : List ℕ
  order_of = b.order.now

  -- the place has a row
  abbrev pub HasRow : ℕ → Type 0
  HasRow place = place < length b.rows.now

  -- the place has no row
  abbrev pub HasNoRow : ℕ → Type 0
  HasNoRow place = length b.rows.now ≤ place

  -- what the row of a place shows
  abbrev pub row_at : ℕ → Shown
  row_at place = row rows_of place

  -- the gap of a variable at the row of a place, if there is one
  abbrev pub gap_at : ℕ → ℕ → Option ℕ
  gap_at place variable = gap rows_of order_of place variable

  -- this is the gap of the variable at the row of the place, or there is none
  abbrev pub IsGapOf : ℕ → ℕ → Option ℕ → Type 0
  IsGapOf place variable m = IsGap rows_of order_of (row_at place) variable m

  -- the bar of the variable under the row of the place is followed by a star
  abbrev pub HasStar : ℕ → ℕ → Type 0
  HasStar place variable = Star rows_of order_of (row_at place) variable

  -- some row of the family has a greater exponent in the variable than the row of the place
  abbrev pub IsExceededAt : ℕ → ℕ → Type 0
  IsExceededAt place variable = IsExceeded rows_of place variable

  -- the test of this
  abbrev pub exceeded_at : ℕ → ℕ → Bool
  exceeded_at place variable = is_exceeded rows_of place variable

  -- whether no row before a place lies over its bar of a variable
  abbrev pub opens_at : ℕ → ℕ → Bool
  opens_at place variable = opens_bar rows_of order_of variable place place

  -- the number of the bar of a variable under the row of a place
  abbrev pub number_at : ℕ → ℕ → ℕ
  number_at place variable = bar_number rows_of order_of (row_at place) variable

  -- for each row it is known which rows agree with it in the first k variables
  abbrev pub KnowsBars : ℕ → Type 0
  KnowsBars k = k < length b.bars.now

  -- no bars are known
  abbrev pub KnowsNoBars : Type 0
  KnowsNoBars = b.bars.now ≡ []

  -- the increasing order of the rows is known
  abbrev pub KnowsSorting : Type 0
  KnowsSorting = IsSome b.sorting

  -- the increasing order of the rows is not known
  abbrev pub KnowsNoSorting : Type 0
  KnowsNoSorting = IsNone b.sorting

  -- the greatest exponents of the rows are known
  abbrev pub KnowsGreatest : Type 0
  KnowsGreatest = IsSome b.greatest

  -- the greatest exponents of the rows are not known
  abbrev pub KnowsNoGreatest : Type 0
  KnowsNoGreatest = IsNone b.greatest
