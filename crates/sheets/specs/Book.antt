-- The plain book that a sheet is read as, and what calls do to it. Assumes nothing.
use Rattle.std.specs.Prelude.{◌≡◌, ℕ, ◌<◌, ◌≤◌, Bool, List, [], ◌∷◌, ◌++◌, length, Some, None, Option}
use Rattle.std.specs.List.{ContainsAt}
use Rattle.elements.specs.Element.{Shown}
use Rattle.orderings.specs.Answer.{Answer, granted, refused, Check, check, Judged, Answers}
use Rattle.orderings.specs.Fit.{Admitted, Fit}
use Rattle.orderings.specs.Order.{VariableCount, IsOrdering}
use Rattle.orderings.specs.Rows.{row}
use Rattle.barcode.specs.Bars.{Star, bar_number}
use Rattle.divisions.specs.Laws.{Meaning}
use Rattle.cones.specs.Cones.{Limits, InCone, Complete, IsFirstShortfall}
use Rattle.search.specs.Prefixes.{padded}
use Rattle.search.specs.Liveness.{tested}
use Rattle.search.specs.Theorems.{FirstComplete, NoneComplete}
use Rattle.sheets.specs.Sheet.{PlaceCount, natural_order}

pub data State : Type 0 where
  opened : State
  settled_by : Meaning → State

-- the kind by the families that it admits, the variable count, the number of places, the rows from
-- place 0 on, the ordering and the state
pub record Book : Type 0 where
  pub admits : ℕ → Bool
  pub n : ℕ
  pub places : ℕ
  pub rows : List Shown
  pub order : List ℕ
  pub state : State

-- a call with what it is handed
pub data Call : Type 0 where
  insert : Shown → Call
  withdraw : Shown → Call
  arrange : List ℕ → Call
  bar : ℕ → ℕ → Call
  limit : Meaning → ℕ → ℕ → Call
  verdict : Meaning → Call
  weigh : Meaning → List ℕ → Call
  settle : Meaning → Call
  locate : Shown → Call
  reopen : Call

-- the calls that a state takes
abbrev pub Takes : State → Call → Type 0
Takes opened (insert e) = Unit {0}
Takes opened (withdraw e) = Unit {0}
Takes opened (arrange o) = Unit {0}
Takes opened (bar p v) = Unit {0}
Takes opened (limit d p v) = Unit {0}
Takes opened (verdict d) = Unit {0}
Takes opened (weigh d o) = Unit {0}
Takes opened (settle d) = Unit {0}
Takes opened (locate e) = ⊥
Takes opened reopen = ⊥
Takes (settled_by m) (insert e) = ⊥
Takes (settled_by m) (withdraw e) = ⊥
Takes (settled_by m) (arrange o) = ⊥
Takes (settled_by m) (bar p v) = ⊥
Takes (settled_by m) (limit d p v) = ⊥
Takes (settled_by m) (verdict d) = ⊥
Takes (settled_by m) (weigh d o) = ⊥
Takes (settled_by m) (settle d) = ⊥
Takes (settled_by m) (locate e) = Unit {0}
Takes (settled_by m) reopen = Unit {0}

-- the limits by which a settled book's cones are drawn: those of its ordering and division
abbrev pub state_limits : State → List Shown → List ℕ → Limits
state_limits opened rows order = λ p v. None
state_limits (settled_by m) rows order = m rows order

-- the row at place s has the element in its cone
abbrev pub Located : Book → Shown → ℕ → Type 0
Located b e s = InCone b.n b.rows (state_limits b.state b.rows b.order) s e

-- a place with a row, and one of the n variables
pub record HasBar (b : Book) (p v : ℕ) : Type 0 where
  pub place : p < length b.rows
  pub low : 1 ≤ v
  pub high : v ≤ b.n

-- what a call asks of what it is handed and of the book, in the order of the refusals
abbrev pub asks : Book → Call → List Check
asks b (insert e) =
    check 9 (Fit b.admits b.n e) ∷ check 13 (ContainsAt b.rows e → ⊥) ∷
    check 14 (length b.rows < b.places) ∷ []
asks b (withdraw e) = check 9 (Fit b.admits b.n e) ∷ check 15 (ContainsAt b.rows e) ∷ []
asks b (arrange o) = check 11 (IsOrdering b.n o) ∷ []
asks b (bar p v) = check 10 (HasBar b p v) ∷ []
asks b (limit d p v) = check 10 (HasBar b p v) ∷ []
asks b (verdict d) = check 12 (1 ≤ length b.rows) ∷ []
asks b (settle d) = check 12 (1 ≤ length b.rows) ∷ []
asks b (locate e) = check 9 (Admitted b.admits b.n e) ∷ check 17 ((s : ℕ) × Located b e s) ∷ []
asks b reopen = []
asks b (weigh d o) = check 11 (IsOrdering b.n o) ∷ check 12 (1 ≤ length b.rows) ∷ []

abbrev pub checks : Book → Call → List Check
checks b call = check 3 (Takes b.state call) ∷ asks b call

abbrev pub with_rows : Book → List Shown → Book
with_rows b rows = record {
  admits = b.admits;
  n = b.n;
  places = b.places;
  rows = rows;
  order = b.order;
  state = b.state;
}

abbrev pub with_order : Book → List ℕ → Book
with_order b order = record {
  admits = b.admits;
  n = b.n;
  places = b.places;
  rows = b.rows;
  order = order;
  state = b.state;
}

abbrev pub with_state : Book → State → Book
with_state b state = record {
  admits = b.admits;
  n = b.n;
  places = b.places;
  rows = b.rows;
  order = b.order;
  state = state;
}

-- settling writes the first ordering, as prefixes are listed, that makes the rows complete by the
-- division, and the division; where no ordering does, nothing changes
pub data BecomesSettled (b : Book) (d : Meaning) : Book → Type 0 where
  first : {p : List ℕ} → FirstComplete d b.n b.rows p →
      BecomesSettled b d (with_state (with_order b (padded p)) (settled_by d))
  none : NoneComplete d b.n b.rows → BecomesSettled b d b

-- what a call that is not refused makes of the book
abbrev pub Becomes : Book → Call → Book → Type 0
Becomes b (insert e) c = c ≡ with_rows b (b.rows ++ e ∷ [])
Becomes b (withdraw e) c =
    (front : List Shown) × (back : List Shown) × (b.rows ≡ front ++ e ∷ back) ×
    (c ≡ with_rows b (front ++ back))
Becomes b (arrange o) c = c ≡ with_order b o
Becomes b (bar p v) c = c ≡ b
Becomes b (limit d p v) c = c ≡ b
Becomes b (verdict d) c = c ≡ b
Becomes b (weigh d o) c = c ≡ b
Becomes b (settle d) c = BecomesSettled b d c
Becomes b (locate e) c = c ≡ b
Becomes b reopen c = c ≡ with_state b opened

-- a bar is told by its number, and 1 where a star follows it or else 0
pub data TellsBar (rows : List Shown) (order : List ℕ) (u : Shown) (v : ℕ) : Answer → Type 0 where
  starred : Star rows order u v →
      TellsBar rows order u v (granted (bar_number rows order u v ∷ 1 ∷ []))
  unstarred : (Star rows order u v → ⊥) →
      TellsBar rows order u v (granted (bar_number rows order u v ∷ 0 ∷ []))

-- a limit is told by itself, and its absence by nothing
abbrev pub limit_told : Option ℕ → List ℕ
limit_told None = []
limit_told (Some d) = d ∷ []

-- an element is told by its family and its exponents
abbrev pub element_told : Shown → List ℕ
element_told e = e.family ∷ e.exponents

-- a verdict is told by 1 for yes or 0 for no, a place, a variable, a power and an element.
-- Yes exactly where the rows are complete: then the numbers are 0 and the element is the row at
-- place 0.
-- Else the first shortfall: the place of its row, its variable and its power, and the row itself
pub data TellsVerdict (n : ℕ) (rows : List Shown) (lim : Limits) : Answer → Type 0 where
  complete : Complete n rows lim →
      TellsVerdict n rows lim (granted (1 ∷ 0 ∷ 0 ∷ 0 ∷ element_told (row rows 0)))
  short : {p v m : ℕ} → (Complete n rows lim → ⊥) → IsFirstShortfall n rows lim p v m →
      TellsVerdict n rows lim (granted (0 ∷ p ∷ v ∷ m ∷ element_told (row rows p)))

-- a settling is told by the count of tested prefixes and the ordering's eight bytes; where no
-- ordering serves, by 16 and the count
pub data TellsSettled (n : ℕ) (rows : List Shown) (d : Meaning) : Answer → Type 0 where
  serving : {p : List ℕ} → FirstComplete d n rows p →
      TellsSettled n rows d (granted (length (tested d n rows) ∷ padded p))
  unserved : NoneComplete d n rows →
      TellsSettled n rows d (refused 16 (length (tested d n rows) ∷ []))

-- what a call that is not refused by its checks answers
abbrev pub Tells : Book → Call → Answer → Type 0
Tells b (insert e) a = a ≡ granted (length b.rows ∷ [])
Tells b (withdraw e) a = a ≡ granted []
Tells b (arrange o) a = a ≡ granted []
Tells b (bar p v) a = TellsBar b.rows b.order (row b.rows p) v a
Tells b (limit d p v) a = a ≡ granted (limit_told (d b.rows b.order p v))
Tells b (verdict d) a = TellsVerdict b.n b.rows (d b.rows b.order) a
Tells b (weigh d o) a = TellsVerdict b.n b.rows (d b.rows o) a
Tells b (settle d) a = TellsSettled b.n b.rows d a
Tells b (locate e) a = (s : ℕ) × Located b e s × (a ≡ granted (s ∷ []))
Tells b reopen a = a ≡ granted []

-- the book after a call: a refused call changes nothing
abbrev pub Follows : Book → Call → Book → Type 0
Follows b call c = Judged (λ _. b) (checks b call) (Becomes b call) c

-- the answer to a call
abbrev pub Answered : Book → Call → Answer → Type 0
Answered b call a = Answers (checks b call) (Tells b call) a

-- the book of a sheet that was just opened
abbrev pub fresh : (ℕ → Bool) → ℕ → ℕ → Book
fresh admits n places = record {
  admits = admits;
  n = n;
  places = places;
  rows = [];
  order = natural_order n;
  state = opened;
}

-- what open asks: the variable count, the number of places, eight order bytes
abbrev pub open_asks : ℕ → ℕ → ℕ → List Check
open_asks n places bytes =
    check 5 (VariableCount n) ∷ check 6 (PlaceCount places) ∷ check 7 (bytes ≡ 8) ∷ []
