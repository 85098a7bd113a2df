-- How the parts of a sheet are read, and what a call on them comes to. Assumes nothing.
use Rattle.std.specs.Prelude.{◌≡◌, ℕ, Bool, if◌then◌else◌, List, [], ◌∷◌, map, take, IfOk, Ok, Err, vec_items, vec_len, Result, MatchResult}
use Rattle.elements.specs.Element.{Shown}
use Rattle.orderings.specs.Answer.{Answer, granted, refused, refusal, Answers}
use Rattle.divisions.specs.Laws.{Meaning}
use Rattle.sheets.specs.declared.parts.Parts.{Parts}
use Rattle.sheets.specs.declared.open_sheet.OpenSheet.{OpenSheet}
use Rattle.sheets.specs.declared.settled_sheet.SettledSheet.{SettledSheet}
use Rattle.sheets.specs.declared.answers.Denied.{Denied}
use Rattle.sheets.specs.declared.answers.Bar.{Bar}
use Rattle.sheets.specs.declared.answers.Verdict.{Verdict}
use Rattle.sheets.specs.declared.answers.ServingOrdering.{ServingOrdering}
use Rattle.sheets.specs.Sheet.{Makes}
use Rattle.sheets.specs.Book.{Book, State, opened, settled_by, Call, Follows, Answered, element_told, fresh, open_asks}
use Rattle.sheets.specs.History.{History, just_opened, and_then, OpenedThenWentThrough, HoldsAfterEveryCall}

-- what the places of the table show
abbrev pub places_of : {E : Type 0} → (E → Shown) → Parts E → List Shown
places_of shown p = map shown (vec_items p.table)

-- and the first of them, which are the rows, as many as the header says
abbrev pub rows_of : {E : Type 0} → (E → Shown) → Parts E → List Shown
rows_of shown p = take p.header.rows (places_of shown p)

-- the order bytes
abbrev pub order_of : {E : Type 0} → Parts E → List ℕ
order_of p = vec_items p.order

-- bar's values
abbrev pub bar_told : Bar → List ℕ
bar_told b = b.number ∷ (if b.star then 1 else 0) ∷ []

-- the values of a verdict
abbrev pub verdict_told : {E : Type 0} → (E → Shown) → Verdict E → List ℕ
verdict_told shown v =
    (if v.complete then 1 else 0) ∷ v.place ∷ v.variable ∷ v.power ∷ element_told (shown v.element)

-- the values of a settling
abbrev pub serving_told : ServingOrdering → List ℕ
serving_told s = s.tested ∷ s.ordering

-- the division by which a sheet was settled
abbrev pub settled_division : {E D : Type 0} → SettledSheet E D → D
settled_division s = s.division

-- the state of a settled sheet
abbrev pub settled_state : {E D : Type 0} → (D → Meaning) → SettledSheet E D → State
settled_state meaning s = settled_by (meaning (settled_division s))

-- of a call that takes its sheet: the answer, and what is read of what it gives or else hands back
module _ {X Y : Type 0} where
  abbrev pub outcome_answer : (Y → List ℕ) → Result Y (Denied X) → Answer
  outcome_answer tells (Ok y) = granted (tells y)
  outcome_answer tells (Err d) = refusal d.why

  abbrev pub outcome_of : {Z : Type 0} → (X → Z) → (Y → Z) → Result Y (Denied X) → Z
  outcome_of old new (Ok y) = new y
  outcome_of old new (Err d) = old d.back

module _ {E : Type 0} (admits : ℕ → Bool) (shown : E → Shown) where
  -- the parts make a sheet of the kind
  abbrev pub MakesSheet : Parts E → Type 0
  MakesSheet p = Makes admits p.header.variables p.header.rows (places_of shown p) (order_of p)

  -- the parts, with a state, as a book
  abbrev pub book : State → Parts E → Book
  book state p = record {
    admits = admits;
    n = p.header.variables;
    places = vec_len p.table;
    rows = rows_of shown p;
    order = order_of p;
    state = state;
  }

  -- the book of a sheet fixes the whole of it: table, order bytes and header
  abbrev pub ABookFixesItsSheet : Type 0
  ABookFixesItsSheet =
      (state : State) (p q : Parts E) → MakesSheet p → MakesSheet q → book state p ≡ book state q →
      (vec_items p.table ≡ vec_items q.table) × (vec_items p.order ≡ vec_items q.order) ×
      (p.header ≡ q.header)

  -- after a history the parts, in a state, equal the plain book: they make a sheet, and their
  -- rows by place, their ordering, the state and with it the division are those of the book that
  -- went through it
  pub record EqualsThePlainBook (h : History) (state : State) (parts : Parts E) : Type 0 where
    pub makes_sheet : MakesSheet parts
    pub reached : OpenedThenWentThrough admits h (book state parts)

  -- and all holds that is promised of that book
  pub record IsAsPromised (h : History) (state : State) (parts : Parts E) : Type 0 where
    pub equals_the_plain_book : EqualsThePlainBook h state parts
    pub holds_after_every_call : HoldsAfterEveryCall admits h (book state parts)

  module _ (state : State) (before : Parts E) (call : Call) (told : Answer)
      (next : State) (after : Parts E) where
    -- a call on any parts, in a state, with the answer and the state and parts after it: where
    -- they make a sheet it is a step of the book, and else 8; what is refused alters nothing
    pub record FollowsThePlainBook : Type 0 where
      pub makes_sheet : MakesSheet before → MakesSheet after
      pub follows : MakesSheet before → Follows (book state before) call (book next after)
      pub answered : MakesSheet before → Answered (book state before) call told
      pub refused_by_8 : (MakesSheet before → ⊥) → told ≡ refused 8 []
      pub refused_alters_nothing :
          (r : ℕ) (vs : List ℕ) → told ≡ refused r vs → (next ≡ state) × (after ≡ before)

    -- whichever history led to the parts, after this call too they are as promised
    abbrev pub EqualsThePlainBookAfterEveryCall : Type 0
    EqualsThePlainBookAfterEveryCall =
        (h : History) → EqualsThePlainBook h state before →
        IsAsPromised (and_then h call told) next after

    -- what every call on a sheet keeps
    pub record ActsAsPromised : Type 0 where
      pub follows_the_plain_book : FollowsThePlainBook
      pub after_every_call : EqualsThePlainBookAfterEveryCall

  -- a call that leaves an open sheet open
  abbrev pub StaysOpenAsPromised : OpenSheet E → Call → Answer → OpenSheet E → Type 0
  StaysOpenAsPromised before call told after =
      ActsAsPromised opened before.parts call told opened after.parts

  -- what open keeps: it is refused by 5, 6 or 7 with the parts as they were, or gives the fresh
  -- book, with which a history begins
  pub record OpensAsPromised (before : Parts E) (result : Result (OpenSheet E) (Denied (Parts E))) :
      Type 0 where
    pub answered :
        Answers (open_asks before.header.variables (vec_len before.table) (vec_len before.order))
        (λ a. a ≡ granted []) (outcome_answer (λ _. []) result)
    pub outcome : MatchResult result
        (λ s. MakesSheet s.parts ×
        (book opened s.parts ≡ fresh admits before.header.variables (vec_len before.table)))
        (λ d. d.back ≡ before)
    pub once_opened : IfOk result
        (λ s. IsAsPromised (just_opened before.header.variables (vec_len before.table))
        opened s.parts)
