-- The calls that a sheet went through, and what is promised of the book that they make. Assumes
-- nothing.
use Rattle.std.specs.Prelude.{◌≡◌, ℕ, ◌<◌, ◌≤◌, ◌↔◌, Bool, List, [], ◌∷◌, ◌++◌, length}
use Rattle.elements.specs.Element.{Shown, Divides}
use Rattle.orderings.specs.Answer.{Answer, granted, refused}
use Rattle.orderings.specs.Fit.{Admitted}
use Rattle.orderings.specs.Order.{VariableCount, IsOrdering}
use Rattle.orderings.specs.Rows.{row}
use Rattle.divisions.specs.Laws.{Meaning, Lawful}
use Rattle.divisions.specs.Janet.{janet_like as janet_like_division}
use Rattle.cones.specs.Cones.{Complete}
use Rattle.search.specs.Theorems.{NoneComplete}
use Rattle.sheets.specs.Sheet.{PlaceCount}
use Rattle.sheets.specs.Book.{Book, opened, settled_by, Call, insert, withdraw, arrange, bar, limit, verdict, weigh, settle, locate, reopen, Located, Follows, Answered, fresh}

-- calls one after another, each answered by the book before it
pub data Run : Book → List Call → List Answer → Book → Type 0 where
  over : {b : Book} → Run b [] [] b
  next : {b c d : Book} {call : Call} {told : Answer} {calls : List Call} {answers : List Answer} →
      Answered b call told → Follows b call c → Run c calls answers d →
      Run b (call ∷ calls) (told ∷ answers) d

-- a division that a call brings is lawful
abbrev pub LawfulCall : Call → Type 0
LawfulCall (insert e) = Unit {0}
LawfulCall (withdraw e) = Unit {0}
LawfulCall (arrange o) = Unit {0}
LawfulCall (bar p v) = Unit {0}
LawfulCall (limit d p v) = Lawful d
LawfulCall (verdict d) = Lawful d
LawfulCall (weigh d o) = Lawful d
LawfulCall (settle d) = Lawful d
LawfulCall (locate e) = Unit {0}
LawfulCall reopen = Unit {0}

abbrev pub LawfulCalls : List Call → Type 0
LawfulCalls [] = Unit {0}
LawfulCalls (call ∷ calls) = LawfulCall call × LawfulCalls calls

-- for how many variables and places a sheet was opened, and the calls since, with their answers
pub record History : Type 0 where
  pub variables : ℕ
  pub places : ℕ
  pub calls : List Call
  pub answers : List Answer

-- the history of a sheet that was just opened
abbrev pub just_opened : ℕ → ℕ → History
just_opened variables places =
    record { variables = variables; places = places; calls = []; answers = [] }

-- a history and one call more
abbrev pub and_then : History → Call → Answer → History
and_then h call told = record {
  variables = h.variables;
  places = h.places;
  calls = h.calls ++ call ∷ [];
  answers = h.answers ++ told ∷ [];
}

-- a plain book of a kind that was opened and then went through these calls, each lawful and
-- answered so, and through nothing else
pub record OpenedThenWentThrough (admits : ℕ → Bool) (h : History) (b : Book) : Type 0 where
  pub variable_count : VariableCount h.variables
  pub place_count : PlaceCount h.places
  pub lawful : LawfulCalls h.calls
  pub run : Run (fresh admits h.variables h.places) h.calls h.answers b

-- the calls of a history make no other book of a fresh one, and are answered in no other way
abbrev pub NoOtherOutcome : (ℕ → Bool) → History → Book → Type 0
NoOtherOutcome admits h b =
    (answers : List Answer) (c : Book) →
    Run (fresh admits h.variables h.places) h.calls answers c → (answers ≡ h.answers) × (c ≡ b)

-- w is a multiple of a row
abbrev pub Multiple : Book → Shown → Type 0
Multiple b w = (p : ℕ) × (p < length b.rows) × Divides (row b.rows p) w

-- settling by d finds no ordering: it is answered by 16
abbrev pub SettlingFindsNone : Book → Meaning → Type 0
SettlingFindsNone b d = (count : ℕ) × Answered b (settle d) (refused 16 (count ∷ []))

-- open and with rows, settling by a division finds no ordering exactly when no ordering of the
-- variables makes the rows complete by it
abbrev pub NoFalseNone : Book → Type 0
NoFalseNone b =
    b.state ≡ opened → 1 ≤ length b.rows → (d : Meaning) → Lawful d →
    SettlingFindsNone b d ↔ NoneComplete d b.n b.rows

-- settled, every multiple of a row, of any size, lies in exactly one cone
abbrev pub OneConeForEachMultiple : Book → Type 0
OneConeForEachMultiple b =
    (m : Meaning) → b.state ≡ settled_by m → (w : Shown) → Multiple b w →
    (s : ℕ) × Located b w s × ((t : ℕ) → Located b w t → t ≡ s)

-- settled, locating names that cone's row for each admitted multiple
abbrev pub LocatingNamesThatCone : Book → Type 0
LocatingNamesThatCone b =
    (m : Meaning) → b.state ≡ settled_by m →
    (e : Shown) → Admitted b.admits b.n e → Multiple b e →
    (s : ℕ) × Located b e s × Answered b (locate e) (granted (s ∷ []))

-- settled, locating finds no cone for any other admitted element
abbrev pub LocatingFindsNoOther : Book → Type 0
LocatingFindsNoOther b =
    (m : Meaning) → b.state ≡ settled_by m →
    (e : Shown) → Admitted b.admits b.n e → (Multiple b e → ⊥) →
    Answered b (locate e) (refused 17 [])

-- rows that one division makes complete under an ordering are complete under it by Janet-like
-- division too
abbrev pub JanetLikeCompletesToo : Book → Type 0
JanetLikeCompletesToo b =
    (d : Meaning) → Lawful d → (order : List ℕ) → IsOrdering b.n order →
    Complete b.n b.rows (d b.rows order) → Complete b.n b.rows (janet_like_division b.rows order)

-- what is promised of a book after every call of its history, whichever lawful divisions they
-- brought
pub record HoldsAfterEveryCall (admits : ℕ → Bool) (h : History) (b : Book) : Type 0 where
  pub no_other_outcome : NoOtherOutcome admits h b
  pub no_false_none : NoFalseNone b
  pub one_cone_for_each_multiple : OneConeForEachMultiple b
  pub locating_names_that_cone : LocatingNamesThatCone b
  pub locating_finds_no_other : LocatingFindsNoOther b
  pub janet_like_completes_too : JanetLikeCompletesToo b
