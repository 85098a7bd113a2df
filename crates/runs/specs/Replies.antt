-- How requests, replies and sheets of either state are read as calls, answers and books, and what
-- is promised of them. Assumes nothing.
use Rattle.std.specs.Prelude.{◌≡◌, ℕ, Bool, List, [], ◌∷◌, map, Some, None, Ok, Err, vec_len, Option, Result}
use Rattle.elements.specs.Element.{Shown}
use Rattle.orderings.specs.Answer.{Answer, granted, refused, refusal, Answers}
use Rattle.divisions.specs.Laws.{Meaning}
use Rattle.sheets.specs.declared.parts.Parts.{Parts}
use Rattle.sheets.specs.declared.answers.Denied.{Denied}
use Rattle.sheets.specs.Book.{Book, State, opened, Call, insert, withdraw, arrange, bar, limit, verdict, weigh, settle, locate, reopen, limit_told, Takes, Follows, Answered, open_asks}
use Rattle.sheets.specs.History.{History, just_opened}
use Rattle.sheets.specs.Read.{MakesSheet, book, EqualsThePlainBook, IsAsPromised, EqualsThePlainBookAfterEveryCall, OpensAsPromised, bar_told, verdict_told, serving_told, settled_state}
use Rattle.runs.specs.declared.requests.Request.{Request}
use Rattle.runs.specs.declared.requests.Request.TheVariants.{Insert, Withdraw, Arrange, Bar, Limit, Verdict, Weigh, Settle, Locate, Reopen}
use Rattle.runs.specs.declared.requests.Grant.{Grant}
use Rattle.runs.specs.declared.requests.Grant.TheVariants.{Done, Place, Settled as Found, Bar as TellBar, Limit as TellLimit, Verdict as TellVerdict}
use Rattle.runs.specs.declared.requests.NotGranted.{NotGranted}
use Rattle.runs.specs.declared.requests.NotGranted.TheVariants.{NotTaken, Refused}
use Rattle.runs.specs.declared.requests.Exchange.{Exchange}
use Rattle.runs.specs.declared.requests.Sheet.{Sheet}
use Rattle.runs.specs.declared.requests.Sheet.TheVariants.{Open, Settled}

-- a reply: what a grant tells, or why there is none
abbrev pub Reply : Type 0 → Type 0
Reply E = Result (Grant E) NotGranted

-- the parts of a sheet of either state
abbrev pub parts_of : {E D : Type 0} → Sheet E D → Parts E
parts_of (Open s) = s.parts
parts_of (Settled s) = s.parts

abbrev pub state_of : {E D : Type 0} → (D → Meaning) → Sheet E D → State
state_of meaning (Open s) = opened
state_of meaning (Settled s) = settled_state meaning s

module _ {E : Type 0} (shown : E → Shown) where
  abbrev pub call_of : {D : Type 0} → (D → Meaning) → Request E D → Call
  call_of meaning (Insert e) = insert (shown e)
  call_of meaning (Withdraw e) = withdraw (shown e)
  call_of meaning (Arrange list) = arrange list.now
  call_of meaning (Bar p v) = bar p v
  call_of meaning (Limit d p v) = limit (meaning d) p v
  call_of meaning (Verdict d) = verdict (meaning d)
  call_of meaning (Weigh d list) = weigh (meaning d) list.now
  call_of meaning (Settle d) = settle (meaning d)
  call_of meaning (Locate e) = locate (shown e)
  call_of meaning Reopen = reopen

  -- what a grant tells
  abbrev pub grant_told : Grant E → List ℕ
  grant_told Done = []
  grant_told (Place p) = p ∷ []
  grant_told (TellBar b) = bar_told b
  grant_told (TellLimit l) = limit_told l
  grant_told (TellVerdict v) = verdict_told shown v
  grant_told (Found serving) = serving_told serving

  abbrev pub answer_of : Reply E → Answer
  answer_of (Ok grant) = granted (grant_told grant)
  answer_of (Err NotTaken) = refused 3 []
  answer_of (Err (Refused why)) = refusal why

-- the forms that granted replies have
pub data Form : Type 0 where
  done : Form
  place : Form
  bars : Form
  limits : Form
  verdicts : Form
  settlings : Form

-- the form of a granted reply, and the form that a call asks for
abbrev pub grant_form : {E : Type 0} → Grant E → Form
grant_form Done = done
grant_form (Place p) = place
grant_form (TellBar b) = bars
grant_form (TellLimit l) = limits
grant_form (TellVerdict v) = verdicts
grant_form (Found serving) = settlings

abbrev pub form_of : {E : Type 0} → Reply E → Option Form
form_of (Ok grant) = Some (grant_form grant)
form_of (Err why) = None

abbrev pub asked_form : Call → Form
asked_form (insert e) = place
asked_form (withdraw e) = done
asked_form (arrange list) = done
asked_form (bar p v) = bars
asked_form (limit d p v) = limits
asked_form (verdict d) = verdicts
asked_form (weigh d list) = verdicts
asked_form (settle d) = settlings
asked_form (locate e) = place
asked_form reopen = done

-- a granted reply has the form of its call
abbrev pub HasItsForm :
    {E D : Type 0} → (E → Shown) → (D → Meaning) → Request E D → Reply E → Type 0
HasItsForm shown meaning request reply =
    (f : Form) → form_of reply ≡ Some f → f ≡ asked_form (call_of shown meaning request)

module _ {E D : Type 0} (shown : E → Shown) (meaning : D → Meaning) where
  -- a call is replied to at its place: the answer is told, in the form of the call
  pub record IsReplied (exchange : Exchange E D) (told : Answer) : Type 0 where
    pub reply : Reply E
    pub written : exchange.reply ≡ Some reply
    pub tells : answer_of shown reply ≡ told
    pub has_its_form : HasItsForm shown meaning exchange.request reply

  -- so is each of a list of calls
  abbrev pub AreReplied : List (Exchange E D) → List Answer → Type 0
  AreReplied [] [] = Unit {0}
  AreReplied [] (told ∷ answers) = ⊥
  AreReplied (exchange ∷ exchanges) [] = ⊥
  AreReplied (exchange ∷ exchanges) (told ∷ answers) =
      IsReplied exchange told × AreReplied exchanges answers

module _ {E D : Type 0} (admits : ℕ → Bool) (shown : E → Shown) (meaning : D → Meaning) where
  abbrev pub book_of : Sheet E D → Book
  book_of s = book admits shown (state_of meaning s) (parts_of s)

  -- one call on any sheet, whatever its parts: where they make a sheet it is a step of the book;
  -- 3 where the state does not take the call, and else 8; what is refused alters nothing
  pub record StepFollowsThePlainBook (before : Sheet E D) (request : Request E D)
      (after : Sheet E D) (reply : Reply E) : Type 0 where
    pub makes_sheet :
        MakesSheet admits shown (parts_of before) → MakesSheet admits shown (parts_of after)
    pub follows :
        MakesSheet admits shown (parts_of before) →
        Follows (book_of before) (call_of shown meaning request) (book_of after)
    pub answered :
        MakesSheet admits shown (parts_of before) →
        Answered (book_of before) (call_of shown meaning request) (answer_of shown reply)
    pub refused_by_3 :
        (Takes (state_of meaning before) (call_of shown meaning request) → ⊥) →
        answer_of shown reply ≡ refused 3 []
    pub refused_by_8 :
        Takes (state_of meaning before) (call_of shown meaning request) →
        (MakesSheet admits shown (parts_of before) → ⊥) →
        answer_of shown reply ≡ refused 8 []
    pub refused_alters_nothing :
        (r : ℕ) (vs : List ℕ) → answer_of shown reply ≡ refused r vs → after ≡ before
    pub has_its_form : HasItsForm shown meaning request reply

  -- after a history the sheet equals the plain book
  abbrev pub SheetEqualsThePlainBook : History → Sheet E D → Type 0
  SheetEqualsThePlainBook h sheet =
      EqualsThePlainBook admits shown h (state_of meaning sheet) (parts_of sheet)

  -- and is as promised
  abbrev pub SheetIsAsPromised : History → Sheet E D → Type 0
  SheetIsAsPromised h sheet = IsAsPromised admits shown h (state_of meaning sheet) (parts_of sheet)

  -- whichever history led to a sheet, after one call more it is as promised
  abbrev pub StepEqualsThePlainBookAfterEveryCall :
      Sheet E D → Request E D → Sheet E D → Reply E → Type 0
  StepEqualsThePlainBookAfterEveryCall before request after reply =
      EqualsThePlainBookAfterEveryCall admits shown (state_of meaning before) (parts_of before)
      (call_of shown meaning request) (answer_of shown reply)
      (state_of meaning after) (parts_of after)

  -- an opening over the parts is granted
  abbrev pub GrantsOpening : Parts E → Type 0
  GrantsOpening parts =
      Answers (open_asks parts.header.variables (vec_len parts.table) (vec_len parts.order))
      (λ a. a ≡ granted []) (granted [])

  -- a sheet that is opened over the parts is as promised before any call; an opening that is
  -- refused hands them back
  abbrev pub BeginsAsPromised : Parts E → Result (Sheet E D) (Denied (Parts E)) → Type 0
  BeginsAsPromised parts (Ok sheet) =
      GrantsOpening parts ×
      SheetIsAsPromised (just_opened parts.header.variables (vec_len parts.table)) sheet
  BeginsAsPromised parts (Err denied) = OpensAsPromised admits shown parts (Err denied)

  -- calls on a sheet that is opened for them: each is replied to at its place, none is another than
  -- before, and after all of them the sheet is as promised
  pub record RepliesToAll (parts : Parts E) (before after : List (Exchange E D))
      (sheet : Sheet E D) : Type 0 where
    pub grants_opening : GrantsOpening parts
    pub same_requests : map (λ x. x.request) after ≡ map (λ x. x.request) before
    pub answers : List Answer
    pub are_replied : AreReplied shown meaning after answers
    pub is_as_promised : SheetIsAsPromised
        (record {
          variables = parts.header.variables;
          places = vec_len parts.table;
          calls = map (λ x. call_of shown meaning x.request) after;
          answers = answers;
        })
        sheet

  -- every call is replied to, or the opening is refused and nothing is written
  abbrev pub ReplaysAsPromised :
      Parts E → List (Exchange E D) → List (Exchange E D) →
      Result (Sheet E D) (Denied (Parts E)) → Type 0
  ReplaysAsPromised parts before after (Ok sheet) = RepliesToAll parts before after sheet
  ReplaysAsPromised parts before after (Err denied) =
      OpensAsPromised admits shown parts (Err denied) × (after ≡ before)
