-- How the session's results and lines are read. Assumes nothing.
use Rattle.std.specs.Prelude.{◌≡◌, ℕ, suc, ◌-◌, if◌then◌else◌, List, [], ◌∷◌, map, take, Some, None, Ok, Err, codes, decimal, Result, ◌==◌, slice_index, slice_index_or}
use Rattle.elements.specs.Element.{Shown}
use Rattle.orderings.specs.Answer.{Answer, granted, refused}
use Rattle.divisions.specs.Numbered.{Numbered, numbered_meaning}
use Rattle.sheets.specs.Book.{Book, State}
use Rattle.runs.specs.declared.requests.Request.{Request}
use Rattle.runs.specs.Replies.{call_of, Form, done, place as placed, bars, limits, verdicts, settlings}
use Rattle.lines.specs.declared.faults.Untaken.{Untaken}
use Rattle.lines.specs.declared.faults.Untaken.TheVariants.{WrongState, NoSuchDivision}
use Rattle.lines.specs.declared.lines.Line.{Line}
use Rattle.lines.specs.Line.{line_text}
use Rattle.lines.specs.Words.{spaced, hex}
use Rattle.logs.specs.Session.{TakesCode, Calls, Entry, Logged}

-- what the session decides: the call of the command, or that its state does not take it, or that
-- its division byte is none
abbrev pub Requested :
    {E : Type 0} → (E → Shown) → State → ℕ → List ℕ →
    Result (Request E Numbered) Untaken → Type 0
Requested shown state code operands (Ok request) =
    TakesCode state code × Calls code operands (Some (call_of shown numbered_meaning request))
Requested shown state code operands (Err WrongState) = TakesCode state code → ⊥
Requested shown state code operands (Err NoSuchDivision) =
    TakesCode state code × Calls code operands None

-- the form of what each code is answered, the codes in their order
abbrev pub forms : List Form
forms = placed ∷ done ∷ done ∷ verdicts ∷ verdicts ∷ settlings ∷ placed ∷ done ∷ []

-- the words for the values of a granted command: its place; yes, or the place, variable and power
-- of a shortfall; the count and the n entries of the ordering
abbrev pub values_words : Form → ℕ → List ℕ → List (List ℕ)
values_words done n vs = []
values_words placed n vs = map decimal (take 1 vs)
values_words verdicts n vs =
    let shortfall = slice_index vs 1 ∷ slice_index vs 2 ∷ slice_index vs 3 ∷ [] in
    (if slice_index vs 0 == 1 then codes "yes" ∷ [] else map decimal shortfall)
values_words settlings n vs = map decimal (take (suc n) vs)
values_words bars n vs = []
values_words limits n vs = []

-- `ok` and the values, or `no`, the number and its values
abbrev pub answer_words : Form → ℕ → Answer → List (List ℕ)
answer_words form n (granted vs) = codes "ok" ∷ values_words form n vs
answer_words form n (refused r vs) = codes "no" ∷ map decimal (r ∷ vs)

-- the line of a command on a sheet of n variables
abbrev pub entry_text : ℕ → Entry → List ℕ
entry_text n e =
    let form = slice_index_or forms (e.code - 1) done in
    spaced (decimal e.place ∷ hex e.code ∷ answer_words form n e.told)

-- the lines of a log that begins at place 2, on a book of n variables, and the place after its last
-- whole command
abbrev pub Lines : ℕ → Book → List ℕ → List Line → ℕ → Type 0
Lines n b log lines end =
    (entries : List Entry) × Logged b 2 log entries end ×
    (map line_text lines ≡ map (entry_text n) entries)
