-- What holds of every input: the text tells the answers of the plain book, which is as promised
-- after every command. Assumes nothing.
use Rattle.std.specs.Prelude.{◌≡◌, ℕ, ◌≤◌, Bool, List, [], ◌∷◌, ◌++◌, map, length, codes, decimal}
use Rattle.orderings.specs.Order.{VariableCount}
use Rattle.sheets.specs.Book.{Book, fresh}
use Rattle.sheets.specs.History.{History, OpenedThenWentThrough, HoldsAfterEveryCall}
use Rattle.lines.specs.Words.{each, ended, spaced}
use Rattle.logs.specs.Session.{Entry, Through, Make, Logged}
use Rattle.logs.specs.Told.{entry_text}
use Rattle.logs.specs.Input.{KindAdmits, Prints}

-- an input that opens a log, on a sheet of 64 places: few enough bytes, a count of variables, a
-- kind, which admits such families, and then the log
pub record OpensALog (input : List ℕ) (n kind : ℕ) (admits : ℕ → Bool) (log : List ℕ) : Type 0 where
  pub few : length input ≤ 65536
  pub parts : input ≡ n ∷ kind ∷ log
  pub of_kind : KindAdmits kind admits
  pub variable_count : VariableCount n

-- an input that opens some log
abbrev pub OpensSomeLog : List ℕ → Type 0
OpensSomeLog input =
    (n : ℕ) × (kind : ℕ) × (admits : ℕ → Bool) × (log : List ℕ) × OpensALog input n kind admits log

-- the text of a log: its first line, a line for each entry, and the last
abbrev pub log_text : ℕ → ℕ → List Entry → ℕ → List ℕ
log_text n kind entries end =
    let first = spaced (codes "sheet" ∷ decimal n ∷ decimal kind ∷ []) in
    let last = spaced (codes "end" ∷ decimal end ∷ []) in
    each ended (first ∷ (map (entry_text n) entries ++ (last ∷ [])))

-- of an input that opens a log, the text tells what each of its commands is answered by the plain
-- book that was opened for it
abbrev pub TellsTheAnswersOfThePlainBook : List ℕ → List ℕ → Type 0
TellsTheAnswersOfThePlainBook input text =
    (n kind : ℕ) (admits : ℕ → Bool) (log : List ℕ) → OpensALog input n kind admits log →
    (entries : List Entry) × (end : ℕ) ×
    Logged (fresh admits n 64) 2 log entries end × (text ≡ log_text n kind entries end)

-- and after each of its commands the calls so far, with their answers, are the history of that
-- book, of which all holds that is promised
abbrev pub HoldsAfterEveryCommand : List ℕ → Type 0
HoldsAfterEveryCommand input =
    (n kind : ℕ) (admits : ℕ → Bool) (log : List ℕ) → OpensALog input n kind admits log →
    (entries : List Entry) (b : Book) (end : ℕ) (left : List ℕ) →
    Through (fresh admits n 64) 2 log entries b end left →
    (h : History) × (h.variables ≡ n) × (h.places ≡ 64) × Make log entries h.calls h.answers ×
    OpenedThenWentThrough admits h b × HoldsAfterEveryCall admits h b

-- an input fixes what is printed of it
pub record AnInputHasOneOutput : Type 0 where
  pub once : (input t u : List ℕ) → Prints input t → Prints input u → t ≡ u
