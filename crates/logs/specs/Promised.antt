-- What a command of a log does to a sheet, and what is promised after it. Assumes nothing.
use Rattle.std.specs.Prelude.{◌≡◌, ℕ, Bool, List, [], Some, None}
use Rattle.elements.specs.Element.{Shown}
use Rattle.orderings.specs.Answer.{Answer, refused}
use Rattle.divisions.specs.Numbered.{Numbered, numbered_meaning}
use Rattle.sheets.specs.Book.{Call}
use Rattle.sheets.specs.History.{History, and_then}
use Rattle.sheets.specs.Read.{MakesSheet}
use Rattle.commands.specs.Log.{Reads, nothing, command, misread}
use Rattle.runs.specs.declared.requests.Sheet.{Sheet}
use Rattle.runs.specs.Replies.{parts_of, state_of, book_of, SheetEqualsThePlainBook, SheetIsAsPromised}
use Rattle.lines.specs.declared.lines.Line.{Line}
use Rattle.lines.specs.Line.{line_text}
use Rattle.logs.specs.declared.reading.Step.{Step}
use Rattle.logs.specs.declared.reading.Step.TheVariants.{End, Performed, Misread}
use Rattle.logs.specs.Session.{TakesCode, Calls, Commanded, entry}
use Rattle.logs.specs.Told.{entry_text}

-- a sheet that the commands of a log are performed on
abbrev pub LogSheet : Type 0 → Type 0
LogSheet E = Sheet E Numbered

module _ {E : Type 0} (admits : ℕ → Bool) (shown : E → Shown) where
  -- a command on a sheet with a history: it makes its call, after which the sheet is as promised;
  -- or it makes none, is told 3 where the state does not take it or 4 where its division byte is
  -- none, and alters nothing
  pub data AfterCommand (h : History) (before : LogSheet E) (code : ℕ) (operands : List ℕ) :
      Answer → LogSheet E → Type 0 where
    makes_its_call : {call : Call} {told : Answer} {after : LogSheet E} →
        TakesCode (state_of numbered_meaning before) code → Calls code operands (Some call) →
        SheetIsAsPromised admits shown numbered_meaning (and_then h call told) after →
        AfterCommand h before code operands told after
    told_3 :
        (TakesCode (state_of numbered_meaning before) code → ⊥) →
        AfterCommand h before code operands (refused 3 []) before
    told_4 :
        TakesCode (state_of numbered_meaning before) code → Calls code operands None →
        AfterCommand h before code operands (refused 4 []) before

  -- the line of a command tells an answer, as on the sheet that the command was performed on
  abbrev pub LineTells : LogSheet E → ℕ → ℕ → Answer → Line → Type 0
  LineTells before place code told line =
      line_text line ≡ entry_text (parts_of before).header.variables (entry place code told)

  -- a command at a place of a log, on any sheet, and its line: where the parts make a sheet it is a
  -- step of the book; and whichever history led to the sheet, it is as promised after the command
  -- too
  pub record PerformsAsPromised (before : LogSheet E) (place code : ℕ) (operands : List ℕ)
      (after : LogSheet E) (line : Line) : Type 0 where
    pub makes_sheet :
        MakesSheet admits shown (parts_of before) → MakesSheet admits shown (parts_of after)
    pub follows_the_plain_book :
        MakesSheet admits shown (parts_of before) →
        (told : Answer) × LineTells before place code told line ×
        Commanded (book_of admits shown numbered_meaning before) code operands told
        (book_of admits shown numbered_meaning after)
    pub after_every_command :
        (h : History) → SheetEqualsThePlainBook admits shown numbered_meaning h before →
        (told : Answer) × LineTells before place code told line ×
        AfterCommand h before code operands told after

  -- the command at the front of a log, if any is left: it is read and performed; a first byte that
  -- begins no whole command is told, and alters nothing
  abbrev pub PerformsNextAsPromised : LogSheet E → ℕ → List ℕ → LogSheet E → Step → Type 0
  PerformsNextAsPromised before place log after End = Reads log nothing × (after ≡ before)
  PerformsNextAsPromised before place log after (Performed line rest) =
      (code : ℕ) × (operands : List ℕ) × Reads log (command code operands rest.now) ×
      PerformsAsPromised before place code operands after line
  PerformsNextAsPromised before place log after (Misread line) =
      (first : ℕ) × (number : ℕ) × Reads log (misread first number) ×
      LineTells before place first (refused number []) line × (after ≡ before)
