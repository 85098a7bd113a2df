-- What a command and a reading say, in numbers. Assumes nothing.
use Rattle.std.specs.Prelude.{ℕ, List, [], ◌∷◌, Some, None, Ok, Err, Option, Result}
use Rattle.commands.specs.declared.Command.{Command}
use Rattle.commands.specs.declared.Command.TheVariants.{Insert, Withdraw, Arrange, Verdict, Weigh, Settle, Locate, Reopen}
use Rattle.commands.specs.declared.Misread.{Misread}
use Rattle.commands.specs.declared.Misread.TheVariants.{UnknownCode, CutShort}
use Rattle.commands.specs.declared.Misreading.{Misreading}
use Rattle.commands.specs.declared.Reading.{Reading}
use Rattle.commands.specs.Log.{Front, nothing, command, misread}

abbrev pub code_of : Command → ℕ
code_of (Insert element) = 1
code_of (Withdraw element) = 2
code_of (Arrange order) = 3
code_of (Verdict division) = 4
code_of (Weigh division order) = 5
code_of (Settle division) = 6
code_of (Locate element) = 7
code_of Reopen = 8

-- the operand bytes, in the log's order
abbrev pub operands_of : Command → List ℕ
operands_of (Insert element) = element.now
operands_of (Withdraw element) = element.now
operands_of (Arrange order) = order.now
operands_of (Verdict division) = division.now ∷ []
operands_of (Weigh division order) = division.now ∷ order.now
operands_of (Settle division) = division.now ∷ []
operands_of (Locate element) = element.now
operands_of Reopen = []

-- the number of a cause
abbrev pub number_of : Misread → ℕ
number_of UnknownCode = 1
number_of CutShort = 2

-- a code that the log ends after too soon
abbrev pub cut_short : ℕ → Misreading
cut_short code = record { code = code; cause = CutShort }

-- what the reader tells of a log's front
abbrev pub front : Result (Option Reading) Misreading → Front
front (Ok None) = nothing
front (Ok (Some r)) = command (code_of r.command) (operands_of r.command) r.rest.now
front (Err m) = misread m.code (number_of m.cause)
