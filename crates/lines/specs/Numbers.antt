-- The numbers behind every cause. Assumes nothing.
use Rattle.std.specs.Prelude.{ℕ, List, []}
use Rattle.commands.specs.Read.{number_of}
use Rattle.orderings.specs.Answer.{number, values}
use Rattle.lines.specs.declared.faults.Untaken.{Untaken}
use Rattle.lines.specs.declared.faults.Untaken.TheVariants.{WrongState, NoSuchDivision}
use Rattle.lines.specs.declared.faults.Cause.{Cause}
use Rattle.lines.specs.declared.faults.Cause.TheVariants.{Reader, Session, Sheet}

abbrev pub untaken_number : Untaken → ℕ
untaken_number WrongState = 3
untaken_number NoSuchDivision = 4

-- the number of a cause
abbrev pub cause_number : Cause → ℕ
cause_number (Reader misread) = number_of misread
cause_number (Session untaken) = untaken_number untaken
cause_number (Sheet refusal) = number refusal

-- the values that a cause carries
abbrev pub cause_values : Cause → List ℕ
cause_values (Reader misread) = []
cause_values (Session untaken) = []
cause_values (Sheet refusal) = values refusal
