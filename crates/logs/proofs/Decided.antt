-- What the session decides, carried over to the sheet and command at hand. Assumes nothing.
use Rattle.std.proofs.Common.{◌≡◌, Result, sym, subst}
use Rattle.elements.specs.Element.{Shown}
use Rattle.divisions.specs.Numbered.{Numbered, numbered_meaning}
use Rattle.commands.specs.declared.Command.{Command}
use Rattle.commands.specs.Read.{code_of, operands_of}
use Rattle.runs.specs.declared.requests.Request.{Request}
use Rattle.runs.specs.declared.requests.Sheet.{Sheet}
use Rattle.runs.specs.Replies.{state_of}
use Rattle.lines.specs.declared.faults.Untaken.{Untaken}
use Rattle.logs.specs.Told.{Requested}

pub decided : {E : Type 0} (shown : E → Shown) (sheet s : Sheet E Numbered) (command k : Command)
    (r : Result (Request E Numbered) Untaken) → sheet ≡ s → command ≡ k →
    Requested shown (state_of numbered_meaning s) (code_of k) (operands_of k) r →
    Requested shown (state_of numbered_meaning sheet) (code_of command) (operands_of command) r
decided {E} shown sheet s command k r e f d =
    subst (λ (x : Sheet E Numbered). Requested shown (state_of numbered_meaning x) (code_of command)
    (operands_of command) r) (sym e)
    (subst (λ (x : Command). Requested shown (state_of numbered_meaning s) (code_of x) (operands_of x) r) (sym f) d)
