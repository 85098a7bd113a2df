use Rattle.std.proofs.Common.{take}
use Rattle.std.specs.Fmt.{IsPlainFormatter, HasWritten}
use Rattle.lines.specs.Line.{line_text}
use Rattle.lines.specs.Words.{each, ended}
use Rattle.lines.proofs.reports.EndedDisplay.fmt.Given as goal

-- the first lines are written
abbrev pub invariant-loop-line : goal.invariant-loop-line
invariant-loop-line g l =
    IsPlainFormatter l.initial.f → HasWritten g.W.Write.write_str_gives l.initial.f
    (each (λ x. ended (line_text x)) (take l.line-index l.lines)) l.f
