use Rattle.std.proofs.Common.{decimal, Bor, ℕ}
use Rattle.std.specs.Fmt.{IsPlainFormatter, HasWritten}
use Rattle.lines.specs.Words.{each, after_space}
use Rattle.lines.proofs.lines.ToldDisplay.fmt.Given as goal

-- the variables so far are written
abbrev pub invariant-loop-variable : goal.invariant-loop-variable
invariant-loop-variable g l =
    IsPlainFormatter l.initial.f → HasWritten g.W.Write.write_str_gives l.initial.f
    (each (λ (v : Bor ℕ). after_space (decimal v.now)) l.yielded) l.f
