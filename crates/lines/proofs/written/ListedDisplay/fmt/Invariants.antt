use Rattle.std.proofs.Common.{◌≡◌, codes, decimal, map, take}
use Rattle.std.specs.Prelude.{filter, nat_lt}
use Rattle.std.specs.Fmt.{IsPlainFormatter, HasWritten}
use denote.Shadow.{shadow}
use denote.Text.{Utf8}
use Rattle.lines.specs.Written.{joined}
use Rattle.lines.proofs.Joined.{between}
use Rattle.lines.proofs.written.ListedDisplay.fmt.Given as goal

-- the first variables are written
abbrev pub invariant-loop-variable : goal.invariant-loop-variable
invariant-loop-variable g l =
    let words = map decimal (filter (λ v. nat_lt 0 v) (take l.variable-index l.order)) in
    record {
      text : shadow (Utf8 l.separator);
      separates : l.separator ≡ between (codes ",") words;
      writes : IsPlainFormatter l.initial.f →
          HasWritten g.W.Write.write_str_gives l.initial.f (joined (codes ",") words) l.f;
    }
