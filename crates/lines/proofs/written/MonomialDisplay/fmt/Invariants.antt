use Rattle.std.proofs.Common.{◌≡◌, ◌<◌, codes, length, map, take}
use Rattle.std.specs.Prelude.{filter, nat_lt}
use Rattle.std.specs.List.{enumerate_from}
use Rattle.std.specs.Fmt.{IsPlainFormatter, HasWritten}
use denote.Shadow.{shadow}
use denote.Text.{Utf8}
use Rattle.lines.specs.Written.{joined, power_text}
use Rattle.lines.proofs.Joined.{between}
use Rattle.lines.proofs.written.MonomialDisplay.fmt.Given as goal

-- the first powers are written; after the first place the exponents are known to be eight
abbrev pub invariant-loop-i : goal.invariant-loop-i
invariant-loop-i g l =
    let words = map power_text (filter (λ p. nat_lt 0 p.1) (take l.i (enumerate_from 1 l.exponents))) in
    record {
      eight : 0 < l.i → length l.exponents ≡ 8;
      text : shadow (Utf8 l.separator);
      separates : l.separator ≡ between (codes " ") words;
      writes : IsPlainFormatter l.initial.f →
          HasWritten g.W.Write.write_str_gives l.initial.f (joined (codes " ") words) l.f;
    }
