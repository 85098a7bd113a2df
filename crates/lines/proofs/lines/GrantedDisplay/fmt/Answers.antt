use Rattle.std.proofs.Common.{arith}
use Rattle.lines.proofs.Printed.{hex_shown}
use Rattle.lines.proofs.lines.GrantedDisplay.fmt.Goals as goal

pub returns-clause-writes : goal.returns-clause-writes
returns-clause-writes g c = λ plain ok.
    let shown = hex_shown c.in_radix.result c.laid_out.result c.args.self.now.code (omega arith)
    c.in_radix.ensures c.laid_out.ensures in
    (rw shown at c.write.ensures.writes) plain ok
