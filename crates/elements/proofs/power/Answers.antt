use Rattle.std.proofs.Common.{arith}
use Rattle.elements.proofs.Terms.{power_by_set}
use Rattle.elements.proofs.power.Goals as goal

pub returns : goal.returns
returns c = power_by_set c.args.variable c.args.degree (record { low = omega arith; high = omega arith })
