use Rattle.std.proofs.Common.{rules, tests, ◌<◌}
use Rattle.places.proofs.Bits.{none_in}
use Rattle.places.proofs.Places.is_empty.Goals as goal

fits : (c : goal.Start) → c.args.self.now.bits < 18446744073709551616
fits c = search (rules, tests)

pub returns : goal.returns
returns c = none_in c.args.self.now.bits (fits c)
