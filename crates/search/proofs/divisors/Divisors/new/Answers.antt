use Rattle.std.proofs.Common.{map}
use Rattle.search.proofs.Dividing.{known_start}
use Rattle.search.proofs.divisors.Divisors.new.Goals as goal

pub invariant_of-result-clause-known : goal.invariant_of-result-clause-known
invariant_of-result-clause-known g c = known_start (map g.E.Element.shown c.args.rows.now) c.none.result c.none.ensures
