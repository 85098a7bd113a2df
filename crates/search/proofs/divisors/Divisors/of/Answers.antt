use Rattle.std.proofs.Common.{map, arith}
use Rattle.std.proofs.lemmas.List.{get_or-map}
use Rattle.elements.specs.Element.{blank}
use Rattle.search.proofs.Dividing.{known_more}
use Rattle.search.proofs.divisors.Divisors.of.Goals as goal

pub invariant_of-self-clause-known : goal.invariant_of-self-clause-known
invariant_of-self-clause-known g c =
    let shown = g.E.Element.shown in
    let rows = c.args.self.now.rows.now in
    let p = c.args.place in
    let here = get_or-map shown rows p c.index-self-place.result blank c.requires.row in
    let (low, high) = c.requires.variable in
    known_more (map shown rows) c.args.self.now.places c.args.self.now.known p c.args.variable
    c.divisors_but-found.result
    (omega (arith, c.args.self.now.few, c.requires.row, low, high)) low high (rw here c.divisors_but-found.ensures)
