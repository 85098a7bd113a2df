use Rattle.std.proofs.Common.{◌≡◌, Decides}
use Rattle.cones.proofs.Compared.{NoneGreater}
use Rattle.cones.proofs.shape.Shape.is_multiple_of.Given as goal

abbrev pub invariant-loop-i : goal.invariant-loop-i
invariant-loop-i g l =
    let u = g.E.Element.shown l.row in
    let w = l.self-inside in
    Decides l.divides ((u.family ≡ w.family) × NoneGreater l.least w.exponents l.i)
