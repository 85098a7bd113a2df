use Rattle.std.proofs.Common.{map}
use Rattle.search.proofs.Dividing.{Gathered}
use Rattle.search.proofs.divisors.divisors_but.Given as goal

-- the places of the rows so far
abbrev pub invariant-loop-place : goal.invariant-loop-place
invariant-loop-place g l =
    Gathered l.variable (map g.E.Element.shown l.rows) (g.E.Element.shown l.other) l.place l.places
