use Rattle.cones.specs.LimitedRows.{rows_of, limits_held}
use Rattle.cones.proofs.Sought.{Left}
use Rattle.cones.proofs.limited_rows.LimitedRows.cone_among.Given as goal

-- whose cone holds the product is among those that are left
abbrev pub invariant-loop-place : goal.invariant-loop-place
invariant-loop-place g l =
    Left l.self.n (rows_of g.E.Element.shown l.self) (limits_held l.self) l.fn.places l.left l.sought

abbrev pub decreases-loop-place : goal.decreases-loop-place
decreases-loop-place g l = l.left.bits
