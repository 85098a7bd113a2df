use Rattle.cones.specs.Judged.{limits_given}
use Rattle.cones.proofs.Obtained.{Obtaining}
use Rattle.cones.proofs.judging.fill_table.Given as goal

-- the rows so far have their limits, and the others none
abbrev pub invariant-loop-place : goal.invariant-loop-place
invariant-loop-place g l =
    Obtaining l.n (limits_given (g.D.Division.meaning l.division) l.bar_code) l.place l.table
