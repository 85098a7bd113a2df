use Rattle.std.proofs.Common.{ℕ, ◌<◌, map}
use Rattle.cones.specs.Cones.{IsShortfall}
use Rattle.cones.specs.Tables.{limits_of}
use Rattle.cones.proofs.limited_rows.LimitedRows.first_shortfall.Given as goal

-- no variable so far has a shortfall at this place
abbrev pub invariant-loop-variable : goal.invariant-loop-variable
invariant-loop-variable g l =
    let rows = map g.E.Element.shown l.self.rows.now in
    let lim = limits_of l.self.limits.now in
    (x : ℕ) → x < l.variable → (m : ℕ) → IsShortfall l.self.n rows lim l.place x m → ⊥

-- no place so far has a shortfall
abbrev pub invariant-loop-place : goal.invariant-loop-place
invariant-loop-place g l =
    let rows = map g.E.Element.shown l.self.rows.now in
    let lim = limits_of l.self.limits.now in
    (q : ℕ) → q < l.place → (v m : ℕ) → IsShortfall l.self.n rows lim q v m → ⊥
