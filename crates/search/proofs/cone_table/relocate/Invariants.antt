use Rattle.cones.specs.LimitedRows.{rows_of, limits_held}
use Rattle.search.specs.Columns.{TellsCones, without}
use Rattle.search.specs.Memo.{RemembersRows}
use Rattle.search.proofs.Locating.{Going, Through, Beside, InTurn}
use Rattle.search.proofs.cone_table.relocate.Given as goal

-- the products so far are in the cones that the table tells
abbrev pub invariant-loop-step : goal.invariant-loop-step
invariant-loop-step g l =
    let n = l.limited.n in
    let rows = rows_of g.E.Element.shown l.limited in
    let lim = limits_held l.limited in
    record {
      going : TellsCones n rows (without l.x lim) l.fn.cones → Going n rows l.x lim (Through l.x l.step) l.cones;
      memo : RemembersRows l.limited.rows.now l.memo;
    }

abbrev pub invariant-loop-place : goal.invariant-loop-place
invariant-loop-place g l =
    let n = l.limited.n in
    let rows = rows_of g.E.Element.shown l.limited in
    let lim = limits_held l.limited in
    record {
      going : TellsCones n rows (without l.x lim) l.fn.cones →
          Going n rows l.x lim (Beside (Through l.x l.step) l.variable l.left) l.cones;
      memo : RemembersRows l.limited.rows.now l.memo;
      turn : InTurn n l.x l.step l.variable;
    }

-- the places that are left
abbrev pub decreases-loop-place : goal.decreases-loop-place
decreases-loop-place g l = l.left.bits
