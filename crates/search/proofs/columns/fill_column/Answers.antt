use Rattle.std.proofs.Common.{arith, take-append-drop, length, length-take}
use Rattle.barcode.specs.BarCode.{rows_of, order_of}
use Rattle.search.specs.Columns.{column}
use Rattle.search.proofs.Writing.{writing_start, writing_front, writing_end, limited_with, limited_past, limited_end}
use Rattle.search.proofs.columns.fill_column.Goals as goal
use Rattle.search.proofs.columns.fill_column.Goals.{then-is_some, else-is_some}

pub loop-q-init : goal.loop-q-init
loop-q-init g c = record {
  column = λ w.
      rw (take-append-drop (length c.args.bar_code.now.rows.now) c.args.table.now)
      (writing_start _ c.args.x c.args.table.now w);
  places = λ q d l. absurd (omega arith);
}

pub loop-q-preserved : goal.loop-q-preserved
loop-q-preserved g c =
    let b = c.args.bar_code.now in
    let limits = g.D.Division.meaning c.args.division.now (rows_of b) (order_of b) in
    let within = length-take (length b.rows.now) c.args.table.now in
    let told = c.loop-q.invariant.places in
    record {
      column = λ w.
          writing_front {f = column limits c.args.x} c.loop-q.limits-items _ (c.loop-q.invariant.column w) (omega arith)
          c.requires.column.0 c.requires.column.1 c.limit-limit.result c.limit-limit.ensures;
      places = elim c.if-is_some.branch [
        | then-is_some w ↦ rw w.places-is
            (limited_with _ _ _ told w.insert.new.self
            (w.insert.ensures.below (omega (arith, c.requires.places, within))))
        | else-is_some w ↦ rw w.places-is
            (limited_past _ _ _ told c.limit-limit.result c.limit-limit.ensures w.if-is_some.ensures)
      ];
    }

pub returns-clause-places : goal.returns-clause-places
returns-clause-places g c = limited_end _ _ _ c.loop-q.invariant.places _ (omega arith)

pub returns-clause-column : goal.returns-clause-column
returns-clause-column g c = λ w.
    writing_end _ c.args.x c.loop-q.q _ c.args.table.now _ (omega arith) (c.loop-q.invariant.column w)
