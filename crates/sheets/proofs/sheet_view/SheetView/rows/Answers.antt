use Rattle.std.proofs.Common.{take, vec_items, ap}
use Rattle.sheets.proofs.Tables.{front_part}
use Rattle.sheets.proofs.sheet_view.SheetView.rows.Goals as goal

pub returns-clause-rows : goal.returns-clause-rows
returns-clause-rows g c =
    let p = c.args.self.now.parts.now in
    front_part g.E.Element.shown (vec_items p.table) _ p.header.rows (ap (take p.header.rows) c.deref.ensures.value)
