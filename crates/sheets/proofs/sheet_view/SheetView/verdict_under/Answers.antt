use Rattle.std.proofs.Common.{◌<◌, map, length, arith}
use Rattle.std.proofs.lemmas.List.{length-map}
use Rattle.orderings.proofs.Places.{row_read}
use Rattle.divisions.specs.Laws.{OnSheet}
use Rattle.cones.specs.Cones.{Complete, IsFirstShortfall}
use Rattle.sheets.proofs.Verdicts.{on_sheet, seen_on, told_complete, told_short}
use Rattle.sheets.proofs.sheet_view.SheetView.verdict_under.Goals as goal

pub returns-in-None : goal.returns-in-None
returns-in-None g c =
    let shown = g.E.Element.shown in
    let rows = c.rows-rows.result.now in
    let some : 0 < length rows = omega (arith, c.rows-rows.ensures.count, c.requires.some) in
    let m = g.D.Division.meaning c.args.division.now in
    let n = c.args.self.now.parts.now.header.variables in
    let listed = map shown c.new.result.rows.now in
    let under = c.new.result.order.now in
    let judged : OnSheet n listed under → Complete n listed (m listed under) = c.in-None.ensures.judged in
    told_complete m n c.args.order.now (map shown rows) _ c.rows-rows.ensures.rows
    (on_sheet g.E.Kind.admitted shown c.args.self.now.parts.now c.args.self.now.makes_sheet c.args.order.now
    c.requires.ordered)
    (shown c.index-rows-0.result) (row_read shown rows 0 c.index-rows-0.result some c.index-rows-0.is)
    (rw (c.new.ensures.rows, c.new.ensures.order) at judged)

pub returns-in-Some : goal.returns-in-Some
returns-in-Some g c =
    let shown = g.E.Element.shown in
    let m = g.D.Division.meaning c.args.division.now in
    let n = c.args.self.now.parts.now.header.variables in
    let order = c.args.order.now in
    let rows = c.rows-rows.result.now in
    let on = on_sheet g.E.Kind.admitted shown c.args.self.now.parts.now c.args.self.now.makes_sheet order
    c.requires.ordered in
    let h = c.in-Some.field-0 in
    let listed = map shown c.new.result.rows.now in
    let under = c.new.result.order.now in
    let told : OnSheet n listed under → IsFirstShortfall n listed (m listed under) h.place h.variable h.power ×
    ¬ Complete n listed (m listed under) =
    c.in-Some.ensures.judged in
    let judged = rw (c.new.ensures.rows, c.new.ensures.order) at told in
    let first = (judged (seen_on m n order (map shown rows) _ c.rows-rows.ensures.rows on)).0 in
    told_short m n order (map shown rows) _ c.rows-rows.ensures.rows on h.place h.variable h.power
    (shown c.index-rows-place.result)
    (row_read shown rows h.place c.index-rows-place.result
    (omega (arith, first.shortfall.place, length-map rows shown)) c.index-rows-place.is) judged
