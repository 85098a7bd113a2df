use Rattle.std.proofs.Common.{arith}
use Rattle.orderings.proofs.Places.{row_read}
use Rattle.sheets.proofs.Found.{new_told}
use Rattle.sheets.proofs.judging.is_new.Goals as goal

pub returns-then-is_fit : goal.returns-then-is_fit
returns-then-is_fit g c =
    let read = row_read g.E.Element.shown c.args.rows.now c.args.p c.index-rows-p-then-is_fit.result c.requires
    c.index-rows-p-then-is_fit.is in
    let first = row_read g.E.Element.shown c.args.rows.now c.args.p c.index-rows-p.result c.requires
    c.index-rows-p.is in
    new_told g.E.Element.shown g.E.Kind.admitted c.args.n c.args.rows.now c.index-rows-p-then-is_fit.result c.args.p
    (omega (arith, c.requires)) read
    (rw first (c.is_fit.ensures.0 c.if-is_fit.true)) c.is_none.result c.place_of.result _ c.is_none.ensures
    c.place_of.ensures
