use Rattle.std.proofs.Common.{vec_items}
use Rattle.lines.specs.Report.{kind_number}
use Rattle.logs.proofs.Opened.{logged_from}
use Rattle.logs.proofs.inputs.report_kind.Goals as goal

pub returns-clause-reported : goal.returns-clause-reported
returns-clause-reported g c =
    let made = c.in_ok-parts.ensures in
    logged_from g.E.Kind.admitted g.E.Element.shown c.in_ok-parts.parts c.args.variables
    c.in-Ok.sheet _ (kind_number c.args.kind) c.args.log.now (vec_items c.in_ok-lines-in-Ok.lines)
    c.in_ok-lines-in-Ok.end made.header.0 made.places c.into.ensures c.in-Ok.ensures c.in_ok-lines-in-Ok.ensures
