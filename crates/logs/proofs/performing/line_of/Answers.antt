use Rattle.logs.proofs.Printing.{granted_line}
use Rattle.logs.proofs.performing.line_of.Goals as goal

pub returns-in-Ok : goal.returns-in-Ok
returns-in-Ok g c = granted_line g.E.Element.shown c.args.place c.args.code c.args.variables c.args.reply c.in-Ok.grant
    c.told_of-told.result c.in-Ok.is c.told_of-told.ensures
