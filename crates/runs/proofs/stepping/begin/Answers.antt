use Rattle.runs.proofs.Runs.{begun}
use Rattle.runs.proofs.stepping.begin.Goals as goal

pub returns : goal.returns
returns g c = begun g.E.Kind.admitted g.E.Element.shown g.D.Division.meaning c.args.parts c.in_ok-sheet.sheet
    c.in_ok-sheet.ensures
