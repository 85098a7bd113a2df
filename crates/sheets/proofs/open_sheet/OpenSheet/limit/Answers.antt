use Rattle.std.proofs.Common.{rules}
use Rattle.sheets.proofs.Steps.{as_promised}
use Rattle.sheets.proofs.open_sheet.OpenSheet.limit.Goals as goal

pub returns-then-not-has_bar : goal.returns-then-not-has_bar
returns-then-not-has_bar g c = as_promised g.E.Kind.admitted g.E.Element.shown
    (g.met.D.Division.lawful c.args.division.now) (search rules)

pub returns : goal.returns
returns g c = as_promised g.E.Kind.admitted g.E.Element.shown (g.met.D.Division.lawful c.args.division.now)
    (search rules)
