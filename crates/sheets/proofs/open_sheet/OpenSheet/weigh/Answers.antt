use Rattle.std.proofs.Common.{rules}
use Rattle.sheets.proofs.Steps.{as_promised}
use Rattle.sheets.proofs.open_sheet.OpenSheet.weigh.Goals as goal

pub returns-then-not-is_ordering : goal.returns-then-not-is_ordering
returns-then-not-is_ordering g c = as_promised g.E.Kind.admitted g.E.Element.shown
    (g.met.D.Division.lawful c.args.division.now) (search rules)

pub returns-then-self-eq0 : goal.returns-then-self-eq0
returns-then-self-eq0 g c = as_promised g.E.Kind.admitted g.E.Element.shown
    (g.met.D.Division.lawful c.args.division.now) (search rules)

pub returns : goal.returns
returns g c = as_promised g.E.Kind.admitted g.E.Element.shown (g.met.D.Division.lawful c.args.division.now)
    (search rules)
