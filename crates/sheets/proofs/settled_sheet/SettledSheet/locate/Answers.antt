use Rattle.std.proofs.Common.{rules}
use Rattle.sheets.proofs.Steps.{as_promised}
use Rattle.sheets.proofs.settled_sheet.SettledSheet.locate.Goals as goal

pub returns-then-not-is_admitted : goal.returns-then-not-is_admitted
returns-then-not-is_admitted g c = as_promised g.E.Kind.admitted g.E.Element.shown tt (search rules)

pub returns-in-Some : goal.returns-in-Some
returns-in-Some g c = as_promised g.E.Kind.admitted g.E.Element.shown tt (search rules)

pub returns-in-None : goal.returns-in-None
returns-in-None g c = as_promised g.E.Kind.admitted g.E.Element.shown tt (search rules)
