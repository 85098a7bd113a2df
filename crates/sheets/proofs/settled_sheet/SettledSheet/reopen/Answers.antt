use Rattle.std.proofs.Common.{rules}
use Rattle.sheets.proofs.Steps.{as_promised}
use Rattle.sheets.proofs.settled_sheet.SettledSheet.reopen.Goals as goal

pub returns-in-Ok-clause-step : goal.returns-in-Ok-clause-step
returns-in-Ok-clause-step g c = as_promised g.E.Kind.admitted g.E.Element.shown tt (search rules)
