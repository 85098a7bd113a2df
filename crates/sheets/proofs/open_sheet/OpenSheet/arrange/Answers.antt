use Rattle.std.proofs.Common.{rules}
use Rattle.sheets.proofs.Steps.{as_promised}
use Rattle.sheets.proofs.open_sheet.OpenSheet.arrange.Goals as goal

pub returns-then-not-is_ordering : goal.returns-then-not-is_ordering
returns-then-not-is_ordering g c = as_promised g.E.Kind.admitted g.E.Element.shown tt (search rules)

pub returns : goal.returns
returns g c = as_promised g.E.Kind.admitted g.E.Element.shown tt (search rules)
