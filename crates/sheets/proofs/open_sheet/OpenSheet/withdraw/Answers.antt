use Rattle.std.proofs.Common.{rules, [], ◌∷◌, ◌++◌, refl, ap, ◌∙◌, arith}
use Rattle.sheets.proofs.Steps.{as_promised, withdrawn}
use Rattle.sheets.proofs.open_sheet.OpenSheet.withdraw.Goals as goal

pub returns : goal.returns
returns g c =
    let (st, same) = c.in_ok-sheet.ensures in
    let f = rw same at c.in-Some.ensures in
    withdrawn g.E.Kind.admitted g.E.Element.shown c.args.self.now.parts _ st c.args.element.now c.blank.result
    c.in-Some.place
    (c.if-not-is_fit.ensures.0 refl) f.0 f.1 c.blank.ensures
    (c.push_reserved.ensures.items ∙ ap (λ t. t ++ c.blank.result ∷ []) c.remove.ensures.items)
    (omega (arith, c.push_reserved.ensures.len, c.remove.ensures.len)) refl refl refl

pub returns-then-not-is_fit : goal.returns-then-not-is_fit
returns-then-not-is_fit g c = as_promised g.E.Kind.admitted g.E.Element.shown tt (search rules)

pub returns-in_default : goal.returns-in_default
returns-in_default g c = as_promised g.E.Kind.admitted g.E.Element.shown tt (search rules)
