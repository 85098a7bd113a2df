use Rattle.std.proofs.Common.{rules, ◌<◌, length, refl, ap, arith}
use Rattle.std.proofs.lemmas.List.{length-map}
use Rattle.sheets.specs.Book.{opened, bar as to_bar}
use Rattle.sheets.proofs.Steps.{as_promised, granted_by, bar_told_of}
use Rattle.sheets.proofs.open_sheet.OpenSheet.bar.Goals as goal

pub returns : goal.returns
returns g c =
    let (st, same) = c.in_ok-sheet.ensures in
    let p = c.args.self.now.parts in
    let has = rw same at (c.if-not-has_bar.ensures.0 refl) in
    let rows = rw same at c.bar_code-bar_code.ensures.rows in
    let order = rw same at c.bar_code-bar_code.ensures.order in
    let inside : c.args.place < length c.bar_code-bar_code.result.rows.now =
    omega (arith, has.place, ap length rows, length-map c.bar_code-bar_code.result.rows.now g.E.Element.shown) in
    granted_by g.E.Kind.admitted g.E.Element.shown opened p (to_bar c.args.place c.args.variable) tt p _ st st
    (tt, (has, tt)) refl
    (bar_told_of _ _ _ _ _ c.args.place c.args.variable c.bar_number.result c.has_star.result rows order order
    (c.bar_number.ensures.row inside) (c.has_star.ensures.row inside))

pub returns-then-not-has_bar : goal.returns-then-not-has_bar
returns-then-not-has_bar g c = as_promised g.E.Kind.admitted g.E.Element.shown tt (search rules)
