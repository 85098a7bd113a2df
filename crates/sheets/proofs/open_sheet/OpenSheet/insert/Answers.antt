use Rattle.std.proofs.Common.{rules, map, vec_items, sym, refl, ◌∙◌, inl, inr, arith}
use Rattle.sheets.specs.Book.{opened, insert as to_insert}
use Rattle.sheets.proofs.Rows.{has_from, none_from}
use Rattle.sheets.proofs.Steps.{as_promised, inserted, refused_by}
use Rattle.sheets.proofs.open_sheet.OpenSheet.insert.Goals as goal

pub returns-then-is_some : goal.returns-then-is_some
returns-then-is_some g c =
    let (st, same) = c.in_ok-sheet.ensures in
    let p = c.args.self.now.parts in
    let shown = g.E.Element.shown in
    let found = rw same at c.place_of.ensures in
    refused_by g.E.Kind.admitted shown opened p (to_insert (shown c.args.element)) tt 13 st
    (inr (
      tt,
      inr (
        c.if-not-is_fit.ensures.0 refl,
        inl (
          λ new. new (has_from (map shown (vec_items p.table)) p.header.rows (shown c.args.element)
              st.room c.place_of.result found (sym c.is_some.ensures ∙ c.if-is_some.true)),
          refl,
        ),
      ),
    ))

pub returns : goal.returns
returns g c =
    let (st, same) = c.in_ok-sheet.ensures in
    let p = c.args.self.now.parts in
    let shown = g.E.Element.shown in
    let found = rw same at c.place_of.ensures in
    inserted g.E.Kind.admitted shown p _ st c.args.element (c.if-not-is_fit.ensures.0 refl)
    (none_from (map shown (vec_items p.table)) p.header.rows (shown c.args.element) st.room c.place_of.result found
    (sym c.is_some.ensures ∙ c.if-is_some.false))
    (omega (arith, c.if-count-len.false, c.len.ensures)) refl refl refl refl refl

pub returns-then-not-is_fit : goal.returns-then-not-is_fit
returns-then-not-is_fit g c = as_promised g.E.Kind.admitted g.E.Element.shown tt (search rules)

pub returns-then-count-len : goal.returns-then-count-len
returns-then-count-len g c = as_promised g.E.Kind.admitted g.E.Element.shown tt (search rules)
