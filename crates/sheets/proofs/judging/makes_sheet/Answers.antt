use Rattle.std.proofs.Common.{◌≡◌, take, drop, length, vec_items, vec_len, sym, refl, ap, ◌∙◌, arith}
use Rattle.std.proofs.lemmas.List.{length-map}
use Rattle.std.proofs.lemmas.Bool.{true≢false}
use Rattle.sheets.proofs.Whole.{a_book_fixes_its_sheet}
use Rattle.sheets.proofs.Tables.{front_part, blanks_from, blanks_to}
use Rattle.sheets.proofs.judging.makes_sheet.Goals as goal

pub returns-then-not-is_variable_count-clause-fixed : goal.returns-then-not-is_variable_count-clause-fixed
returns-then-not-is_variable_count-clause-fixed g c =
    a_book_fixes_its_sheet g.E.Kind.admitted g.E.Element.shown g.met.E.Kind.known

pub returns-then-not-is_ordering-clause-fixed : goal.returns-then-not-is_ordering-clause-fixed
returns-then-not-is_ordering-clause-fixed g c =
    a_book_fixes_its_sheet g.E.Kind.admitted g.E.Element.shown g.met.E.Kind.known

pub returns-then-are_rows : goal.returns-then-are_rows
returns-then-are_rows g c =
    let shown = g.E.Element.shown in
    let p = c.args.parts.now in
    let items = vec_items p.table in
    let n = length-map items shown in
    let k : vec_len p.table ≡ length items = p.table.ok.0 in
    let front : c.split_at.result.0.now ≡ take p.header.rows items =
    c.split_at.ensures.front ∙ ap (take p.header.rows) c.deref-2.ensures.value in
    let back : c.split_at.result.1.now ≡ drop p.header.rows items =
    c.split_at.ensures.back ∙ ap (drop p.header.rows) c.deref-2.ensures.value in
    let places = c.if-not-is_place_count.ensures.0 refl in
    record {
      test = (
        λ t. record {
          variables = c.if-not-is_variable_count.ensures.0 refl;
          places = record {
            some = omega (arith, places.some, c.len-places.ensures);
            most =
                omega (arith, places.most, c.len-places.ensures);
          };
          room = omega (arith, c.if-count-places.false, c.len-places.ensures);
          ordered = rw c.deref.ensures.value at (c.if-not-is_ordering.ensures.test.0 refl);
          rows = rw (front_part shown items _ p.header.rows front) at (c.if-are_rows.ensures.0 refl);
          blanks = blanks_from shown items _ p.header.rows back (c.are_blank.ensures.0 t);
        },
        λ m. c.are_blank.ensures.1 (blanks_to shown items _ p.header.rows back m.blanks),
      );
      fixed = a_book_fixes_its_sheet g.E.Kind.admitted shown g.met.E.Kind.known;
    }

pub returns-else-are_rows : goal.returns-else-are_rows
returns-else-are_rows g c =
    let shown = g.E.Element.shown in
    let p = c.args.parts.now in
    let front : c.split_at.result.0.now ≡ take p.header.rows (vec_items p.table) =
    c.split_at.ensures.front ∙ ap (take p.header.rows) c.deref-2.ensures.value in
    record {
      test = (
        λ t. absurd (true≢false (sym t ∙ c.if-are_rows.false)),
        λ m. c.are_rows.ensures.1 (rw (front_part shown (vec_items p.table) _ p.header.rows front) m.rows),
      );
      fixed = a_book_fixes_its_sheet g.E.Kind.admitted shown g.met.E.Kind.known;
    }
