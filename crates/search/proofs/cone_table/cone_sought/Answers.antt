use Rattle.std.proofs.Common.{◌≡◌, ◌∙◌}
use Rattle.cones.specs.LimitedRows.{rows_of, limits_held}
use Rattle.search.proofs.Dividing.{among_all}
use Rattle.search.proofs.cone_table.cone_sought.Goals as goal

pub returns-in-Some-clause-cone : goal.returns-in-Some-clause-cone
returns-in-Some-clause-cone g c =
    let shown = g.E.Element.shown in
    let limited = c.args.limited.now in
    let p = c.args.product.now in
    let memo = c.in-Some.memo in
    let same : memo.divisors.rows.now ≡ limited.rows.now = memo.same ∙ c.requires.memo memo c.in-Some.is in
    among_all limited.n (rows_of shown limited) (limits_held limited) p.place p.variable p.power
    (shown p.row.now) c.requires.row.1 c.of-places.result (rw same at c.of-places.ensures.places)
    c.cone_among.result c.cone_among.ensures
