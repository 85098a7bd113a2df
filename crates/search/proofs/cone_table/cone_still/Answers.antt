use Rattle.std.proofs.Common.{◌<◌, length, arith}
use Rattle.std.proofs.lemmas.List.{length-map}
use Rattle.cones.specs.LimitedRows.{rows_of, limits_held}
use Rattle.search.proofs.Locating.{cone_stays}
use Rattle.search.proofs.cone_table.cone_still.Goals as goal

pub returns-then-is_within-clause-cone : goal.returns-then-is_within-clause-cone
returns-then-is_within-clause-cone g c = λ by_others.
    let shown = g.E.Element.shown in
    let limited = c.args.limited.now in
    let p = c.args.product.now in
    let cone = by_others c.if-product-x.false in
    let here : c.args.told < length limited.rows.now = omega (arith, cone.place, length-map limited.rows.now shown) in
    cone_stays limited.n (rows_of shown limited) c.args.x (limits_held limited)
    (omega (arith, c.requires.variable.2)) c.args.told p.variable p.power (shown p.row.now) c.if-product-x.false cone
    ((c.is_within.ensures.row here).0 c.if-is_within.true)
