use Rattle.std.proofs.Common.{◌<◌, map, arith}
use Rattle.std.proofs.lemmas.List.{length-map}
use Rattle.std.proofs.lemmas.Bool.Decides.{not_from_Decides}
use Rattle.orderings.proofs.Places.{row_read}
use Rattle.search.proofs.Dividing.{gathered_start, gathered_with, gathered_past, gathered_end}
use Rattle.search.proofs.divisors.divisors_but.Goals as goal
use Rattle.search.proofs.divisors.divisors_but.Goals.{then-divides_but, else-divides_but}

pub loop-place-init : goal.loop-place-init
loop-place-init g c =
    let shown = g.E.Element.shown in
    gathered_start c.args.variable (map shown c.args.rows.now) (shown c.args.other.now) c.none-places.result
    c.none-places.ensures

pub loop-place-preserved : goal.loop-place-preserved
loop-place-preserved g c =
    let shown = g.E.Element.shown in
    let rows = c.args.rows.now in
    let p = c.loop-place.place in
    let here = row_read shown rows p c.index-rows-place.result c.loop-place-test.true c.index-rows-place.is in
    let small : p < 64 = omega (arith, c.requires, c.loop-place-test.true) in
    elim c.if-divides_but.branch [
      | then-divides_but w ↦ rw w.places-is
          (gathered_with c.args.variable (map shown rows) (shown c.args.other.now) p c.loop-place.places
          c.loop-place.invariant
          _ (w.insert.ensures.below small) (rw here (c.divides_but.ensures.0 w.if-divides_but.true)))
      | else-divides_but w ↦ rw w.places-is
          (gathered_past c.args.variable (map shown rows) (shown c.args.other.now) p c.loop-place.places
          c.loop-place.invariant
          (rw here (not_from_Decides _ c.divides_but.ensures w.if-divides_but.false)))
    ]

pub returns : goal.returns
returns g c =
    let shown = g.E.Element.shown in
    gathered_end c.args.variable (map shown c.args.rows.now) (shown c.args.other.now) c.loop-place.place
    c.loop-place.places
    c.loop-place.invariant (omega (arith, c.loop-place-test.false, length-map c.args.rows.now shown))
