use Rattle.std.proofs.Common.{◌≡◌, ◌+◌, ◌<◌, map, length, get_or, arith}
use Rattle.std.proofs.lemmas.List.{length-map}
use Rattle.orderings.specs.Rows.{row}
use Rattle.orderings.proofs.Places.{row_read}
use Rattle.barcode.proofs.SortedGaps.{agree_next, none_at_end, none_where_earlier, rise_there}
use Rattle.barcode.proofs.sorting.Sorting.gap.Goals as goal

pub loop-rank-preserved : goal.loop-rank-preserved
loop-rank-preserved g c =
    let rows = map g.E.Element.shown c.args.rows.now in
    let many : length rows ≡ length c.args.rows.now = length-map c.args.rows.now g.E.Element.shown in
    let v = c.loop-rank.invariant in
    let more = agree_next rows c.args.order.now c.args.self.now c.requires.sorting (row rows c.args.place) c.args.here
    c.loop-rank.rank (omega (arith, many, v.within)) v.family v.agree (omega (arith, many, c.loop-rank-test.true))
    (omega (arith, c.if-common-here.false, c.if-common-here-2.false)) in
    record { within = c.loop-rank-test.true; family = more.0; agree = more.1 }

pub returns-then-common-here : goal.returns-then-common-here
returns-then-common-here g c =
    let rows = map g.E.Element.shown c.args.rows.now in
    let many : length rows ≡ length c.args.rows.now = length-map c.args.rows.now g.E.Element.shown in
    let v = c.loop-rank.invariant in
    none_where_earlier rows c.args.order.now c.args.self.now c.requires.sorting (row rows c.args.place) c.args.here
    c.loop-rank.rank (omega (arith, many, v.within)) v.family v.agree (omega (arith, many, c.loop-rank-test.true))
    c.requires.inside (omega (arith, c.if-common-here.true))

pub returns-then-common-here-2 : goal.returns-then-common-here-2
returns-then-common-here-2 g c =
    let shown = g.E.Element.shown in
    let xs = c.args.rows.now in
    let rows = map shown xs in
    let many : length rows ≡ length xs = length-map xs shown in
    let v = c.loop-rank.invariant in
    let places = c.args.self.now.places in
    let i = c.loop-rank.rank in
    let here : i < length rows = omega (arith, many, v.within) in
    let next : i + 1 < length rows = omega (arith, many, c.loop-rank-test.true) in
    let low_inside : get_or places i 0 < length xs = omega (arith, many, c.requires.sorting.places i here) in
    let high_inside : get_or places (i + 1) 0 < length xs =
    omega (arith, many, c.requires.sorting.places (i + 1) next) in
    let low = row_read shown xs (get_or places i 0) c.index-rows-low.result low_inside c.index-rows-low.is in
    let high = row_read shown xs (get_or places (i + 1) 0) c.index-rows-high.result high_inside
    c.index-rows-high.is in
    rise_there rows c.args.order.now c.args.self.now c.requires.sorting (row rows c.args.place) c.args.here i here
    v.family v.agree next c.requires.inside c.if-common-here-2.true c.args.variable c.requires.listed
    c.rise_in.result (rw (low, high) c.rise_in.ensures)

pub returns : goal.returns
returns g c =
    let rows = map g.E.Element.shown c.args.rows.now in
    let many : length rows ≡ length c.args.rows.now = length-map c.args.rows.now g.E.Element.shown in
    let v = c.loop-rank.invariant in
    none_at_end rows c.args.order.now c.args.self.now c.requires.sorting (row rows c.args.place) c.args.here
    c.loop-rank.rank (omega (arith, many, v.within)) v.family v.agree (omega (arith, many, c.loop-rank-test.false))
