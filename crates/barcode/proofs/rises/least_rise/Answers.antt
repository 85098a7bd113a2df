use Rattle.std.proofs.Common.{map}
use Rattle.orderings.proofs.Places.{row_read}
use Rattle.places.specs.Places.{contains}
use Rattle.barcode.proofs.Walks.{Passed, still_within, passed_here, passed_before, passed_now, least_more}
use Rattle.barcode.proofs.rises.least_rise.Goals as goal

pub loop-place-preserved : goal.loop-place-preserved
loop-place-preserved g c =
    let shown = g.E.Element.shown in
    let rows = map shown c.args.rows.now in
    let all = contains c.args.left in
    let left = contains c.loop-place.left in
    let next = contains c.take_first.new.self in
    let f = c.in-Some.place in
    let here = c.in-Some.ensures.first.1 in
    let taken = c.in-Some.ensures.rest in
    let within = c.loop-place.invariant.within in
    let read = row_read shown c.args.rows.now f c.index-rows-place.result
    (c.requires f (within f here)) c.index-rows-place.is in
    record {
      within = still_within all left next f within here taken;
      told = rw c.lesser-least.ensures
          (least_more rows c.args.variable (shown c.args.u.now) (Passed all left) (Passed all next) f
          (passed_here all left next f within here taken)
          (passed_before all left next f within here taken) (passed_now all left next f within here taken)
          c.loop-place.least c.rise_in.result c.loop-place.invariant.told (rw read c.rise_in.ensures));
    }
