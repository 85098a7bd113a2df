use Rattle.std.proofs.Common.{◌≡◌, ℕ, ◌+◌, ◌-◌, map, get_or, arith}
use Rattle.std.proofs.lemmas.List.{length-set}
use Rattle.orderings.specs.Rows.{row}
use Rattle.orderings.proofs.Places.{row_read}
use Rattle.barcode.specs.Sorting.{IsCommon}
use Rattle.barcode.proofs.SortedGaps.{common_more}
use Rattle.barcode.proofs.sorting.commons_of.Goals as goal

pub loop-i-preserved : goal.loop-i-preserved
loop-i-preserved g c =
    let shown = g.E.Element.shown in
    let xs = c.args.rows.now in
    let rows = map shown xs in
    let order = c.args.order.now in
    let places = c.args.places.now in
    let i = c.loop-i.i in
    let here = row_read shown xs (get_or places (i - 1) 0) c.index-rows-here.result
    (c.requires.within (i - 1) (omega (arith, c.loop-i-test.true))) c.index-rows-here.is in
    let next = row_read shown xs (get_or places i 0) c.index-rows-next.result
    (c.requires.within i (omega (arith, c.loop-i-test.true))) c.index-rows-next.is in
    let now : IsCommon order (row rows (get_or places (i - 1) 0)) (row rows (get_or places i 0)) c.common.result =
    rw (here, next) c.common.ensures in
    let same : i - 1 + 1 ≡ i = omega (arith, c.loop-i.auto.i) in
    record {
      long = omega (arith, length-set {A = ℕ}, c.loop-i.invariant.long);
      told = λ j l.
          common_more rows order places c.loop-i.commons (i - 1) c.common.result
          (omega (arith, c.loop-i.invariant.long, c.requires.few, c.loop-i-test.true))
          (λ k h. c.loop-i.invariant.told k (omega (arith, h)))
          (rw same now) j (omega (arith, l, same));
    }
