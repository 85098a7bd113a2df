use Rattle.std.proofs.Common.{◌≡◌, ◌<◌, map, length, arith}
use Rattle.orderings.specs.Rows.{row}
use Rattle.orderings.proofs.Places.{row_read}
use Rattle.barcode.proofs.Levels.{sets_more}
use Rattle.std.proofs.lemmas.List.{length-set}
use Rattle.places.specs.declared.Places.{Places}
use Rattle.barcode.proofs.level.families.Goals as goal

pub loop-place-preserved : goal.loop-place-preserved
loop-place-preserved g c =
    let shown = g.E.Element.shown in
    let rows = c.args.rows.now in
    let i = c.loop-place.place in
    let read = row_read shown rows i c.index-rows-place.result c.loop-place-test.true c.index-rows-place.is in
    record {
      long = omega (arith, length-set {A = Places}, c.loop-place.invariant.long);
      told = sets_more c.loop-place.sets i c.of_the_family.result
          (λ q w. (w < length rows) × ((row (map shown rows) q).family ≡ (row (map shown rows) w).family))
          (omega (arith, c.loop-place.invariant.long, c.requires))
          c.loop-place.invariant.told (rw read c.of_the_family.ensures);
    }
