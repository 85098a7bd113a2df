use Rattle.std.proofs.Common.{◌≡◌, ℕ, map, arith}
use Rattle.std.proofs.lemmas.Bool.Decides.{not_from_Decides}
use Rattle.orderings.specs.Rows.{row}
use Rattle.orderings.proofs.Places.{row_read}
use Rattle.places.specs.Places.{contains}
use Rattle.barcode.proofs.Levels.{reach_in, reach_out}
use Rattle.barcode.proofs.level.of_the_family.Goals as goal
use Rattle.barcode.proofs.level.of_the_family.Goals.{then-same_family, else-same_family}

pub loop-place-preserved : goal.loop-place-preserved
loop-place-preserved g c =
    let shown = g.E.Element.shown in
    let rows = c.args.rows.now in
    let i = c.loop-place.place in
    let read = row_read shown rows i c.index-rows-place.result c.loop-place-test.true c.index-rows-place.is in
    let P : ℕ → Type 0 = λ w. (shown c.args.u.now).family ≡ (row (map shown rows) w).family in
    elim c.if-same_family.branch [
      | then-same_family w ↦ rw w.family-is
          (reach_in P i (contains c.loop-place.family) (contains w.insert.new.self) c.loop-place.invariant
          (rw read (c.same_family.ensures.0 w.if-same_family.true))
          (w.insert.ensures.below (omega (arith, c.requires))))
      | else-same_family w ↦ rw w.family-is
          (reach_out P i (contains c.loop-place.family) (contains c.loop-place.family) c.loop-place.invariant
          (rw read (not_from_Decides _ c.same_family.ensures w.if-same_family.false)))
    ]
