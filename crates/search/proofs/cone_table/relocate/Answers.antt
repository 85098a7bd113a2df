use Rattle.std.proofs.Common.{◌+◌, refl, arith}
use Rattle.std.proofs.lemmas.List.{length-map}
use Rattle.search.proofs.Locating.{InTurn, going_in, going_past, cone_found, none_found, going_out, going_by, going_done}
use Rattle.search.proofs.cone_table.relocate.Goals as goal
use Rattle.search.proofs.cone_table.relocate.Goals.{then-step-eq0, else-step-eq0}

pub loop-place-init : goal.loop-place-init
loop-place-init g c =
    let long = length-map c.args.limited.now.rows.now g.E.Element.shown in
    let n = c.args.limited.now.n in
    let turn : InTurn n c.args.x c.loop-step.step c.if-step-eq0.variable = elim c.if-step-eq0.branch [
      | then-step-eq0 w ↦ rw w.variable-is (record {
        first = λ z. refl;
        later = λ z. absurd (omega (arith, z, w.if-step-eq0.true));
        low = c.requires.x.0;
        high = c.requires.x.1;
      })
      | else-step-eq0 w ↦ rw w.variable-is (record {
        first = λ z. absurd (w.if-step-eq0.false z);
        later = λ z. refl;
        low = omega (arith, w.if-step-eq0.false);
        high = omega (arith, c.loop-step-test.true);
      })
    ] in
    let placed = c.requires.places c.if-step-eq0.variable turn.low (omega (arith, turn.high, c.requires.variables)) in
    record {
      going = λ l.
          going_in _ _ _ _ _ _ _ _ (λ q d b. placed q d (omega (arith, b, long))) (c.loop-step.invariant.going l);
      memo = c.loop-step.invariant.memo;
      turn = turn;
    }

pub returns-in_default-cone_still-clause-cones : goal.returns-in_default-cone_still-clause-cones
returns-in_default-cone_still-clause-cones g c = λ l.
    let is = c.in-Some-product_of.ensures in
    let long = length-map c.args.limited.now.rows.now g.E.Element.shown in
    let turn = c.loop-place.invariant.turn in
    none_found _ _ _ _ _ _ _ _ (c.loop-place.invariant.going l) c.in-Some.place _ _ is.row
    (omega (arith, is.inside, long)) (omega (arith, c.requires.rows, long)) turn.low turn.high c.requires.variables
    is.limit
    c.from.result c.from.ensures (rw is.variable at c.in_default-cone_still.ensures.cone)

pub loop-place-preserved-in-Some-product_of : goal.loop-place-preserved-in-Some-product_of
loop-place-preserved-in-Some-product_of g c =
    let is = c.in-Some-product_of.ensures in
    let long = length-map c.args.limited.now.rows.now g.E.Element.shown in
    let turn = c.loop-place.invariant.turn in
    record {
      going = λ l.
          cone_found _ _ _ _ _ _ _ _ (c.loop-place.invariant.going l) c.in-Some.place _ _ is.row
          (omega (arith, is.inside, long)) (omega (arith, c.requires.rows, long)) turn.low turn.high
          c.requires.variables is.limit c.from.result c.from.ensures
          c.in-Some-cone_still.found _ c.in-Some.ensures.rest (rw is.variable at c.in-Some-cone_still.ensures.cone);
      memo = c.cone_still.ensures.memo;
      turn = turn;
    }

pub loop-place-preserved : goal.loop-place-preserved
loop-place-preserved g c =
    let long = length-map c.args.limited.now.rows.now g.E.Element.shown in
    record {
      going = λ l.
          going_past _ _ _ _ _ _ _ _ (c.loop-place.invariant.going l) _ _ c.in-Some.ensures.rest
          (λ b. c.in_default-product_of.ensures (omega (arith, b, long)));
      memo = c.loop-place.invariant.memo;
      turn = c.loop-place.invariant.turn;
    }

pub loop-step-preserved : goal.loop-step-preserved
loop-step-preserved g c = record {
  going = λ l.
      going_out _ _ _ _ _ _ _ _ (c.loop-place.invariant.going l) c.loop-place.invariant.turn c.in_default.ensures.first;
  memo = c.loop-place.invariant.memo;
}

pub loop-step-preserved-then-step-x : goal.loop-step-preserved-then-step-x
loop-step-preserved-then-step-x g c = record {
  going = λ l. going_by _ _ _ _ _ _ c.if-step-x.true c.requires.x.0 (c.loop-step.invariant.going l);
  memo = c.loop-step.invariant.memo;
}

pub returns-then-step-x-clause-cones : goal.returns-then-step-x-clause-cones
returns-then-step-x-clause-cones g c = λ l.
    going_done _ _ _ _ (c.loop-step.step + 1) _ (omega arith)
    (going_by _ _ _ _ _ _ c.if-step-x.true c.requires.x.0 (c.loop-step.invariant.going l))

pub returns-in_default-clause-cones : goal.returns-in_default-clause-cones
returns-in_default-clause-cones g c = λ l.
    going_done _ _ _ _ (c.loop-step.step + 1) _ (omega arith)
    (going_out _ _ _ _ _ _ _ _ (c.loop-place.invariant.going l) c.loop-place.invariant.turn c.in_default.ensures.first)
