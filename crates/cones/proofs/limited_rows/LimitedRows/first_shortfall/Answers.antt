use Rattle.std.proofs.Common.{map, refl, arith, below_more}
use Rattle.std.proofs.lemmas.List.{length-map}
use Rattle.cones.specs.Tables.{limits_at}
use Rattle.cones.proofs.Completeness.{complete_exactly_without_shortfall, janet_like_completes_what_any_completes}
use Rattle.cones.proofs.Reading.{shortfall_from, no_shortfall, unlimited}
use Rattle.cones.proofs.limited_rows.LimitedRows.first_shortfall.Goals as goal
use Rattle.cones.proofs.limited_rows.LimitedRows.first_shortfall.Goals.{else-loop-variable-test, then-loop-variable-test+else-variable-variable-end, in-Some+else-falls_short, in_default}

pub loop-variable-preserved : goal.loop-variable-preserved
loop-variable-preserved g c =
    let shown = g.E.Element.shown in
    let n = c.args.self.now.n in
    let rows = c.args.self.now.rows.now in
    let table = c.args.self.now.limits.now in
    let p = c.loop-place.place in
    let v = c.loop-variable.variable in
    below_more _ _ c.loop-variable.invariant (elim c.match-limit.branch [
      | in-Some+else-falls_short w ↦ no_shortfall shown n rows table p _ (limits_at table p)
          c.loop-place-test.true c.row-item.is refl v w.in-Some.power _ _ (omega arith) (omega arith)
          c.limit.ensures w.in-Some.is w.falls_short.ensures w.if-falls_short.false
      | in_default w ↦ unlimited n (map shown rows) table p v (limits_at table p) _ refl
          c.limit.ensures w.in_default.is
    ])

pub loop-place-preserved : goal.loop-place-preserved
loop-place-preserved g c =
    let shown = g.E.Element.shown in
    let n = c.args.self.now.n in
    let rows = c.args.self.now.rows.now in
    let table = c.args.self.now.limits.now in
    let p = c.loop-place.place in
    let v = c.loop-variable.variable in
    below_more _ _ c.loop-place.invariant (λ x m short. elim c.loop-variable-test.branch [
      | else-loop-variable-test w ↦
          c.loop-variable.invariant x (omega (arith, w.loop-variable-test.false, short.high)) m short
      | then-loop-variable-test+else-variable-variable-end w ↦ below_more _ _ c.loop-variable.invariant
          (elim w.match-limit.branch [
            | in-Some+else-falls_short y ↦ no_shortfall shown n rows table p _ (limits_at table p)
                c.loop-place-test.true c.row-item.is refl v y.in-Some.power _ _ (omega arith)
                (omega (arith, w.loop-variable-test.true)) w.limit.ensures y.in-Some.is
                y.falls_short.ensures y.if-falls_short.false
            | in_default y ↦ unlimited n (map shown rows) table p v (limits_at table p) _ refl
                w.limit.ensures y.in_default.is
          ]) x (omega (arith, w.loop-variable-test.true, short.high)) m short
    ])

pub returns-then-falls_short : goal.returns-then-falls_short
returns-then-falls_short g c = record {
  first = record {
    shortfall = (let table = c.args.self.now.limits.now in
        let p = c.loop-place.place in
        shortfall_from g.E.Element.shown c.args.self.now.n c.args.self.now.rows.now table p _ (limits_at table p)
        c.loop-place-test.true c.row-item.is refl c.loop-variable.variable c.in-Some.power _ _
        (omega arith) (omega arith) c.limit.ensures c.in-Some.is c.falls_short.ensures c.if-falls_short.true);
    none_lower = λ q x k less. c.loop-place.invariant q less x k;
    none_before = λ x k less. c.loop-variable.invariant x less k;
  };
  complete = complete_exactly_without_shortfall;
  janet_like = janet_like_completes_what_any_completes;
}

pub returns-after-loop-place : goal.returns-after-loop-place
returns-after-loop-place g c = record {
  first = λ p v m short.
      let long = length-map c.args.self.now.rows.now g.E.Element.shown in
      c.loop-place.invariant p (omega (arith, short.place, c.loop-place-test.false, long)) v m short;
  complete = complete_exactly_without_shortfall;
  janet_like = janet_like_completes_what_any_completes;
}
