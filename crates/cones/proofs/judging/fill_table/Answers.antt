use Rattle.std.proofs.Common.{inl, inr, rules, arith}
use Rattle.std.proofs.lemmas.List.{length-map}
use Rattle.cones.proofs.Obtained.{obtaining_start, obtaining_more}
use Rattle.cones.proofs.judging.fill_table.Goals as goal

pub loop-place-init : goal.loop-place-init
loop-place-init g c = obtaining_start _ _ c.args.table.now (search rules) c.requires

pub loop-place-preserved : goal.loop-place-preserved
loop-place-preserved g c =
    obtaining_more _ _ c.loop-place.place c.loop-place.table c.limits_of_row.result (omega arith)
    c.limits_of_row.ensures c.loop-place.invariant

pub returns : goal.returns
returns g c =
    let long = length-map c.args.bar_code.now.rows.now g.E.Element.shown in
    record {
      rows = λ p few l. c.loop-place.invariant.rows p (omega (arith, long));
      past = λ p. elim [
        | inl l ↦ c.loop-place.invariant.past p (omega (arith, long))
        | inr l ↦ c.loop-place.invariant.past p (omega (arith, long))
      ];
    }
