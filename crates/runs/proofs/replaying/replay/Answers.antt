use Rattle.std.proofs.Common.{arith}
use Rattle.runs.proofs.Runs.{unopened, one_so_more, all_so_far}
use Rattle.runs.proofs.replaying.replay.Goals as goal

pub returns-in_err-sheet : goal.returns-in_err-sheet
returns-in_err-sheet g c =
    unopened g.E.Kind.admitted g.E.Element.shown g.D.Division.meaning c.args.parts c.args.exchanges.now
    c.in_err-sheet.field-0.0 c.from_residual.result
    c.in_err-sheet.ensures c.from_residual.ensures.1

pub loop-exchange-preserved : goal.loop-exchange-preserved
loop-exchange-preserved g c =
    let step = c.step-next.ensures in
    one_so_more g.E.Kind.admitted g.E.Element.shown g.D.Division.meaning c.step-next.result.0 c.exchange-item.result
    c.step-next.result.1
    (omega (arith, c.loop-exchange-test.true)) c.loop-exchange.invariant step.after_every_call
    step.on_any_sheet.has_its_form

pub returns : goal.returns
returns g c = all_so_far g.E.Kind.admitted g.E.Element.shown g.D.Division.meaning
    (omega (arith, c.loop-exchange-test.false)) c.loop-exchange.invariant
