use Rattle.runs.specs.declared.requests.Sheet.TheVariants.{Open, Settled}
use Rattle.runs.proofs.Runs.{stepped_as_promised}
use Rattle.runs.proofs.stepping.step.Goals as goal

pub returns-in-Open-clause-after_every_call : goal.returns-in-Open-clause-after_every_call
returns-in-Open-clause-after_every_call g c =
    stepped_as_promised g.E.Kind.admitted g.E.Element.shown g.D.Division.meaning g.met.D.Division.lawful c.args.sheet
    (Open c.in-Open.open) c.args.request.now c.step_open.result.0 c.step_open.result.1 c.in-Open.is c.step_open.ensures

pub returns-in-Settled-clause-after_every_call : goal.returns-in-Settled-clause-after_every_call
returns-in-Settled-clause-after_every_call g c =
    stepped_as_promised g.E.Kind.admitted g.E.Element.shown g.D.Division.meaning g.met.D.Division.lawful c.args.sheet
    (Settled c.in-Settled.settled) c.args.request.now c.step_settled.result.0 c.step_settled.result.1 c.in-Settled.is
    c.step_settled.ensures
