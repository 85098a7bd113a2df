use Rattle.std.proofs.Common.{Ok, Err, refl, ap}
use Rattle.runs.specs.declared.requests.Request.TheVariants.{Settle}
use Rattle.runs.specs.declared.requests.NotGranted.TheVariants.{Refused}
use Rattle.runs.specs.declared.requests.Grant.TheVariants.{Settled as Found}
use Rattle.runs.specs.declared.requests.Sheet.TheVariants.{Open, Settled}
use Rattle.runs.proofs.Steps.{nothing_is_some, one_some, taken_step}
use Rattle.sheets.proofs.Judged.{granted_not_refused}
use Rattle.runs.proofs.stepping.step_open.Goals as goal

pub returns-in-Ok : goal.returns-in-Ok
returns-in-Ok g c =
    taken_step g.E.Kind.admitted g.E.Element.shown g.D.Division.meaning (Open c.args.sheet) (Open c.args.sheet)
    (Settled c.in-Ok.field-0.sheet) c.args.request.now (Settle c.in-Settle.d)
    (Ok (Found c.in-Ok.field-0.found)) _ refl c.in-Settle.is refl tt c.in-Ok.ensures.step
    (λ r vs e. absurd (granted_not_refused e)) (λ f e. one_some e)

pub returns-in-Err : goal.returns-in-Err
returns-in-Err g c =
    rw c.from.ensures (taken_step g.E.Kind.admitted g.E.Element.shown g.D.Division.meaning (Open c.args.sheet)
    (Open c.args.sheet) (Open c.in-Err.field-0.back) c.args.request.now (Settle c.in-Settle.d)
    (Err (Refused c.in-Err.field-0.why)) _ refl c.in-Settle.is refl tt c.in-Err.ensures.step
    (λ _ _ _. ap Open c.in-Err.ensures.back) (λ f e. absurd (nothing_is_some e)))
