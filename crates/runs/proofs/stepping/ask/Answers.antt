use Rattle.std.proofs.Common.{[], ◌∷◌, refl, inl, inr}
use Rattle.sheets.specs.Book.{limit_told}
use Rattle.sheets.specs.Read.{bar_told, verdict_told}
use Rattle.runs.specs.declared.requests.Request.TheVariants.{Insert, Withdraw, Arrange, Bar, Limit, Verdict, Weigh, Locate, Reopen}
use Rattle.runs.specs.declared.requests.Grant.TheVariants.{Done, Place, Bar as TellBar, Limit as TellLimit, Verdict as TellVerdict}
use Rattle.runs.specs.declared.requests.Sheet.TheVariants.{Open}
use Rattle.runs.proofs.Steps.{granted_step, refused_step, untaken_step}
use Rattle.runs.proofs.stepping.ask.Goals as goal

pub returns-in_ok-insert-in-Insert : goal.returns-in_ok-insert-in-Insert
returns-in_ok-insert-in-Insert g c _ =
    granted_step g.E.Kind.admitted g.E.Element.shown g.D.Division.meaning c.args.sheet.now c.insert.new.self
    c.args.request.now (Insert c.in-Insert.e) (λ p. p ∷ []) c.insert.result c.in-Insert.is tt c.insert.ensures
    c.in_ok-insert-in-Insert.field-0 (Place c.in_ok-insert-in-Insert.field-0) c.in_ok-insert-in-Insert.was refl refl

pub returns-in_err-insert-in-Insert : goal.returns-in_err-insert-in-Insert
returns-in_err-insert-in-Insert g c _ =
    refused_step g.E.Kind.admitted g.E.Element.shown g.D.Division.meaning c.args.sheet.now c.insert.new.self
    c.args.request.now (Insert c.in-Insert.e) (λ p. p ∷ []) c.insert.result c.in-Insert.is tt c.insert.ensures
    c.in_err-insert-in-Insert.field-0.0 c.from_residual.result c.in_err-insert-in-Insert.was c.from_residual.ensures.1

pub returns-in_ok-withdraw-in-Withdraw : goal.returns-in_ok-withdraw-in-Withdraw
returns-in_ok-withdraw-in-Withdraw g c _ =
    granted_step g.E.Kind.admitted g.E.Element.shown g.D.Division.meaning c.args.sheet.now c.withdraw.new.self
    c.args.request.now (Withdraw c.in-Withdraw.e) (λ _. []) c.withdraw.result c.in-Withdraw.is tt c.withdraw.ensures
    c.in_ok-withdraw-in-Withdraw.field-0 Done c.in_ok-withdraw-in-Withdraw.was refl refl

pub returns-in_err-withdraw-in-Withdraw : goal.returns-in_err-withdraw-in-Withdraw
returns-in_err-withdraw-in-Withdraw g c _ =
    refused_step g.E.Kind.admitted g.E.Element.shown g.D.Division.meaning c.args.sheet.now c.withdraw.new.self
    c.args.request.now (Withdraw c.in-Withdraw.e) (λ _. []) c.withdraw.result c.in-Withdraw.is tt c.withdraw.ensures
    c.in_err-withdraw-in-Withdraw.field-0.0 c.from_residual-in_err-withdraw-in-Withdraw.result
    c.in_err-withdraw-in-Withdraw.was c.from_residual-in_err-withdraw-in-Withdraw.ensures.1

pub returns-in_ok-arrange-in-Arrange : goal.returns-in_ok-arrange-in-Arrange
returns-in_ok-arrange-in-Arrange g c _ =
    granted_step g.E.Kind.admitted g.E.Element.shown g.D.Division.meaning c.args.sheet.now c.arrange.new.self
    c.args.request.now (Arrange c.in-Arrange.list) (λ _. []) c.arrange.result c.in-Arrange.is tt c.arrange.ensures
    c.in_ok-arrange-in-Arrange.field-0 Done c.in_ok-arrange-in-Arrange.was refl refl

pub returns-in_err-arrange-in-Arrange : goal.returns-in_err-arrange-in-Arrange
returns-in_err-arrange-in-Arrange g c _ =
    refused_step g.E.Kind.admitted g.E.Element.shown g.D.Division.meaning c.args.sheet.now c.arrange.new.self
    c.args.request.now (Arrange c.in-Arrange.list) (λ _. []) c.arrange.result c.in-Arrange.is tt c.arrange.ensures
    c.in_err-arrange-in-Arrange.field-0.0 c.from_residual-in_err-arrange-in-Arrange.result
    c.in_err-arrange-in-Arrange.was c.from_residual-in_err-arrange-in-Arrange.ensures.1

pub returns-in_ok-bar-in-Bar : goal.returns-in_ok-bar-in-Bar
returns-in_ok-bar-in-Bar g c _ =
    granted_step g.E.Kind.admitted g.E.Element.shown g.D.Division.meaning c.args.sheet.now c.args.sheet.now
    c.args.request.now (Bar c.in-Bar.place c.in-Bar.variable) bar_told c.bar.result c.in-Bar.is tt c.bar.ensures
    c.in_ok-bar-in-Bar.field-0 (TellBar c.in_ok-bar-in-Bar.field-0) c.in_ok-bar-in-Bar.was refl refl

pub returns-in_err-bar-in-Bar : goal.returns-in_err-bar-in-Bar
returns-in_err-bar-in-Bar g c _ =
    refused_step g.E.Kind.admitted g.E.Element.shown g.D.Division.meaning c.args.sheet.now c.args.sheet.now
    c.args.request.now (Bar c.in-Bar.place c.in-Bar.variable) bar_told c.bar.result c.in-Bar.is tt c.bar.ensures
    c.in_err-bar-in-Bar.field-0.0 c.from_residual-in_err-bar-in-Bar.result c.in_err-bar-in-Bar.was
    c.from_residual-in_err-bar-in-Bar.ensures.1

pub returns-in_ok-limit-in-Limit : goal.returns-in_ok-limit-in-Limit
returns-in_ok-limit-in-Limit g c _ =
    granted_step g.E.Kind.admitted g.E.Element.shown g.D.Division.meaning c.args.sheet.now c.args.sheet.now
    c.args.request.now (Limit c.in-Limit.d c.in-Limit.place c.in-Limit.variable)
    limit_told c.limit.result c.in-Limit.is tt c.limit.ensures
    c.in_ok-limit-in-Limit.field-0 (TellLimit c.in_ok-limit-in-Limit.field-0) c.in_ok-limit-in-Limit.was refl refl

pub returns-in_err-limit-in-Limit : goal.returns-in_err-limit-in-Limit
returns-in_err-limit-in-Limit g c _ =
    refused_step g.E.Kind.admitted g.E.Element.shown g.D.Division.meaning c.args.sheet.now c.args.sheet.now
    c.args.request.now (Limit c.in-Limit.d c.in-Limit.place c.in-Limit.variable)
    limit_told c.limit.result c.in-Limit.is tt c.limit.ensures
    c.in_err-limit-in-Limit.field-0.0 c.from_residual-in_err-limit-in-Limit.result c.in_err-limit-in-Limit.was
    c.from_residual-in_err-limit-in-Limit.ensures.1

pub returns-in_ok-verdict-in-Verdict : goal.returns-in_ok-verdict-in-Verdict
returns-in_ok-verdict-in-Verdict g c _ =
    granted_step g.E.Kind.admitted g.E.Element.shown g.D.Division.meaning c.args.sheet.now c.args.sheet.now
    c.args.request.now (Verdict c.in-Verdict.d) (verdict_told g.E.Element.shown) c.verdict.result c.in-Verdict.is tt
    c.verdict.ensures
    c.in_ok-verdict-in-Verdict.field-0 (TellVerdict c.in_ok-verdict-in-Verdict.field-0) c.in_ok-verdict-in-Verdict.was
    refl refl

pub returns-in_err-verdict-in-Verdict : goal.returns-in_err-verdict-in-Verdict
returns-in_err-verdict-in-Verdict g c _ =
    refused_step g.E.Kind.admitted g.E.Element.shown g.D.Division.meaning c.args.sheet.now c.args.sheet.now
    c.args.request.now (Verdict c.in-Verdict.d) (verdict_told g.E.Element.shown) c.verdict.result c.in-Verdict.is tt
    c.verdict.ensures
    c.in_err-verdict-in-Verdict.field-0.0 c.from_residual-in_err-verdict-in-Verdict.result
    c.in_err-verdict-in-Verdict.was c.from_residual-in_err-verdict-in-Verdict.ensures.1

pub returns-in_ok-weigh-in-Weigh : goal.returns-in_ok-weigh-in-Weigh
returns-in_ok-weigh-in-Weigh g c _ =
    granted_step g.E.Kind.admitted g.E.Element.shown g.D.Division.meaning c.args.sheet.now c.args.sheet.now
    c.args.request.now (Weigh c.in-Weigh.d c.in-Weigh.list) (verdict_told g.E.Element.shown)
    c.weigh.result c.in-Weigh.is tt c.weigh.ensures
    c.in_ok-weigh-in-Weigh.field-0 (TellVerdict c.in_ok-weigh-in-Weigh.field-0) c.in_ok-weigh-in-Weigh.was refl refl

pub returns-in_err-weigh-in-Weigh : goal.returns-in_err-weigh-in-Weigh
returns-in_err-weigh-in-Weigh g c _ =
    refused_step g.E.Kind.admitted g.E.Element.shown g.D.Division.meaning c.args.sheet.now c.args.sheet.now
    c.args.request.now (Weigh c.in-Weigh.d c.in-Weigh.list) (verdict_told g.E.Element.shown)
    c.weigh.result c.in-Weigh.is tt c.weigh.ensures
    c.in_err-weigh-in-Weigh.field-0.0 c.from_residual-in_err-weigh-in-Weigh.result c.in_err-weigh-in-Weigh.was
    c.from_residual-in_err-weigh-in-Weigh.ensures.1

pub returns-in-Settle : goal.returns-in-Settle
returns-in-Settle g c other =
    let untaken = untaken_step g.E.Kind.admitted g.E.Element.shown g.D.Division.meaning (Open c.args.sheet.now)
    (Open c.args.sheet.now) c.args.request.now in
    elim c.in-Settle.is [
      | inl s ↦ absurd (other s.0 s.1)
      | inr l ↦ elim l [ inl l ↦ untaken (Locate l.0) refl l.1 (λ x. x) | inr r ↦ untaken Reopen refl r (λ x. x) ]
    ]
