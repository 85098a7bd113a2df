use Rattle.std.proofs.Common.{[], ◌∷◌, Ok, Err, sym, refl, ap, inl, inr}
use Rattle.orderings.specs.Answer.{answer}
use Rattle.runs.specs.declared.requests.Request.TheVariants.{Insert, Withdraw, Arrange, Bar, Limit, Verdict, Weigh, Settle, Locate, Reopen}
use Rattle.runs.specs.declared.requests.NotGranted.TheVariants.{Refused}
use Rattle.runs.specs.declared.requests.Grant.TheVariants.{Done, Place}
use Rattle.runs.specs.declared.requests.Sheet.TheVariants.{Open, Settled}
use Rattle.runs.proofs.Steps.{nothing_is_some, one_some, taken_step, untaken_step}
use Rattle.sheets.proofs.Judged.{granted_not_refused}
use Rattle.runs.proofs.stepping.step_settled.Goals as goal
use Rattle.runs.proofs.stepping.step_settled.Goals.{in-Ok, in-Err}

pub returns-after-locate : goal.returns-after-locate
returns-after-locate g c = elim c.match-locate.branch [
  | in-Ok w ↦ rw w.reply-is
      (taken_step g.E.Kind.admitted g.E.Element.shown g.D.Division.meaning (Settled c.args.sheet)
      (Settled c.args.sheet) (Settled c.args.sheet) c.args.request.now (Locate c.in-Locate.e)
      (Ok (Place w.in-Ok.place)) _ refl c.in-Locate.is (ap (answer (λ p. p ∷ [])) (sym w.in-Ok.is)) tt c.locate.ensures
      (λ _ _ _. refl) (λ f e. one_some e))
  | in-Err w ↦ rw (w.reply-is, w.from.ensures)
      (taken_step g.E.Kind.admitted g.E.Element.shown g.D.Division.meaning (Settled c.args.sheet)
      (Settled c.args.sheet) (Settled c.args.sheet) c.args.request.now (Locate c.in-Locate.e)
      (Err (Refused w.in-Err.why)) _ refl c.in-Locate.is (ap (answer (λ p. p ∷ [])) (sym w.in-Err.is))
      tt c.locate.ensures (λ _ _ _. refl) (λ f e. absurd (nothing_is_some e)))
]

pub returns-in-Ok-reopen : goal.returns-in-Ok-reopen
returns-in-Ok-reopen g c =
    taken_step g.E.Kind.admitted g.E.Element.shown g.D.Division.meaning (Settled c.args.sheet) (Settled c.args.sheet)
    (Open c.in-Ok-reopen.open) c.args.request.now Reopen
    (Ok Done) _ refl c.in-Reopen.is refl tt c.in-Ok-reopen.ensures.step (λ r vs e. absurd (granted_not_refused e))
    (λ f e. one_some e)

pub returns-in-Err-reopen : goal.returns-in-Err-reopen
returns-in-Err-reopen g c =
    rw c.from-in-Err-reopen.ensures (taken_step g.E.Kind.admitted g.E.Element.shown g.D.Division.meaning
    (Settled c.args.sheet) (Settled c.args.sheet) (Settled c.in-Err-reopen.field-0.back) c.args.request.now Reopen
    (Err (Refused c.in-Err-reopen.field-0.why)) _ refl c.in-Reopen.is refl tt c.in-Err-reopen.ensures.step
    (λ _ _ _. ap Settled c.in-Err-reopen.ensures.back) (λ f e. absurd (nothing_is_some e)))

pub returns-in-Insert : goal.returns-in-Insert
returns-in-Insert g c =
    let untaken = untaken_step g.E.Kind.admitted g.E.Element.shown g.D.Division.meaning (Settled c.args.sheet)
    (Settled c.args.sheet) c.args.request.now in
    elim c.in-Insert.is [
      | inl a0 ↦ untaken (Insert a0.0) refl a0.1 (λ x. x)
      | inr b0 ↦
          elim b0 [
            | inl a1 ↦ untaken (Withdraw a1.0) refl a1.1 (λ x. x)
            | inr b1 ↦
                elim b1 [
                  | inl a2 ↦ untaken (Arrange a2.0) refl a2.1 (λ x. x)
                  | inr b2 ↦
                      elim b2 [
                        | inl a3 ↦ untaken (Bar a3.0 a3.1) refl a3.2 (λ x. x)
                        | inr b3 ↦
                            elim b3 [
                              | inl a4 ↦ untaken (Limit a4.0 a4.1 a4.2) refl a4.3 (λ x. x)
                              | inr b4 ↦
                                  elim b4 [
                                    | inl a5 ↦ untaken (Verdict a5.0) refl a5.1 (λ x. x)
                                    | inr b5 ↦
                                        elim b5 [
                                          | inl a6 ↦ untaken (Weigh a6.0 a6.1) refl a6.2 (λ x. x)
                                          | inr b6 ↦
                                              untaken (Settle b6.0) refl b6.1 (λ x. x)
                                        ]
                                  ]
                            ]
                      ]
                ]
          ]
    ]
