use Rattle.std.proofs.Common.{◌≡◌, sym, ap, ◌∙◌, rules, tests, arith}
use Rattle.std.proofs.lemmas.Iterator.{cases_from_all, YieldsList-from_slice}
use Rattle.std.proofs.lemmas.Iterator.Adapters.{YieldsList-from_skip}
use Rattle.orderings.proofs.Exponents.{admitted_by_places}
use Rattle.orderings.proofs.fitting.is_admitted.Goals as goal

pub returns-then-admits : goal.returns-then-admits
returns-then-admits g c =
    admitted_by_places _ c.args.n _ c.exponents.result _ c.exponents.ensures (omega arith)
    (ap g.E.Kind.admitted (sym c.family.ensures) ∙ sym c.admits.ensures ∙ c.if-admits.true)
    (omega (arith, c.family.type_inv, c.family.ensures)) (λ k l. search (rules, tests, c.exponents.type_inv))
    (cases_from_all c.all.new.self _ _ (λ x. x ≡ 0) (λ x. x ≡ 0 → ⊥) c.all.ensures.ran
    (YieldsList-from_skip c.args.n (YieldsList-from_slice c.exponents.result cc) cc)
    (λ x q k. search (rules, tests)) (λ x q k. search (rules, tests)))
