use Rattle.std.proofs.Common.{ℕ, ◌<◌, ◌≤◌, rules, tests, sym, ◌∙◌, arith}
use Rattle.std.proofs.lemmas.Iterator.{cases_from_all, YieldsList-from_slice, YieldsList-from_zip}
use Rattle.elements.proofs.Terms.{divides_by_pairs}
use Rattle.elements.proofs.divides.Goals as goal

pub returns : goal.returns
returns g c =
    divides_by_pairs _ _ _ _ c.exponents-small.ensures c.exponents-large.ensures _ (omega arith) (omega arith)
    (sym c.family.ensures ∙ c.if-family.false ∙ c.family-2.ensures)
    (cases_from_all c.all.new.self _ _ (λ (p : ℕ × ℕ). p.0 ≤ p.1) (λ p. p.1 < p.0) c.all.ensures.ran
    (YieldsList-from_zip (YieldsList-from_slice c.exponents-small.result cc)
    (YieldsList-from_slice c.exponents-large.result cc))
    (λ x q k. search (rules, tests)) (λ x q k. search (rules, tests)))
