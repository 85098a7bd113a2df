use Rattle.std.proofs.Common.{ℕ, ◌<◌, ◌≤◌, refl, rules, tests, arith}
use Rattle.std.proofs.lemmas.Iterator.{cases_from_all, YieldsList-from_slice}
use Rattle.orderings.proofs.Exponents.{fit_by_places}
use Rattle.orderings.proofs.fitting.is_fit.Goals as goal

pub returns-then-is_admitted : goal.returns-then-is_admitted
returns-then-is_admitted g c =
    fit_by_places _ _ _ _ _ c.exponents.ensures (omega arith) (c.if-is_admitted.ensures.0 refl)
    (cases_from_all c.all.new.self _ _ (λ (x : ℕ). x ≤ 4095) (λ x. 4095 < x) c.all.ensures.ran
    (YieldsList-from_slice c.exponents.result cc)
    (λ x q k. search (rules, tests)) (λ x q k. search (rules, tests)))
