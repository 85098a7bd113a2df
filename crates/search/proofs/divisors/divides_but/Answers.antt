use Rattle.std.proofs.Common.{refl, rules, tests, arith}
use Rattle.std.proofs.lemmas.Iterator.{cases_from_all, YieldsList-from_range}
use Rattle.search.proofs.Dividing.{Passes, divides_told}
use Rattle.search.proofs.divisors.divides_but.Goals as goal

pub returns-then-family : goal.returns-then-family
returns-then-family g c =
    let shown = g.E.Element.shown in
    let u = shown c.args.row.now in
    let w = shown c.args.other.now in
    divides_told c.args.variable u w c.all.result (search (rules, tests))
    (cases_from_all c.all.new.self _ _ (Passes c.args.variable u w) (λ i. Passes c.args.variable u w i → ⊥)
    c.all.ensures.ran
    (YieldsList-from_range 0 8 8 refl (omega arith)) (λ x q k. search (rules, tests)) (λ x q k. search (rules, tests)))
