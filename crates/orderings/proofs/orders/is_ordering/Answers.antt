use Rattle.std.proofs.Common.{◌≡◌, sym, refl, ◌∙◌, rules, tests, arith}
use Rattle.std.proofs.lemmas.Bool.{false≢true}
use Rattle.std.proofs.lemmas.Iterator.{cases_from_all, YieldsList-from_slice, YieldsList-from_range}
use Rattle.std.proofs.lemmas.Iterator.Adapters.{YieldsList-from_skip}
use Rattle.orderings.specs.Order.{IsNew}
use Rattle.orderings.proofs.Positions.{ordering_by_parts, ordering_not}
use Rattle.orderings.proofs.orders.is_ordering.Goals as goal

pub returns-then-all-clause-test : goal.returns-then-all-clause-test
returns-then-all-clause-test c =
    let each = cases_from_all c.all.new.self _ _ (IsNew c.args.n c.args.list.now)
    (λ k. IsNew c.args.n c.args.list.now k → ⊥) c.all.ensures.ran
    (YieldsList-from_range 0 c.args.n c.args.n refl (omega arith)) (λ x q k. search (rules, tests))
    (λ x q k. search (rules, tests)) in
    ordering_by_parts c.args.n c.args.list.now _ (omega arith) (omega arith) (rw c.if-all.true at each)
    (cases_from_all c.all-then-all.new.self _ _ (λ x. x ≡ 0) (λ x. x ≡ 0 → ⊥) c.all-then-all.ensures.ran
    (YieldsList-from_skip c.args.n (YieldsList-from_slice c.args.list.now cc) cc)
    (λ x q k. search (rules, tests)) (λ x q k. search (rules, tests)))

pub returns-else-all-clause-test : goal.returns-else-all-clause-test
returns-else-all-clause-test c =
    let each = cases_from_all c.all.new.self _ _ (IsNew c.args.n c.args.list.now)
    (λ k. IsNew c.args.n c.args.list.now k → ⊥) c.all.ensures.ran
    (YieldsList-from_range 0 c.args.n c.args.n refl (omega arith)) (λ x q k. search (rules, tests))
    (λ x q k. search (rules, tests)) in (
      λ e. absurd (false≢true (sym c.if-all.false ∙ e)),
      λ o. absurd (ordering_not c.args.n c.args.list.now (rw c.if-all.false at each) o),
    )
