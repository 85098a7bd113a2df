use Rattle.std.proofs.Common.{◌≡◌, ℕ, ◌+◌, ◌<◌, ◌≤◌, None, Option, rules, tests, arith}
use Rattle.elements.proofs.Made.{made}
use Rattle.cones.specs.Judged.{limits_given}
use Rattle.cones.proofs.Obtained.{limits_from}
use Rattle.cones.proofs.judging.limits_of_row.Goals as goal

pub returns : goal.returns
returns g c =
    let n = c.args.n in
    let F : ℕ → Option ℕ = limits_given (g.D.Division.meaning c.args.division.now) c.args.bar_code.now c.args.place in
    limits_from c.from_fn.result n F (omega arith)
    (made _ _ (λ i o. (i + 1 ≤ n → o ≡ F (i + 1)) × (n < i + 1 → o ≡ None)) (λ i o q h. search (rules, tests))
    c.from_fn.result None 8 c.from_fn.ensures.items)
