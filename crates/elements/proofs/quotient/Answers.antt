use Rattle.std.proofs.Common.{◌≡◌, ℕ, ◌-◌, ◌<◌, get_or, refl, arith, rules, tests}
use Rattle.std.proofs.lemmas.Grind.{common_steps}
use Rattle.elements.proofs.Made.{callable, made}
use Rattle.elements.proofs.Terms.{place_of, quotient_written, quotient_back}
use Rattle.elements.proofs.quotient.Goals as goal

pub from_fn-requires : goal.from_fn-requires
from_fn-requires g c =
    let smaller = place_of _ _ _ _ c.exponents-small.ensures c.exponents-large.ensures
    (c.if-not-divides.ensures.0 refl) in (
      omega arith,
      callable _ _ 8 (λ i y q k. search (rules, tests))
          (λ i l. let s = smaller i in grind (arith, common_steps)),
    )

pub returns : goal.returns
returns g c =
    let small = c.exponents-small.result in
    let large = c.exponents-large.result in
    let d = c.if-not-divides.ensures.0 refl in
    let differences : (k : ℕ) → k < 8 → get_or c.from_fn.result k 0 ≡ get_or large k 0 - get_or small k 0 =
    made _ _ (λ k y. y ≡ get_or large k 0 - get_or small k 0) (λ i y q k. search (rules, tests)) _ 0 8
    c.from_fn.ensures.items in
    record {
      value = (
        d,
        quotient_written _ _ small large c.exponents-small.ensures c.exponents-large.ensures _
            c.from_fn.ensures.items.long differences,
      );
      back = quotient_back _ _ small large c.exponents-small.ensures c.exponents-large.ensures _
          c.from_fn.ensures.items.long (omega arith) d differences;
    }
