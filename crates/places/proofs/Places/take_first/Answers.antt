use Rattle.std.proofs.Common.{rules, tests, ◌<◌, w64, inl, inr, arith}
use Rattle.std.proofs.lemmas.Bool.{cases_eq}
use Rattle.std.proofs.lemmas.Bool.Decides.{not_from_Decides}
use Rattle.std.specs.Int.{trailing_zeros}
use Rattle.places.proofs.Bits.{zero_below, first_in, taken_out, fewer}
use Rattle.places.proofs.Places.take_first.Goals as goal

fits : (c : goal.After-self-1) → c.args.self.now.bits < 18446744073709551616
fits c = search (rules, tests)

some : (c : goal.After-self-1) → 0 < c.args.self.now.bits
some c = elim (cases_eq c.args.self.now.bits 0) [
  | inl e ↦ absurd (not_from_Decides _ c.is_empty.ensures c.if-is_empty.false (λ p. rw e (zero_below p)))
  | inr d ↦ omega (arith, d)
]

-- src/lib.rt:39:5
pub returns-clause-first : goal.returns-clause-first
returns-clause-first c = first_in c.args.self.now.bits (some c) (fits c)

-- src/lib.rt:39:5
pub returns-clause-rest : goal.returns-clause-rest
returns-clause-rest c = taken_out c.args.self.now.bits (trailing_zeros w64 c.args.self.now.bits)
    (first_in c.args.self.now.bits (some c) (fits c)).0 (fits c)

-- src/lib.rt:39:5
pub returns-clause-fewer : goal.returns-clause-fewer
returns-clause-fewer c =
    let (below, here, before) = first_in c.args.self.now.bits (some c) (fits c) in
    fewer c.args.self.now.bits (trailing_zeros w64 c.args.self.now.bits) below (fits c) here
