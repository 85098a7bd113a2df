use Rattle.std.proofs.Common.{◌≡◌, get_or, rules, tests, arith}
use Rattle.elements.proofs.Made.{made}
use Rattle.cones.proofs.Places.{shape_of}
use Rattle.cones.proofs.shape.Shape.of.Goals as goal

pub returns : goal.returns
returns g c =
    let a = c.exponents-exponents.result in
    shape_of (g.E.Element.shown c.args.element.now) a c.from_fn.result c.family.result c.family.ensures
    c.exponents-exponents.ensures (omega arith)
    (λ k l. made _ _ (λ i e. e ≡ get_or a i 0) (λ i e q h. search (rules, tests))
    c.from_fn.result 0 8 c.from_fn.ensures.items k (omega arith))
