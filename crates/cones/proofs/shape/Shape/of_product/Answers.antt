use Rattle.std.proofs.Common.{◌≡◌, ℕ, ◌<◌, get_or, rules, tests, arith}
use Rattle.std.proofs.lemmas.List.{length-set}
use Rattle.elements.proofs.Made.{made}
use Rattle.cones.proofs.Places.{shape_of_product, raised_at, raised_nowhere}
use Rattle.cones.proofs.shape.Shape.of_product.Goals as goal
use Rattle.cones.proofs.shape.Shape.of_product.Goals.{then-variable-ge1+then-variable-le8, else-variable-ge1, else-variable-ge1-via-then-variable-ge1+else-variable-le8, else-variable-ge1-via-else-variable-ge1}

pub returns : goal.returns
returns g c =
    let a = c.exponents-exponents.result in
    let v = c.args.variable in
    let m = c.args.power in
    let u = g.E.Element.shown c.args.element.now in
    let same : (k : ℕ) → k < 8 → get_or c.from_fn-raised.result k 0 ≡ get_or a k 0 =
    made _ _ (λ i e. e ≡ get_or a i 0) (λ i e q h. search (rules, tests))
    c.from_fn-raised.result 0 8 c.from_fn-raised.ensures.items in
    elim c.if-variable-ge1.branch [
      | then-variable-ge1+then-variable-le8 w ↦ rw w.raised-is
          (shape_of_product u v m a _ c.family.result c.family.ensures c.exponents-exponents.ensures
          (omega (arith, length-set {A = ℕ}, c.from_fn-raised.ensures.items.long))
          (raised_at a c.from_fn-raised.result v m _ c.from_fn-raised.ensures.items.long same
          w.if-variable-ge1.true w.if-variable-le8.true
          (omega (arith, w.from.ensures, w.from-then-variable-le8.ensures))))
      | else-variable-ge1 w ↦ rw w.raised-is
          (shape_of_product u v m a c.from_fn-raised.result c.family.result c.family.ensures
          c.exponents-exponents.ensures c.from_fn-raised.ensures.items.long
          (raised_nowhere a c.from_fn-raised.result v m same (λ (low, high). elim w.else-variable-ge1.branch [
            | else-variable-ge1-via-then-variable-ge1+else-variable-le8 x ↦ omega (arith, high, x.if-variable-le8.false)
            | else-variable-ge1-via-else-variable-ge1 x ↦ omega (arith, low, x.if-variable-ge1.false)
          ])))
    ]
