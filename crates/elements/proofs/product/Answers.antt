use Rattle.std.proofs.Common.{arith}
use Rattle.elements.proofs.Terms.{overflows_at, product_written}
use Rattle.elements.proofs.product.Goals as goal

pub returns-in_err-sums : goal.returns-in_err-sums
returns-in_err-sums g c =
    rw c.from_residual.ensures
    (overflows_at (g.E.Element.shown c.args.element.now) _ c.args.term.now c.exponents-sums.ensures c.loop-i.i _
    (c.loop-i.invariant.rest c.loop-i.i (omega arith)) c.in_err-sums.ensures)

pub returns : goal.returns
returns g c =
    product_written _ _ _ c.args.term.now _ _ c.exponents-sums.ensures c.family.ensures c.make.ensures
    c.loop-i.invariant.long
    (λ k l. c.loop-i.invariant.written k (omega arith))
