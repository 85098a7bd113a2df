use Rattle.std.proofs.Common.{map, arith}
use Rattle.barcode.proofs.Levels.{levels_lent}
use Rattle.barcode.proofs.bars.Bars.bar_code.Goals as goal

pub invariant_of-result-clause-right : goal.invariant_of-result-clause-right
invariant_of-result-clause-right g c =
    let self = c.args.self.now in
    levels_lent (map g.E.Element.shown self.rows.now) self.listed c.args.order.now self.over self.known
    c.common_front-front.result c.common_front-front.ensures.left
    (omega (arith, self.most)) c.common_front-front.ensures.same (self.right c.if-self-gt64.false)
