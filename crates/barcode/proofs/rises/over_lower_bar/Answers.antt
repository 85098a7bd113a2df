use Rattle.std.proofs.Common.{rules, tests, refl}
use Rattle.barcode.proofs.Found.{lower_told}
use Rattle.barcode.proofs.rises.over_lower_bar.Goals as goal

pub returns-then-same_family : goal.returns-then-same_family
returns-then-same_family g c =
    lower_told c.args.order.now c.args.variable (g.E.Element.shown c.args.u.now)
    (g.E.Element.shown c.args.w.now) c.part_at.result c.is_some_and.result _ (c.if-same_family.ensures.0 refl)
    c.part_at.ensures c.is_some_and.ensures (λ k p. search (rules, tests))
