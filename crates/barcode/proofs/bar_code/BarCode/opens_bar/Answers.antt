use Rattle.std.proofs.Common.{rules, tests, take}
use Rattle.std.proofs.lemmas.Iterator.{cases_from_any, YieldsList-from_slice}
use Rattle.orderings.proofs.Places.{row_read}
use Rattle.barcode.specs.Bars.{SameBar}
use Rattle.barcode.proofs.Found.{opens_told}
use Rattle.barcode.proofs.bar_code.BarCode.opens_bar.Goals as goal

pub returns : goal.returns
returns g c =
    let shown = g.E.Element.shown in
    let rows = c.args.self.now.rows.now in
    let order = c.args.self.now.order.now in
    let u = c.index-self-place.result in
    opens_told shown rows order c.args.variable c.args.place u c.requires
    (row_read shown rows c.args.place u c.requires c.index-self-place.is) _
    (cases_from_any c.any.new.self _ _ (λ x. SameBar order c.args.variable (shown x) (shown u))
    (λ x. SameBar order c.args.variable (shown x) (shown u) → ⊥) c.any.ensures.ran
    (YieldsList-from_slice (take c.args.place rows) cc) (λ x q k. search (rules, tests))
    (λ x q k. search (rules, tests)))
