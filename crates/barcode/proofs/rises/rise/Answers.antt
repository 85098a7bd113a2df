use Rattle.std.proofs.Common.{◌<◌, length, sym, ◌∙◌}
use Rattle.std.proofs.lemmas.Bool.{ltb-true}
use Rattle.std.proofs.lemmas.Bool.Decides.{not_from_Decides}
use Rattle.std.proofs.lemmas.List.{get_or_default}
use Rattle.barcode.proofs.Found.{rise_by}
use Rattle.barcode.proofs.Tested.{rise_none}
use Rattle.barcode.proofs.rises.rise.Goals as goal

pub returns-then-not-rises : goal.returns-then-not-rises
returns-then-not-rises g c =
    λ v here. sym (rise_none c.args.order.now v _ _
    (λ r. not_from_Decides _ c.rises.ensures c.if-not-rises.true (rw here at r)))

pub returns : goal.returns
returns g c = λ v here.
    let inside : c.args.here < length c.args.order.now = ltb-true _ _ (sym c.in_ok-variable.ensures.lookup.0) in
    rise_by c.args.order.now c.args.here c.in_ok-variable.field-0.now _ _ inside
    (c.in_ok-variable.ensures.lookup.1 ∙
    get_or_default c.args.order.now c.args.here c.in_ok-variable.field-0.now 0 inside) v c.exponent-2.result
    c.exponent.result here
    c.exponent-2.ensures c.exponent.ensures (c.rises.ensures.0 c.if-not-rises.false)
