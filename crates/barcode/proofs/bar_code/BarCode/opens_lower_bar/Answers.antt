use Rattle.std.proofs.Common.{◌≡◌, true, sym, ◌∙◌}
use Rattle.std.proofs.lemmas.Bool.Decides.{same_from_decides}
use Rattle.std.proofs.lemmas.List.{get_or-map}
use Rattle.elements.specs.Element.{blank}
use Rattle.barcode.specs.BarCode.{opens_at}
use Rattle.barcode.proofs.Tested.{lower_bar_decides}
use Rattle.barcode.proofs.bar_code.BarCode.opens_lower_bar.Goals as goal

pub returns-then-opens_bar : goal.returns-then-opens_bar
returns-then-opens_bar g c =
    let self = c.args.self.now in
    let here = get_or-map g.E.Element.shown self.rows.now c.args.place c.index-self-place.result blank c.requires in
    let opens : opens_at self c.args.place c.args.variable ≡ true = sym c.opens_bar.ensures ∙ c.if-opens_bar.true in
    rw (opens, here)
    (same_from_decides _ _ c.over_lower_bar.ensures (lower_bar_decides self.order.now c.args.variable _ _))
