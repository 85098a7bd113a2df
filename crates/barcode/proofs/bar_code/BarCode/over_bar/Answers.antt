use Rattle.std.proofs.Common.{map, arith}
use Rattle.std.proofs.lemmas.List.{length-map}
use Rattle.barcode.proofs.Levels.{set_read}
use Rattle.barcode.proofs.bar_code.BarCode.over_bar.Goals as goal

pub returns : goal.returns
returns g c =
    let self = c.args.self.now in
    set_read (map g.E.Element.shown self.rows.now) self.order.now self.bars.now c.args.place c.args.here
    c.in_ok-level.level.now self.right
    (omega (arith, c.requires, length-map self.rows.now g.E.Element.shown)) c.in_ok-level.ensures.lookup.0
    c.in_ok-level.ensures.lookup.1
