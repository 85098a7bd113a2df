use Rattle.std.proofs.Common.{rules, tests, arith}
use Rattle.std.proofs.lemmas.Iterator.{YieldsList-from_slice, YieldsList-from_zip, YieldsList-from_take}
use Rattle.std.proofs.lemmas.Iterator.Search.{all_from_yields_List}
use Rattle.elements.specs.Element.{Shown}
use Rattle.cones.proofs.Reading.{fits, below_told}
use Rattle.cones.proofs.limited_rows.is_below.Goals as goal

pub returns : goal.returns
returns g c =
    let w : Shown = record { family = c.shape.inside.family; exponents = c.shape.inside.exponents } in
    rw (← c.shape.view_is) (below_told c.args.n c.args.limits.now (g.E.Element.shown c.args.row.now) w
    c.exponents.result c.exponents.ensures (omega arith) (omega arith) (omega arith) c.all.result
    (all_from_yields_List fits c.all.new.self _ c.all.result c.all.ensures.ran
    (YieldsList-from_take c.args.n (YieldsList-from_zip
    (YieldsList-from_zip (YieldsList-from_slice c.exponents.result cc) (YieldsList-from_slice w.exponents cc))
    (YieldsList-from_slice c.args.limits.now cc)) cc)
    (λ x t q k. search (rules, tests))))
