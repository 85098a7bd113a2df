use Rattle.std.proofs.Common.{rules, tests, arith, take, sym, ◌∙◌, ◌<◌, ◌≡◌, length}
use Rattle.std.proofs.lemmas.Bool.{ltb-true}
use Rattle.std.proofs.lemmas.List.{get_or_default}
use Rattle.std.proofs.lemmas.Iterator.{cases_from_all, YieldsList-from_slice}
use Rattle.elements.specs.Element.{exponent}
use Rattle.barcode.proofs.Found.{parts_told}
use Rattle.barcode.proofs.rises.rises.Goals as goal

pub returns-then-same_family : goal.returns-then-same_family
returns-then-same_family g c =
    let order = c.args.order.now in
    let here = c.args.here in
    let x = c.in-Some.variable.now in
    let u = g.E.Element.shown c.args.u.now in
    let w = g.E.Element.shown c.args.w.now in
    let inside : here < length order = ltb-true _ _ (sym c.in-Some.ensures.lookup.0) in
    parts_told order here x u w inside (c.in-Some.ensures.lookup.1 ∙ get_or_default order here x 0 inside)
    c.all.result (c.same_family.ensures.0 c.if-same_family.true)
    (omega (arith, c.if-high-low.false, c.exponent-low.ensures, c.exponent-high.ensures))
    (cases_from_all c.all.new.self _ _ (λ y. exponent u y ≡ exponent w y) (λ y. exponent u y ≡ exponent w y → ⊥)
    c.all.ensures.ran
    (YieldsList-from_slice (take here order) cc) (λ x q k. search (rules, tests)) (λ x q k. search (rules, tests)))
