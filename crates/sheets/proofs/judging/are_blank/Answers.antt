use Rattle.std.proofs.Common.{◌≡◌, ◌≢◌, rules, tests}
use Rattle.std.proofs.lemmas.Iterator.{cases_from_all, YieldsList-from_slice}
use Rattle.sheets.proofs.Found.{all_show}
use Rattle.sheets.proofs.judging.are_blank.Goals as goal

pub returns : goal.returns
returns g c =
    let e = c.blank-nothing_here.result in
    all_show g.E.Element.shown g.met.E.Kind.known c.args.places.now e c.blank-nothing_here.ensures c.all.result
    (cases_from_all c.all.new.self _ _ (λ x. x ≡ e) (λ x. x ≢ e) c.all.ensures.ran
    (YieldsList-from_slice c.args.places.now cc) (λ x q k. search (rules, tests)) (λ x q k. search (rules, tests)))
