use Rattle.std.proofs.Common.{◌≡◌, ◌≢◌, rules, tests}
use Rattle.std.proofs.lemmas.Iterator.{IsFirst-from_position, YieldsList-from_slice}
use Rattle.sheets.proofs.Found.{place_found}
use Rattle.sheets.proofs.judging.place_of.Goals as goal

pub returns : goal.returns
returns g c =
    let e = c.args.element.now in
    place_found g.E.Element.shown g.met.E.Kind.known c.args.rows.now e c.position.result
    (IsFirst-from_position c.position.new.self _ _ (λ x. x ≡ e) (λ x. x ≢ e) c.position.ensures.ran
    (YieldsList-from_slice c.args.rows.now cc) (λ x q k. search (rules, tests)) (λ x q k. search (rules, tests)))
