use Rattle.std.proofs.Common.{rules, tests}
use Rattle.std.proofs.lemmas.Iterator.{IsFirst-from_position, YieldsList-from_slice}
use Rattle.std.proofs.lemmas.Iterator.Consumers.{YieldsList-from_enumerate}
use Rattle.cones.proofs.Reading.{Holding, cone_found}
use Rattle.cones.proofs.limited_rows.LimitedRows.cone_of_shape.Goals as goal

pub returns : goal.returns
returns g c =
    let shown = g.E.Element.shown in
    let n = c.args.self.now.n in
    let rows = c.args.self.now.rows.now in
    let table = c.args.self.now.limits.now in
    let w = c.args.shape.now in
    cone_found shown n table w rows c.position.result
    (IsFirst-from_position c.position.new.self _ _ (Holding shown n table w) (λ p. Holding shown n table w p → ⊥)
    c.position.ensures.ran (YieldsList-from_enumerate (YieldsList-from_slice rows cc) cc)
    (λ x q k. search (rules, tests)) (λ x q k. search (rules, tests)))
