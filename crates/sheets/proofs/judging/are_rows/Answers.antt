use Rattle.std.proofs.Common.{map, length, sym, refl, rules, tests, arith}
use Rattle.std.proofs.lemmas.List.{length-map}
use Rattle.std.proofs.lemmas.Iterator.{cases_from_all, YieldsList-from_range}
use Rattle.sheets.specs.Sheet.{IsNewRow}
use Rattle.sheets.proofs.Found.{rows_told}
use Rattle.sheets.proofs.judging.are_rows.Goals as goal

pub returns : goal.returns
returns g c =
    let admits = g.E.Kind.admitted in
    let xs = c.args.rows.now in
    let rows = map g.E.Element.shown xs in
    let n = c.args.n in
    rows_told admits n (length xs) rows c.all.result (sym (length-map xs g.E.Element.shown))
    (cases_from_all c.all.new.self _ _ (IsNewRow admits n rows) (λ p. IsNewRow admits n rows p → ⊥) c.all.ensures.ran
    (YieldsList-from_range 0 (length xs) (length xs) refl (omega arith)) (λ x q k. search (rules, tests))
    (λ x q k. search (rules, tests)))
