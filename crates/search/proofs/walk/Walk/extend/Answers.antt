use Rattle.std.proofs.Common.{◌-◌, map, arith}
use Rattle.std.proofs.lemmas.List.{length-map}
use Rattle.cones.specs.Tables.{limits_of}
use Rattle.search.specs.Columns.{TellsCones, without, Relocated}
use Rattle.search.proofs.Held.{held, held_prefix, held_last, last_range}
use Rattle.search.proofs.Extending.{extended}
use Rattle.search.proofs.walk.Walk.extend.Goals as goal

pub write_column-requires : goal.write_column-requires
write_column-requires g c =
    let p = c.args.prefix.now in
    let (low, high) = last_range (held p) (p.len - 1) (omega (arith, c.requires)) in
    (rw (← c.last-x.ensures) at low, omega (arith, c.last-x.ensures, high, p.few))

pub returns-clause-extended : goal.returns-clause-extended
returns-clause-extended g c = λ s t.
    let shown = g.E.Element.shown in
    let p = c.args.prefix.now in
    let w = c.args.self.now in
    let rows = map shown w.rows.now in
    let lim = limits_of c.write_column.new.self.table.limits in
    let told : TellsCones p.n rows (without c.last-x.result lim) w.cones →
    Relocated p.n rows c.last-x.result lim c.relocate.result c.relocate.new.cones =
    rw (← c.write_column.ensures.rows, ← c.write_column.ensures.cones) c.relocate.ensures.cones in
    extended (g.D.Division.meaning c.args.division.now) (g.met.D.Division.lawful c.args.division.now) p.n rows s
    _ _ c.last-x.result c.completed-order.result w.table.limits c.write_column.new.self.table.limits w.cones
    c.relocate.new.cones _ c.relocate.result
    (rw (← c.last-x.ensures) at (held_last (held p) (p.len - 1) (omega (arith, c.requires))))
    (held_prefix (held p) c.requires)
    c.completed-order.ensures (length-map w.rows.now shown) t.tabled t.located c.write_column.ensures.column told

pub relocate-requires-clause-x : goal.relocate-requires-clause-x
relocate-requires-clause-x g c =
    let p = c.args.prefix.now in
    let (low, high) = last_range (held p) (p.len - 1) (omega (arith, c.requires)) in
    (rw (← c.last-x.ensures) at low, rw (← c.last-x.ensures) at high)
