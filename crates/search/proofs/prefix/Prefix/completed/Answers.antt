use Rattle.std.proofs.Common.{◌≡◌, ◌+◌, ◌-◌, ◌≤◌, sym, ◌∙◌, take, arith}
use Rattle.search.proofs.Held.{open_entries, held}
use Rattle.search.proofs.Filling.{Filled, filled_start, filled_room, filled_with, filled_past, filled_end}
use Rattle.search.proofs.prefix.Prefix.completed.Goals as goal
use Rattle.search.proofs.prefix.Prefix.completed.Goals.{then-not-has, else-not-has}

pub loop-x-init : goal.loop-x-init
loop-x-init c = let p = c.args.self.now in filled_start p.n p.len p.entries (held p)

pub bounds-order-count : goal.bounds-order-count
bounds-order-count c =
    let low : 1 ≤ c.loop-x.x = omega arith in
    filled_room c.loop-x.x c.loop-x.invariant low (omega (arith, c.loop-x-test.true))
    (open_entries c.args.self.now.proper) (sym c.has.ensures ∙ c.if-not-has.true)

pub loop-x-preserved : goal.loop-x-preserved
loop-x-preserved c =
    let x = c.loop-x.x in
    let low : 1 ≤ x = omega arith in
    let same : x + 1 - 1 ≡ x = omega arith in
    rw same (elim c.if-not-has.branch [
      | then-not-has w ↦ rw (w.order-is, w.count-is) (filled_with x c.loop-x.invariant low
          (omega (arith, c.loop-x-test.true)) (open_entries c.args.self.now.proper)
          (sym c.has.ensures ∙ w.if-not-has.true))
      | else-not-has w ↦ rw (w.order-is, w.count-is) (filled_past x c.loop-x.invariant low
          (omega (arith, c.loop-x-test.true)) (sym c.has.ensures ∙ w.if-not-has.false))
    ])

pub returns-after-not-has : goal.returns-after-not-has
returns-after-not-has c =
    let p = c.args.self.now in
    let x = c.loop-x.x in
    let low : 1 ≤ x = omega arith in
    let filled : Filled p.n (take p.len p.entries) x c.if-not-has.count c.if-not-has.order = elim c.if-not-has.branch [
      | then-not-has w ↦ rw (w.order-is, w.count-is) (filled_with x c.loop-x.invariant low
          (omega (arith, c.loop-x-test.true)) (open_entries p.proper) (sym c.has.ensures ∙ w.if-not-has.true))
      | else-not-has w ↦ rw (w.order-is, w.count-is) (filled_past x c.loop-x.invariant low
          (omega (arith, c.loop-x-test.true)) (sym c.has.ensures ∙ w.if-not-has.false))
    ] in filled_end p.n (take p.len p.entries) x c.if-not-has.count c.if-not-has.order (omega arith) filled
