use Rattle.std.proofs.Common.{take, arith}
use Rattle.search.proofs.Held.{held, held_room, held_more, taken_more}
use Rattle.search.proofs.Marking.{marked_more}
use Rattle.search.proofs.prefix.Prefix.push.Goals as goal

pub bounds-self-self : goal.bounds-self-self
bounds-self-self c =
    let p = c.args.self.now in omega (arith, held_room (held p) c.args.x c.requires.variable c.requires.unused, p.few)

pub bounds-self-from : goal.bounds-self-from
bounds-self-from c = omega (arith, c.from.ensures, c.requires.variable.1, c.args.self.now.few)

pub invariant_of-self : goal.invariant_of-self
invariant_of-self c =
    let p = c.args.self.now in
    let x = c.args.x in
    let more = held_more (held p) x c.requires.variable c.requires.unused in
    record {
      few = more.most;
      within = more.within;
      proper = ∣ more.proper ∣₁;
      zeros = more.zeros;
      marked = rw (taken_more (held p) x c.requires.variable c.requires.unused, c.from.ensures)
          (marked_more (take p.len p.entries) x p.used (omega (arith, c.requires.variable.1, p.few)) p.marked);
    }
