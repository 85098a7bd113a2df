use Rattle.std.proofs.Common.{◌≡◌, suc, get_or, take, set, arith}
use lib.Seq.{take-set-le}
use Rattle.search.proofs.Held.{held, held_less, held_last, last_range, last_unused}
use Rattle.search.proofs.Marking.{marked_less}
use Rattle.search.proofs.prefix.Prefix.pop.Goals as goal

pub bounds-self-from : goal.bounds-self-from
bounds-self-from c =
    let p = c.args.self.now in
    omega (arith, c.from.ensures, (last_range (held p) c.in_ok-at.at (omega (arith, c.in_ok-at.ensures))).1, p.few)

pub invariant_of-self : goal.invariant_of-self
invariant_of-self c =
    let p = c.args.self.now in
    let at = c.in_ok-at.at in
    let last = get_or p.entries at 0 in
    let z : p.len ≡ suc at = omega (arith, c.in_ok-at.ensures) in
    let less = held_less (held p) at z in
    let kept : take at (set p.entries at 0) ≡ take at p.entries = take-set-le at p.entries at 0 (omega arith) in
    record {
      few = less.most;
      within = less.within;
      proper = ∣ less.proper ∣₁;
      zeros = less.zeros;
      marked = rw (kept, c.from.ensures)
          (marked_less (take at p.entries) last p.used (omega (arith, (last_range (held p) at z).1, p.few))
          (last_unused (held p) at z) (rw (held_last (held p) at z) at p.marked));
    }
