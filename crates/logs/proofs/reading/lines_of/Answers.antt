use Rattle.std.proofs.Common.{◌+◌, ◌-◌, vec_items, length, refl}
use Rattle.divisions.specs.Numbered.{numbered_meaning}
use Rattle.runs.specs.Replies.{book_of}
use Rattle.logs.proofs.Going.{going_start, going_on, going_ends, going_fails, less_left, next_end, next_performed, next_misread}
use Rattle.logs.proofs.reading.lines_of.Goals.{in-End, in-Misread+in_ok-push-in-Misread}
use Rattle.logs.proofs.reading.lines_of.Goals as goal

pub log-init : goal.log-init
log-init g c = record {
  makes_sheet = c.requires.makes_sheet;
  going = going_start _ (length c.args.log.now + 2) c.args.log.now
      (vec_items c.new-lines.result) refl c.new-lines.ensures.items;
}

pub overflow_sub-place : goal.overflow_sub-place
overflow_sub-place g c = c.log.invariant.going.room

pub log-smaller : goal.log-smaller
log-smaller g c =
    let done = next_performed g.E.Kind.admitted g.E.Element.shown c.log.sheet c.perform_next-next.result.0
    (length c.args.log.now + 2 - length c.log.rest.now) c.log.rest.now c.perform_next-next.result.1
    c.perform_next-next.ensures c.in-Performed.is in
    less_left done.0 done.1 _ _ done.2

pub log-preserved : goal.log-preserved
log-preserved g c =
    let st = c.log.invariant.makes_sheet in
    let done = next_performed g.E.Kind.admitted g.E.Element.shown c.log.sheet c.perform_next-next.result.0
    (length c.args.log.now + 2 - length c.log.rest.now) c.log.rest.now c.perform_next-next.result.1
    c.perform_next-next.ensures c.in-Performed.is in
    let told = done.3.follows_the_plain_book st in
    record {
      makes_sheet = done.3.makes_sheet st;
      going = going_on c.log.invariant.going (book_of g.E.Kind.admitted g.E.Element.shown numbered_meaning
          c.perform_next-next.result.0) done.0 done.1
          c.in-Performed.left.now told.0 (vec_items c.push.new.self) c.in-Performed.line done.2 told.2
          c.in_ok-push-in-Performed.ensures.items told.1;
    }

pub returns : goal.returns
returns g c = elim c.match-step.branch [
  | in-End w ↦ rw w.result-is (going_ends c.log.invariant.going
      (next_end g.E.Kind.admitted g.E.Element.shown c.log.sheet c.perform_next-next.result.0
      (length c.args.log.now + 2 - length c.log.rest.now) c.log.rest.now c.perform_next-next.result.1
      c.perform_next-next.ensures w.in-End.is))
  | in-Misread+in_ok-push-in-Misread w ↦
      let done = next_misread g.E.Kind.admitted g.E.Element.shown c.log.sheet c.perform_next-next.result.0
      (length c.args.log.now + 2 - length c.log.rest.now) c.log.rest.now c.perform_next-next.result.1
      c.perform_next-next.ensures w.in-Misread.is in
      rw w.result-is (going_fails c.log.invariant.going done.0 done.1 (vec_items w.push-in-Misread.new.self)
      _ done.2 w.in_ok-push-in-Misread.ensures.items done.3)
]
