use Rattle.runs.proofs.Runs.{SoFar}
use Rattle.runs.proofs.replaying.replay.Given as goal

-- the calls so far are replied to, and the sheet is as promised after them
abbrev pub invariant-loop-exchange : goal.invariant-loop-exchange
invariant-loop-exchange g l =
    SoFar g.E.Kind.admitted g.E.Element.shown g.D.Division.meaning l.fn.parts l.fn.exchanges l.exchanges
    l.exchange-index l.sheet
