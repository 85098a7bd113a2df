use Rattle.std.proofs.Common.{true, decimal, ℕ, Bor, sym, ap, ◌∙◌, refl}
use Rattle.std.proofs.Output.{has_written_of_eq, has_written_append}
use Rattle.std.proofs.lemmas.Iterator.{YieldsList-from_slice, YieldsList-from_take}
use Rattle.std.proofs.lemmas.Iterator.Consumers.{YieldsList-end, YieldsList-at}
use Rattle.lines.specs.Words.{each, after_space}
use Rattle.lines.specs.Line.{told_words}
use Rattle.lines.proofs.Printed.{put_more, settled_text}
use Rattle.lines.proofs.lines.ToldDisplay.fmt.Goals as goal

pub loop-variable-preserved : goal.loop-variable-preserved
loop-variable-preserved g c = λ plain.
    let so_far = c.loop-variable.invariant plain in
    put_more g.W.Write.write_str_gives (λ (v : Bor ℕ). after_space (decimal v.now))
    c.loop-variable.yielded c.in-Some.variable
    c.write-in-Settled.new.self c.loop-variable.f c.write-in-loop-variable.new.self so_far
    (c.in_ok-write-in-Settled-2.ensures.writes so_far.plain (refl {a = true}))

pub returns-in-None-clause-writes : goal.returns-in-None-clause-writes
returns-in-None-clause-writes g c = λ plain ok.
    let it = YieldsList-at c.into_iter-variable-iterator.ensures.into_iter_gives
    (YieldsList-from_take c.in-Settled.variables (YieldsList-at c.take-variable-items.ensures.source
    (YieldsList-from_slice c.in-Settled.ordering cc)) c.take-variable-items.ensures.count) in
    let all = YieldsList-end it c.loop-variable.yielded _ c.loop-variable.yielded_by _ _ c.in-None.is
    c.next.ensures.steps in
    let first = c.in_ok-write-in-Settled.ensures.writes plain (refl {a = true}) in
    has_written_of_eq g.W.Write.write_str_gives _ _ _ _
    (settled_text c.in-Settled.tested c.in-Settled.variables c.in-Settled.ordering c.loop-variable.yielded all.0 ∙
    ap (λ t. each after_space (told_words t)) (sym c.in-Settled.is))
    (has_written_append g.W.Write.write_str_gives _ _ c.write-in-Settled.new.self _ _ first
    (c.loop-variable.invariant first.plain))
