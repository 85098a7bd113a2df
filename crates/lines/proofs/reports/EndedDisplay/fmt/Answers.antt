use Rattle.std.proofs.Common.{true, refl, Ok}
use Rattle.lines.specs.declared.lines.Told.TheVariants.{Nothing}
use Rattle.lines.specs.Line.{line_text}
use Rattle.lines.specs.Words.{ended}
use Rattle.lines.proofs.Printed.{put_next, put_all}
use Rattle.lines.proofs.reports.EndedDisplay.fmt.Goals as goal

pub loop-line-preserved : goal.loop-line-preserved
loop-line-preserved g c = λ plain.
    let so_far = c.loop-line.invariant plain in
    put_next g.W.Write.write_str_gives (λ x. ended (line_text x)) c.args.self.now.0.now c.loop-line.line-index
    (record { 0 = Ok (record { place = 0; code = 0; told = Nothing }) })
    c.args.f.now c.loop-line.f c.writeln.new.self
    c.loop-line-test.true so_far (c.in_ok-writeln.ensures.writes so_far.plain (refl {a = true}))

pub returns-clause-writes : goal.returns-clause-writes
returns-clause-writes g c = λ plain ok.
    put_all g.W.Write.write_str_gives (λ x. ended (line_text x)) c.args.self.now.0.now c.loop-line.line-index _ _
    c.loop-line-test.false (c.loop-line.invariant plain)
