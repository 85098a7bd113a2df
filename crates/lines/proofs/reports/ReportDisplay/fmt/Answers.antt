use Rattle.std.proofs.Common.{decimal, sym, ap, ◌∙◌}
use Rattle.std.proofs.Output.{has_written_of_eq}
use Rattle.lines.specs.Line.{line_text}
use Rattle.lines.specs.Report.{report_text}
use Rattle.lines.proofs.Printed.{log_text}
use Rattle.lines.proofs.reports.ReportDisplay.fmt.Goals as goal

pub returns-in-Log-clause-writes : goal.returns-in-Log-clause-writes
returns-in-Log-clause-writes g c = λ plain ok.
    has_written_of_eq g.W.Write.write_str_gives _ _ _ _
    (log_text line_text (decimal c.in-Log.variables) (decimal c.in-Log.kind) (decimal c.in-Log.end)
    _ _ c.as_slice.ensures.value ∙
    ap report_text (sym c.in-Log.is))
    (c.writeln-in-Log.ensures.writes plain ok)
