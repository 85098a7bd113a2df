use Rattle.std.proofs.Common.{refl}
use Rattle.commands.specs.Read.{code_of, operands_of}
use Rattle.logs.proofs.Printing.{called_line, passed_line}
use Rattle.logs.proofs.performing.perform.Goals as goal

pub returns-in-Ok : goal.returns-in-Ok
returns-in-Ok g c =
    called_line g.E.Kind.admitted g.E.Element.shown c.args.sheet c.step-next.result.0 c.variables_of-variables.result
    c.args.place (code_of c.args.command.now) c.from-code.result
    (operands_of c.args.command.now) c.in-Ok.request c.step-next.result.1 c.line_of.result
    c.variables_of-variables.ensures c.from-code.ensures c.in-Ok.ensures c.step-next.ensures.on_any_sheet
    c.step-next.ensures.after_every_call c.line_of.ensures

pub returns-in-Err : goal.returns-in-Err
returns-in-Err g c =
    rw c.into-cause.ensures (passed_line g.E.Kind.admitted g.E.Element.shown c.args.sheet c.args.place
    (code_of c.args.command.now) c.from-code.result
    (operands_of c.args.command.now) c.in-Err.untaken _ c.from-code.ensures c.in-Err.ensures refl)
