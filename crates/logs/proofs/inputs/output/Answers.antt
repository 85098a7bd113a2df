use Rattle.std.proofs.Common.{rules, string_bytes}
use Rattle.logs.proofs.Printed.{told_if_printed}
use Rattle.logs.proofs.inputs.output.Goals as goal

pub returns-clause-told : goal.returns-clause-told
returns-clause-told c = told_if_printed string_bytes c.args.input.now c.to_string.result (search rules)
