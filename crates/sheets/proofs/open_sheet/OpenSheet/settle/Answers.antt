use Rattle.std.proofs.Common.{rules, refl, ◌≡◌, length, vec_items, vec_len, arith}
use Rattle.sheets.proofs.open_sheet.OpenSheet.settle.Goals as goal

pub copy_from_slice-requires : goal.copy_from_slice-requires
copy_from_slice-requires g c =
    let order = c.args.self.parts.order in
    let k : vec_len order ≡ length (vec_items order) = order.ok.0 in
    omega (arith, c.in-Ok.ensures.makes_sheet.ordered.eight)

pub returns-in-Ok-clause-step : goal.returns-in-Ok-clause-step
returns-in-Ok-clause-step g c = c.in-Ok.ensures.found _ refl refl (search rules)
