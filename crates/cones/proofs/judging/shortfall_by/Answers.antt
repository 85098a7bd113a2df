use Rattle.std.proofs.Common.{length}
use Rattle.barcode.specs.BarCode.{rows_of, order_of}
use Rattle.cones.specs.Tables.{limits_of, Obtained}
use Rattle.cones.proofs.Alike.{found_alike, judged_by}
use Rattle.cones.proofs.Obtained.{same_obtained, all_obtained}
use Rattle.cones.proofs.Wider.{lawful_limits_are_separated, janet_like_completes_what_any_division_completes}
use Rattle.cones.proofs.judging.shortfall_by.Goals as goal

pub returns : goal.returns
returns g c =
    let n = c.args.n in
    let order = order_of c.args.bar_code.now in
    let rows = rows_of c.args.bar_code.now in
    let count = length rows in
    let division = g.D.Division.meaning c.args.division.now in
    let lim = division rows order in
    let table = c.limits_by-limits.result in
    let own : Obtained n lim count table = c.limits_by-limits.ensures in
    let found = c.first_shortfall.result in
    let first = c.first_shortfall.ensures.first in
    record {
      first = λ other o.
          let same = same_obtained n count lim table other own o in
          found_alike n rows (limits_of table) (limits_of other) same found first;
      judged = λ on. judged_by division (g.met.D.Division.lawful c.args.division.now) n rows order on found
          (found_alike n rows (limits_of table) lim
          (all_obtained n count lim table own on.variables.most on.few) found first);
      separated = lawful_limits_are_separated;
      wider = janet_like_completes_what_any_division_completes;
    }
