use Rattle.std.proofs.Common.{sym, ◌∙◌}
use Rattle.search.proofs.Writing.{no_limit, start_wide, start_limits}
use Rattle.search.proofs.table.Table.new.Goals as goal

pub invariant_of-result : goal.invariant_of-result
invariant_of-result c = record {
  few = c.requires;
  wide = start_wide;
  placed = λ v some most q d below is. no_limit d (sym (start_limits q v) ∙ is);
}
