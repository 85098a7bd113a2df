use Rattle.std.proofs.Common.{◌++◌, drop, None}
use Rattle.search.specs.Columns.{Wide}
use Rattle.search.proofs.Writing.{Writing}
use Rattle.search.proofs.columns.clear_limits.Given as goal

-- the column is clear so far
abbrev pub invariant-loop-limits : goal.invariant-loop-limits
invariant-loop-limits l =
    Wide l.fn.table → Writing (λ q. None) l.x l.limits-index l.fn.table (l.limits-items ++ drop l.count l.fn.table)
