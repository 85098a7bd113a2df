use Rattle.std.proofs.Common.{◌-◌, take}
use Rattle.search.proofs.Filling.{Filled}
use Rattle.search.proofs.prefix.Prefix.completed.Given as goal

-- the unused variables so far follow the prefix
abbrev pub invariant-loop-x : goal.invariant-loop-x
invariant-loop-x l = Filled l.self.n (take l.self.len l.self.entries) (l.x - 1) l.count l.order
