use Rattle.std.proofs.Common.{◌≡◌, ℕ, ◌<◌, map}
use Rattle.elements.specs.Element.{blank}
use Rattle.orderings.specs.Rows.{row}
use Rattle.sheets.proofs.opening.clear.Given as goal

-- the places so far are blank
abbrev pub invariant-loop-place : goal.invariant-loop-place
invariant-loop-place g l = (k : ℕ) → k < l.place-index → row (map g.E.Element.shown l.table) k ≡ blank
