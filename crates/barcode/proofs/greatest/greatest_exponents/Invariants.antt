use Rattle.std.proofs.Common.{map}
use Rattle.barcode.proofs.Tops.{Tops}
use Rattle.barcode.proofs.greatest.greatest_exponents.Given as goal

-- the greatest exponents of the rows so far, which are of one family
abbrev pub invariant-loop-w : goal.invariant-loop-w
invariant-loop-w g l = Tops (map g.E.Element.shown l.rows) l.greatest l.w-index
