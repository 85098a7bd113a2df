use Rattle.std.proofs.Common.{◌≡◌, map, length}
use Rattle.barcode.specs.Sorting.{AreCommon}
use Rattle.barcode.proofs.sorting.commons_of.Given as goal

abbrev pub invariant-loop-i : goal.invariant-loop-i
invariant-loop-i g l = record {
  long : length l.commons ≡ 64;
  told : AreCommon (map g.E.Element.shown l.rows) l.order l.places l.commons l.i;
}
