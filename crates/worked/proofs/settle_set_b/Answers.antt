use Rattle.worked.proofs.Results.{ten, ordering_b, tested_b}
use Rattle.worked.proofs.Seeded.{seeded}
use Rattle.worked.proofs.settle_set_b.Goals as goal

pub returns : goal.returns
returns c = record {
  tested = tested_b _ _ _ c.make-cube.ensures c.make-mixed.ensures c.make-square.ensures
      c.search.result.tested c.search.ensures.tested;
  ordering = ordering_b _ _ _ c.make-cube.ensures c.make-mixed.ensures c.make-square.ensures
      c.search.result.ordering c.search.ensures.ordering;
  ten = ten;
  seeded = seeded;
}
