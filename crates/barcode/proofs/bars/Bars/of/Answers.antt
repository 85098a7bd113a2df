use Rattle.std.proofs.Common.{◌≡◌, arith, replicate, sym}
use Rattle.barcode.proofs.bars.Bars.of.Goals as goal
use Rattle.barcode.proofs.bars.Bars.of.Goals.{then-rows-le64, else-rows-le64}

pub invariant_of-result : goal.invariant_of-result
invariant_of-result g c =
    record {
      most = omega arith;
      right = λ few k first. (let here : 0 ≡ k = omega arith in
          elim c.if-rows-le64.branch [
            | then-rows-le64 w ↦ rw (w.over-is, sym here) (w.families.ensures (replicate 8 0))
            | else-rows-le64 w ↦ absurd (omega (arith, w.if-rows-le64.false))
          ]);
      tops = λ x e. rw e at c.greatest_exponents.ensures.greatest;
    }
