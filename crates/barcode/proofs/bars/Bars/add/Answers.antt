use Rattle.std.proofs.Common.{[], map, arith}
use Rattle.std.proofs.lemmas.List.{set-get_or}
use Rattle.barcode.proofs.Levels.{levels_more}
use Rattle.barcode.proofs.bars.Bars.add.Goals as goal

pub invariant_of-self : goal.invariant_of-self
invariant_of-self g c =
    let self = c.args.self.now in
    record {
      most = omega (arith, c.requires.room);
      right = λ few. rw (set-get_or self.over self.known (record { sets = [] }))
          (levels_more (map g.E.Element.shown self.rows.now) self.listed self.over self.known c.args.variable
          c.split.result (omega arith) (omega arith) (self.right few) (λ order. c.split.ensures order self.known));
      tops = self.tops;
    }
