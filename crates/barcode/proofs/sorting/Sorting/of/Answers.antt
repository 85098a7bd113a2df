use Rattle.std.proofs.Common.{arith}
use Rattle.std.proofs.lemmas.List.{length-map}
use Rattle.barcode.proofs.sorting.Sorting.of.Goals as goal

pub returns : goal.returns
returns g c =
    let xs = c.args.rows.now in
    let many = length-map xs g.E.Element.shown in
    let p = c.increasing-places.ensures in
    record {
      few = omega (arith, c.requires.few, many);
      places = λ i l. omega (arith, many, p.within i (omega (arith, l, many)));
      ranks = λ q l. (let (j, h, e) = p.every q (omega (arith, l, many)) in
          let (r, s) = c.ranks_of.ensures j h in
          (omega (arith, many, rw e at r), rw e at s));
      increasing = λ i j le l. p.increasing i j le (omega (arith, l, many));
      common = λ i l. c.commons_of.ensures i (omega (arith, l, many));
    }
