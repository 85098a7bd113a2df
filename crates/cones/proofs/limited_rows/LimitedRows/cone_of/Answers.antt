use Rattle.cones.proofs.Divisors.{cones_are_disjoint, the_cone_is_of_the_greatest_divisor}
use Rattle.cones.proofs.limited_rows.LimitedRows.cone_of.Goals as goal

pub returns : goal.returns
returns g c = record {
  first = rw c.of.ensures at c.cone_of_shape.ensures;
  alone = cones_are_disjoint;
  greatest = the_cone_is_of_the_greatest_divisor;
}
