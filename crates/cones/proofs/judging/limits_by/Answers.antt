use Rattle.cones.proofs.Obtained.{none_at}
use Rattle.cones.proofs.judging.limits_by.Goals as goal

pub fill_table-requires : goal.fill_table-requires
fill_table-requires g c = none_at

pub fill_table-requires-else-saturating_mul-lt-MANY : goal.fill_table-requires-else-saturating_mul-lt-MANY
fill_table-requires-else-saturating_mul-lt-MANY g c = none_at
