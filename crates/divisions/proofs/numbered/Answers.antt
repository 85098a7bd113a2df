use Rattle.std.proofs.Common.{ℕ, get_or, None, ap, arith}
use Rattle.divisions.specs.Numbered.{by_number}
use Rattle.divisions.proofs.ByNumber.{no_other}
use Rattle.divisions.proofs.Told.{janet_is_told_by_stars, janet_like_is_told_by_gaps, thomas_is_told_by_greater_rows}
use Rattle.divisions.proofs.numbered.Goals as goal

pub returns-in-1 : goal.returns-in-1
returns-in-1 c = record {
  number = ap (λ (r : ℕ). get_or by_number r None) c.in-1.is;
  stars = janet_is_told_by_stars;
  gaps = janet_like_is_told_by_gaps;
  greater_rows = thomas_is_told_by_greater_rows;
}

pub returns-in-2 : goal.returns-in-2
returns-in-2 c = record {
  number = ap (λ (r : ℕ). get_or by_number r None) c.in-2.is;
  stars = janet_is_told_by_stars;
  gaps = janet_like_is_told_by_gaps;
  greater_rows = thomas_is_told_by_greater_rows;
}

pub returns-in-3 : goal.returns-in-3
returns-in-3 c = record {
  number = ap (λ (r : ℕ). get_or by_number r None) c.in-3.is;
  stars = janet_is_told_by_stars;
  gaps = janet_like_is_told_by_gaps;
  greater_rows = thomas_is_told_by_greater_rows;
}

pub returns-in_default : goal.returns-in_default
returns-in_default c = record {
  number = no_other c.args.number (λ e. omega arith) (λ e. omega arith) (λ e. omega arith);
  stars = janet_is_told_by_stars;
  gaps = janet_like_is_told_by_gaps;
  greater_rows = thomas_is_told_by_greater_rows;
}
