use Rattle.std.proofs.Common.{ℕ, ◌++◌, length, drop, Option}
use Rattle.barcode.specs.BarCode.{rows_of, order_of}
use Rattle.search.specs.Columns.{column, Wide, HasLimitedPlaces}
use Rattle.search.proofs.Writing.{Writing}
use Rattle.search.proofs.columns.fill_column.Given as goal

-- the column has the limits so far, and their places are told
abbrev pub invariant-loop-q : goal.invariant-loop-q
invariant-loop-q g l =
    let limits = g.D.Division.meaning l.division (rows_of l.bar_code) (order_of l.bar_code) in
    let f : ℕ → Option ℕ = column limits l.x in
    record {
      column : Wide l.fn.table →
          Writing f l.x l.q l.fn.table (l.limits-items ++ drop (length l.bar_code.rows.now) l.fn.table);
      places : HasLimitedPlaces f l.q l.places;
    }
