use Rattle.std.proofs.Common.{◌≡◌, map}
use Rattle.search.proofs.Stepping.{Walking, work}
use Rattle.search.proofs.searching.search.Given as goal

-- the walk stands at the prefix, and is of the rows
abbrev pub invariant-search : goal.invariant-search
invariant-search g l =
    record {
      stands : Walking (g.D.Division.meaning l.division) l.n (map g.E.Element.shown l.rows) l.prefix l.from l.tested
          l.walk.table.limits l.walk.cones;
      rows : l.walk.rows.now ≡ l.rows;
    }

abbrev pub decreases-search : goal.decreases-search
decreases-search g l = work l.n l.prefix l.from
