use Rattle.std.proofs.Common.{◌≡◌, true, false, decimal, refl, codes, get_or, rules, tests, ℕ}
use lib.Utf8.{encode}
use Rattle.std.specs.Prelude.{nat_lt}
use Rattle.lines.proofs.Joined.{none_more, next_between, next_written}
use Rattle.lines.proofs.written.ListedDisplay.fmt.Goals as goal
use Rattle.lines.proofs.written.ListedDisplay.fmt.Goals.{then-variable-gt0+in_ok-write, else-variable-gt0}

pub loop-variable-preserved : goal.loop-variable-preserved
unfolding encode
loop-variable-preserved g c =
    let order = c.args.self.now.0.now in
    let i = c.loop-variable.variable-index in
    let took = g.W.Write.write_str_gives in
    let above_0 = λ (v : ℕ). nat_lt 0 v in
    elim c.if-variable-gt0.branch [
      | then-variable-gt0+in_ok-write w ↦
          let passes : nat_lt 0 (get_or order i 0) ≡ true = search (rules, tests) in
          rw (w.f-is, w.separator-is) (record {
            text = (codes ",", (refl, refl));
            separates = next_between took (codes ",") decimal above_0 order i 0 c.loop-variable-test.true passes;
            writes = λ plain.
                let so_far = c.loop-variable.invariant.writes plain in
                next_written took (codes ",") decimal above_0 order i 0 c.loop-variable-test.true c.args.f.now
                c.loop-variable.f w.write.new.self c.loop-variable.separator.now passes
                c.loop-variable.invariant.separates
                so_far
                (w.in_ok-write.ensures.writes so_far.plain (refl {a = true}));
          })
      | else-variable-gt0 w ↦
          let fails : nat_lt 0 (get_or order i 0) ≡ false = search (rules, tests) in
          rw (
            w.f-is,
            w.separator-is,
            ← none_more took (codes ",") decimal above_0 order i 0 c.loop-variable-test.true
                fails,
          ) c.loop-variable.invariant
    ]
