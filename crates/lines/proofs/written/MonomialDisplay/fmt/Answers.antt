use Rattle.std.proofs.Common.{◌≡◌, ◌+◌, ◌++◌, true, false, refl, codes, get_or, List, map, take, length, rules, tests, arith, ℕ, ◌<◌, sym, ap, ◌∙◌}
use lib.Utf8.{encode}
use Rattle.std.specs.Prelude.{nat_lt, filter}
use Rattle.std.proofs.Output.{has_written_of_eq, has_written_append}
use Rattle.std.proofs.lemmas.List.{take_all}
use Rattle.std.specs.List.{enumerate_from}
use Rattle.std.proofs.lemmas.List.FromFn.{length-enumerate_from, get_or-enumerate_from}
use Rattle.lines.specs.Written.{power_text, product_text}
use Rattle.lines.proofs.Joined.{none_more, next_between, next_written, product_of_none, product_of_some}
use Rattle.lines.proofs.written.MonomialDisplay.fmt.Goals as goal
use Rattle.lines.proofs.written.MonomialDisplay.fmt.Goals.{then-exponent-gt0+in_ok-write, else-exponent-gt0}

pub loop-i-preserved : goal.loop-i-preserved
unfolding encode
loop-i-preserved g c =
    let exponents = c.args.self.now.0.now in
    let items = enumerate_from 1 exponents in
    let i = c.loop-i.i in
    let took = g.W.Write.write_str_gives in
    let above_0 = λ (p : ℕ × ℕ). nat_lt 0 p.1 in
    let long : length exponents ≡ 8 = omega arith in
    let within : i < length items = rw length-enumerate_from (omega arith) in
    let item : get_or items i (0, 0) ≡ (1 + i, get_or exponents i 0) =
    get_or-enumerate_from 1 exponents i (0, 0) (omega arith) in
    let next : i + 1 ≡ 1 + i = omega arith in
    elim c.if-exponent-gt0.branch [
      | then-exponent-gt0+in_ok-write w ↦
          let passes : nat_lt 0 (get_or exponents i 0) ≡ true = search (rules, tests) in
          rw (w.f-is, w.separator-is) (record {
            eight = λ _. long;
            text = (codes " ", (refl, refl));
            separates = next_between took (codes " ") power_text above_0 items i (0, 0) within
                (ap above_0 item ∙ passes);
            writes = λ plain.
                let so_far = c.loop-i.invariant.writes plain in
                next_written took (codes " ") power_text above_0 items i (0, 0) within c.args.f.now c.loop-i.f
                w.write.new.self c.loop-i.separator.now (ap above_0 item ∙ passes) c.loop-i.invariant.separates so_far
                (has_written_of_eq took _ _ _ _ (ap (λ t. c.loop-i.separator.now ++ power_text t)
                (ap (λ (k : ℕ). (k, get_or exponents i 0)) next ∙ sym item)) (w.in_ok-write.ensures.writes so_far.plain
                (refl {a = true})));
          })
      | else-exponent-gt0 w ↦
          let fails : nat_lt 0 (get_or exponents i 0) ≡ false = search (rules, tests) in
          rw (
            w.f-is,
            w.separator-is,
            ← none_more took (codes " ") power_text above_0 items i (0, 0) within
                (ap above_0 item ∙ fails),
          ) (record {
            eight = λ _. long;
            text = c.loop-i.invariant.text;
            separates = c.loop-i.invariant.separates;
            writes = c.loop-i.invariant.writes;
          })
    ]

pub returns-in_ok-write-2-clause-writes : goal.returns-in_ok-write-2-clause-writes
returns-in_ok-write-2-clause-writes g c = λ plain ok.
    let items = enumerate_from 1 c.args.self.now.0.now in
    let took = g.W.Write.write_str_gives in
    let all : take c.loop-i.i items ≡ items =
    take_all c.loop-i.i items (rw length-enumerate_from (omega (arith, c.loop-i.invariant.eight))) in
    let words = λ (l : List (ℕ × ℕ)). map power_text (filter (λ p. nat_lt 0 p.1) l) in
    let so_far = c.loop-i.invariant.writes plain in
    has_written_of_eq took _ _ _ _
    (product_of_none (words (take c.loop-i.i items)) c.loop-i.separator.now c.loop-i.invariant.separates
    (sym c.is_empty.ensures ∙ c.if-is_empty.true) ∙ ap (λ l. product_text (words l)) all)
    (has_written_append took _ _ c.loop-i.f _ _ so_far (c.in_ok-write-2.ensures.writes so_far.plain (refl {a = true})))

pub returns-else-is_empty-clause-writes : goal.returns-else-is_empty-clause-writes
returns-else-is_empty-clause-writes g c = λ plain ok.
    let items = enumerate_from 1 c.args.self.now.0.now in
    let all : take c.loop-i.i items ≡ items =
    take_all c.loop-i.i items (rw length-enumerate_from (omega (arith, c.loop-i.invariant.eight))) in
    let words = λ (l : List (ℕ × ℕ)). map power_text (filter (λ p. nat_lt 0 p.1) l) in
    has_written_of_eq g.W.Write.write_str_gives _ _ _ _
    (product_of_some (words (take c.loop-i.i items)) c.loop-i.separator.now c.loop-i.invariant.separates
    (sym c.is_empty.ensures ∙ c.if-is_empty.false) ∙ ap (λ l. product_text (words l)) all)
    (c.loop-i.invariant.writes plain)
