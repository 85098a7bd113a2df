use Rattle.std.proofs.Common.{◌≡◌, ℕ, ◌≤◌, List, length, None, IfSome, Option, sym, refl, ap, ◌∙◌, arith}
use Rattle.std.specs.Option.{option_map}
use Rattle.std.proofs.lemmas.Bool.Decides.{not_from_Decides}
use Rattle.std.proofs.lemmas.List.{length-map}
use Rattle.std.proofs.lemmas.Grind.{common_steps}
use Rattle.elements.specs.Element.{Shown}
use Rattle.orderings.specs.Order.{VariableCount, IsOrdering}
use Rattle.divisions.specs.Laws.{Meaning}
use Rattle.search.specs.Prefixes.{padded}
use Rattle.search.specs.Prefix.{entries_of}
use Rattle.search.specs.Liveness.{RowsOfSheet, answer, tested}
use Rattle.search.specs.Theorems.{TheTheoremsOfTheSearch}
use Rattle.search.proofs.Held.{open_entries}
use Rattle.search.proofs.Orders.{completed_ordering}
use Rattle.search.proofs.Listed.{listing_has_every_prefix_in_order}
use Rattle.search.proofs.Deadness.{live_is_told_by_its_test, prefix_limits_hold_in_every_extension, every_extension_of_a_dead_prefix_is_dead, every_live_prefix_is_reached, no_ordering_extends_a_dead_prefix_to_completeness, full_prefix_is_live_exactly_when_complete}
use Rattle.search.proofs.Tested.{the_tested_prefixes_are_those_of_the_rule}
use Rattle.search.proofs.Answered.{the_answer_is_the_first_complete_ordering}
use Rattle.search.proofs.Stepping.{Answers, told_alike, tests_fit, walking_start, next_fresh, pop_range, walking_back, work_back, next_range, walking_dead, work_dead, walking_on, work_on, walking_end, walking_found}
use Rattle.search.proofs.searching.search.Goals as goal

pub search-init : goal.search-init
search-init g c =
    let lawful = g.met.D.Division.lawful c.args.division.now in
    let some = (c.is_variable_count.ensures.0 c.if-not-is_variable_count.false).some in
    record {
      stands = rw (c.new-walk.ensures.limits, c.new-walk.ensures.cones)
          (walking_start lawful some c.new-prefix.result c.new-prefix.ensures.len c.new-prefix.ensures.same);
      rows = c.new-walk.ensures.rows;
    }

pub clear_column-requires : goal.clear_column-requires
clear_column-requires g c =
    let lawful = g.met.D.Division.lawful c.args.division.now in
    pop_range lawful c.search.invariant.stands c.in-None.ensures c.pop.new.self c.in-Some-pop.ensures

pub search-smaller-in-None : goal.search-smaller-in-None
search-smaller-in-None g c =
    let lawful = g.met.D.Division.lawful c.args.division.now in
    work_back lawful c.search.invariant.stands c.in-None.ensures c.pop.new.self c.in-Some-pop.ensures

pub search-preserved-in-None : goal.search-preserved-in-None
search-preserved-in-None g c =
    let lawful = g.met.D.Division.lawful c.args.division.now in
    let same = c.search.invariant.rows in
    let long = length-map c.args.rows.now g.E.Element.shown ∙ sym (ap length same) in
    record {
      stands = rw c.clear_column.ensures.cones
          (walking_back lawful c.search.invariant.stands c.in-None.ensures c.pop.new.self c.in-Some-pop.ensures
          c.clear_column.new.self.table.limits _ long c.clear_column.ensures.column);
      rows = c.clear_column.ensures.rows ∙ same;
    }

pub push-requires : goal.push-requires
push-requires g c =
    let lawful = g.met.D.Division.lawful c.args.division.now in
    let (range, unused) = next_fresh lawful c.search.invariant.stands c.in-Some.x c.in-Some.ensures in
    record { variable = range; unused = unused }

pub overflow_add-tested : goal.overflow_add-tested
overflow_add-tested g c =
    let lawful = g.met.D.Division.lawful c.args.division.now in
    omega (arith, tests_fit lawful c.search.invariant.stands)

pub clear_column-requires-then-not-extend : goal.clear_column-requires-then-not-extend
clear_column-requires-then-not-extend g c =
    let lawful = g.met.D.Division.lawful c.args.division.now in
    next_range lawful c.search.invariant.stands c.in-Some.x c.in-Some.ensures

pub search-smaller-then-not-extend : goal.search-smaller-then-not-extend
search-smaller-then-not-extend g c =
    let lawful = g.met.D.Division.lawful c.args.division.now in
    let told =
    told_alike _ _ _ _ _ c.args.rows.now c.search.walk c.remember_if_long.new.self c.extend.new.self
    (c.remember_if_long.ensures.rows ∙ c.search.invariant.rows) c.remember_if_long.ensures.table
    c.remember_if_long.ensures.cones c.extend.ensures.extended in
    work_dead lawful c.search.invariant.stands c.in-Some.x c.in-Some.ensures c.push.new.self c.push.ensures _ _ _ told
    _ c.pop-then-not-extend.new.self c.pop-then-not-extend.ensures

pub search-preserved-then-not-extend : goal.search-preserved-then-not-extend
search-preserved-then-not-extend g c =
    let lawful = g.met.D.Division.lawful c.args.division.now in
    let told =
    told_alike _ _ _ _ _ c.args.rows.now c.search.walk c.remember_if_long.new.self c.extend.new.self
    (c.remember_if_long.ensures.rows ∙ c.search.invariant.rows) c.remember_if_long.ensures.table
    c.remember_if_long.ensures.cones c.extend.ensures.extended in
    let same = c.extend.ensures.rows ∙ c.remember_if_long.ensures.rows ∙ c.search.invariant.rows in
    let long = length-map c.args.rows.now g.E.Element.shown ∙ sym (ap length same) in
    record {
      stands = rw c.clear_column-then-not-extend.ensures.cones
          (walking_dead lawful c.search.invariant.stands c.in-Some.x c.in-Some.ensures c.push.new.self c.push.ensures
          _ _ _ told _ c.pop-then-not-extend.new.self c.pop-then-not-extend.ensures c.if-not-extend.true
          _ _ long c.clear_column-then-not-extend.ensures.column);
      rows = c.clear_column-then-not-extend.ensures.rows ∙ same;
    }

pub search-smaller : goal.search-smaller
search-smaller g c =
    let lawful = g.met.D.Division.lawful c.args.division.now in
    let told =
    told_alike _ _ _ _ _ c.args.rows.now c.search.walk c.remember_if_long.new.self c.extend.new.self
    (c.remember_if_long.ensures.rows ∙ c.search.invariant.rows) c.remember_if_long.ensures.table
    c.remember_if_long.ensures.cones c.extend.ensures.extended in
    work_on lawful c.search.invariant.stands c.in-Some.x c.in-Some.ensures c.push.new.self c.push.ensures _ _ _ told
    c.if-not-extend.false (not_from_Decides _ c.is_full.ensures c.if-is_full.false)

pub search-preserved : goal.search-preserved
search-preserved g c =
    let lawful = g.met.D.Division.lawful c.args.division.now in
    let told =
    told_alike _ _ _ _ _ c.args.rows.now c.search.walk c.remember_if_long.new.self c.extend.new.self
    (c.remember_if_long.ensures.rows ∙ c.search.invariant.rows) c.remember_if_long.ensures.table
    c.remember_if_long.ensures.cones c.extend.ensures.extended in
    record {
      stands =
          walking_on lawful c.search.invariant.stands c.in-Some.x c.in-Some.ensures c.push.new.self c.push.ensures _ _ _
          told c.if-not-extend.false (not_from_Decides _ c.is_full.ensures c.if-is_full.false);
      rows = c.extend.ensures.rows ∙ c.remember_if_long.ensures.rows ∙ c.search.invariant.rows;
    }

-- what is found, and the theorems
with_theorems : {m : Meaning} {n : ℕ} {rows : List Shown} {o : Option (List ℕ)} {c k : ℕ} →
    (RowsOfSheet n rows → Answers m n rows o c) →
    IfSome o (IsOrdering n) → ((VariableCount n → k ≤ 64 → ⊥) → (c ≡ 0) × (o ≡ None)) → record {
      ordering : RowsOfSheet n rows → o ≡ option_map padded (answer m n rows);
      tested : RowsOfSheet n rows → c ≡ length (tested m n rows);
      ordered : IfSome o (IsOrdering n);
      refused : (VariableCount n → k ≤ 64 → ⊥) → (c ≡ 0) × (o ≡ None);
      theorems : TheTheoremsOfTheSearch;
    }
with_theorems answers ordered refused = record {
  ordering = λ s. (answers s).ordering;
  tested = λ s. (answers s).tested;
  ordered = ordered;
  refused = refused;
  theorems = record {
    listing_has_every_prefix_in_order = listing_has_every_prefix_in_order;
    live_is_told_by_its_test = live_is_told_by_its_test;
    prefix_limits_hold_in_every_extension = prefix_limits_hold_in_every_extension;
    every_extension_of_a_dead_prefix_is_dead = every_extension_of_a_dead_prefix_is_dead;
    every_live_prefix_is_reached = every_live_prefix_is_reached;
    no_ordering_extends_a_dead_prefix_to_completeness = no_ordering_extends_a_dead_prefix_to_completeness;
    full_prefix_is_live_exactly_when_complete = full_prefix_is_live_exactly_when_complete;
    the_tested_prefixes_are_those_of_the_rule = the_tested_prefixes_are_those_of_the_rule;
    the_answer_is_the_first_complete_ordering = the_answer_is_the_first_complete_ordering;
  };
}

pub returns-then-not-is_variable_count : goal.returns-then-not-is_variable_count
returns-then-not-is_variable_count g c =
    with_theorems {m = g.D.Division.meaning c.args.division.now} (λ s. absurd (grind (arith, common_steps))) tt
    (λ _. (refl, refl))

pub returns-in_default : goal.returns-in_default
returns-in_default g c =
    let lawful = g.met.D.Division.lawful c.args.division.now in
    with_theorems (walking_end lawful c.search.invariant.stands c.in-None.ensures c.in_default.ensures.last) tt
    (grind (arith, common_steps))

pub returns-then-is_full : goal.returns-then-is_full
returns-then-is_full g c =
    let lawful = g.met.D.Division.lawful c.args.division.now in
    let told =
    told_alike _ _ _ _ _ c.args.rows.now c.search.walk c.remember_if_long.new.self c.extend.new.self
    (c.remember_if_long.ensures.rows ∙ c.search.invariant.rows) c.remember_if_long.ensures.table
    c.remember_if_long.ensures.cones c.extend.ensures.extended in
    let p = c.push.new.self in
    let same : p.n ≡ c.args.n = c.push.ensures.same ∙ c.search.invariant.stands.same in
    with_theorems
    (walking_found lawful c.search.invariant.stands c.in-Some.x c.in-Some.ensures p c.push.ensures _ _ _ told
    c.if-not-extend.false (c.is_full.ensures.0 c.if-is_full.true) _ c.completed.ensures)
    (rw (c.completed.ensures, ← same) (completed_ordering p.n (entries_of p) (open_entries p.proper) p.few))
    (grind (arith, common_steps))
