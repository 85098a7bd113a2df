use Rattle.std.proofs.Common.{rules, tests, ◌≡◌, ℕ, None, subst, map, ◌<◌, length, Decides, not, sym, ◌∙◌, arith}
use Rattle.std.proofs.lemmas.Bool.{ltb-true}
use Rattle.std.proofs.lemmas.List.{length-map, get_or_default}
use Rattle.std.proofs.lemmas.Iterator.{cases_from_any, YieldsList-from_slice}
use Rattle.orderings.proofs.Places.{row_read}
use Rattle.barcode.specs.BarCode.{rows_of, order_of, HasRow, row_at, gap_at, IsGapOf, HasStar}
use Rattle.barcode.specs.Bars.{Rises}
use Rattle.barcode.specs.Gap.{IsGapAt}
use Rattle.barcode.proofs.Walks.{gap_told}
use Rattle.barcode.proofs.Found.{star_told}
use Rattle.barcode.proofs.Gaps.{star_has_no_gap, star_by_gap, none_told}
use Rattle.barcode.proofs.Levels.{set_within, star_kept}
use Rattle.barcode.proofs.bar_code.BarCode.has_star.Given as Given
use Rattle.barcode.proofs.bar_code.BarCode.has_star.Goals as goal

no_gap : (g : Given.Over) (c : goal.After-is_none g) →
    Decides c.is_none.result (gap_at c.args.self.now c.args.place c.args.variable ≡ None)
no_gap g c =
    let self = c.args.self.now in
    let here : HasRow self c.args.place = ltb-true _ _ (sym c.in-Some.ensures.lookup.0) in
    let there : IsGapOf self c.args.place c.args.variable c.gap.result =
    subst (λ (k : ℕ). IsGapAt (rows_of self) (order_of self) k (row_at self c.args.place) c.gap.result)
    c.position-here.ensures.value c.gap.ensures in
    let same = gap_told (rows_of self) (order_of self) c.args.place c.args.variable c.gap.result
    (omega (arith, here, length-map self.rows.now g.E.Element.shown)) there in
    rw (sym same) (none_told c.gap.result c.is_none.result c.is_none.ensures)

pub returns-in-Some-Some-clause-no_gap : goal.returns-in-Some-Some-clause-no_gap
returns-in-Some-Some-clause-no_gap g c = no_gap g c

pub returns-in-Some-Some-clause-row : goal.returns-in-Some-Some-clause-row
returns-in-Some-Some-clause-row g c = λ l.
    let self = c.args.self.now in
    star_by_gap (rows_of self) (order_of self) c.args.place c.args.variable c.is_none.result
    (omega (arith, l, length-map self.rows.now g.E.Element.shown)) (no_gap g c)

pub none_rises-requires : goal.none_rises-requires
none_rises-requires g c =
    let self = c.args.self.now in
    set_within g.E.Element.shown self.rows.now self.order.now c.args.place c.args.variable c.position-here.result
    c.in-Some-Some-2.over c.position-here.ensures.value c.in-Some-Some-2.ensures

kept : (g : Given.Over) (c : goal.After-none_rises g) →
    Decides c.none_rises.result (HasStar c.args.self.now c.args.place c.args.variable)
kept g c =
    let shown = g.E.Element.shown in
    let rows = c.args.self.now.rows.now in
    let order = c.args.self.now.order.now in
    let u = c.in-Some.u.now in
    let x = c.in-Some-Some-2.variable.now in
    let here : c.args.place < length rows = ltb-true _ _ (sym c.in-Some.ensures.lookup.0) in
    let listed : c.position-here.result < length order = ltb-true _ _ (sym c.in-Some-Some-2.ensures'.lookup.0) in
    star_kept shown rows order c.args.place c.args.variable c.position-here.result c.in-Some-Some-2.over
    c.position-here.ensures.value c.in-Some-Some-2.ensures u x
    (row_read shown rows c.args.place u here c.in-Some.ensures.lookup.1)
    (c.in-Some-Some-2.ensures'.lookup.1 ∙ get_or_default order c.position-here.result x 0 listed)
    c.none_rises.result c.none_rises.ensures

pub returns-in-Some-Some-2-clause-row : goal.returns-in-Some-Some-2-clause-row
returns-in-Some-Some-2-clause-row g c = λ _. kept g c

pub returns-in-Some-Some-2-clause-no_gap : goal.returns-in-Some-Some-2-clause-no_gap
returns-in-Some-Some-2-clause-no_gap g c =
    let self = c.args.self.now in
    let here : HasRow self c.args.place = ltb-true _ _ (sym c.in-Some.ensures.lookup.0) in
    star_has_no_gap (rows_of self) (order_of self) c.args.place c.args.variable c.none_rises.result
    (omega (arith, here, length-map self.rows.now g.E.Element.shown)) (kept g c)

pub returns : goal.returns
returns g c =
    let shown = g.E.Element.shown in
    let self = c.args.self.now in
    let rows = self.rows.now in
    let order = self.order.now in
    let u = c.in-Some.u.now in
    let here : c.args.place < length rows = ltb-true _ _ (sym c.in-Some.ensures.lookup.0) in
    let star : Decides (not c.any.result) (HasStar self c.args.place c.args.variable) =
    rw (row_read shown rows c.args.place u here c.in-Some.ensures.lookup.1)
    (star_told shown rows order c.args.variable u c.any.result
    (cases_from_any c.any.new.self _ _ (λ x. Rises order c.args.variable (shown u) (shown x))
    (λ x. Rises order c.args.variable (shown u) (shown x) → ⊥) c.any.ensures.ran
    (YieldsList-from_slice rows cc) (λ x q k. search (rules, tests)) (λ x q k. search (rules, tests)))) in
    record {
      row = λ _. star;
      no_row = λ past. absurd (omega (arith, past, here));
      no_gap = star_has_no_gap (map shown rows) order c.args.place c.args.variable (not c.any.result)
          (omega (arith, here, length-map rows shown)) star;
    }
