use Rattle.std.proofs.Common.{rules, tests, ℕ, subst, ◌<◌, length, sym, ◌∙◌, arith}
use Rattle.std.proofs.lemmas.Bool.{ltb-true}
use Rattle.std.proofs.lemmas.List.{get_or_default, length-map}
use Rattle.std.proofs.lemmas.Iterator.{YieldsList-from_slice}
use Rattle.std.proofs.lemmas.Iterator.Adapters.{option_map_id}
use Rattle.std.proofs.lemmas.Iterator.Consumers.{YieldsList-from_filter_map, min_from_yields_List}
use Rattle.orderings.proofs.Places.{row_read}
use Rattle.barcode.specs.BarCode.{rows_of, order_of, HasRow, row_at, IsGapOf}
use Rattle.barcode.specs.Gap.{IsGapAt, rise}
use Rattle.barcode.proofs.Gaps.{gap_all, returned}
use Rattle.barcode.proofs.Least.{least_picked}
use Rattle.barcode.proofs.Levels.{set_within, gap_kept}
use Rattle.barcode.proofs.Walks.{gap_told}
use Rattle.barcode.proofs.bar_code.BarCode.gap.Given as Given
use Rattle.barcode.proofs.bar_code.BarCode.gap.Goals as goal

-- what the increasing order of the rows tells
by_order : (g : Given.Over) (c : goal.After-gap g) → IsGapOf c.args.self.now c.args.place c.args.variable c.gap.result
by_order g c =
    let self = c.args.self.now in
    subst (λ (k : ℕ). IsGapAt (rows_of self) (order_of self) k (row_at self c.args.place) c.gap.result)
    c.position-here.ensures.value c.gap.ensures

pub returns-in-Some-Some-clause-value : goal.returns-in-Some-Some-clause-value
returns-in-Some-Some-clause-value g c =
    let self = c.args.self.now in
    let here : HasRow self c.args.place = ltb-true _ _ (sym c.in_ok-u.ensures.lookup.0) in
    gap_told (rows_of self) (order_of self) c.args.place c.args.variable c.gap.result
    (omega (arith, here, length-map self.rows.now g.E.Element.shown)) (by_order g c)

pub returns-in-Some-Some-clause-smallest : goal.returns-in-Some-Some-clause-smallest
returns-in-Some-Some-clause-smallest g c = λ _. by_order g c

pub least_rise-requires : goal.least_rise-requires
least_rise-requires g c =
    let self = c.args.self.now in
    set_within g.E.Element.shown self.rows.now self.order.now c.args.place c.args.variable c.position-here.result
    c.in-Some-Some-2.over c.position-here.ensures.value c.in-Some-Some-2.ensures

-- what the set of the rows over the bar tells
by_set : (g : Given.Over) (c : goal.After-least_rise g) →
    IsGapOf c.args.self.now c.args.place c.args.variable c.least_rise.result
by_set g c =
    let shown = g.E.Element.shown in
    let rows = c.args.self.now.rows.now in
    let order = c.args.self.now.order.now in
    let u = c.in_ok-u.u.now in
    let x = c.in-Some-Some-2.variable.now in
    let here : c.args.place < length rows = ltb-true _ _ (sym c.in_ok-u.ensures.lookup.0) in
    let listed : c.position-here.result < length order = ltb-true _ _ (sym c.in-Some-Some-2.ensures'.lookup.0) in
    gap_kept shown rows order c.args.place c.args.variable c.position-here.result c.in-Some-Some-2.over
    c.position-here.ensures.value c.in-Some-Some-2.ensures u x
    (row_read shown rows c.args.place u here c.in_ok-u.ensures.lookup.1)
    (c.in-Some-Some-2.ensures'.lookup.1 ∙ get_or_default order c.position-here.result x 0 listed)
    c.least_rise.result c.least_rise.ensures

pub returns-in-Some-Some-2-clause-value : goal.returns-in-Some-Some-2-clause-value
returns-in-Some-Some-2-clause-value g c =
    let self = c.args.self.now in
    let here : HasRow self c.args.place = ltb-true _ _ (sym c.in_ok-u.ensures.lookup.0) in
    gap_told (rows_of self) (order_of self) c.args.place c.args.variable c.least_rise.result
    (omega (arith, here, length-map self.rows.now g.E.Element.shown)) (by_set g c)

pub returns-in-Some-Some-2-clause-smallest : goal.returns-in-Some-Some-2-clause-smallest
returns-in-Some-Some-2-clause-smallest g c = λ _. by_set g c

pub returns : goal.returns
returns g c =
    let shown = g.E.Element.shown in
    let rows = c.args.self.now.rows.now in
    let order = c.args.self.now.order.now in
    let u = c.in_ok-u.u.now in
    let f = rise order c.args.variable (shown u) in
    let picked = min_from_yields_List c.filter_map.result c.min.result c.min.ensures.ran
    (YieldsList-from_filter_map _ (λ x. f (shown x)) (YieldsList-from_slice rows cc) c.filter_map.ensures.closure
    (λ x r q k. search (rules, tests))) in
    let here : c.args.place < length rows = ltb-true _ _ (sym c.in_ok-u.ensures.lookup.0) in
    let e = gap_all shown order c.args.variable rows c.args.place (shown u) c.min.result here
    (row_read shown rows c.args.place u here c.in_ok-u.ensures.lookup.1)
    (sym (option_map_id c.min.result) ∙ picked ∙ least_picked f shown rows) in
    record { value = e; smallest = returned shown order c.args.variable rows c.args.place _ e }
