use Rattle.std.proofs.Common.{◌≡◌, ℕ, ◌<◌, ◌&&◌, map, length, filter, sym, rules, tests, arith}
use Rattle.std.specs.List.{range_with_len}
use Rattle.std.proofs.lemmas.Bool.{ltb-true}
use Rattle.std.proofs.lemmas.Iterator.{YieldsList-from_range}
use Rattle.std.proofs.lemmas.Iterator.Consumers.{YieldsList-from_filter, count_from_yields_List}
use Rattle.orderings.specs.Rows.{row}
use Rattle.orderings.proofs.Places.{row_read}
use Rattle.barcode.specs.BarCode.{order_of, row_at, opens_at}
use Rattle.barcode.specs.Bars.{opens_bar, lower_bar}
use Rattle.barcode.proofs.Count.{counted, below_all, bar_number_counts}
use Rattle.barcode.proofs.bar_code.BarCode.bar_number.Given as Given
use Rattle.barcode.proofs.bar_code.BarCode.bar_number.Goals as goal

pub returns-in_default-clause-counts : goal.returns-in_default-clause-counts
returns-in_default-clause-counts g c = bar_number_counts

-- what the code counted
counts : (g : Given.Over) (c : goal.After-count-lower g) →
    let self = c.args.self.now in
    let v = c.args.variable in
    let u = g.E.Element.shown c.in-Some.row.now in
    c.count-lower.result ≡ length (filter (λ q. opens_at self q v && lower_bar (order_of self) v (row_at self q) u)
    (range_with_len 0 (length self.rows.now)))
counts g c =
    let shown = g.E.Element.shown in
    let rows = c.args.self.now.rows.now in
    let order = c.args.self.now.order.now in
    let v = c.args.variable in
    let u = shown c.in-Some.row.now in
    count_from_yields_List c.filter.result c.count-lower.result c.count-lower.ensures.ran
    (YieldsList-from_filter _
    (λ (q : ℕ). opens_bar (map shown rows) order v q q && lower_bar order v (row (map shown rows) q) u)
    (YieldsList-from_range 0 (length rows) (length rows) c.filter.ensures.source (omega arith))
    c.filter.ensures.closure (λ x b q k. search (rules, tests)))

pub overflow_add-result : goal.overflow_add-result
overflow_add-result g c =
    let shown = g.E.Element.shown in
    let self = c.args.self.now in
    let u = c.in-Some.row.now in
    let here : c.args.place < length self.rows.now = ltb-true _ _ (sym c.in-Some.ensures.lookup.0) in
    let read = row_read shown self.rows.now c.args.place u here c.in-Some.ensures.lookup.1 in
    omega (
      arith,
      below_all shown self.rows.now self.order.now c.args.variable c.args.place u here read c.count-lower.result
          (counts g c),
    )

pub returns-clause-row : goal.returns-clause-row
returns-clause-row g c here =
    let shown = g.E.Element.shown in
    let self = c.args.self.now in
    let u = c.in-Some.row.now in
    counted shown self.rows.now self.order.now c.args.variable c.args.place u here
    (row_read shown self.rows.now c.args.place u here c.in-Some.ensures.lookup.1) c.count-lower.result (counts g c)

pub returns-clause-counts : goal.returns-clause-counts
returns-clause-counts g c = bar_number_counts
