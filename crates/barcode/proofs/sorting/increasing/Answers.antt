use Rattle.std.proofs.Common.{rules, tests, ◌≡◌, ◌<◌, ◌≤◌, ℕ, map, length, get_or, arith}
use Rattle.std.proofs.lemmas.Bool.Decides.{same_from_decides}
use Rattle.std.proofs.lemmas.Fn.{always_returns_same}
use Rattle.std.specs.List.Sorted.{IsSortedBy}
use Rattle.std.specs.Ordering.{is_lt}
use Rattle.elements.proofs.Made.{made}
use Rattle.orderings.specs.Rows.{row}
use Rattle.barcode.proofs.Increasing.{before, before_decides, weak_order, every_place, only_places, in_order}
use Rattle.barcode.proofs.sorting.increasing.Goals as goal

pub returns : goal.returns
returns g c =
    let rows = map g.E.Element.shown c.args.rows.now in
    let order = c.args.order.now in
    let m = length c.args.rows.now in
    let all = c.from_fn-places.result in
    let long : m ≤ length all = omega (arith, c.requires, c.from_fn-places.ensures.items.long) in
    let moved = c.sort_unstable_by.ensures.permutation in
    let own : (k : ℕ) → k < length all → get_or all k 0 ≡ k =
    λ k l. made _ _ (λ i o. o ≡ i) (λ i o q h. search (rules, tests)) all 0 64 c.from_fn-places.ensures.items k
    (omega (arith, c.from_fn-places.ensures.items.long)) in
    let sorted = c.sort_unstable_by.new.self in
    let up : IsSortedBy (λ p q. before order (row rows p) (row rows q)) sorted =
    c.sort_unstable_by.ensures.sorted (λ p q. before order (row rows p) (row rows q))
    (weak_order order rows (λ p q. before order (row rows p) (row rows q))
    (λ p q. before_decides order (row rows p) (row rows q)))
    (always_returns_same _ (λ a r. is_lt r ≡ before order (row rows a.0.now) (row rows a.1.0.now)) _
    (λ a r n h. (
      same_from_decides _ _ (search (rules, tests)) (before_decides order (row rows a.0.now) (row rows a.1.0.now)),
      search (rules, tests),
    ))) in
    record {
      every = every_place rows order m all sorted long own moved;
      within = only_places rows order m all sorted long own moved;
      increasing = in_order rows order m all sorted long own moved up;
    }
