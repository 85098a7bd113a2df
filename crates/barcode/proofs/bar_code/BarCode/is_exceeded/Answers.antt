use Rattle.std.proofs.Common.{rules, tests, ◌≡◌, ◌<◌, length, map, ltb, sym, arith}
use Rattle.std.specs.List.{list_any}
use Rattle.std.proofs.lemmas.Bool.{ltb-true}
use Rattle.std.proofs.lemmas.List.{length-map}
use Rattle.std.proofs.lemmas.Iterator.{YieldsList-from_slice}
use Rattle.std.proofs.lemmas.Iterator.Search.{any_from_yields_List}
use Rattle.orderings.proofs.Places.{row_read}
use Rattle.barcode.specs.BarCode.{rows_of, exceeded_at}
use Rattle.barcode.specs.Exceeded.{exceeds, TellExceeded}
use Rattle.barcode.proofs.Exceeding.{decided_by_test, walk_told}
use Rattle.barcode.proofs.bar_code.BarCode.is_exceeded.Given as Given
use Rattle.barcode.proofs.bar_code.BarCode.is_exceeded.Goals as goal

-- by the greatest exponents
by_greatest : (g : Given.Over) (c : goal.After-exponent_in g) →
    ltb c.exponent.result c.exponent_in.result ≡ exceeded_at c.args.self.now c.args.place c.args.variable
by_greatest g c =
    let shown = g.E.Element.shown in
    let self = c.args.self.now in
    let rows = self.rows.now in
    let v = c.args.variable in
    let u = c.in-Some.given.now in
    let here : c.args.place < length rows = ltb-true _ _ (sym c.in-Some.ensures.lookup.0) in
    let read = row_read shown rows c.args.place u here c.in-Some.ensures.lookup.1 in
    let inside : c.args.place < length (map shown rows) = omega (arith, here, length-map rows shown) in
    let tell : TellExceeded (map shown rows) c.in-Some-greatest.greatest =
    self.tops c.in-Some-greatest.greatest c.in-Some-greatest.is in
    rw (c.exponent.ensures, c.exponent_in.ensures, sym read) (tell c.args.place v inside)

pub returns-in-Some-greatest-clause-value : goal.returns-in-Some-greatest-clause-value
returns-in-Some-greatest-clause-value g c = by_greatest g c

pub returns-in-Some-greatest-clause-row : goal.returns-in-Some-greatest-clause-row
returns-in-Some-greatest-clause-row g c = λ here.
    let self = c.args.self.now in
    decided_by_test (rows_of self) c.args.place c.args.variable _
    (omega (arith, here, length-map self.rows.now g.E.Element.shown)) (by_greatest g c)

-- by a walk through the rows
by_walk : (g : Given.Over) (c : goal.After-any g) →
    c.any.result ≡ exceeded_at c.args.self.now c.args.place c.args.variable
by_walk g c =
    let shown = g.E.Element.shown in
    let rows = c.args.self.now.rows.now in
    let v = c.args.variable in
    let u = c.in-Some.given.now in
    let here : c.args.place < length rows = ltb-true _ _ (sym c.in-Some.ensures.lookup.0) in
    let found : c.any.result ≡ list_any (λ w. exceeds v (shown w) (shown u)) rows =
    any_from_yields_List (λ w. exceeds v (shown w) (shown u)) c.any.new.self _ c.any.result c.any.ensures.ran
    (YieldsList-from_slice rows cc) (λ x b q k. search (rules, tests)) in
    walk_told shown rows c.args.place v u c.any.result here
    (row_read shown rows c.args.place u here c.in-Some.ensures.lookup.1) found

pub returns-clause-value : goal.returns-clause-value
returns-clause-value g c = by_walk g c

pub returns-clause-row : goal.returns-clause-row
returns-clause-row g c = λ here.
    let self = c.args.self.now in
    decided_by_test (rows_of self) c.args.place c.args.variable c.any.result
    (omega (arith, here, length-map self.rows.now g.E.Element.shown)) (by_walk g c)
