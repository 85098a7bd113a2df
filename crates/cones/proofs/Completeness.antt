-- Which rows are complete. Assumes nothing.
use Rattle.std.proofs.Common.{◌≡◌, ℕ, ◌+◌, ◌<◌, ◌≤◌, Bool, List, length, Some, inl, inr, arith}
use Rattle.std.proofs.lemmas.Bool.{cases_lt}
use Rattle.elements.specs.Element.{Shown, exponent, Divides, times, Variable}
use Rattle.orderings.specs.Order.{IsOrdering}
use Rattle.orderings.specs.Rows.{row, Rows}
use Rattle.orderings.proofs.Positions.{few, position}
use Rattle.cones.specs.Cones.{Limits, Separated, InCone, Complete, Greatest, CompleteExactlyWithoutShortfall, JanetLikeCompletesWhatAnyCompletes}
use Rattle.cones.proofs.Products.{quotient_at, raised, into_times, from_times, divides_on}
use Rattle.cones.proofs.Divisors.{under, in_order, greatest, cone_greatest}

module _ (admits : ℕ → Bool) (n : ℕ) (order : List ℕ) (rows : List Shown)
    (o : IsOrdering n order) (ok : Rows admits n rows) where
  is_variable : (v : ℕ) → 1 ≤ v → v ≤ n → Variable v
  is_variable v low high = record { low = low; high = omega (arith, few n order o) }

  -- a row divides its product with a power
  divides_times : (p v m : ℕ) → p < length rows → 1 ≤ v → v ≤ n → Divides (row rows p) (times (row rows p) v m)
  divides_times p v m hp low high = into_times (row rows p) v m (is_variable v low high) (ok.fit p hp).admitted.eight

  module _ (lim : Limits) (sep : Separated order rows lim) where
    -- between the greatest row that divides w and w itself all is in that row's cone, if in any
    kept : (r g : ℕ) (u w : Shown) → Greatest order rows g w → InCone n rows lim r u →
        Divides (row rows g) u → Divides u w → r ≡ g
    kept r g u w top cone gu uw = elim (in_order admits n order rows o ok r g cone.place top.place) [
      | inl e ↦ e
      | inr c ↦ absurd (elim c [
        | inl l ↦ (cone_greatest admits n order rows o ok lim sep r u cone).none_above g top.place gu l
        | inr l ↦ top.none_above r cone.place (divides_on (row rows r) u w cone.divides uw) l
      ])
    ]

    -- a step of m from the greatest row, which is no step past w, is below that row's limit if it lies in a cone
    step : (r g v m b : ℕ) (w : Shown) → Greatest order rows g w → 1 ≤ v → v ≤ n →
        exponent (row rows g) v + m ≤ exponent w v →
        InCone n rows lim r (times (row rows g) v m) → lim g v ≡ Some b → m < b
    step r g v m b w top low high l cone e =
        let u = row rows g in
        let is = is_variable v low high in
        let above = from_times u v m is w top.divides l in
        let same = kept r g (times u v m) w top cone (divides_times g v m top.place low high) above in
        let here : InCone n rows lim g (times u v m) = rw same at cone in
        omega (arith, under n rows lim g (times u v m) (few n order o) here v b low high e, raised u v m is)

  -- rows are complete for limits that no greatest row lets an element reach
  by_greatest : (jan : Limits) →
      ((g v m : ℕ) (w : Shown) → Greatest order rows g w → 1 ≤ v → v ≤ n → jan g v ≡ Some m →
      ¬ (exponent (row rows g) v + m ≤ exponent w v)) →
      Complete n rows jan
  by_greatest jan never w p h d =
      let (g, top) = greatest admits n order rows o ok w p h d in (
        g,
        record {
          place = top.place;
          divides = top.divides;
          multiplier = λ v m low high e. elim (cases_lt (exponent w v) (exponent (row rows g) v + m)) [
            | inl l ↦ omega (arith, l, quotient_at (row rows g) w v (is_variable v low high), top.divides.smaller v)
            | inr l ↦ absurd (never g v m w top low high e l)
          ];
        },
      )

pub complete_exactly_without_shortfall : CompleteExactlyWithoutShortfall
complete_exactly_without_shortfall admits n order rows lim o ok sep = (
  λ none. by_greatest admits n order rows o ok lim (λ g v m w top low high e l.
      none g v m (record {
        place = top.place;
        low = low;
        high = high;
        limit = e;
        outside = λ r cone. omega (arith, step admits n order rows o ok lim sep r g v m m w top low high l cone e);
      })),
  λ complete p v m short.
      let divides = divides_times admits n order rows o ok p v m short.place short.low short.high in
      let (s, cone) = complete (times (row rows p) v m) p short.place divides in
      short.outside s cone,
)

pub janet_like_completes_what_any_completes : JanetLikeCompletesWhatAnyCompletes
janet_like_completes_what_any_completes admits n order rows lim jan o ok sep janet complete =
    by_greatest admits n order rows o ok jan (λ g v m w top low high e l.
    let (k, hk, is) = position n order o v low high in
    let (q, hq, x, rise) = janet.reached g k m top.place (o.low k hk) (rw is e) in
    let (b, limit, small) = sep g q k top.place hq x in
    let divides = divides_times admits n order rows o ok g v m top.place low high in
    let (r, cone) = complete (times (row rows g) v m) g top.place divides in
    let here : lim g v ≡ Some b = rw is at limit in
    omega (arith, rise, small, step admits n order rows o ok lim sep r g v m b w top low high l cone here))
