-- Janet-like division completes what any lawful division completes. Assumes nothing.
use Rattle.std.proofs.Common.{ℕ, List, Some, subst}
use Rattle.elements.specs.Element.{Shown}
use Rattle.orderings.specs.Order.{at}
use Rattle.orderings.specs.Rows.{row}
use Rattle.orderings.proofs.Positions.{listed, few}
use Rattle.barcode.specs.Gap.{IsGap, IsGapAt}
use Rattle.barcode.proofs.Gaps.{gap_is}
use Rattle.barcode.proofs.Listed.{position_at}
use Rattle.divisions.specs.Laws.{OnSheet}
use Rattle.divisions.specs.Janet.{janet_like}
use Rattle.divisions.specs.Lawfulness.{janet_like_lawful}
use Rattle.cones.specs.Cones.{NearestRise}
use Rattle.cones.specs.Judged.{LawfulLimitsAreSeparated, JanetLikeCompletesWhatAnyDivisionCompletes}
use Rattle.cones.proofs.Completeness.{janet_like_completes_what_any_completes}

nearest_rise : (n : ℕ) (rows : List Shown) (order : List ℕ) → OnSheet n rows order →
    NearestRise order rows (janet_like rows order)
nearest_rise n rows order on =
    record {
      reached = λ p k m l low e.
          let u = row rows p in
          let v = at order k in
          let here = position_at n order on.ordered k (listed n order on.ordered k low) (few n order on.ordered) in
          let g : IsGap rows order u v (Some m) = subst (λ o. IsGap rows order u v o) e (gap_is rows order p v l) in
          let there : IsGapAt rows order k u (Some m) = subst (λ (x : ℕ). IsGapAt rows order x u (Some m)) here g in
          there.0;
      nearest = janet_like_lawful.separation n rows order on;
    }

pub lawful_limits_are_separated : LawfulLimitsAreSeparated
lawful_limits_are_separated m law n rows order on = law.separation n rows order on

pub janet_like_completes_what_any_division_completes : JanetLikeCompletesWhatAnyDivisionCompletes
janet_like_completes_what_any_division_completes m law n rows order on complete =
    janet_like_completes_what_any_completes on.kind n order rows (m rows order) (janet_like rows order)
    on.ordered on.fit (law.separation n rows order on) (nearest_rise n rows order on) complete
