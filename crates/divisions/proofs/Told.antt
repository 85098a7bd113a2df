-- Janet and Janet-like limits, by stars and gaps, and Thomas limits, by greater rows. Assumes nothing.
use Rattle.std.proofs.Common.{ℕ, Bool, true, false, if◌then◌else◌, List, Some, None, Option, Decides, refl}
use Rattle.std.proofs.lemmas.Bool.{false≢true}
use Rattle.elements.specs.Element.{Shown}
use Rattle.orderings.specs.Rows.{row}
use Rattle.barcode.specs.Exceeded.{IsExceeded, is_exceeded}
use Rattle.barcode.specs.Gap.{IsGap, gap}
use Rattle.barcode.proofs.Exceeding.{exceeded_decides}
use Rattle.barcode.proofs.Gaps.{gap_is}
use Rattle.divisions.specs.Janet.{one, IsJanet, star, elsewhere, JanetIsToldByStars, JanetLikeIsToldByGaps}
use Rattle.divisions.specs.Thomas.{IsThomas, exceeded, greatest, ThomasIsToldByGreaterRows}

told : (rows : List Shown) (order : List ℕ) (p v : ℕ) (o : Option ℕ) →
    IsGap rows order (row rows p) v o → IsJanet rows order p v (one o)
told rows order p v None g = star g
told rows order p v (Some d) g = elsewhere (λ s. s g.0.0 g.0.1 g.0.2)

pub janet_is_told_by_stars : JanetIsToldByStars
janet_is_told_by_stars rows order p v l = told rows order p v (gap rows order p v) (gap_is rows order p v l)

pub janet_like_is_told_by_gaps : JanetLikeIsToldByGaps
janet_like_is_told_by_gaps rows order p v l = gap_is rows order p v l

-- by the test of whether some row exceeds the row of a place
told_by_test : (rows : List Shown) (p v : ℕ) (b : Bool) → Decides b (IsExceeded rows p v) →
    IsThomas rows p v (if b then Some 1 else None)
told_by_test rows p v true d = exceeded (d.0 refl)
told_by_test rows p v false d = greatest (λ x. false≢true (d.1 x))

pub thomas_is_told_by_greater_rows : ThomasIsToldByGreaterRows
thomas_is_told_by_greater_rows rows order p v l =
    told_by_test rows p v (is_exceeded rows p v) (exceeded_decides rows p v l)
