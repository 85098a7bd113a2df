-- Limits that agree at the rows and variables of a sheet have the same cones. Assumes nothing.
use Rattle.std.proofs.Common.{◌≡◌, ℕ, ◌<◌, ◌≤◌, ◌↔◌, List, length, Some, None, Option, sym, ◌∙◌, MatchOption}
use Rattle.elements.specs.Element.{Shown}
use Rattle.divisions.specs.Laws.{Meaning, OnSheet, Lawful}
use Rattle.cones.specs.declared.shortfalls.Shortfall.{Shortfall}
use Rattle.cones.specs.Cones.{Limits, InCone, Complete, IsShortfall, IsFirstShortfall, HasNoShortfall, FallsShortFirst}
use Rattle.cones.proofs.Completeness.{complete_exactly_without_shortfall}

-- the limits agree
abbrev pub Same : ℕ → List Shown → Limits → Limits → Type 0
Same n rows lim other = (p v : ℕ) → p < length rows → 1 ≤ v → v ≤ n → lim p v ≡ other p v

module _ (n : ℕ) (rows : List Shown) (lim other : Limits) (same : Same n rows lim other) where
  pub cone_alike : (s : ℕ) (w : Shown) → InCone n rows lim s w → InCone n rows other s w
  cone_alike s w c =
      record {
        place = c.place;
        divides = c.divides;
        multiplier = λ v m low high e. c.multiplier v m low high (same s v c.place low high ∙ e);
      }

  pub same_back : Same n rows other lim
  same_back p v l low high = sym (same p v l low high)

module _ (n : ℕ) (rows : List Shown) (lim other : Limits) (same : Same n rows lim other) where
  pub short_alike : (p v m : ℕ) → IsShortfall n rows lim p v m → IsShortfall n rows other p v m
  short_alike p v m s =
      record {
        place = s.place;
        low = s.low;
        high = s.high;
        limit = sym (same p v s.place s.low s.high) ∙ s.limit;
        outside = λ q c. s.outside q (cone_alike n rows other lim (same_back n rows lim other same) q _ c);
      }

module _ (n : ℕ) (rows : List Shown) (lim other : Limits) (same : Same n rows lim other) where
  pub first_alike : (p v m : ℕ) → IsFirstShortfall n rows lim p v m → IsFirstShortfall n rows other p v m
  first_alike p v m f =
      let back = same_back n rows lim other same in
      record {
        shortfall = short_alike n rows lim other same p v m f.shortfall;
        none_lower = λ q x l h s. f.none_lower q x l h (short_alike n rows other lim back q x l s);
        none_before = λ x l h s. f.none_before x l h (short_alike n rows other lim back p x l s);
      }

  -- the first shortfall by the one is that by the other
  pub found_alike : (r : Option Shortfall) →
      MatchOption r (HasNoShortfall n rows lim) (FallsShortFirst n rows lim) →
      MatchOption r (HasNoShortfall n rows other) (FallsShortFirst n rows other)
  found_alike None none = λ p v m s.
      none p v m (short_alike n rows other lim (same_back n rows lim other same) p v m s)
  found_alike (Some s) f = first_alike s.place s.variable s.power f

-- what the first shortfall by a lawful division's limits says of the rows of a sheet
pub judged_by : (m : Meaning) → Lawful m → (n : ℕ) (rows : List Shown) (order : List ℕ) → OnSheet n rows order →
    (r : Option Shortfall) →
    MatchOption r (HasNoShortfall n rows (m rows order)) (FallsShortFirst n rows (m rows order)) →
    MatchOption r (Complete n rows (m rows order))
    (λ s. FallsShortFirst n rows (m rows order) s × ¬ Complete n rows (m rows order))
judged_by m law n rows order on r found = told r found
  where
    exactly : HasNoShortfall n rows (m rows order) ↔ Complete n rows (m rows order)
    exactly =
        complete_exactly_without_shortfall on.kind n order rows (m rows order) on.ordered on.fit
        (law.separation n rows order on)

    told : (r : Option Shortfall) →
        MatchOption r (HasNoShortfall n rows (m rows order)) (FallsShortFirst n rows (m rows order)) →
        MatchOption r (Complete n rows (m rows order))
        (λ s. FallsShortFirst n rows (m rows order) s × ¬ Complete n rows (m rows order))
    told None none = exactly.0 none
    told (Some s) f = (f, λ c. exactly.1 c s.place s.variable s.power f.shortfall)
