-- Limits, multipliers, cones and completeness, for any limits that keep rows apart.
-- Assumes nothing.
use Rattle.std.specs.Prelude.{◌≡◌, ℕ, ◌+◌, ◌<◌, ◌≤◌, ◌↔◌, Bool, List, length, Some, Option}
use Rattle.elements.specs.Element.{Shown, entry, exponent, Divides, times, quotient}
use Rattle.orderings.specs.Order.{at, IsOrdering, PartAt, Below}
use Rattle.orderings.specs.Rows.{row, Rows}
use Rattle.cones.specs.declared.shortfalls.Shortfall.{Shortfall}

-- for the place of a row and a variable: the limit, or none
abbrev pub Limits : Type 0
Limits = ℕ → ℕ → Option ℕ

-- where two rows part, the one with the smaller exponent has a limit that is no greater than
-- their difference
abbrev pub Separated : List ℕ → List Shown → Limits → Type 0
Separated order rows lim =
    (p q k : ℕ) → p < length rows → q < length rows →
    let u = row rows p in
    let w = row rows q in
    let v = at order k in
    PartAt order k u w →
    (m : ℕ) × (lim p v ≡ Some m) × (exponent u v + m ≤ exponent w v)

-- in each of the n variables that has a limit, the term's exponent is below it
abbrev pub Within : ℕ → (ℕ → Option ℕ) → List ℕ → Type 0
Within n limit t = (v m : ℕ) → 1 ≤ v → v ≤ n → limit v ≡ Some m → entry t v < m

-- a term with which the row at place p may be multiplied
abbrev pub Multiplier : ℕ → Limits → ℕ → List ℕ → Type 0
Multiplier n lim p t = Within n (lim p) t

-- w lies in the cone of a row u that has these limits
abbrev pub Holds : ℕ → (ℕ → Option ℕ) → Shown → Shown → Type 0
Holds n limit u w = Divides u w × Within n limit (quotient u w)

-- w lies in the cone of the row at place s
pub record InCone (n : ℕ) (rows : List Shown) (lim : Limits) (s : ℕ) (w : Shown) : Type 0 where
  pub place : s < length rows
  pub divides : Divides (row rows s) w
  pub multiplier : Multiplier n lim s (quotient (row rows s) w)

-- each multiple of a row, of any size, lies in a cone
abbrev pub Complete : ℕ → List Shown → Limits → Type 0
Complete n rows lim =
    (w : Shown) (p : ℕ) → p < length rows → Divides (row rows p) w →
    (s : ℕ) × InCone n rows lim s w

-- the row at place p has limit m in variable v, and its product with v to the power m lies in
-- no cone
pub record IsShortfall (n : ℕ) (rows : List Shown) (lim : Limits) (p v m : ℕ) : Type 0 where
  pub place : p < length rows
  pub low : 1 ≤ v
  pub high : v ≤ n
  pub limit : lim p v ≡ Some m
  pub outside : (s : ℕ) → ¬ InCone n rows lim s (times (row rows p) v m)

-- the shortfall at the lowest place and, there, in the lowest variable
pub record IsFirstShortfall (n : ℕ) (rows : List Shown) (lim : Limits) (p v m : ℕ) : Type 0 where
  pub shortfall : IsShortfall n rows lim p v m
  pub none_lower : (q x l : ℕ) → q < p → ¬ IsShortfall n rows lim q x l
  pub none_before : (x l : ℕ) → x < v → ¬ IsShortfall n rows lim p x l

-- no row falls short
abbrev pub HasNoShortfall : ℕ → List Shown → Limits → Type 0
HasNoShortfall n rows lim = (p v m : ℕ) → ¬ IsShortfall n rows lim p v m

-- of all shortfalls this is the first
abbrev pub FallsShortFirst : ℕ → List Shown → Limits → Shortfall → Type 0
FallsShortFirst n rows lim s = IsFirstShortfall n rows lim s.place s.variable s.power

-- the row at place s is the greatest of the rows that divide w
pub record Greatest (order : List ℕ) (rows : List Shown) (s : ℕ) (w : Shown) : Type 0 where
  pub place : s < length rows
  pub divides : Divides (row rows s) w
  pub none_above : (q : ℕ) → q < length rows → Divides (row rows q) w →
      ¬ Below order (row rows s) (row rows q)

-- Janet-like limits: each is the rise to a row that parts from this one there, and no such row
-- is nearer
pub record NearestRise (order : List ℕ) (rows : List Shown) (jan : Limits) : Type 0 where
  pub reached : (p k m : ℕ) → p < length rows → 1 ≤ at order k → jan p (at order k) ≡ Some m →
      let u = row rows p in
      let v = at order k in
      (q : ℕ) × (q < length rows) × PartAt order k u (row rows q) ×
      (exponent u v + m ≡ exponent (row rows q) v)
  pub nearest : Separated order rows jan

-- no element lies in the cones of two rows
abbrev pub ConesAreDisjoint : Type 0
ConesAreDisjoint =
    (admits : ℕ → Bool) (n : ℕ) (order : List ℕ) (rows : List Shown) (lim : Limits) →
    IsOrdering n order → Rows admits n rows → Separated order rows lim →
    (p q : ℕ) (w : Shown) → InCone n rows lim p w → InCone n rows lim q w → p ≡ q

-- a row in whose cone an element lies is the greatest that divides it, and the only greatest
abbrev pub TheConeIsOfTheGreatestDivisor : Type 0
TheConeIsOfTheGreatestDivisor =
    (admits : ℕ → Bool) (n : ℕ) (order : List ℕ) (rows : List Shown) (lim : Limits) →
    IsOrdering n order → Rows admits n rows → Separated order rows lim →
    (s : ℕ) (w : Shown) → InCone n rows lim s w →
    Greatest order rows s w × ((g : ℕ) → Greatest order rows g w → g ≡ s)

-- the rows are complete exactly where there is no shortfall
abbrev pub CompleteExactlyWithoutShortfall : Type 0
CompleteExactlyWithoutShortfall =
    (admits : ℕ → Bool) (n : ℕ) (order : List ℕ) (rows : List Shown) (lim : Limits) →
    IsOrdering n order → Rows admits n rows → Separated order rows lim →
    (HasNoShortfall n rows lim ↔ Complete n rows lim)

-- rows that are complete for some separated limits are complete for the Janet-like ones
abbrev pub JanetLikeCompletesWhatAnyCompletes : Type 0
JanetLikeCompletesWhatAnyCompletes =
    (admits : ℕ → Bool) (n : ℕ) (order : List ℕ) (rows : List Shown) (lim jan : Limits) →
    IsOrdering n order → Rows admits n rows →
    Separated order rows lim → NearestRise order rows jan →
    Complete n rows lim → Complete n rows jan
