-- Limits as the code reads them. Assumes nothing.
use Rattle.std.proofs.Common.{◌≡◌, ℕ, zero, suc, ◌+◌, ◌<◌, ◌≤◌, Bool, true, false, ◌&&◌, ltb, List, [], ◌∷◌, take, map, length, get_or, Some, None, MatchOption, Decides, Option, sym, refl, ◌∙◌, inl, inr, arith}
use Rattle.std.specs.List.{list_all, zip, enumerate_from, AllWithin, HoldsAt}
use Rattle.std.proofs.lemmas.List.FromFn.{length-enumerate_from, get_or-enumerate_from}
use Rattle.std.specs.Option.{option_map_or}
use Rattle.std.proofs.lemmas.List.{get_or_past, get_or_default, length-map}
use Rattle.std.proofs.lemmas.Option.{none-some}
use Rattle.std.proofs.lemmas.Bool.{cases_lt, ltb-true, lt-ltb}
use Rattle.std.proofs.lemmas.Bool.Decides.{not_from_Decides, Decides-and, Decides-like}
use Rattle.elements.specs.Element.{Shown, Divides, times, Variable}
use Rattle.orderings.specs.Rows.{row}
use Rattle.orderings.proofs.Places.{row_read}
use Rattle.cones.specs.Cones.{Holds, InCone, IsShortfall}
use Rattle.cones.specs.Tables.{LimitTable, limit_in, limits_at, limits_of, BelowLimits}
use Rattle.cones.proofs.Products.{quotient_at}

-- a variable past the end has no limit
pub limit_past : (xs : List (Option ℕ)) (v : ℕ) → length xs < v → limit_in xs v ≡ None
limit_past xs zero h = refl
limit_past xs (suc k) h = let past : length xs ≤ k = omega arith in get_or_past xs k None past

-- only a variable that stands in the list has a limit
pub limit_high : (xs : List (Option ℕ)) (v m : ℕ) → limit_in xs v ≡ Some m → v ≤ length xs
limit_high xs v m e = elim (cases_lt (length xs) v) [
  | inl l ↦ absurd (none-some m (sym (limit_past xs v l) ∙ e))
  | inr l ↦ l
]

-- whether an exponent is below the sum of another and a limit, or there is no limit
below_limit : (least given : ℕ) (o : Option ℕ) →
    Decides (option_map_or (λ m. ltb given (least + m)) o true) ((m : ℕ) → o ≡ Some m → given < least + m)
below_limit least given None = (λ _ m e. absurd (none-some m e), λ _. refl)
below_limit least given (Some x) = (
  λ t m e. let same : x ≡ m = cc in omega (arith, ltb-true given (least + x) t),
  λ h. lt-ltb given (least + x) (h x refl),
)

-- the test of two exponents and a limit
abbrev pub fits : (ℕ × ℕ) × Option ℕ → Bool
fits p = option_map_or (λ m. ltb p.0.1 (p.0.0 + m)) p.1 true

-- the first n places of two lists of exponents, each beside its limit
places_fit : (n : ℕ) (a b : List ℕ) (xs : List (Option ℕ)) → length a ≡ length xs → length b ≡ length xs →
    Decides (list_all fits (take n (zip (zip a b) xs)))
    ((k m : ℕ) → k < n → get_or xs k None ≡ Some m → get_or b k 0 < get_or a k 0 + m)
places_fit zero a b xs first second = (λ _ k m l e. absurd (omega arith), λ _. refl)
places_fit (suc n) [] b [] first second = (λ _ k m l e. absurd (none-some m e), λ _. refl)
places_fit (suc n) [] b (x ∷ xs) first second = absurd (omega arith)
places_fit (suc n) (c ∷ cs) b [] first second = absurd (omega arith)
places_fit (suc n) (c ∷ cs) [] (x ∷ xs) first second = absurd (omega arith)
places_fit (suc n) (c ∷ cs) (d ∷ ds) (x ∷ xs) first second =
    Decides-like (fits ((c, d), x) && list_all fits (take n (zip (zip cs ds) xs))) each
    (λ h. (λ m e. h 0 m (omega arith) e, λ k m l e. h (suc k) m (omega arith) e))
    (Decides-and _ _ (below_limit c d x) (places_fit n cs ds xs (omega arith) (omega arith)))
  where
    each : ((m : ℕ) → x ≡ Some m → d < c + m) ×
        ((k m : ℕ) → k < n → get_or xs k None ≡ Some m → get_or ds k 0 < get_or cs k 0 + m) →
        (k m : ℕ) → k < suc n → get_or (x ∷ xs) k None ≡ Some m → get_or (d ∷ ds) k 0 < get_or (c ∷ cs) k 0 + m
    each h zero m l e = h.0 m e
    each h (suc k) m l e = h.1 k m (omega arith) e

-- the first n places fit exactly where the exponents are below the limits
module _ (n : ℕ) (xs : List (Option ℕ)) (u w : Shown) (a : List ℕ) (is : a ≡ u.exponents)
    (long : length a ≡ 8) (eight : length xs ≡ 8) (wide : length w.exponents ≡ 8) where
  below : ((k m : ℕ) → k < n → get_or xs k None ≡ Some m → get_or w.exponents k 0 < get_or a k 0 + m) →
      BelowLimits n xs u w
  below h zero low high m e = absurd (omega arith)
  below h (suc k) low high m e = rw is at (h k m (omega arith) e)

  pub below_told : (r : Bool) → r ≡ list_all fits (take n (zip (zip a w.exponents) xs)) →
      Decides r (BelowLimits n xs u w)
  below_told r told =
      let decided = places_fit n a w.exponents xs (long ∙ sym eight) (wide ∙ sym eight) in (
        λ e. below (decided.0 (sym told ∙ e)),
        λ h. told ∙ decided.1 (λ k m l e. rw is (h (suc k) (omega arith) (omega arith) m e)),
      )

-- a row that divides w holds it exactly where the exponents are below the limits
module _ (n : ℕ) (xs : List (Option ℕ)) (u w : Shown) (eight : length xs ≡ 8) where
  pub held : Divides u w → BelowLimits n xs u w → Holds n (limit_in xs) u w
  held d h = (
    d,
    λ v m low high e.
        let r : Variable v = record { low = low; high = omega (arith, limit_high xs v m e) } in
        omega (arith, quotient_at u w v r, d.smaller v, h v low high m e),
  )

  pub below_held : Holds n (limit_in xs) u w → BelowLimits n xs u w
  below_held h v low high m e =
      let r : Variable v = record { low = low; high = omega (arith, limit_high xs v m e) } in
      omega (arith, quotient_at u w v r, h.0.smaller v, h.1 v m low high e)

-- what the code reads at a place: an element and its limits
module _ {E : Type 0} (shown : E → Shown) (n : ℕ) (rows : List E) (table : LimitTable)
    (p : ℕ) (x : E) (xs : List (Option ℕ))
    (l : p < length rows) (is : x ≡ get_or rows p x) (limits : xs ≡ limits_at table p) where
  shows : row (map shown rows) p ≡ shown x
  shows = row_read shown rows p x l is

  place : p < length (map shown rows)
  place = omega (arith, length-map rows shown)

  pub in_cone_from : (w : Shown) → Holds n (limit_in xs) (shown x) w → InCone n (map shown rows) (limits_of table) p w
  in_cone_from w h =
      let here : Holds n (limits_of table p) (row (map shown rows) p) w = rw (shows, ← limits) h in
      record { place = place; divides = here.0; multiplier = here.1 }

  pub in_cone_to : (w : Shown) → InCone n (map shown rows) (limits_of table) p w → Holds n (limit_in xs) (shown x) w
  in_cone_to w cone =
      let here : Holds n (limits_of table p) (row (map shown rows) p) w = (cone.divides, cone.multiplier) in
      rw (shows, ← limits) at here

  -- variable v has limit m, and r tells whether the product with that power lies in no cone
  module _ (v m : ℕ) (o : Option ℕ) (r : Bool) (low : 1 ≤ v) (high : v ≤ n)
      (read : o ≡ limit_in xs v) (found : o ≡ Some m)
      (told : Decides r ((s : ℕ) → InCone n (map shown rows) (limits_of table) s (times (shown x) v m) → ⊥)) where
    limited : limits_of table p v ≡ Some m
    limited = rw limits at (sym read ∙ found)

    decided : Decides r
        ((s : ℕ) → InCone n (map shown rows) (limits_of table) s (times (row (map shown rows) p) v m) → ⊥)
    decided = rw shows told

    pub shortfall_from : r ≡ true → IsShortfall n (map shown rows) (limits_of table) p v m
    shortfall_from e = record { place = place; low = low; high = high; limit = limited; outside = decided.0 e }

    pub no_shortfall : r ≡ false → (k : ℕ) → IsShortfall n (map shown rows) (limits_of table) p v k → ⊥
    no_shortfall e k short =
        let same : k ≡ m = cc (short.limit, limited) in
        not_from_Decides r decided e (rw same at short.outside)

-- what the code finds among the rows, each with its place: the first whose cone holds an element
module _ {E : Type 0} (shown : E → Shown) (n : ℕ) (table : LimitTable) (w : Shown) where
  abbrev pub Holding : ℕ × E → Type 0
  Holding p = Holds n (limit_in (limits_at table p.0)) (shown p.1) w

  -- none of the first i rows holds it
  abbrev NoneOf : List E → ℕ → Type 0
  NoneOf rows i = AllWithin (λ p. Holding p → ⊥) (enumerate_from 0 rows) 0 i

  -- what the code is told of the place that it finds
  abbrev Told : List E → Option ℕ → Type 0
  Told rows r =
      let pairs = enumerate_from 0 rows in
      MatchOption r (NoneOf rows (length pairs))
      (λ i. (i < length pairs) × HoldsAt Holding pairs i × NoneOf rows i)

  -- the place is the first whose cone holds w
  abbrev Finds : List E → Option ℕ → Type 0
  Finds rows r =
      let Lies : ℕ → Type 0 = λ s. InCone n (map shown rows) (limits_of table) s w in
      MatchOption r ((s : ℕ) → Lies s → ⊥) (λ s. Lies s × ((q : ℕ) → q < s → Lies q → ⊥))

  module _ (rows : List E) (e : E) where
    read : (k : ℕ) → k < length rows → get_or rows k e ≡ get_or rows k (get_or rows k e)
    read k l = get_or_default rows k e (get_or rows k e) l

    listed : (k : ℕ) → k < length rows → get_or (enumerate_from 0 rows) k (0, e) ≡ (k, get_or rows k e)
    listed k l = let same : 0 + k ≡ k = omega arith in rw same at (get_or-enumerate_from 0 rows k (0, e) l)

    outside : (i : ℕ) → i ≤ length rows → NoneOf rows i →
        (s : ℕ) → s < i → InCone n (map shown rows) (limits_of table) s w → ⊥
    outside i small none s l cone =
        let here = rw (listed s (omega arith)) at (none s (0, e) (omega arith) l) in
        here (in_cone_to shown n rows table s (get_or rows s e) (limits_at table s) (omega arith)
        (read s (omega arith)) refl w cone)

    found_by : (r : Option ℕ) → Told rows r → Finds rows r
    found_by None none = λ s cone.
        outside (length rows) (omega arith) (rw (length-enumerate_from 0 rows) at none) s
        (omega (arith, cone.place, length-map rows shown)) cone
    found_by (Some i) (l, h, before) =
        let small : i < length rows = omega (arith, length-enumerate_from 0 rows) in (
          in_cone_from shown n rows table i (get_or rows i e) (limits_at table i) small (read i small) refl w
              (rw (listed i small) at (h (0, e))),
          outside i (omega arith) before,
        )

  pub cone_found : (rows : List E) (r : Option ℕ) → Told rows r → Finds rows r
  cone_found [] None none = λ s cone. absurd (omega (arith, cone.place))
  cone_found [] (Some i) (l, h, before) = absurd (omega arith)
  cone_found (e ∷ es) r told = found_by (e ∷ es) e r told

-- a variable without a limit has no shortfall
pub unlimited : (n : ℕ) (rows : List Shown) (table : LimitTable) (p v : ℕ) (xs : List (Option ℕ)) (o : Option ℕ) →
    xs ≡ limits_at table p → o ≡ limit_in xs v → o ≡ None → (k : ℕ) → IsShortfall n rows (limits_of table) p v k → ⊥
unlimited n rows table p v xs o limits read none k short =
    let some : limit_in xs v ≡ Some k = rw limits short.limit in none-some k (sym none ∙ read ∙ some)
