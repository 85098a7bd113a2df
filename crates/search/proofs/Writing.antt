-- A column written place by place. Assumes nothing.
use Rattle.std.proofs.Common.{◌≡◌, ℕ, zero, suc, ◌+◌, ◌-◌, ◌<◌, ◌≤◌, false, cond, eqb, List, [], ◌∷◌, ◌++◌, length, get_or, set, replicate, Some, None, Option, sym, refl, ap, ◌∙◌, inl, inr, arith, length-append}
use Rattle.std.specs.Option.{is_some}
use Rattle.std.proofs.lemmas.List.{get_or-replicate, get_or_past, get_or-set_same, get_or-set_other, get_or_default, length-set, set-append_left, get_or_append_left}
use Rattle.std.proofs.lemmas.Option.{none-some}
use Rattle.std.proofs.lemmas.Bool.{cases_eq, cases_lt, eq-eqb, ne_eqb, or_left, or_right, cond-true, cond-false, false≢true}
use Rattle.cones.specs.Tables.{limit_in, limits_at, limits_of}
use Rattle.places.specs.Places.{contains, Adds}
use Rattle.places.specs.declared.Places.{Places}
use Rattle.search.specs.Columns.{Wide, HasLimitedPlaces}

pub no_limit : {X : Type 0} (d : ℕ) → ◌≡◌ {A = Option ℕ} None (Some d) → X
no_limit d e = absurd (none-some d e)

-- a table without limits
module _ (q : ℕ) where
  start_row : limits_at (replicate 64 (replicate 8 None)) q ≡ replicate 8 None
  start_row = elim (cases_lt q 64) [
    | inl l ↦ get_or-replicate 64 q (replicate 8 None) (replicate 8 None) l
    | inr l ↦ get_or_past (replicate 64 (replicate 8 None)) q (replicate 8 None) l
  ]

  pub start_wide : length (limits_at (replicate 64 (replicate 8 None)) q) ≡ 8
  start_wide = ap length start_row

  pub start_limits : (v : ℕ) → limits_of (replicate 64 (replicate 8 None)) q v ≡ None
  start_limits v = ap (λ xs. limit_in xs v) start_row ∙ elim (cases_lt v 9) [
    | inl l ↦ get_or-replicate 9 v None None l
    | inr l ↦ get_or_past (None ∷ replicate 8 None) v None l
  ]

-- column x is written at the places below k, and the rest is as it was
pub record Writing (f : ℕ → Option ℕ) (x k : ℕ) (old new : List (List (Option ℕ))) : Type 0 where
  pub long : length new ≡ length old
  pub wide : Wide new
  pub done : (q v : ℕ) → q < k → limits_of new q v ≡ cond (eqb v x) (f q) (limits_of old q v)
  pub rest : (q v : ℕ) → k ≤ q → limits_of new q v ≡ limits_of old q v

pub writing_start : (f : ℕ → Option ℕ) (x : ℕ) (table : List (List (Option ℕ))) → Wide table → Writing f x 0 table table
writing_start f x table w = record { long = refl; wide = w; done = λ q v l. absurd (omega arith); rest = λ q v l. refl }

-- one limit of a row
limit_set : (xs : List (Option ℕ)) (x : ℕ) (o : Option ℕ) (v : ℕ) → 1 ≤ x → x ≤ length xs →
    limit_in (set xs (x - 1) o) v ≡ cond (eqb v x) o (limit_in xs v)
limit_set xs x o zero low high = sym (cond-false (eqb 0 x) o None (ne_eqb 0 x (λ e. omega arith)))
limit_set xs x o (suc k) low high = elim (cases_eq (suc k) x) [
  | inl e ↦ (let at : x - 1 ≡ k = omega arith in
      let inside : k < length xs = omega arith in
      ap (λ (i : ℕ). get_or (set xs i o) k None) at ∙ get_or-set_same xs k o None inside
      ∙ sym (cond-true (eqb (suc k) x) o (get_or xs k None) (eq-eqb (suc k) x e)))
  | inr d ↦ get_or-set_other xs (x - 1) k o None (λ e. d (omega arith))
      ∙ sym (cond-false (eqb (suc k) x) o (get_or xs k None) (ne_eqb (suc k) x d))
]

module _ {f : ℕ → Option ℕ} {x k : ℕ} {old new : List (List (Option ℕ))} (w : Writing f x k old new)
    (fits : k < length old) (low : 1 ≤ x) (high : x ≤ 8) (o : Option ℕ) (is : o ≡ f k) where
  inside : k < length new
  inside = omega (arith, w.long)

  changed : List (List (Option ℕ))
  changed = set new k (set (get_or new k []) (x - 1) o)

  here : limits_at changed k ≡ set (limits_at new k) (x - 1) o
  unfolding changed
  here =
      get_or-set_same new k (set (get_or new k []) (x - 1) o) (replicate 8 None) inside
      ∙ ap (λ xs. set xs (x - 1) o) (get_or_default new k [] (replicate 8 None) inside)

  other : (q : ℕ) → (q ≡ k → ⊥) → limits_at changed q ≡ limits_at new q
  unfolding changed
  other q d = get_or-set_other new k q (set (get_or new k []) (x - 1) o) (replicate 8 None) d

  pub writing_more : Writing f x (k + 1) old (set new k (set (get_or new k []) (x - 1) o))
  unfolding changed
  writing_more = record {
    long = length-set new k (set (get_or new k []) (x - 1) o) ∙ w.long;
    wide = λ q. elim (cases_eq q k) [
      | inl e ↦ rw e (ap length here ∙ length-set (limits_at new k) (x - 1) o ∙ w.wide k)
      | inr d ↦ ap length (other q d) ∙ w.wide q
    ];
    done = λ q v l. elim (cases_eq q k) [
      | inl e ↦ rw e
          (ap (λ xs. limit_in xs v) here ∙ limit_set (limits_at new k) x o v low (omega (arith, w.wide k))
          ∙ ap (λ r. cond (eqb v x) r (limits_of new k v)) is
          ∙ ap (λ r. cond (eqb v x) (f k) r) (w.rest k v (omega arith)))
      | inr d ↦ ap (λ xs. limit_in xs v) (other q d) ∙ w.done q v (omega arith)
    ];
    rest = λ q v l. ap (λ xs. limit_in xs v) (other q (λ e. omega arith)) ∙ w.rest q v (omega arith);
  }

-- the same where the places so far are the first of a longer table
pub writing_front : {f : ℕ → Option ℕ} {x k : ℕ} {old : List (List (Option ℕ))} (items rest : List (List (Option ℕ))) →
    Writing f x k old (items ++ rest) → k < length items → 1 ≤ x → x ≤ 8 →
    (o : Option ℕ) → o ≡ f k → Writing f x (k + 1) old (set items k (set (get_or items k []) (x - 1) o) ++ rest)
writing_front {f} {x} {k} {old} items rest w within low high o is =
    let whole : k < length old = omega (arith, w.long, length-append items rest) in
    rw (
      ← set-append_left items rest k (set (get_or items k []) (x - 1) o) within,
      ← get_or_append_left items rest [] k within,
    ) (writing_more w whole low high o is)

pub writing_end : (f : ℕ → Option ℕ) (x k n : ℕ) (old new : List (List (Option ℕ))) → n ≤ k → Writing f x k old new →
    Wide new × ((q v : ℕ) → q < n → limits_of new q v ≡ cond (eqb v x) (f q) (limits_of old q v))
writing_end f x k n old new l w = (w.wide, λ q v h. w.done q v (omega arith))

module _ (f : ℕ → Option ℕ) (k : ℕ) (places : Places) (l : HasLimitedPlaces f k places) where
  -- the next place has a limit
  pub limited_with : (more : Places) → Adds places more k → HasLimitedPlaces f (k + 1) more
  limited_with more put q d below is = put q ∙ elim (cases_eq q k) [
    | inl e ↦ or_left (eqb q k) (contains places q) (eq-eqb q k e)
    | inr o ↦ or_right (eqb q k) (contains places q) (l q d (omega arith) is)
  ]

  -- it has none
  pub limited_past : (o : Option ℕ) → o ≡ f k → false ≡ is_some o → HasLimitedPlaces f (k + 1) places
  limited_past (Some e) same bare q d below is = absurd (false≢true bare)
  limited_past None same bare q d below is = elim (cases_eq q k) [
    | inl e ↦ no_limit d (same ∙ ap f (sym e) ∙ is)
    | inr o ↦ l q d (omega arith) is
  ]

  pub limited_end : (n : ℕ) → n ≤ k → HasLimitedPlaces f n places
  limited_end n most q d below is = l q d (omega arith) is
