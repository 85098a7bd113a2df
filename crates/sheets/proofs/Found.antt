-- What the code finds among elements. Assumes nothing.
use Rattle.std.proofs.Common.{◌≡◌, ◌≢◌, ℕ, ◌<◌, ◌≤◌, Bool, true, false, List, map, length, take, get_or, Some, None, MatchOption, Decides, Option, is_some, not, sym, refl, ap, ◌∙◌, inl, inr, arith}
use Rattle.std.specs.Bool.{MatchBool}
use Rattle.std.specs.List.{AllWithin, HoldsAt, range_with_len}
use Rattle.std.proofs.lemmas.Bool.{cases_lt, both_ways, false≢true}
use Rattle.std.proofs.lemmas.List.{get_or-map, get_or-take, length-take, take-map}
use Rattle.std.proofs.lemmas.List.FromFn.{length-range_with_len, get_or-range_with_len}
use Rattle.elements.specs.Element.{Shown, blank}
use Rattle.orderings.specs.Fit.{Fit}
use Rattle.orderings.specs.Rows.{row, Rows}
use Rattle.orderings.proofs.Places.{row_past}
use Rattle.sheets.specs.Sheet.{IsNewRow}

module _ {E : Type 0} (shown : E → Shown) (known : (x y : E) → shown x ≡ shown y → x ≡ y) (rows : List E) (e : E) where
  at : (k : ℕ) → k < length rows → row (map shown rows) k ≡ shown (get_or rows k e)
  at k l = get_or-map shown rows k e blank l

  missing : (n : ℕ) → n ≤ length rows → AllWithin (λ x. x ≢ e) rows 0 n → (k : ℕ) → k < n →
      row (map shown rows) k ≢ shown e
  missing n small none k l same = none k e (omega arith) l (known (get_or rows k e) e (sym (at k (omega arith)) ∙ same))

  -- the first place of an element
  pub place_found : (r : Option ℕ) → MatchOption r (AllWithin (λ x. x ≢ e) rows 0 (length rows))
      (λ i. (i < length rows) × HoldsAt (λ x. x ≡ e) rows i × AllWithin (λ x. x ≢ e) rows 0 i) →
      MatchOption r ((k : ℕ) → k < length rows → row (map shown rows) k ≢ shown e) (λ p. (p < length rows) ×
      (row (map shown rows) p ≡ shown e) × ((k : ℕ) → k < p → row (map shown rows) k ≢ shown e))
  place_found None none = missing (length rows) (omega arith) none
  place_found (Some p) (l, here, before) = (l, at p l ∙ ap shown (here e), missing p (omega arith) before)

  -- every place shows what an element shows, or some place does not
  pub all_show : shown e ≡ blank → (r : Bool) → MatchBool r (AllWithin (λ x. x ≡ e) rows 0 (length rows))
      ((k : ℕ) × (k < length rows) × HoldsAt (λ x. x ≢ e) rows k) →
      Decides r ((p : ℕ) → row (map shown rows) p ≡ blank)
  all_show bare true all = (
    λ _ p. elim (cases_lt p (length rows)) [
      | inl l ↦ at p l ∙ ap shown (all p e (omega arith) l) ∙ bare
      | inr l ↦ row_past shown rows p l
    ],
    λ _. refl,
  )
  all_show bare false (k, l, other) = (
    λ t. absurd (both_ways false refl t),
    λ all. absurd (other e (known (get_or rows k e) e (sym (at k l) ∙ all k ∙ sym bare))),
  )

-- whether an element stands before place p
pub stands_before : {E : Type 0} (shown : E → Shown) (rows : List E) (e : E) (p : ℕ) → p ≤ length rows →
    (r : Bool) (o : Option ℕ) (Q : ℕ → Type 0) → r ≡ is_some o →
    MatchOption o ((k : ℕ) → k < length (take p rows) → row (map shown (take p rows)) k ≢ shown e)
    (λ k. (k < length (take p rows)) × (row (map shown (take p rows)) k ≡ shown e) × Q k) →
    Decides r ((k : ℕ) × (k < p) × (row (map shown rows) k ≡ shown e))
stands_before shown rows e p small r None Q is none = (
  λ t. absurd (both_ways r is t),
  λ (k, h, here). absurd (none k (omega (arith, length-take p rows))
      (ap (λ xs. row xs k) (sym (take-map shown p rows)) ∙ get_or-take p (map shown rows) k blank h ∙ here)),
)
stands_before shown rows e p small r (Some k) Q is (l, here, first) =
    let h : k < p = omega (arith, length-take p rows) in (
      λ _. (
        k,
        h,
        sym (ap (λ xs. row xs k) (sym (take-map shown p rows)) ∙ get_or-take p (map shown rows) k blank h) ∙
            here,
      ),
      λ _. is,
    )

-- a row that fits is new where it is not found before its place, and only there
pub new_told : {E : Type 0} (shown : E → Shown) (admits : ℕ → Bool) (n : ℕ) (rows : List E) (e : E) (p : ℕ) →
    p ≤ length rows → row (map shown rows) p ≡ shown e → Fit admits n (row (map shown rows) p) →
    (r : Bool) (o : Option ℕ) (Q : ℕ → Type 0) → is_some o ≡ not r →
    MatchOption o ((k : ℕ) → k < length (take p rows) → row (map shown (take p rows)) k ≢ shown e)
    (λ k. (k < length (take p rows)) × (row (map shown (take p rows)) k ≡ shown e) × Q k) →
    Decides r (IsNewRow admits n (map shown rows) p)
new_told shown admits n rows e p small read fit true None Q is m = (
  λ _. (
    fit,
    λ k h same. absurd (false≢true ((stands_before shown rows e p small false None Q refl m).1
        (k, h, same ∙ read))),
  ),
  λ _. refl,
)
new_told shown admits n rows e p small read fit false None Q is m = absurd (false≢true is)
new_told shown admits n rows e p small read fit true (Some x) Q is m = absurd (false≢true (sym is))
new_told shown admits n rows e p small read fit false (Some x) Q is m = (
  λ t. absurd (false≢true t),
  λ new. let (k, h, same) = (stands_before shown rows e p small true (Some x) Q refl m).0 refl in
      absurd (new.1 k h (same ∙ sym read)),
)

-- the rows are those of a sheet where each is new at its place, and only there
pub rows_told : (admits : ℕ → Bool) (n m : ℕ) (rows : List Shown) (r : Bool) → m ≡ length rows →
    MatchBool r (AllWithin (IsNewRow admits n rows) (range_with_len 0 m) 0 (length (range_with_len 0 m)))
    ((k : ℕ) × (k < length (range_with_len 0 m)) × HoldsAt (λ p. IsNewRow admits n rows p → ⊥) (range_with_len 0 m)
    k) →
    Decides r (Rows admits n rows)
rows_told admits n m rows true e h = (
  λ _. record { fit = λ p l. (new p l).0; different = λ p q l k. (new q k).1 p l },
  λ _. refl,
)
  where
    new : (p : ℕ) → p < length rows → IsNewRow admits n rows p
    new p l =
        let small : p < m = omega (arith, e) in
        let here : get_or (range_with_len 0 m) p 0 ≡ p = get_or-range_with_len 0 m p 0 small ∙ omega arith in
        rw here at (h p 0 (omega arith) (omega (arith, small, length-range_with_len 0 m)))
rows_told admits n m rows false e (k, l, h) =
    let small : k < m = omega (arith, l, length-range_with_len 0 m) in
    let here : get_or (range_with_len 0 m) k 0 ≡ k = get_or-range_with_len 0 m k 0 small ∙ omega arith in
    let never = rw here at (h 0) in (
      λ t. absurd (false≢true t),
      λ all. absurd
          (never (all.fit k (omega (arith, small, e)), λ j i. all.different j k i (omega (arith, small, e)))),
    )
