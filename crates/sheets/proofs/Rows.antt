-- The rows of a table, after an insertion and after a removal. Assumes nothing.
use Rattle.std.proofs.Common.{◌≡◌, ℕ, suc, ◌+◌, ◌-◌, ◌<◌, ◌≤◌, Bool, true, false, List, [], ◌∷◌, ◌++◌, length, take, drop, set, is_some, Some, None, Option, sym, refl, ap, ◌∙◌, subst, inl, inr, add-one, arith, MatchOption}
use Rattle.std.specs.List.{ContainsAt, remove}
use Rattle.std.proofs.lemmas.List.Edits.{get_or-remove_below, get_or-remove_above, length-remove}
use Rattle.std.proofs.lemmas.List.{get_or-take, get_or_default, get_or_past, get_or_append_left, get_or-append_right, get_or_at, get_or-set_other, length-take-le, length_push, take_more_set, ext_get_or, take-append-drop, drop_more, length-append}
use Rattle.std.proofs.lemmas.Bool.{cases_lt, cases_eq, true≢false, false≢true}
use Rattle.elements.specs.Element.{Shown, blank}
use Rattle.orderings.specs.Fit.{Fit}
use Rattle.orderings.specs.Rows.{row, Rows}

pub some_has : (rows : List Shown) (e : Shown) (k : ℕ) → k < length rows → row rows k ≡ e → ContainsAt rows e
some_has rows e k l q = (k, l, λ d. get_or_default rows k d blank l ∙ q)

-- one row more, and one less
module _ (admits : ℕ → Bool) (n : ℕ) where
  pub rows_push : (old : List Shown) (e : Shown) → Rows admits n old → Fit admits n e → (ContainsAt old e → ⊥) →
      Rows admits n (old ++ e ∷ [])
  rows_push old e rows fit new =
      let more = length_push old e in
      let before : (p : ℕ) → p < length old → row (old ++ e ∷ []) p ≡ row old p =
      λ p l. get_or_append_left old (e ∷ []) blank p l in
      let here : row (old ++ e ∷ []) (length old) ≡ e = get_or_at old e [] blank (length old) refl in
      record {
        fit = λ p l. elim (cases_lt p (length old)) [
          | inl h ↦ rw (before p h) (rows.fit p h)
          | inr h ↦ (let q : p ≡ length old = omega arith in rw (q, here) fit)
        ];
        different = λ p q l h same. elim (cases_lt q (length old)) [
          | inl k ↦ rows.different p q l k (sym (before p (omega arith)) ∙ same ∙ before q k)
          | inr k ↦ (let at : q ≡ length old = omega arith in
              new (some_has old e p (omega arith) (sym (before p (omega arith)) ∙ same ∙ ap (row (old ++ e ∷ [])) at ∙
              here)))
        ];
      }

  pub rows_split_off : (front back : List Shown) (e : Shown) → Rows admits n (front ++ e ∷ back) →
      Rows admits n (front ++ back)
  rows_split_off front back e rows =
      let all = front ++ e ∷ back in
      let left = front ++ back in
      let long : length all ≡ length left + 1 =
      omega (arith, length-append front (e ∷ back), length-append front back) in
      let below : (k : ℕ) → k < length front → row left k ≡ row all k =
      λ k l. get_or_append_left front back blank k l ∙ sym (get_or_append_left front (e ∷ back) blank k l) in
      let above : (k : ℕ) → length front ≤ k → row left k ≡ row all (k + 1) = λ k l.
      let step : k + 1 - length front ≡ suc (k - length front) = omega arith in
      get_or-append_right front back (length front) k blank refl l ∙
      sym (get_or-append_right front (e ∷ back) (length front) (k + 1) blank refl (omega arith) ∙
      ap (λ (x : ℕ). row (e ∷ back) x) step) in
      record {
        fit = λ k l. elim (cases_lt k (length front)) [
          | inl h ↦ rw (below k h) (rows.fit k (omega arith))
          | inr h ↦ rw (above k h) (rows.fit (k + 1) (omega arith))
        ];
        different = λ j k l h same. elim (cases_lt j (length front)) [
          | inl hj ↦ elim (cases_lt k (length front)) [
            | inl hk ↦ rows.different j k l (omega arith) (sym (below j hj) ∙ same ∙ below k hk)
            | inr hk ↦ rows.different j (k + 1) (omega arith) (omega arith) (sym (below j hj) ∙ same ∙ above k hk)
          ]
          | inr hj ↦ rows.different (j + 1) (k + 1) (omega arith) (omega arith) (sym (above j hj) ∙ same ∙
              above k (omega arith))
        ];
      }

-- the same in a table
module _ (admits : ℕ → Bool) (n : ℕ) (table : List Shown) (count : ℕ) (e : Shown) (room : count < length table) where
  pub rows_pushed : take (count + 1) (set table count e) ≡ take count table ++ e ∷ []
  rows_pushed = take_more_set table count e room

  pub rows_insert : Rows admits n (take count table) → Fit admits n e → (ContainsAt (take count table) e → ⊥) →
      Rows admits n (take (count + 1) (set table count e))
  rows_insert rows fit new = rw rows_pushed (rows_push admits n (take count table) e rows fit new)

  pub blanks_insert : ((p : ℕ) → count ≤ p → row table p ≡ blank) → (p : ℕ) → count + 1 ≤ p →
      row (set table count e) p ≡ blank
  blanks_insert blanks p l = get_or-set_other table count p e blank (λ q. omega arith) ∙ blanks p (omega arith)

-- one row less: what stood at p is gone, and a blank has come to the end
module _ (table : List Shown) (p : ℕ) (here : p < length table) where
  abbrev pub without : List Shown
  without = remove table p ++ blank ∷ []

  pub length_without : length without ≡ length table
  length_without = omega (arith, length_push (remove table p) blank, length-remove table p here)

  pub row_below : (k : ℕ) → k < p → row without k ≡ row table k
  row_below k l =
      get_or_append_left (remove table p) (blank ∷ []) blank k (omega (arith, length-remove table p here)) ∙
      get_or-remove_below table p blank k l here

  pub row_above : (k : ℕ) → p ≤ k → row without k ≡ row table (k + 1)
  row_above k l = elim (cases_lt (k + 1) (length table)) [
    | inl h ↦ get_or_append_left (remove table p) (blank ∷ []) blank k (omega (arith, length-remove table p here)) ∙
        get_or-remove_above table p blank k l here
    | inr h ↦ last h ∙ sym (get_or_past table (k + 1) blank h)
  ]
    where
      last : length table ≤ k + 1 → row without k ≡ blank
      last h = elim (cases_eq k (length (remove table p))) [
        | inl e ↦ get_or_at (remove table p) blank [] blank k (sym e)
        | inr d ↦ get_or_past without k blank (omega (arith, length_without, length-remove table p here))
      ]

  module _ (count : ℕ) (within : p < count) (room : count ≤ length table) where
    -- the rows without the one at p
    pub rows_without : take (count - 1) without ≡ take p (take count table) ++ drop (suc p) (take count table)
    rows_without =
        let len : length (take count table) ≡ count = length-take-le count table room in
        let gone : length (remove (take count table) p) + 1 ≡ length (take count table) =
        length-remove (take count table) p (omega arith) in
        let short : length (take (count - 1) without) ≡ count - 1 =
        length-take-le (count - 1) without (omega (arith, length_without)) in
        ext_get_or blank (take (count - 1) without) (remove (take count table) p) (omega arith) (λ k l.
        let small : k < count - 1 = omega arith in
        get_or-take (count - 1) without k blank small ∙ elim (cases_lt k p) [
          | inl h ↦ row_below k h ∙ sym (get_or-take count table k blank (omega arith)) ∙
              sym (get_or-remove_below (take count table) p blank k h (omega arith))
          | inr h ↦ row_above k h ∙ sym (get_or-take count table (k + 1) blank (omega arith)) ∙
              sym (get_or-remove_above (take count table) p blank k h (omega arith))
        ])

    pub rows_split : take count table ≡ take p (take count table) ++ row table p ∷ drop (suc p) (take count table)
    rows_split =
        let len : length (take count table) ≡ count = length-take-le count table room in
        let at : row (take count table) p ≡ row table p = get_or-take count table p blank within in
        sym (take-append-drop p (take count table)) ∙ ap (λ t. take p (take count table) ++ t)
        (drop_more (take count table) p blank (omega arith) ∙
        rw add-one (ap (λ x. x ∷ drop (suc p) (take count table)) at))

    pub rows_withdraw : (admits : ℕ → Bool) (n : ℕ) → Rows admits n (take count table) →
        Rows admits n (take (count - 1) without)
    rows_withdraw admits n rows =
        let P : List Shown → Type 0 = λ r. Rows admits n r in
        subst P (sym rows_without) (rows_split_off admits n (take p (take count table))
        (drop (suc p) (take count table)) (row table p) (subst P rows_split rows))

    pub blanks_withdraw : ((k : ℕ) → count ≤ k → row table k ≡ blank) → (k : ℕ) → count - 1 ≤ k → row without k ≡ blank
    blanks_withdraw blanks k l = row_above k (omega arith) ∙ blanks (k + 1) (omega arith)

-- what a search of the rows tells
module _ (table : List Shown) (count : ℕ) (s : Shown) (room : count ≤ length table) where
  pub has_from : (r : Option ℕ) → MatchOption r (ContainsAt (take count table) s → ⊥) (λ p. (p < count) ×
      (row table p ≡ s)) →
      is_some r ≡ true → ContainsAt (take count table) s
  has_from None h e = absurd (false≢true e)
  has_from (Some p) h e = some_has (take count table) s p (omega (arith, h.0, length-take-le count table room))
      (get_or-take count table p blank h.0 ∙ h.1)

  pub none_from : (r : Option ℕ) → MatchOption r (ContainsAt (take count table) s → ⊥) (λ p. (p < count) ×
      (row table p ≡ s)) → is_some r ≡ false → ContainsAt (take count table) s → ⊥
  none_from None h e = h
  none_from (Some p) h e = absurd (true≢false e)
