-- What a search for an ordering makes of a sheet. Assumes nothing.
use Rattle.std.proofs.Common.{◌≡◌, ℕ, ◌≤◌, Bool, List, [], ◌∷◌, map, length, take, Some, None, vec_items, Option, sym, refl, ap, ◌∙◌, subst, arith}
use Rattle.std.specs.Option.{option_map}
use Rattle.std.proofs.lemmas.List.{length-take-le}
use Rattle.elements.specs.Element.{Shown}
use Rattle.orderings.specs.Answer.{granted, refused}
use Rattle.divisions.specs.Laws.{Meaning, Lawful}
use Rattle.search.specs.Prefixes.{padded}
use Rattle.search.specs.Liveness.{RowsOfSheet, answer, tested}
use Rattle.search.specs.Theorems.{FirstComplete, NoneComplete, TheAnswerIsTheFirstCompleteOrdering}
use Rattle.search.proofs.Orders.{ordering_of}
use Rattle.sheets.specs.declared.parts.Parts.{Parts}
use Rattle.sheets.specs.Book.{opened, settled_by, settle, first, none, serving, unserved}
use Rattle.sheets.specs.Read.{MakesSheet, ActsAsPromised}
use Rattle.sheets.proofs.Steps.{makes_at, granted_to, kept_by}
use Rattle.sheets.proofs.Verdicts.{on_sheet}

-- what a search over the same rows found
nothing_found : {X Y : Type 0} (f : X → Y) (o : Option X) → None ≡ option_map f o → o ≡ None
nothing_found f None e = refl
nothing_found f (Some x) e = let z : ◌≡◌ {A = ℕ} 0 1 = cc in absurd (omega arith)

something_found : {X Y : Type 0} (f : X → Y) (y : Y) (o : Option X) → Some y ≡ option_map f o → (x : X) ×
    (o ≡ Some x) × (f x ≡ y)
something_found f y None e = let z : ◌≡◌ {A = ℕ} 0 1 = cc in absurd (omega arith)
something_found f y (Some x) e = let h : f x ≡ y = cc in (x, refl, h)

module _ {E : Type 0} (admits : ℕ → Bool) (shown : E → Shown) (p : Parts E) (st : MakesSheet admits shown p)
    (some : 1 ≤ p.header.rows) where
  abbrev n : ℕ
  n = p.header.variables

  abbrev rows : List Shown
  rows = take p.header.rows (map shown (vec_items p.table))

  has_rows : 1 ≤ length rows
  has_rows = omega (arith, length-take-le p.header.rows (map shown (vec_items p.table)) st.room)

  of_sheet : RowsOfSheet n rows
  of_sheet = let on = on_sheet admits shown p st (vec_items p.order) st.ordered in
      record { kind = on.kind; variables = on.variables; few = on.few; fit = on.fit }

  module _ (m : Meaning) (law : Lawful m) (theorem : TheAnswerIsTheFirstCompleteOrdering) (seen : List Shown)
      (same : seen ≡ rows) (count : ℕ)
      (counted : RowsOfSheet n seen → count ≡ length (tested m n seen)) where
    seen_of_sheet : RowsOfSheet n seen
    seen_of_sheet = subst (λ (r : List Shown). RowsOfSheet n r) (sym same) of_sheet

    count_of : count ≡ length (tested m n rows)
    count_of = counted seen_of_sheet ∙ ap (λ (r : List Shown). length (tested m n r)) same

    -- no ordering was found: the sheet stays as it is
    pub unserved_by : (RowsOfSheet n seen → None ≡ option_map padded (answer m n seen)) →
        ActsAsPromised admits shown opened p (settle m) (refused 16 (count ∷ [])) opened p
    unserved_by found =
        let lost : NoneComplete m n seen =
        (theorem m law n seen seen_of_sheet).1.0 (nothing_found padded (answer m n seen) (found seen_of_sheet)) in
        let never : NoneComplete m n rows = subst (λ (r : List Shown). NoneComplete m n r) same lost in
        kept_by admits shown opened p (settle m) law (refused 16 (count ∷ [])) st (tt, (has_rows, tt)) (none never)
        (rw count_of (unserved never))

    -- an ordering was found, and written
    pub served_by : (q : Parts E) (ordering : List ℕ) →
        (RowsOfSheet n seen → Some ordering ≡ option_map padded (answer m n seen)) →
        q.table ≡ p.table → q.header ≡ p.header → vec_items q.order ≡ ordering →
        ActsAsPromised admits shown opened p (settle m) (granted (count ∷ ordering)) (settled_by m) q
    served_by q ordering found table header written =
        let got = something_found padded ordering (answer m n seen) (found seen_of_sheet) in
        let best : FirstComplete m n rows got.0 = subst (λ (r : List Shown). FirstComplete m n r got.0) same
        ((theorem m law n seen seen_of_sheet).0 got.0 got.1) in
        let at : vec_items q.order ≡ padded got.0 = written ∙ sym got.2 in
        let stands : MakesSheet admits shown q = makes_at admits (settled_by m) (ap (λ h. h.variables) header)
        (ap (λ h. h.rows) header) (ap (λ t. map shown (vec_items t)) table) at record {
          variables = st.variables;
          places = st.places;
          room = st.room;
          ordered = ordering_of n got.0 st.variables.most best.prefix.entries best.full;
          rows = st.rows;
          blanks = st.blanks;
        } in
        granted_to admits shown opened p (settle m) law (settled_by m) q (count ∷ ordering) st stands
        (tt, (has_rows, tt))
        (rw (table, header, at) (first best))
        (rw (count_of, ← got.2) (serving best))
