-- A book fixes its sheet. Assumes nothing.
use Rattle.std.proofs.Common.{◌≡◌, ℕ, ◌≤◌, Bool, List, [], ◌∷◌, map, length, take, vec_items, vec_len, sym, refl, ap, ◌∙◌, inl, inr, arith}
use Rattle.std.proofs.lemmas.List.{length-map, length-take-le, get_or-take, ext_get_or}
use Rattle.std.proofs.lemmas.Bool.{cases_lt}
use Rattle.elements.specs.Element.{Shown, blank}
use Rattle.orderings.specs.Rows.{row}
use Rattle.sheets.specs.declared.parts.Header.{Header}
use Rattle.sheets.specs.Book.{Book}
use Rattle.sheets.specs.Read.{ABookFixesItsSheet}

-- lists of elements that show the same are the same
same_elements : {E : Type 0} (shown : E → Shown) → ((x y : E) → shown x ≡ shown y → x ≡ y) → (xs ys : List E) →
    map shown xs ≡ map shown ys → xs ≡ ys
same_elements shown known [] [] e = refl
same_elements shown known [] (y ∷ ys) e = absurd cc
same_elements shown known (x ∷ xs) [] e = absurd cc
same_elements shown known (x ∷ xs) (y ∷ ys) e =
    let head : shown x ≡ shown y = cc in
    let tail : map shown xs ≡ map shown ys = cc in
    let a = known x y head in
    let b = same_elements shown known xs ys tail in
    cc

-- tables of one length, with the same rows and then blanks, are the same
same_table : (count : ℕ) (s t : List Shown) → length s ≡ length t → count ≤ length s → take count s ≡ take count t →
    ((p : ℕ) → count ≤ p → row s p ≡ blank) → ((p : ℕ) → count ≤ p → row t p ≡ blank) → s ≡ t
same_table count s t len room rows left right =
    ext_get_or blank s t len (λ k l. elim (cases_lt k count) [
      | inl h ↦ sym (get_or-take count s k blank h) ∙ ap (λ r. row r k) rows ∙ get_or-take count t k blank h
      | inr h ↦ left k h ∙ sym (right k h)
    ])

header_path : (a b : Header) → a.variables ≡ b.variables → a.rows ≡ b.rows → a ≡ b
header_path a b e f =
    ap (λ (x : ℕ). record { variables = x; rows = a.rows }) e ∙ ap (λ (x : ℕ). record {
      variables = b.variables;
      rows =
          x;
    }) f

pub a_book_fixes_its_sheet : {E : Type 0} (admits : ℕ → Bool) (shown : E → Shown) →
    ((x y : E) → shown x ≡ shown y → x ≡ y) → ABookFixesItsSheet admits shown
a_book_fixes_its_sheet admits shown known state p q sp sq e =
    let s = map shown (vec_items p.table) in
    let t = map shown (vec_items q.table) in
    let kp : vec_len p.table ≡ length (vec_items p.table) = p.table.ok.0 in
    let kq : vec_len q.table ≡ length (vec_items q.table) = q.table.ok.0 in
    let mp = length-map (vec_items p.table) shown in
    let mq = length-map (vec_items q.table) shown in
    let places : vec_len p.table ≡ vec_len q.table = ap (λ (b : Book). b.places) e in
    let rows : take p.header.rows s ≡ take q.header.rows t = ap (λ (b : Book). b.rows) e in
    let count : p.header.rows ≡ q.header.rows =
    sym (length-take-le p.header.rows s sp.room) ∙ ap length rows ∙ length-take-le q.header.rows t sq.room in
    let n : p.header.variables ≡ q.header.variables = ap (λ (b : Book). b.n) e in (
      same_elements shown known _ _ (same_table p.header.rows s t (omega arith) sp.room (rw (← count) at rows)
          sp.blanks (λ k l. sq.blanks k (omega arith))),
      ap (λ (b : Book). b.order) e,
      header_path p.header q.header n count,
    )
