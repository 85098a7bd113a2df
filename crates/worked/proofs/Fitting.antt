-- Rows of a sheet, told by a test. Assumes nothing.
use Rattle.std.proofs.Common.{◌≡◌, ℕ, zero, suc, ◌+◌, ◌-◌, ◌<◌, ◌≤◌, Bool, true, false, not, ◌&&◌, eqb, leb, List, [], ◌∷◌, length, get_or, drop, sym, refl, ap, ◌∙◌, subst, inl, inr, not-suc-le-zero, arith}
use Rattle.std.proofs.lemmas.List.{get_or_past, get_or-drop}
use Rattle.std.proofs.lemmas.Bool.{and_parts, and_from, eqb-true, eq-eqb, leb-true, cases_lt, not-true, both_ways}
use Rattle.elements.specs.Element.{Shown, exponent}
use Rattle.orderings.specs.Fit.{Fit}
use Rattle.orderings.specs.Rows.{row}
use Rattle.std.specs.List.{list_all as every}
use Rattle.search.specs.Liveness.{RowsOfSheet}

-- e fits a sheet of n variables of the kind
abbrev fits : (ℕ → Bool) → ℕ → Shown → Bool
fits kind n e =
    (kind e.family && leb e.family 255) &&
    (eqb (length e.exponents) 8 &&
    (every (λ x. leb x 4095) e.exponents && every (λ x. eqb x 0) (drop n e.exponents)))

abbrev same_list : List ℕ → List ℕ → Bool
same_list [] [] = true
same_list [] (y ∷ ys) = false
same_list (x ∷ xs) [] = false
same_list (x ∷ xs) (y ∷ ys) = eqb x y && same_list xs ys

abbrev same : Shown → Shown → Bool
same u w = eqb u.family w.family && same_list u.exponents w.exponents

abbrev each_shown : (Shown → Bool) → List Shown → Bool
each_shown f [] = true
each_shown f (x ∷ xs) = f x && each_shown f xs

abbrev differ : List Shown → Bool
differ [] = true
differ (u ∷ us) = each_shown (λ w. not (same u w)) us && differ us

-- the test
abbrev pub are_rows : (ℕ → Bool) → ℕ → List Shown → Bool
are_rows kind n rows = (leb 1 n && leb n 8) && (leb (length rows) 64 && (each_shown (fits kind n) rows && differ rows))

every_at : (f : ℕ → Bool) (xs : List ℕ) (k : ℕ) → every f xs ≡ true → k < length xs → f (get_or xs k 0) ≡ true
every_at f [] k e l = absurd (not-suc-le-zero l)
every_at f (x ∷ xs) zero e l = (and_parts (f x) (every f xs) e).0
every_at f (x ∷ xs) (suc k) e l = every_at f xs k (and_parts (f x) (every f xs) e).1 (omega arith)

shown_at : (f : Shown → Bool) (xs : List Shown) (k : ℕ) → each_shown f xs ≡ true → k < length xs → f (row xs k) ≡ true
shown_at f [] k e l = absurd (not-suc-le-zero l)
shown_at f (x ∷ xs) zero e l = (and_parts (f x) (each_shown f xs) e).0
shown_at f (x ∷ xs) (suc k) e l = shown_at f xs k (and_parts (f x) (each_shown f xs) e).1 (omega arith)

same_list_self : (xs : List ℕ) → same_list xs xs ≡ true
same_list_self [] = refl
same_list_self (x ∷ xs) = and_from (eqb x x) (same_list xs xs) (eq-eqb x x refl) (same_list_self xs)

same_self : (u : Shown) → same u u ≡ true
same_self u = and_from (eqb u.family u.family) _ (eq-eqb u.family u.family refl) (same_list_self u.exponents)

different_from : (rows : List Shown) → differ rows ≡ true →
    (p q : ℕ) → p < q → q < length rows → row rows p ≡ row rows q → ⊥
different_from [] e p q l h is = absurd (not-suc-le-zero h)
different_from (u ∷ us) e zero zero l h is = absurd (omega arith)
different_from (u ∷ us) e zero (suc q) l h is =
    let first = (and_parts (each_shown (λ w. not (same u w)) us) (differ us) e).0 in
    let t = shown_at (λ w. not (same u w)) us q first (omega arith) in
    both_ways (same u (row us q)) (not-true (same u (row us q)) t)
    (subst (λ (w : Shown). same u w ≡ true) is (same_self u))
different_from (u ∷ us) e (suc p) zero l h is = absurd (omega arith)
different_from (u ∷ us) e (suc p) (suc q) l h is =
    let rest = (and_parts (each_shown (λ w. not (same u w)) us) (differ us) e).1 in
    different_from us rest p q (omega arith) (omega arith) is

small_from : (e : Shown) → every (λ x. leb x 4095) e.exponents ≡ true → (v : ℕ) → exponent e v ≤ 4095
small_from e t zero = omega arith
small_from e t (suc k) = elim (cases_lt k (length e.exponents)) [
  | inl l ↦ leb-true (get_or e.exponents k 0) 4095 (every_at (λ x. leb x 4095) e.exponents k t l)
  | inr l ↦ omega (arith, get_or_past e.exponents k 0 l)
]

unused_from : (n : ℕ) (e : Shown) → every (λ x. eqb x 0) (drop n e.exponents) ≡ true →
    (v : ℕ) → n < v → exponent e v ≡ 0
unused_from n e t zero l = absurd (omega arith)
unused_from n e t (suc k) l =
    let rest = drop n e.exponents in
    let place : n + (k - n) ≡ k = omega arith in
    let there = get_or-drop n e.exponents (k - n) 0 ∙ ap (λ (i : ℕ). get_or e.exponents i 0) place in
    sym there ∙ (elim (cases_lt (k - n) (length rest)) [
      | inl h ↦ eqb-true (get_or rest (k - n) 0) 0 (every_at (λ x. eqb x 0) rest (k - n) t h)
      | inr h ↦ get_or_past rest (k - n) 0 h
    ])

fit_from : (kind : ℕ → Bool) (n : ℕ) (e : Shown) → fits kind n e ≡ true → Fit kind n e
fit_from kind n e t =
    let (a, b) = and_parts (kind e.family && leb e.family 255) _ t in
    let (family, byte) = and_parts (kind e.family) (leb e.family 255) a in
    let (eight, c) = and_parts (eqb (length e.exponents) 8) _ b in
    let (small, unused) = and_parts (every (λ x. leb x 4095) e.exponents) _ c in
    record {
      admitted = record {
        family = family;
        byte = leb-true e.family 255 byte;
        eight = eqb-true (length e.exponents) 8 eight;
        bound = λ v. omega (arith, small_from e small v);
        unused = unused_from n e unused;
      };
      small = small_from e small;
    }

pub rows_from : (kind : ℕ → Bool) (n : ℕ) (rows : List Shown) → are_rows kind n rows ≡ true → RowsOfSheet n rows
rows_from kind n rows t =
    let (a, b) = and_parts (leb 1 n && leb n 8) _ t in
    let (low, high) = and_parts (leb 1 n) (leb n 8) a in
    let (few, c) = and_parts (leb (length rows) 64) _ b in
    let (fit, differs) = and_parts (each_shown (fits kind n) rows) (differ rows) c in
    record {
      kind = kind;
      variables = record { some = leb-true 1 n low; most = leb-true n 8 high };
      few = leb-true (length rows) 64 few;
      fit = record {
        fit = λ p l. fit_from kind n (row rows p) (shown_at (fits kind n) rows p fit l);
        different = different_from rows differs;
      };
    }
