-- The greatest exponents of rows, and what they tell. Assumes nothing.
use Rattle.std.proofs.Common.{◌≡◌, ℕ, zero, suc, max, ◌+◌, ◌<◌, ◌≤◌, true, ltb, List, length, get_or, replicate, sym, refl, ◌∙◌, inl, inr, arith}
use Rattle.std.specs.Cmp.{both_ways}
use Rattle.std.proofs.lemmas.Bool.{cases_lt, cases_eq, lt-ltb, ltb-true, eq-eqb, and_parts, and_from}
use Rattle.std.proofs.lemmas.List.{get_or_past, get_or_default, get_or-replicate}
use Rattle.std.proofs.Math.Nat.{le-max_left, le-max_right, max-le}
use Rattle.std.proofs.lemmas.List.Folds.{Any-from_list_any, list_any_at}
use Rattle.elements.specs.Element.{Shown, entry, exponent, blank}
use Rattle.orderings.specs.Rows.{row}
use Rattle.barcode.specs.Exceeded.{exceeds, is_exceeded, TellExceeded}

-- lists of eight entries, one with the greater of each two
pub raised_entry : (a b r : List ℕ) → length a ≡ 8 → length b ≡ 8 → length r ≡ 8 →
    ((k : ℕ) → k < 8 → get_or r k 0 ≡ max (get_or a k 0) (get_or b k 0)) →
    (v : ℕ) → entry r v ≡ max (entry a v) (entry b v)
raised_entry a b r la lb lr h zero = refl
raised_entry a b r la lb lr h (suc k) = elim (cases_lt k 8) [
  | inl l ↦ h k l
  | inr l ↦ (let x = get_or_past a k 0 (omega arith) in
      let y = get_or_past b k 0 (omega arith) in
      let z = get_or_past r k 0 (omega arith) in
      rw (x, y, z) refl)
]

zero_entry : (v : ℕ) → entry (replicate 8 0) v ≡ 0
zero_entry v = elim (cases_lt v 9) [
  | inl l ↦ get_or-replicate 9 v 0 0 l
  | inr l ↦ get_or_past (replicate 9 0) v 0 l
]

-- the first i rows are of one family, and these are their greatest exponents: no row has a greater
-- one, and what is below one of them is below a row's
pub record Tops (rows : List Shown) (greatest : List ℕ) (i : ℕ) : Type 0 where
  pub same : (q : ℕ) → q < i → (row rows 0).family ≡ (row rows q).family
  pub most : (q v : ℕ) → q < i → exponent (row rows q) v ≤ entry greatest v
  pub reached : (v m : ℕ) → m < entry greatest v → (q : ℕ) × (q < i) × (m < exponent (row rows q) v)

pub tops_of_none : (rows : List Shown) → Tops rows (replicate 8 0) 0
tops_of_none rows = record {
  same = λ q l. absurd (omega arith);
  most = λ q v l. absurd (omega arith);
  reached = λ v m l. absurd (omega (arith, zero_entry v));
}

-- one row more
pub tops_of_one_more : {rows : List Shown} {greatest : List ℕ} {i : ℕ} (more : List ℕ) →
    Tops rows greatest i → (row rows 0).family ≡ (row rows i).family →
    ((v : ℕ) → entry more v ≡ max (entry greatest v) (exponent (row rows i) v)) → Tops rows more (i + 1)
tops_of_one_more {rows} {greatest} {i} more t family raised = record {
  same = λ q l. elim (cases_eq q i) [
    | inl e ↦ rw e family
    | inr n ↦ t.same q (omega arith)
  ];
  most = λ q v l. rw (raised v) (elim (cases_eq q i) [
    | inl e ↦ rw e (le-max_right (entry greatest v) (exponent (row rows i) v))
    | inr n ↦ (let below = t.most q v (omega arith) in
        let above = le-max_left (entry greatest v) (exponent (row rows i) v) in omega (arith, below, above))
  ]);
  reached = λ v m l. elim (cases_lt m (entry greatest v)) [
    | inl below ↦ (let (q, inside, x) = t.reached v m below in (q, omega arith, x))
    | inr above ↦ (
      i,
      omega arith,
      elim (cases_lt m (exponent (row rows i) v)) [
        | inl x ↦ x
        | inr y ↦ (let bound = max-le above y in absurd (omega (arith, l, raised v, bound)))
      ],
    )
  ];
}

-- where all rows are looked at
module _ {rows : List Shown} {greatest : List ℕ} {i : ℕ} (t : Tops rows greatest i) (all : i ≡ length rows) where
  exceeded_below : (p v : ℕ) → p < length rows → ltb (exponent (row rows p) v) (entry greatest v) ≡ true →
      is_exceeded rows p v ≡ true
  exceeded_below p v here below =
      let u = row rows p in
      let (q, inside, greater) = t.reached v (exponent u v) (ltb-true _ _ below) in
      let family : (row rows q).family ≡ u.family = sym (t.same q inside) ∙ t.same p (omega arith) in
      and_from _ _ (lt-ltb p (length rows) here) (list_any_at (λ w. exceeds v w u) rows q blank (omega arith)
      (and_from _ _ (lt-ltb _ _ greater) (eq-eqb _ _ family)))

  below_exceeded : (p v : ℕ) → p < length rows → is_exceeded rows p v ≡ true →
      ltb (exponent (row rows p) v) (entry greatest v) ≡ true
  below_exceeded p v here is =
      let u = row rows p in
      let (q, w, inside, there, found) = Any-from_list_any (λ w. exceeds v w u) rows
      (and_parts (ltb p (length rows)) _ is).1 in
      let at_q : row rows q ≡ w = get_or_default rows q blank w inside ∙ there in
      let greater = ltb-true _ _ (and_parts (ltb (exponent u v) (exponent w v)) _ found).0 in
      let most : exponent w v ≤ entry greatest v = rw at_q at (t.most q v (omega arith)) in
      lt-ltb _ _ (omega (arith, greater, most))

  pub tops_tell : TellExceeded rows greatest
  tops_tell p v here = both_ways _ _ (exceeded_below p v here) (below_exceeded p v here)
