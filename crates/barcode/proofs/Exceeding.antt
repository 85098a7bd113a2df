-- Rows that are exceeded, as the test and the code tell them. Assumes nothing.
use Rattle.std.proofs.Common.{◌≡◌, ℕ, ◌<◌, Bool, true, ltb, ◌||◌, List, [], ◌∷◌, map, length, Decides, sym, refl, ap, ◌∙◌, subst, arith}
use Rattle.std.specs.List.{list_any}
use Rattle.std.proofs.lemmas.Bool.{lt-ltb, and_from, and_parts}
use Rattle.std.proofs.lemmas.Bool.Decides.{Decides-and, Decides-eqb, Decides-ltb, Decides-like}
use Rattle.std.proofs.lemmas.List.{get_or_default, length-map}
use Rattle.std.proofs.lemmas.List.Folds.{Any-from_list_any, list_any_at}
use Rattle.elements.specs.Element.{Shown, exponent, blank}
use Rattle.orderings.specs.Rows.{row}
use Rattle.barcode.specs.Exceeded.{Exceeds, exceeds, IsExceeded, is_exceeded}

exceeds_decides : (v : ℕ) (w u : Shown) → Decides (exceeds v w u) (Exceeds v w u)
exceeds_decides v w u =
    Decides-like (exceeds v w u)
    (λ both. record { family = both.1; greater = both.0 }) (λ x. (x.greater, x.family))
    (Decides-and (ltb (exponent u v) (exponent w v)) _
    (Decides-ltb (exponent u v) (exponent w v)) (Decides-eqb w.family u.family))

-- the test tells whether some row exceeds the row of a place
pub exceeded_decides : (rows : List Shown) (p v : ℕ) → p < length rows →
    Decides (is_exceeded rows p v) (IsExceeded rows p v)
exceeded_decides rows p v here =
    let u = row rows p in (
      (λ is.
          let (q, w, inside, there, found) = Any-from_list_any (λ w. exceeds v w u) rows
          (and_parts (ltb p (length rows)) _ is).1 in
          let at_q : row rows q ≡ w = get_or_default rows q blank w inside ∙ there in
          (q, inside, rw at_q ((exceeds_decides v w u).0 found))),
      (λ some.
          let (q, inside, x) = some in
          let found = list_any_at (λ w. exceeds v w u) rows q blank inside ((exceeds_decides v (row rows q) u).1 x) in
          and_from (ltb p (length rows)) _ (lt-ltb p (length rows) here) found),
    )

-- what is equal to the test tells it too
pub decided_by_test : (rows : List Shown) (p v : ℕ) (b : Bool) → p < length rows → b ≡ is_exceeded rows p v →
    Decides b (IsExceeded rows p v)
decided_by_test rows p v b here e =
    subst (λ (t : Bool). Decides t (IsExceeded rows p v)) (sym e) (exceeded_decides rows p v here)

module _ {X : Type 0} (shown : X → Shown) where
  any_shown : (v : ℕ) (u : Shown) (xs : List X) →
      list_any (λ w. exceeds v (shown w) u) xs ≡ list_any (λ w. exceeds v w u) (map shown xs)
  any_shown v u [] = refl
  any_shown v u (x ∷ xs) = ap (λ b. exceeds v (shown x) u || b) (any_shown v u xs)

  -- what is told by a walk through the rows
  pub walk_told : (xs : List X) (p v : ℕ) (u : X) (b : Bool) → p < length xs →
      row (map shown xs) p ≡ shown u → b ≡ list_any (λ w. exceeds v (shown w) (shown u)) xs →
      b ≡ is_exceeded (map shown xs) p v
  walk_told xs p v u b l e same =
      let rows = map shown xs in
      let inside : ltb p (length rows) ≡ true = lt-ltb p (length rows) (omega (arith, l, length-map xs shown)) in
      rw (inside, e) (same ∙ any_shown v (shown u) xs)
