-- The places of rows in increasing order. Assumes nothing.
use Rattle.std.proofs.Common.{◌≡◌, ℕ, ◌+◌, ◌<◌, ◌≤◌, Bool, ltb, eqb, ◌&&◌, ◌||◌, List, length, take, drop, ◌++◌, get_or, Decides, sym, ◌∙◌, inl, inr, ◌⊎◌, arith}
use Rattle.std.specs.Cmp.{IsStrictWeakOrder}
use Rattle.std.specs.List.Sorted.{IsPermutation, IsSortedBy}
use Rattle.std.proofs.lemmas.List.{get_or_past, get_or_default, get_or-take, length-take-le, get_or_append_left}
use Rattle.std.proofs.lemmas.List.Sorted.{All-permutation, Contains-permutation, length_permutation, sorted_far}
use Rattle.std.proofs.lemmas.Bool.{cases_lt, cases_order, cases_eq, cases_Bool, and_parts, and_from, or_cases, or_left, or_right, eq-eqb, eqb-true, lt-ltb, ltb-true}
use Rattle.std.proofs.lemmas.Bool.Decides.{not_from_Decides}
use Rattle.elements.specs.Element.{Shown, exponent}
use Rattle.orderings.specs.Order.{at, Agree, Below}
use Rattle.orderings.specs.Rows.{row}
use Rattle.orderings.proofs.Lines.{first, transitive, asymmetric}
use Rattle.barcode.specs.Bars.{below}
use Rattle.barcode.proofs.Tested.{below_decides}
use Rattle.barcode.proofs.Found.{agree_all}

module _ (order : List ℕ) where
  -- u and w are of one family and agree in the whole list
  abbrev pub Tie : Shown → Shown → Type 0
  Tie u w = (u.family ≡ w.family) × Agree order (length order) u w

  pub three_ways : (u w : Shown) → Below order u w ⊎ (Tie u w ⊎ Below order w u)
  three_ways u w = elim (cases_order u.family w.family) [
    | inl f ↦ elim (first (λ k. exponent u (at order k) ≡ exponent w (at order k))
        (λ k. cases_eq (exponent u (at order k)) (exponent w (at order k))) (length order)) [
          | inl all ↦ inr (inl (f, all))
          | inr d ↦ elim (cases_order (exponent u (at order d.0)) (exponent w (at order d.0))) [
            | inl e ↦ absurd (d.3 e)
            | inr o ↦ elim o [
              | inl l ↦ inl (inr (d.0, record { family = f; above = d.2; smaller = l }))
              | inr l ↦ inr (inr (inr (d.0, record { family = sym f; above = λ j h. sym (d.2 j h); smaller = l })))
            ]
          ]
        ]
    | inr o ↦ elim o [ inl l ↦ inl (inl l) | inr l ↦ inr (inr (inl l)) ]
  ]

  -- what is below u is below who ties with it
  tie_right : (x u w : Shown) → Tie u w → Below order x u → Below order x w
  tie_right x u w (f, a) (inl l) = inl (omega arith)
  tie_right x u w (f, a) (inr (k, p)) =
      inr (
        k,
        record {
          family = p.family ∙ f;
          above = λ j l. p.above j l ∙ agree_all order 0 u w a k j l;
          smaller = omega (arith, p.smaller, agree_all order 0 u w a (k + 1) k);
        },
      )

  tie_left : (x u w : Shown) → Tie u w → Below order u x → Below order w x
  tie_left x u w (f, a) (inl l) = inl (omega arith)
  tie_left x u w (f, a) (inr (k, p)) =
      inr (
        k,
        record {
          family = sym f ∙ p.family;
          above = λ j l. sym (agree_all order 0 u w a k j l) ∙ p.above j l;
          smaller = omega (arith, p.smaller, agree_all order 0 u w a (k + 1) k);
        },
      )

  chained : (x y z : Shown) → (Below order x y → ⊥) → (Below order y z → ⊥) → Below order x z → ⊥
  chained x y z a b c = elim (three_ways x y) [
    | inl l ↦ a l
    | inr o ↦ elim o [
      | inl t ↦ b (tie_left z x y t c)
      | inr g ↦ b (transitive order y x z g c)
    ]
  ]

  module _ (rows : List Shown) (lt : ℕ → ℕ → Bool)
      (tells : (p q : ℕ) → Decides (lt p q) (Below order (row rows p) (row rows q))) where
    pub weak_order : IsStrictWeakOrder lt
    weak_order = record {
      one_way = λ x y t. elim (cases_Bool (lt y x)) [
        | inl s ↦ absurd (asymmetric order (row rows x) (row rows y) ((tells x y).0 t) ((tells y x).0 s))
        | inr s ↦ s
      ];
      chain = λ x y z a b. elim (cases_Bool (lt x z)) [
        | inl t ↦ absurd (chained (row rows x) (row rows y) (row rows z) (not_from_Decides _ (tells x y) a)
            (not_from_Decides _ (tells y z) b) ((tells x z).0 t))
        | inr t ↦ t
      ];
    }

-- the test of the order
abbrev pub before : List ℕ → Shown → Shown → Bool
before order u w = ltb u.family w.family || (eqb u.family w.family && below (take (length order) order) u w)

pub before_decides : (order : List ℕ) (u w : Shown) → Decides (before order u w) (Below order u w)
before_decides order u w = (
  λ t. elim (or_cases (ltb u.family w.family) _ t) [
    | inl l ↦ inl (ltb-true _ _ l)
    | inr b ↦ (let p = and_parts (eqb u.family w.family) _ b in
        let (k, l, a, s) = (below_decides order (length order) u w).0 p.1 in
        inr (k, record { family = eqb-true _ _ p.0; above = a; smaller = s }))
  ],
  λ b. elim b [
    | inl l ↦ or_left (ltb u.family w.family) _ (lt-ltb _ _ l)
    | inr p ↦ or_right (ltb u.family w.family) _
        (and_from (eqb u.family w.family) _ (eq-eqb _ _ p.1.family)
        ((below_decides order (length order) u w).1 (p.0, inside p.0 p.1.smaller, p.1.above, p.1.smaller)))
  ],
)
  where
    inside : (k : ℕ) → exponent u (at order k) < exponent w (at order k) → k < length order
    inside k s = elim (cases_lt k (length order)) [
      | inl l ↦ l
      | inr l ↦ (let z = get_or_past order k 0 l in absurd (omega (arith, rw z at s)))
    ]

-- what a sort made of the first places
module _ (rows : List Shown) (order : List ℕ) (m : ℕ) (all sorted : List ℕ) (long : m ≤ length all)
    (own : (k : ℕ) → k < length all → get_or all k 0 ≡ k) (moved : IsPermutation (take m all) sorted) where
  pub sorted_long : length sorted ≡ m
  sorted_long = length_permutation (take m all) sorted moved ∙ length-take-le m all long

  -- what is read after the places were put back
  pub put_back : (j : ℕ) → j < m → get_or (sorted ++ drop m all) j 0 ≡ get_or sorted j 0
  put_back j l = get_or_append_left sorted (drop m all) 0 j (omega (arith, sorted_long))

  pub every_place : (p : ℕ) → p < m → (j : ℕ) × (j < m) × (get_or (sorted ++ drop m all) j 0 ≡ p)
  every_place p l =
      let (j, h, e) = Contains-permutation (take m all) sorted p moved
      (p, omega (arith, length-take-le m all long), get_or-take-any p l) in
      (j, omega (arith, h, sorted_long), put_back j (omega (arith, h, sorted_long)) ∙ get_or_default sorted j 0 p h ∙ e)
    where
      get_or-take-any : (p : ℕ) → p < m → get_or (take m all) p p ≡ p
      get_or-take-any p l = get_or-take m all p p l ∙ get_or_default all p p 0 (omega arith) ∙ own p (omega arith)

  pub only_places : (j : ℕ) → j < m → get_or (sorted ++ drop m all) j 0 < m
  only_places j l =
      let within = All-permutation (λ p. p < m) (take m all) sorted moved
      (λ k d h. below_m k d (omega (arith, h, length-take-le m all long))) in
      let small = within j 0 (omega (arith, sorted_long)) in
      omega (arith, put_back j l, small)
    where
      below_m : (k d : ℕ) → k < m → get_or (take m all) k d < m
      below_m k d h =
          let e : get_or (take m all) k d ≡ k = get_or-take m all k d h ∙ get_or_default all k d 0 (omega arith) ∙
          own k (omega arith) in
          omega (arith, e)

  pub in_order : IsSortedBy (λ p q. before order (row rows p) (row rows q)) sorted → (i j : ℕ) → i ≤ j → j < m →
      Below order (row rows (get_or (sorted ++ drop m all) j 0)) (row rows (get_or (sorted ++ drop m all) i 0)) → ⊥
  in_order up i j le l b =
      let lt : ℕ → ℕ → Bool = λ p q. before order (row rows p) (row rows q) in
      let tells : (p q : ℕ) → Decides (lt p q) (Below order (row rows p) (row rows q)) =
      λ p q. before_decides order (row rows p) (row rows q) in
      let no = sorted_far lt (weak_order order rows lt tells) sorted up i j 0 le (omega (arith, sorted_long)) in
      not_from_Decides _ (tells (get_or sorted j 0) (get_or sorted i 0)) no
      (rw (sym (put_back j l), sym (put_back i (omega arith))) b)
