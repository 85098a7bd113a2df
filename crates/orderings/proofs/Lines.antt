-- The elements that fit are ordered totally. Assumes nothing.
use Rattle.std.proofs.Common.{◌≡◌, ℕ, zero, suc, ◌<◌, ◌≤◌, Bool, ◌⊎◌, List, sym, ◌∙◌, inl, inr, arith, below_none, below_more}
use Rattle.std.proofs.lemmas.List.{ext_get_or}
use Rattle.std.proofs.lemmas.Bool.{cases_eq, cases_lt, cases_order}
use Rattle.elements.specs.Element.{Shown, exponent}
use Rattle.elements.proofs.Terms.{shown_path}
use Rattle.orderings.specs.Compare.{CompareIsATotalOrder}
use Rattle.orderings.specs.Fit.{Admitted}
use Rattle.orderings.specs.Order.{at, IsOrdering, Agree, PartAt, Below}
use Rattle.orderings.proofs.Positions.{position}

-- a property that can be decided holds below n, or first fails at some k
abbrev pub Either : (P : ℕ → Type 0) → ℕ → Type 0
Either P n = ((k : ℕ) → k < n → P k) ⊎ ((k : ℕ) × (k < n) × ((j : ℕ) → j < k → P j) × (P k → ⊥))

pub first : (P : ℕ → Type 0) → ((k : ℕ) → P k ⊎ (P k → ⊥)) → (n : ℕ) → Either P n
first P d zero = inl (below_none P)
first P d (suc n) = elim (first P d n) [
  | inl all ↦ elim (d n) [
    | inl here ↦ inl (λ k h. below_more P n all here k (omega arith))
    | inr not ↦ inr (n, omega arith, all, not)
  ]
  | inr f ↦ inr (f.0, omega arith, f.2, f.3)
]

module _ (order : List ℕ) where
  pub irreflexive : (u : Shown) → Below order u u → ⊥
  irreflexive u (inl l) = omega arith
  irreflexive u (inr p) = omega (arith, p.1.smaller)

  -- who parts from v upwards at k parts from w too, where v parts from w upwards
  pub chain : (u v w : Shown) (j k : ℕ) → PartAt order j u v → PartAt order k v w → (i : ℕ) × PartAt order i u w
  chain u v w j k x y = elim (cases_order j k) [
    | inl e ↦ (let l = rw (← e) at y.smaller in make j (omega arith) (omega arith) (omega (arith, x.smaller, l)))
    | inr o ↦ elim o [
      | inl h ↦ make j (omega arith) (omega arith) (omega (arith, x.smaller, y.above j h))
      | inr h ↦ make k (omega arith) (omega arith) (omega (arith, x.above k h, y.smaller))
    ]
  ]
    where
      make : (i : ℕ) → i ≤ j → i ≤ k → exponent u (at order i) < exponent w (at order i) → (i : ℕ) × PartAt order i u w
      make i hj hk l = (
        i,
        record {
          family = x.family ∙ y.family;
          above = λ m hm. x.above m (omega arith) ∙ y.above m (omega arith);
          smaller = l;
        },
      )

  pub transitive : (u v w : Shown) → Below order u v → Below order v w → Below order u w
  transitive u v w (inl l) (inl m) = inl (omega arith)
  transitive u v w (inl l) (inr p) = inl (omega (arith, p.1.family))
  transitive u v w (inr p) (inl m) = inl (omega (arith, p.1.family))
  transitive u v w (inr p) (inr q) = inr (chain u v w p.0 q.0 p.1 q.1)

  pub asymmetric : (u w : Shown) → Below order u w → Below order w u → ⊥
  asymmetric u w l m = irreflexive u (transitive u w u l m)

module _ (admits : ℕ → Bool) (n : ℕ) (order : List ℕ) (o : IsOrdering n order) (u w : Shown) (a : Admitted admits n u)
    (b : Admitted admits n w) where
  -- elements that agree in all n variables have the same exponents
  same_exponents : Agree order n u w → (v : ℕ) → 1 ≤ v → exponent u v ≡ exponent w v
  same_exponents agree v low = elim (cases_lt n v) [
    | inl h ↦ a.unused v h ∙ sym (b.unused v h)
    | inr h ↦ (let (k, hk, e) = position n order o v low h in rw e at (agree k hk))
  ]

  pub same_shown : u.family ≡ w.family → Agree order n u w → u ≡ w
  same_shown f agree =
      shown_path u w f (ext_get_or 0 _ _ (a.eight ∙ sym b.eight) (λ i h. same_exponents agree (suc i) (omega arith)))

  -- two elements of one family are the same, or part one way or the other
  pub apart : u.family ≡ w.family → (u ≡ w) ⊎ ((k : ℕ) × (PartAt order k u w ⊎ PartAt order k w u))
  apart f = elim (first _ (λ k. cases_eq (exponent u (at order k)) (exponent w (at order k))) n) [
    | inl all ↦ inl (same_shown f all)
    | inr d ↦ inr (
      d.0,
      elim (cases_order (exponent u (at order d.0)) (exponent w (at order d.0))) [
        | inl e ↦ absurd (d.3 e)
        | inr c ↦ elim c [
          | inl l ↦ inl (record { family = f; above = d.2; smaller = l })
          | inr l ↦ inr (record { family = sym f; above = λ j h. sym (d.2 j h); smaller = l })
        ]
      ],
    )
  ]

  pub total : Below order u w ⊎ ((u ≡ w) ⊎ Below order w u)
  total = elim (cases_order u.family w.family) [
    | inl f ↦ elim (apart f) [
      | inl e ↦ inr (inl e)
      | inr d ↦ elim d.1 [ inl p ↦ inl (inr (d.0, p)) | inr p ↦ inr (inr (inr (d.0, p))) ]
    ]
    | inr c ↦ elim c [ inl l ↦ inl (inl l) | inr l ↦ inr (inr (inl l)) ]
  ]

pub compare_is_a_total_order : CompareIsATotalOrder
compare_is_a_total_order admits n order o =
    record {
      total = λ u w a b. total admits n order o u w a.admitted b.admitted;
      irreflexive = irreflexive order;
      transitive = transitive order;
    }
