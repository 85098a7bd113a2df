-- The test of a prefix tells whether it is live. Assumes nothing.
use Rattle.std.proofs.Common.{◌≡◌, ℕ, zero, suc, ◌+◌, ◌-◌, ◌<◌, ◌≤◌, Bool, true, cond, eqb, leb, List, length, get_or, Some, None, Decides, Option, sym, refl, ap, ◌∙◌, inl, inr, arith}
use Rattle.std.specs.List.{list_all}
use Rattle.std.specs.List.{AllByRecursion as All}
use Rattle.std.proofs.ByRecursion.{All-get_or, All-from_get_or, Decides-by_and}
use Rattle.std.proofs.lemmas.Option.{none-some}
use Rattle.std.proofs.lemmas.Bool.{cases_lt, cases_Bool, ltb-true, lt-ltb, leb-true, le-leb, cond-true, cond-false}
use Rattle.std.proofs.lemmas.Bool.Decides.{Decides-eqb, Decides-and, Decides-like, Decides-below_and, Decides-below_or, not_from_Decides}
use Rattle.elements.specs.Element.{Shown, entry, exponent, Divides, product, power, times, quotient, Variable}
use Rattle.elements.proofs.Terms.{entry_none, entry_past, entry_term, product_family}
use Rattle.orderings.specs.Rows.{row}
use Rattle.cones.specs.Cones.{Limits, Within, InCone, IsShortfall}
use Rattle.cones.proofs.Products.{quotient_at}
use Rattle.search.specs.Prefixes.{has, Entries}
use Rattle.search.specs.Liveness.{only, every_below, some_below, raised, within, divides, covers, covered, no_shortfall}
use Rattle.search.proofs.Entries.{has_at}
use Rattle.search.proofs.Orders.{has_index}

-- what a product with a power shows
pub times_at : (u : Shown) (v d x : ℕ) → Variable x → exponent (times u v d) x ≡ raised u v d x
unfolding product power
times_at u v d x r =
    entry_term (λ y. exponent u y + entry (power v d) y) x r ∙ ap (λ (e : ℕ). exponent u x + e)
    (entry_term (λ y. cond (eqb y v) d 0) x r)

decides_leb : (a b : ℕ) → Decides (leb a b) (a ≤ b)
decides_leb a b = (leb-true a b, le-leb a b)

pub decides_divides : (s u : Shown) (v d : ℕ) → length s.exponents ≡ 8 →
    Decides (divides s u v d) (Divides s (times u v d))
decides_divides s u v d eight =
    Decides-like (divides s u v d) there back
    (Decides-and (eqb s.family u.family) (every_below fits 8) (Decides-eqb s.family u.family)
    (Decides-below_and fits Fits (every_below fits) (λ k. decides_leb (exponent s (suc k)) (raised u v d (suc k))) refl
    (λ _. refl) 8))
  where
    fits : ℕ → Bool
    fits k = leb (exponent s (suc k)) (raised u v d (suc k))

    Fits : ℕ → Type 0
    Fits k = exponent s (suc k) ≤ raised u v d (suc k)

    there : (s.family ≡ u.family) × ((k : ℕ) → k < 8 → Fits k) → Divides s (times u v d)
    there f = record {
      family = f.0 ∙ sym (product_family u (power v d));
      smaller = λ x. elim (cases_lt x 1) [
        | inl l ↦ omega (arith, entry_none s.exponents x l)
        | inr low ↦ elim (cases_lt 8 x) [
          | inl l ↦ omega (arith, entry_past s.exponents x (omega arith))
          | inr high ↦ inside f x low high
        ]
      ];
    }
      where
        inside : (s.family ≡ u.family) × ((k : ℕ) → k < 8 → Fits k) → (x : ℕ) → 1 ≤ x → x ≤ 8 →
            exponent s x ≤ exponent (times u v d) x
        inside f zero low high = absurd (omega arith)
        inside f (suc k) low high =
            rw (times_at u v d (suc k) (record { low = low; high = high })) (f.1 k (omega arith))

    back : Divides s (times u v d) → (s.family ≡ u.family) × ((k : ℕ) → k < 8 → Fits k)
    back f = (
      f.family ∙ product_family u (power v d),
      λ k l. rw (times_at u v d (suc k) (record { low = omega arith; high = omega arith })) at (f.smaller (suc k)),
    )

-- a number that is below the limit, if there is one
decides_within : (o : Option ℕ) (e : ℕ) → Decides (within o e) ((l : ℕ) → o ≡ Some l → e < l)
decides_within None e = (λ _ l q. absurd (none-some l q), λ _. refl)
decides_within (Some m) e =
    (λ t l q. let same : m ≡ l = cc in omega (arith, ltb-true e m t), λ f. lt-ltb e m (f m refl))

-- what holds of all entries holds of each
pub all_at : (P : ℕ → Type 0) (p : List ℕ) (x : ℕ) → All P p → has x p ≡ true → P x
all_at P p x h t = let (k, l, e) = has_index p x t in let here : P (get_or p k 0) = All-get_or P p k 0 l h in
    rw e at here

-- what holds of each entry holds of all
pub all_entries : (P : ℕ → Type 0) (p : List ℕ) → ((x : ℕ) → has x p ≡ true → P x) → All P p
all_entries P p h = All-from_get_or P p 0 (λ k l. h (get_or p k 0) (has_at p k (get_or p k 0) l refl))

-- a limit that is left is one of a listed variable
pub only_listed : (p : List ℕ) (lim : Limits) (q v d : ℕ) → only p lim q v ≡ Some d →
    (has v p ≡ true) × (lim q v ≡ Some d)
only_listed p lim q v d e = elim (cases_Bool (has v p)) [
  | inl t ↦ (t, sym (cond-true (has v p) (lim q v) None t) ∙ e)
  | inr f ↦ absurd (none-some d (sym (cond-false (has v p) (lim q v) None f) ∙ e))
]

pub only_kept : (p : List ℕ) (lim : Limits) (q v : ℕ) → has v p ≡ true → only p lim q v ≡ lim q v
only_kept p lim q v t = cond-true (has v p) (lim q v) None t

module _ (n : ℕ) (few : n ≤ 8) (p : List ℕ) (h : Entries n p) (rows : List Shown)
    (eight : (k : ℕ) → length (row rows k).exponents ≡ 8) (lim : Limits) where
  range : (x : ℕ) → has x p ≡ true → (1 ≤ x) × (x ≤ n)
  range x t = all_at (λ x. (1 ≤ x) × (x ≤ n)) p x h.range t

  module _ (u : Shown) (v d : ℕ) where
    -- the product lies in the cone of the row at place s
    abbrev Covers : ℕ → Type 0
    Covers s = Divides (row rows s) (times u v d) × Within n (only p lim s) (quotient (row rows s) (times u v d))

    -- by the entries
    abbrev Below : ℕ → ℕ → Type 0
    Below s x = (l : ℕ) → lim s x ≡ Some l → raised u v d x - exponent (row rows s) x < l

    difference : (s x : ℕ) → 1 ≤ x → x ≤ n → entry (quotient (row rows s) (times u v d)) x ≡
        raised u v d x - exponent (row rows s) x
    difference s x low high =
        let is : Variable x = record { low = low; high = omega arith } in
        quotient_at (row rows s) (times u v d) x is ∙ ap (λ (e : ℕ). e - exponent (row rows s) x) (times_at u v d x is)

    decides_covers : (s : ℕ) → Decides (covers p (lim s) (row rows s) u v d) (Covers s)
    decides_covers s =
        Decides-like (covers p (lim s) (row rows s) u v d)
        (λ f. (
          f.0,
          λ x l low high e. let (t, is) = only_listed p lim s x l e in
              rw (difference s x low high) (all_at (Below s) p x f.1 t l is),
        ))
        (λ f. (
          f.0,
          all_entries (Below s) p (λ x t l e.
              let r = range x t in
              rw (difference s x r.0 r.1) at (f.1 x l r.0 r.1 (only_kept p lim s x t ∙ e))),
        ))
        (Decides-and (divides (row rows s) u v d) (list_all test p) (decides_divides (row rows s) u v d (eight s))
        (Decides-by_and test (Below s) (list_all test) (λ x. decides_within (lim s x)
        (raised u v d x - exponent (row rows s) x)) refl (λ _ _. refl) p))
      where
        test : ℕ → Bool
        test x = within (lim s x) (raised u v d x - exponent (row rows s) x)

    decides_some : Decides (some_below (λ s. covers p (lim s) (row rows s) u v d) (length rows))
        ((s : ℕ) × InCone n rows (only p lim) s (times u v d))
    decides_some =
        Decides-like (some_below (λ s. covers p (lim s) (row rows s) u v d) (length rows))
        (λ f. (f.0, record { place = f.1; divides = f.2.0; multiplier = f.2.1 }))
        (λ f. (f.0, f.1.place, (f.1.divides, f.1.multiplier)))
        (Decides-below_or (λ s. covers p (lim s) (row rows s) u v d) Covers
        (some_below (λ s. covers p (lim s) (row rows s) u v d)) decides_covers refl (λ _. refl) (length rows))

  -- where u has a limit in v, the product with that power lies in a cone
  abbrev Covered : Shown → ℕ → Option ℕ → Type 0
  Covered u v o = (d : ℕ) → o ≡ Some d → (s : ℕ) × InCone n rows (only p lim) s (times u v d)

  decides_covered : (u : Shown) (v : ℕ) (o : Option ℕ) → Decides (covered p rows lim u v o) (Covered u v o)
  decides_covered u v None = (λ _ d e. absurd (none-some d e), λ _. refl)
  decides_covered u v (Some d) = (
    λ t k e. let same : d ≡ k = cc in rw (← same) ((decides_some u v d).0 t),
    λ f. (decides_some u v d).1 (f d refl),
  )

  pub decides_none : Decides (no_shortfall p rows lim) (((q : ℕ) × (v : ℕ) × (d : ℕ) × IsShortfall n rows (only p lim)
      q v d) → ⊥)
  decides_none =
      Decides-like (no_shortfall p rows lim)
      (λ all (q, v, d, short).
      let (t, e) = only_listed p lim q v d short.limit in
      let (s, cone) = all_at (Each q) p v (all q short.place) t d e in short.outside s cone)
      (λ none q l. all_entries (Each q) p (λ v t. elim (cases_Bool (test q v)) [
        | inl good ↦ (decides_covered (row rows q) v (lim q v)).0 good
        | inr out ↦ λ d e. absurd (none (
          q,
          v,
          d,
          record {
            place = l;
            low = (range v t).0;
            high = (range v t).1;
            limit = only_kept p lim q v t ∙ e;
            outside = λ s cone. not_from_Decides (test q v) (decides_covered (row rows q) v (lim q v)) out
                (λ k f. let same : d ≡ k = cc in (s, rw (← same) cone));
          },
        ))
      ]))
      (Decides-below_and (λ q. list_all (test q) p) (λ q. All (Each q) p) (every_below (λ q. list_all (test q) p))
      (λ q. Decides-by_and (test q) (Each q) (list_all (test q)) (λ v. decides_covered (row rows q) v (lim q v)) refl
      (λ _ _. refl) p) refl (λ _. refl) (length rows))
    where
      test : ℕ → ℕ → Bool
      test q v = covered p rows lim (row rows q) v (lim q v)

      Each : ℕ → ℕ → Type 0
      Each q v = Covered (row rows q) v (lim q v)
