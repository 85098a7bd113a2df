-- The tested prefixes are those of the rule. Assumes nothing.
use Rattle.std.proofs.Common.{◌≡◌, ℕ, zero, suc, ◌-◌, ◌≤◌, Bool, true, List, [], ◌∷◌, length, take, filter, Some, sym, refl, ap, ◌∙◌, subst, inl, inr, arith}
use Rattle.search.proofs.Listed.{Among}
use Rattle.search.proofs.Listed.{Sorted}
use Rattle.std.specs.List.{find}
use Rattle.std.specs.List.{AllByRecursion as All}
use Rattle.std.proofs.lemmas.Bool.{cases_Bool, cases_eq, cond-true, cond-false, and_parts, and_from}
use Rattle.elements.specs.Element.{Shown}
use Rattle.divisions.specs.Laws.{Meaning}
use Rattle.search.specs.Prefixes.{prefixes, Prefix, Before}
use Rattle.search.specs.Walks.{lives, reached, ends, up_to, first_live, tested_to}
use Rattle.search.specs.Liveness.{RowsOfSheet, live, tested}
use Rattle.search.specs.Theorems.{IsTested, TheTestedPrefixesAreThoseOfTheRule}
use Rattle.search.proofs.Listed.{Contains-from_among, among_from_Contains, AllPairs-from_sorted, listed, among_kept, kept_sorted}
use Rattle.search.proofs.Reached.{prefix_front}
use Rattle.search.proofs.Answered.{before_once, all_among, first_some}
use Rattle.search.proofs.Deadness.{live_is_told_by_its_test}

-- who is kept was there, and passes
among_of_kept : (f : List ℕ → Bool) (ps : List (List ℕ)) (p : List ℕ) → Among p (filter f ps) →
    Among p ps × (f p ≡ true)
among_of_kept f [] p a = absurd a
among_of_kept f (q ∷ qs) p a = elim (cases_Bool (f q)) [
  | inl t ↦ elim (subst (λ xs. Among p xs) (cond-true (f q) (q ∷ filter f qs) (filter f qs) t) a) [
    | inl e ↦ (inl e, ap f e ∙ t)
    | inr b ↦ (let (c, k) = among_of_kept f qs p b in (inr c, k))
  ]
  | inr t ↦ (let (c, k) = among_of_kept f qs p (subst (λ xs. Among p xs)
      (cond-false (f q) (q ∷ filter f qs) (filter f qs) t) a) in (inr c, k))
]

module _ (f : List ℕ → Bool) where
  -- of a list in order, those down to the first that passes are those that do not come after it
  down_to : (ps : List (List ℕ)) (p : List ℕ) → Sorted Before ps → Among p (up_to f ps) →
      Among p ps × ((a : List ℕ) → find f ps ≡ Some a → Before a p → ⊥)
  down_to [] p s h = absurd h
  down_to (q ∷ qs) p s (inl e) = (
    inl e,
    λ a is before. let (here, passes, none) = first_some f (q ∷ qs) a s is in absurd (elim here [
      | inl z ↦ before_once q q (at z before) (at z before)
      | inr z ↦ before_once q a (all_among (Before q) qs a s.0 z) (subst (λ x. Before a x) e before)
    ]),
  )
    where
      at : {a : List ℕ} → a ≡ q → Before a p → Before q q
      at {a} z before = subst (λ x. Before x q) z (subst (λ x. Before a x) e before)
  down_to (q ∷ qs) p s (inr b) = elim (cases_Bool (f q)) [
    | inl t ↦ absurd (subst (λ xs. Among p xs) (cond-true (f q) [] (up_to f qs) t) b)
    | inr t ↦ (let (c, k) = down_to qs p s.1 (subst (λ xs. Among p xs) (cond-false (f q) [] (up_to f qs) t) b) in
        (inr c, λ a is. k a (sym (cond-false (f q) (Some q) (find f qs) t) ∙ is)))
  ]

  down_to_back : (ps : List (List ℕ)) (p : List ℕ) → Sorted Before ps → Among p ps →
      ((a : List ℕ) → find f ps ≡ Some a → Before a p → ⊥) → Among p (up_to f ps)
  down_to_back [] p s h none = absurd h
  down_to_back (q ∷ qs) p s (inl e) none = inl e
  down_to_back (q ∷ qs) p s (inr b) none = elim (cases_Bool (f q)) [
    | inl t ↦ absurd (none q (cond-true (f q) (Some q) (find f qs) t) (all_among (Before q) qs p s.0 b))
    | inr t ↦ inr (subst (λ xs. Among p xs) (sym (cond-false (f q) [] (up_to f qs) t))
        (down_to_back qs p s.1 b (λ a is. none a (cond-false (f q) (Some q) (find f qs) t ∙ is))))
  ]

  all_down : (R : List ℕ → Type 0) (ps : List (List ℕ)) → All R ps → All R (up_to f ps)
  all_down R [] h = tt
  all_down R (q ∷ qs) h = (
    h.0,
    elim (cases_Bool (f q)) [
      | inl t ↦ subst (λ xs. All R xs) (sym (cond-true (f q) [] (up_to f qs) t)) tt
      | inr t ↦ subst (λ xs. All R xs) (sym (cond-false (f q) [] (up_to f qs) t)) (all_down R qs h.1)
    ],
  )

  down_sorted : (ps : List (List ℕ)) → Sorted Before ps → Sorted Before (up_to f ps)
  down_sorted [] s = tt
  down_sorted (q ∷ qs) s = elim (cases_Bool (f q)) [
    | inl t ↦ subst (λ xs. Sorted Before (q ∷ xs)) (sym (cond-true (f q) [] (up_to f qs) t)) (tt, tt)
    | inr t ↦ subst (λ xs. Sorted Before (q ∷ xs)) (sym (cond-false (f q) [] (up_to f qs) t))
        (all_down (Before q) qs s.0, down_sorted qs s.1)
  ]

-- the first k entries, the first k - 1 and so on down to the first are live
module _ (alive : List ℕ → Bool) (p : List ℕ) where
  lives_all : (k : ℕ) → lives alive k p ≡ true → (j : ℕ) → 1 ≤ j → j ≤ k → alive (take j p) ≡ true
  lives_all zero h j low high = absurd (omega arith)
  lives_all (suc k) h j low high =
      let (here, less) = and_parts (alive (take (suc k) p)) (lives alive k p) h in
      elim (cases_eq j (suc k)) [
        | inl e ↦ ap (λ (i : ℕ). alive (take i p)) e ∙ here
        | inr d ↦ lives_all k less j low (omega arith)
      ]

  lives_from : (k : ℕ) → ((j : ℕ) → 1 ≤ j → j ≤ k → alive (take j p) ≡ true) → lives alive k p ≡ true
  lives_from zero h = refl
  lives_from (suc k) h = and_from (alive (take (suc k) p)) (lives alive k p) (h (suc k) (omega arith) (omega arith))
      (lives_from k (λ j low high. h j low (omega arith)))

module _ (m : Meaning) (n : ℕ) (rows : List Shown) (s : RowsOfSheet n rows) where
  to_rule : (p : List ℕ) → Among p (tested m n rows) → IsTested m n rows p
  unfolding first_live tested_to
  to_rule p a =
      let (down, reaches) = among_of_kept (reached (live m n rows)) (up_to (ends (live m n rows) n) (prefixes n)) p a in
      let (among, none) = down_to (ends (live m n rows) n) (prefixes n) p (listed n).order down in
      let h = all_among (Prefix n) (prefixes n) p (listed n).only among in
      record {
        prefix = h;
        shorter = λ k low high.
            (live_is_told_by_its_test m n rows s (take k p) (prefix_front n p k h low (omega arith))).0
            (lives_all (live m n rows) p (length p - 1) reaches k low (omega arith));
        not_after = none;
      }

  from_rule : (p : List ℕ) → IsTested m n rows p → Among p (tested m n rows)
  unfolding first_live tested_to
  from_rule p t =
      among_kept (reached (live m n rows)) (up_to (ends (live m n rows) n) (prefixes n)) p
      (down_to_back (ends (live m n rows) n) (prefixes n) p (listed n).order ((listed n).all p t.prefix) t.not_after)
      (lives_from (live m n rows) p (length p - 1) (λ j low high.
      (live_is_told_by_its_test m n rows s (take j p) (prefix_front n p j t.prefix low
      (omega (arith, t.prefix.some)))).1 (t.shorter j low (omega (arith, t.prefix.some)))))

  once : Sorted Before (tested m n rows)
  unfolding tested_to
  once = kept_sorted Before (reached (live m n rows)) (up_to (ends (live m n rows) n) (prefixes n))
      (down_sorted (ends (live m n rows) n) (prefixes n) (listed n).order)

pub the_tested_prefixes_are_those_of_the_rule : TheTestedPrefixesAreThoseOfTheRule
the_tested_prefixes_are_those_of_the_rule m n rows s = (
  λ p. (
    λ c. to_rule m n rows s p (among_from_Contains p (tested m n rows) c),
    λ t. Contains-from_among p (tested m n rows) (from_rule m n rows s p t),
  ),
  AllPairs-from_sorted Before (tested m n rows) (once m n rows s),
)
