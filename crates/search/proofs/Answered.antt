-- The answer is the first ordering that makes the rows complete. Assumes nothing.
use Rattle.std.proofs.Common.{◌≡◌, ℕ, Bool, true, false, eqb, List, [], ◌∷◌, length, take, Some, None, sym, refl, ap, ◌∙◌, subst, inl, inr, arith}
use Rattle.search.proofs.Listed.{Among}
use Rattle.search.proofs.Listed.{Sorted}
use Rattle.std.specs.List.{find}
use Rattle.std.specs.List.{AllByRecursion as All}
use Rattle.std.proofs.ByRecursion.{All-weaker}
use Rattle.std.proofs.lemmas.Option.{none-some}
use Rattle.std.proofs.lemmas.Bool.{cases_Bool, cond-true, cond-false, and_parts, and_from, eqb-true, eq-eqb, both_ways}
use Rattle.elements.specs.Element.{Shown}
use Rattle.divisions.specs.Laws.{Meaning, Lawful}
use Rattle.cones.specs.Cones.{Complete}
use Rattle.search.specs.Prefixes.{prefixes, Prefix, Before, padded}
use Rattle.search.specs.Walks.{ends, first_live}
use Rattle.search.specs.Liveness.{RowsOfSheet, live, answer}
use Rattle.search.specs.Theorems.{FirstComplete, NoneComplete, TheAnswerIsTheFirstCompleteOrdering}
use Rattle.search.proofs.Listed.{listed}
use Rattle.search.proofs.Orders.{ordering_of, ordering_prefix, ordering_long, ordering_padded}
use Rattle.search.proofs.Deadness.{live_is_told_by_its_test, full_prefix_is_live_exactly_when_complete}

-- of two prefixes one at most stands before the other
pub before_once : (p q : List ℕ) → Before p q → Before q p → ⊥
before_once [] [] h k = h
before_once [] (y ∷ ys) h k = k
before_once (x ∷ xs) [] h k = h
before_once (x ∷ xs) (y ∷ ys) h k = elim h [
  | inl l ↦ elim k [ inl m ↦ omega arith | inr m ↦ omega (arith, m.0) ]
  | inr l ↦ elim k [ inl m ↦ omega (arith, l.0) | inr m ↦ before_once xs ys l.1 m.1 ]
]

pub all_among : (P : List ℕ → Type 0) (ps : List (List ℕ)) (p : List ℕ) → All P ps → Among p ps → P p
all_among P [] p h a = absurd a
all_among P (q ∷ qs) p h a = elim a [ inl e ↦ subst P (sym e) h.0 | inr b ↦ all_among P qs p h.1 b ]

-- what is found passes, is listed, and nothing that stands before it passes
pub first_some : (f : List ℕ → Bool) (ps : List (List ℕ)) (p : List ℕ) → Sorted Before ps → find f ps ≡ Some p →
    (Among p ps) × (f p ≡ true) × ((q : List ℕ) → Among q ps → Before q p → f q ≡ false)
first_some f [] p s e = absurd (none-some p e)
first_some f (r ∷ rs) p s e = elim (cases_Bool (f r)) [
  | inl t ↦ (let found = cond-true (f r) (Some r) (find f rs) t in
      let same : p ≡ r = cc in (
        inl same,
        ap f same ∙ t,
        λ q a b. absurd (elim a [
          | inl g ↦ before_once r r (back r p q same g b) (back r p q same g b)
          | inr g ↦ before_once r q (all_among (Before r) rs q s.0 g) (subst (λ x. Before q x) same b)
        ]),
      ))
  | inr t ↦ (let left : find f rs ≡ Some p = sym (cond-false (f r) (Some r) (find f rs) t) ∙ e in
      let (a, b, c) = first_some f rs p s.1 left in (
        inr a,
        b,
        λ q g l. elim g [ inl h ↦ ap f h ∙ t | inr h ↦ c q h l ],
      ))
]
  where
    back : (r p q : List ℕ) → p ≡ r → q ≡ r → Before q p → Before r r
    back r p q e g b = subst (λ x. Before r x) e (subst (λ x. Before x p) g b)

first_none : (f : List ℕ → Bool) (ps : List (List ℕ)) → find f ps ≡ None → All (λ p. f p ≡ false) ps
first_none f [] e = tt
first_none f (p ∷ ps) e = elim (cases_Bool (f p)) [
  | inl t ↦ absurd (none-some p (sym e ∙ cond-true (f p) (Some p) (find f ps) t))
  | inr t ↦ (t, first_none f ps (sym (cond-false (f p) (Some p) (find f ps) t) ∙ e))
]

none_first : (f : List ℕ → Bool) (ps : List (List ℕ)) → All (λ p. f p ≡ false) ps → find f ps ≡ None
none_first f [] h = refl
none_first f (p ∷ ps) h = cond-false (f p) (Some p) (find f ps) h.0 ∙ none_first f ps h.1

module _ (m : Meaning) (lawful : Lawful m) (n : ℕ) (rows : List Shown) (s : RowsOfSheet n rows) where
  -- a prefix that ends the search makes the rows complete
  ends_complete : (p : List ℕ) → Prefix n p → ends (live m n rows) n p ≡ true →
      (length p ≡ n) × Complete n rows (m rows (padded p))
  ends_complete p h e =
      let (a, b) = and_parts (eqb (length p) n) (live m n rows p) e in
      let full = eqb-true (length p) n a in (
        full,
        (full_prefix_is_live_exactly_when_complete m lawful n rows s p h full).0
            ((live_is_told_by_its_test m n rows s p h).0 b),
      )

  complete_ends : (p : List ℕ) → Prefix n p → length p ≡ n → Complete n rows (m rows (padded p)) →
      ends (live m n rows) n p ≡ true
  complete_ends p h full c =
      and_from (eqb (length p) n) (live m n rows p) (eq-eqb (length p) n full)
      ((live_is_told_by_its_test m n rows s p h).1 ((full_prefix_is_live_exactly_when_complete m lawful n rows s p h
      full).1 c))

  found : (p : List ℕ) → answer m n rows ≡ Some p → FirstComplete m n rows p
  unfolding first_live
  found p e =
      let (a, b, c) = first_some (ends (live m n rows) n) (prefixes n) p (listed n).order e in
      let h = all_among (Prefix n) (prefixes n) p (listed n).only a in
      let (full, complete) = ends_complete p h b in
      record {
        prefix = h;
        full = full;
        complete = complete;
        none_before = λ q g l before whole. both_ways (ends (live m n rows) n q) (c q ((listed n).all q g) before)
            (complete_ends q g l whole);
      }

  none : answer m n rows ≡ None → NoneComplete m n rows
  unfolding first_live
  none e order o complete =
      let p = take n order in
      let h = ordering_prefix n order o s.variables.some in
      let whole : Complete n rows (m rows (padded p)) = rw (ordering_padded n order o) complete in
      both_ways (ends (live m n rows) n p)
      (all_among (λ p. ends (live m n rows) n p ≡ false) (prefixes n) p
      (first_none (ends (live m n rows) n) (prefixes n) e) ((listed n).all p h))
      (complete_ends p h (ordering_long n order o) whole)

  none_back : NoneComplete m n rows → answer m n rows ≡ None
  unfolding first_live
  none_back f =
      none_first (ends (live m n rows) n) (prefixes n)
      (All-weaker (Prefix n) (λ p. ends (live m n rows) n p ≡ false)
      (λ p h. elim (cases_Bool (ends (live m n rows) n p)) [
        | inl t ↦ absurd (let (full, complete) = ends_complete p h t in
            f (padded p) (ordering_of n p s.variables.most h.entries full) complete)
        | inr t ↦ t
      ]) (prefixes n) (listed n).only)

pub the_answer_is_the_first_complete_ordering : TheAnswerIsTheFirstCompleteOrdering
the_answer_is_the_first_complete_ordering m lawful n rows s =
    (found m lawful n rows s, (none m lawful n rows s, none_back m lawful n rows s))
