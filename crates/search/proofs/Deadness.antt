-- The limits of a prefix in the orderings that it begins. Assumes nothing.
use Rattle.std.proofs.Common.{◌≡◌, ℕ, suc, ◌<◌, ◌≤◌, true, List, [], ◌∷◌, ◌++◌, length, get_or, take, Some, sym, refl, ap, ◌∙◌, inl, inr, arith, length-append, get_or-take, take-take, take_at}
use Rattle.std.proofs.lemmas.List.{get_or_past}
use Rattle.std.proofs.lemmas.Bool.{cases_lt, both_ways, cases_Bool}
use Rattle.elements.specs.Element.{Shown, blank}
use Rattle.orderings.specs.Order.{at, IsOrdering}
use Rattle.orderings.specs.Rows.{row}
use Rattle.orderings.proofs.Positions.{position}
use Rattle.divisions.specs.Laws.{Meaning, OnSheet, Lawful}
use Rattle.cones.specs.Cones.{Limits, Separated, IsShortfall}
use Rattle.cones.proofs.Completeness.{complete_exactly_without_shortfall}
use Rattle.search.specs.Prefixes.{has, Entries, Prefix, padded, completed}
use Rattle.search.specs.Walks.{Closed}
use Rattle.search.specs.Liveness.{RowsOfSheet, prefix_limits, live}
use Rattle.search.specs.Theorems.{LiveIsToldByItsTest, PrefixLimitsHoldInEveryExtension, EveryExtensionOfADeadPrefixIsDead, EveryLivePrefixIsReached, NoOrderingExtendsADeadPrefixToCompleteness, FullPrefixIsLiveExactlyWhenComplete}
use Rattle.search.proofs.Entries.{has_at}
use Rattle.search.proofs.Listed.{has_front, entries_front}
use Rattle.search.proofs.Orders.{has_index, ordering_of, completed_ordering, completed_front, completed_full}
use Rattle.search.proofs.Testing.{decides_none, only_listed, only_kept}
use Rattle.search.proofs.Reached.{reached_closed}

-- each limit of one is a limit of the other
abbrev pub AmongLimits : ℕ → List Shown → Limits → Limits → Type 0
AmongLimits n rows lim other = (q v d : ℕ) → q < length rows → 1 ≤ v → v ≤ n → lim q v ≡ Some d → other q v ≡ Some d

-- a shortfall stays one where there are more limits
pub shortfall_on : (n : ℕ) (rows : List Shown) (lim other : Limits) → AmongLimits n rows lim other → (q v d : ℕ) →
    IsShortfall n rows lim q v d → IsShortfall n rows other q v d
shortfall_on n rows lim other more q v d short = record {
  place = short.place;
  low = short.low;
  high = short.high;
  limit = more q v d short.place short.low short.high short.limit;
  outside = λ s cone. short.outside s (record {
    place = cone.place;
    divides = cone.divides;
    multiplier = λ x l low high e. cone.multiplier x l low high (more s x l cone.place low high e);
  });
}

-- the places past the rows have eight exponents too
eight : (n : ℕ) (rows : List Shown) → RowsOfSheet n rows → (k : ℕ) → length (row rows k).exponents ≡ 8
eight n rows s k = elim (cases_lt k (length rows)) [
  | inl l ↦ (s.fit.fit k l).admitted.eight
  | inr l ↦ ap (λ (e : Shown). length e.exponents) (get_or_past rows k blank l)
]

pub live_is_told_by_its_test : LiveIsToldByItsTest
live_is_told_by_its_test m n rows s p h =
    decides_none n s.variables.most p h.entries rows (eight n rows s) (m rows (completed n p))

module _ (m : Meaning) (lawful : Lawful m) (n : ℕ) (rows : List Shown) (s : RowsOfSheet n rows) where
  pub on : (order : List ℕ) → IsOrdering n order → OnSheet n rows order
  on order o = record { kind = s.kind; variables = s.variables; few = s.few; fit = s.fit; ordered = o }

  separated : (order : List ℕ) → IsOrdering n order → Separated order rows (m rows order)
  separated order o = lawful.separation n rows order (on order o)

  pub begun : (p : List ℕ) → Entries n p → IsOrdering n (completed n p)
  begun p h = completed_ordering n p h s.variables.most

  -- two orderings that begin with p
  pub same_limits : (p order other : List ℕ) → IsOrdering n order → IsOrdering n other → take (length p) order ≡ p →
      take (length p) other ≡ p →
      length p ≤ n → (q v : ℕ) → q < length rows → has v p ≡ true → m rows order q v ≡ m rows other q v
  same_limits p order other o r e f most q v hq t =
      let (k, hk, is) = has_index p v t in
      let front : take (suc k) order ≡ take (suc k) other =
      sym (take-take (suc k) (length p) order hk) ∙ ap (λ xs. take (suc k) xs) (e ∙ sym f)
      ∙ take-take (suc k) (length p) other hk in
      let here : at order k ≡ v = sym (get_or-take (length p) order k 0 hk) ∙ ap (λ xs. get_or xs k 0) e ∙ is in
      rw here at (lawful.from_the_top n rows order other (on order o) (on other r) k q (omega arith) hq front)

  -- the limits of a prefix are limits in each ordering that it begins
  pub limits_on : (p order : List ℕ) → Prefix n p → IsOrdering n order → take (length p) order ≡ p →
      AmongLimits n rows (prefix_limits m n rows p) (m rows order)
  limits_on p order h o e q v d hq low high f =
      let (t, is) = only_listed p (m rows (completed n p)) q v d f in
      same_limits p order (completed n p) o (begun p h.entries) e (completed_front n p h.entries) h.most q v hq t ∙ is

  pub has_on : (v : ℕ) (p more : List ℕ) → has v p ≡ true → has v (p ++ more) ≡ true
  has_on v p more t = elim (cases_Bool (has v (p ++ more))) [
    | inl u ↦ u
    | inr f ↦ absurd (both_ways (has v p) (has_front v p more f) t)
  ]

  -- the completion of a longer prefix begins with the shorter one
  pub front_more : (p more : List ℕ) → Entries n (p ++ more) → take (length p) (completed n (p ++ more)) ≡ p
  front_more p more g =
      let l : length p ≤ length (p ++ more) = omega (arith, length-append p more) in
      sym (take-take (length p) (length (p ++ more)) (completed n (p ++ more)) l)
      ∙ ap (λ xs. take (length p) xs) (completed_front n (p ++ more) g) ∙ take_at p more (length p) refl

  -- and limits of each prefix that it begins
  pub limits_more : (p more : List ℕ) → Prefix n p → Prefix n (p ++ more) →
      AmongLimits n rows (prefix_limits m n rows p) (prefix_limits m n rows (p ++ more))
  limits_more p more h g q v d hq low high f =
      let (t, is) = only_listed p (m rows (completed n p)) q v d f in
      let order = completed n (p ++ more) in
      let front = front_more p more g.entries in
      only_kept (p ++ more) (m rows order) q v (has_on v p more t)
      ∙ limits_on p order h (begun (p ++ more) g.entries) front q v d hq low high f

  -- a full prefix has all variables, so it has all limits of its ordering
  pub limits_full : (p : List ℕ) → Prefix n p → length p ≡ n →
      AmongLimits n rows (m rows (padded p)) (prefix_limits m n rows p)
  limits_full p h full q v d hq low high f =
      let o = begun p h.entries in
      let is = completed_full n p h.entries full in
      let (k, hk, e) = position n (completed n p) o v low high in
      let l : k < length p = omega arith in
      let here : get_or p k 0 ≡ v = ap (λ xs. get_or xs k 0) (sym (completed_front n p h.entries))
      ∙ get_or-take (length p) (completed n p) k 0 l ∙ e in
      only_kept p (m rows (completed n p)) q v (has_at p k v l here) ∙ ap (λ xs. m rows xs q v) is ∙ f

pub prefix_limits_hold_in_every_extension : PrefixLimitsHoldInEveryExtension
prefix_limits_hold_in_every_extension m lawful n rows s p order h o e q v hq t =
    same_limits m lawful n rows s p order (completed n p) o (begun m lawful n rows s p h.entries) e
    (completed_front n p h.entries) h.most q v hq t

pub every_extension_of_a_dead_prefix_is_dead : EveryExtensionOfADeadPrefixIsDead
every_extension_of_a_dead_prefix_is_dead m lawful n rows s p more h g (q, v, d, short) = (
  q,
  v,
  d,
  shortfall_on n rows (prefix_limits m n rows p) (prefix_limits m n rows (p ++ more))
      (limits_more m lawful n rows s p more h g) q v d short,
)

pub no_ordering_extends_a_dead_prefix_to_completeness : NoOrderingExtendsADeadPrefixToCompleteness
no_ordering_extends_a_dead_prefix_to_completeness m lawful n rows s p order h o e (q, v, d, short) complete =
    (complete_exactly_without_shortfall s.kind n order rows (m rows order) o s.fit
    (separated m lawful n rows s order o)).1 complete q v d
    (shortfall_on n rows (prefix_limits m n rows p) (m rows order) (limits_on m lawful n rows s p order h o e) q v d
    short)

pub full_prefix_is_live_exactly_when_complete : FullPrefixIsLiveExactlyWhenComplete
full_prefix_is_live_exactly_when_complete m lawful n rows s p h full =
    let o = ordering_of n p s.variables.most h.entries full in (
      λ alive. (complete_exactly_without_shortfall s.kind n (padded p) rows (m rows (padded p)) o s.fit
          (separated m lawful n rows s (padded p) o)).0
          (λ q v d short. alive (
            q,
            v,
            d,
            shortfall_on n rows (m rows (padded p)) (prefix_limits m n rows p)
                (limits_full m lawful n rows s p h full) q v d short,
          )),
      λ complete dead. no_ordering_extends_a_dead_prefix_to_completeness m lawful n rows s p (padded p) h o
          (take_at p _ (length p) refl) dead complete,
    )

-- what a dead prefix begins does not pass the test
pub closed : (m : Meaning) → Lawful m → (n : ℕ) (rows : List Shown) → RowsOfSheet n rows → Closed (live m n rows) n
closed m lawful n rows s p x some h t =
    let g : Prefix n p = record {
      some = some;
      most = omega (arith, h.most, length-append p (x ∷ []));
      entries = entries_front n p (x ∷ []) h.entries;
    } in
    (live_is_told_by_its_test m n rows s p g).1
    (λ dead. (live_is_told_by_its_test m n rows s (p ++ (x ∷ [])) h).0 t
    (every_extension_of_a_dead_prefix_is_dead m lawful n rows s p (x ∷ []) g h dead))

pub every_live_prefix_is_reached : EveryLivePrefixIsReached
every_live_prefix_is_reached m lawful n rows s p h t = reached_closed (live m n rows) n (closed m lawful n rows s) p h t
