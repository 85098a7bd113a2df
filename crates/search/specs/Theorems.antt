-- What holds of prefixes and of the answer, for every lawful division. Assumes nothing.
use Rattle.std.specs.Prelude.{◌≡◌, ℕ, ◌<◌, ◌≤◌, true, List, ◌++◌, length, take, Some, None, IsTrue, ◌↔◌, AllPairs, Contains}
use Rattle.elements.specs.Element.{Shown}
use Rattle.orderings.specs.Order.{IsOrdering}
use Rattle.divisions.specs.Laws.{Meaning, Lawful}
use Rattle.cones.specs.Cones.{Complete}
use Rattle.search.specs.Prefixes.{has, Prefix, Before, padded, completed, ListingHasEveryPrefixInOrder}
use Rattle.search.specs.Walks.{reached}
use Rattle.search.specs.Liveness.{RowsOfSheet, Dead, Live, live, answer, tested}

-- the test tells whether a prefix is live
abbrev pub LiveIsToldByItsTest : Type 0
LiveIsToldByItsTest =
    (m : Meaning) (n : ℕ) (rows : List Shown) → RowsOfSheet n rows →
    (p : List ℕ) → Prefix n p → (IsTrue (live m n rows p) ↔ Live m n rows p)

abbrev pub PrefixLimitsHoldInEveryExtension : Type 0
PrefixLimitsHoldInEveryExtension =
    (m : Meaning) → Lawful m → (n : ℕ) (rows : List Shown) → RowsOfSheet n rows →
    (p order : List ℕ) → Prefix n p → IsOrdering n order → take (length p) order ≡ p →
    (q v : ℕ) → q < length rows → has v p ≡ true → m rows order q v ≡ m rows (completed n p) q v

abbrev pub EveryExtensionOfADeadPrefixIsDead : Type 0
EveryExtensionOfADeadPrefixIsDead =
    (m : Meaning) → Lawful m → (n : ℕ) (rows : List Shown) → RowsOfSheet n rows →
    (p more : List ℕ) → Prefix n p → Prefix n (p ++ more) →
    Dead m n rows p → Dead m n rows (p ++ more)

-- so whoever goes on from live prefixes only comes to each live prefix
abbrev pub EveryLivePrefixIsReached : Type 0
EveryLivePrefixIsReached =
    (m : Meaning) → Lawful m → (n : ℕ) (rows : List Shown) → RowsOfSheet n rows →
    (p : List ℕ) → Prefix n p → live m n rows p ≡ true → reached (live m n rows) p ≡ true

abbrev pub NoOrderingExtendsADeadPrefixToCompleteness : Type 0
NoOrderingExtendsADeadPrefixToCompleteness =
    (m : Meaning) → Lawful m → (n : ℕ) (rows : List Shown) → RowsOfSheet n rows →
    (p order : List ℕ) → Prefix n p → IsOrdering n order → take (length p) order ≡ p →
    Dead m n rows p → Complete n rows (m rows order) → ⊥

abbrev pub FullPrefixIsLiveExactlyWhenComplete : Type 0
FullPrefixIsLiveExactlyWhenComplete =
    (m : Meaning) → Lawful m → (n : ℕ) (rows : List Shown) → RowsOfSheet n rows →
    (p : List ℕ) → Prefix n p → length p ≡ n →
    (Live m n rows p ↔ Complete n rows (m rows (padded p)))

-- p is a prefix of which every shorter one is live, and does not come after the answer, if there
-- is one
pub record IsTested (m : Meaning) (n : ℕ) (rows : List Shown) (p : List ℕ) : Type 0 where
  pub prefix : Prefix n p
  pub shorter : (k : ℕ) → 1 ≤ k → k < length p → Live m n rows (take k p)
  pub not_after : (a : List ℕ) → answer m n rows ≡ Some a → Before a p → ⊥

-- the tested prefixes are just these, each listed once
abbrev pub TheTestedPrefixesAreThoseOfTheRule : Type 0
TheTestedPrefixesAreThoseOfTheRule =
    (m : Meaning) (n : ℕ) (rows : List Shown) → RowsOfSheet n rows →
    ((p : List ℕ) → (Contains (tested m n rows) p ↔ IsTested m n rows p)) ×
    AllPairs Before (tested m n rows)

-- p has all n variables, its ordering makes the rows complete, and none that is listed before it
-- does
pub record FirstComplete (m : Meaning) (n : ℕ) (rows : List Shown) (p : List ℕ) : Type 0 where
  pub prefix : Prefix n p
  pub full : length p ≡ n
  pub complete : Complete n rows (m rows (padded p))
  pub none_before : (q : List ℕ) → Prefix n q → length q ≡ n → Before q p →
      Complete n rows (m rows (padded q)) → ⊥

-- no ordering of n variables makes the rows complete
abbrev pub NoneComplete : Meaning → ℕ → List Shown → Type 0
NoneComplete m n rows = (order : List ℕ) → IsOrdering n order → Complete n rows (m rows order) → ⊥

abbrev pub TheAnswerIsTheFirstCompleteOrdering : Type 0
TheAnswerIsTheFirstCompleteOrdering =
    (m : Meaning) → Lawful m → (n : ℕ) (rows : List Shown) → RowsOfSheet n rows →
    ((p : List ℕ) → answer m n rows ≡ Some p → FirstComplete m n rows p) ×
    ((answer m n rows ≡ None) ↔ NoneComplete m n rows)

-- what holds of every search by a lawful division: the statements above, and that of the listing
pub record TheTheoremsOfTheSearch : Type 0 where
  pub listing_has_every_prefix_in_order : ListingHasEveryPrefixInOrder
  pub live_is_told_by_its_test : LiveIsToldByItsTest
  pub prefix_limits_hold_in_every_extension : PrefixLimitsHoldInEveryExtension
  pub every_extension_of_a_dead_prefix_is_dead : EveryExtensionOfADeadPrefixIsDead
  pub every_live_prefix_is_reached : EveryLivePrefixIsReached
  pub no_ordering_extends_a_dead_prefix_to_completeness : NoOrderingExtendsADeadPrefixToCompleteness
  pub full_prefix_is_live_exactly_when_complete : FullPrefixIsLiveExactlyWhenComplete
  pub the_tested_prefixes_are_those_of_the_rule : TheTestedPrefixesAreThoseOfTheRule
  pub the_answer_is_the_first_complete_ordering : TheAnswerIsTheFirstCompleteOrdering
