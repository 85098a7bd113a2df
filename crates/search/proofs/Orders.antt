-- The orderings that prefixes begin. Assumes nothing.
use Rattle.std.proofs.Common.{◌≡◌, ℕ, zero, suc, ◌+◌, ◌-◌, ◌<◌, ◌≤◌, true, false, not, eqb, List, [], ◌∷◌, ◌++◌, length, get_or, take, replicate, filter, sym, refl, ap, ◌∙◌, inl, inr, append-nil, not-suc-le-zero, arith, length-append, length-take-le, get_or-take, take_at}
use Rattle.search.proofs.Listed.{Sorted}
use lib.ListN.{length-replicate}
use lib.Seq.{take-append-le}
use Rattle.std.specs.List.{AllByRecursion as All}
use Rattle.std.proofs.ByRecursion.{All-get_or, All-append, All-weaker, All-from_get_or}
use Rattle.std.proofs.lemmas.List.{get_or_past, get_or_append_left, get_or-append_right, get_or-replicate, nil_from_length, ext_get_or}
use Rattle.std.proofs.lemmas.Bool.{eq-eqb, ne_eqb, eqb-true, or_left, or_from, or_parts, or_cases, both_ways, false≢true, cases_lt, cases_eq, cases_Bool, not-true}
use Rattle.orderings.specs.Order.{at, IsOrdering}
use Rattle.orderings.proofs.Positions.{few}
use Rattle.search.specs.Prefixes.{after, has, unused_above, Apart, Entries, Prefix, padded, completed}
use Rattle.search.proofs.Entries.{has_at}
use Rattle.search.proofs.Listed.{unused_all, kept_sorted, after_sorted}

-- an entry stands somewhere
pub has_index : (q : List ℕ) (x : ℕ) → has x q ≡ true → (k : ℕ) × (k < length q) × (get_or q k 0 ≡ x)
has_index [] x h = absurd (false≢true h)
has_index (y ∷ ys) x h = elim (or_cases (eqb y x) (has x ys) h) [
  | inl e ↦ (0, omega arith, eqb-true y x e)
  | inr t ↦ (let (k, hk, e) = has_index ys x t in (suc k, omega arith, e))
]

-- how many numbers are unused

missing : (m k y : ℕ) (ys : List ℕ) → y ≤ m → filter (λ x. not (has x (y ∷ ys))) (after m k) ≡
    filter (λ x. not (has x ys)) (after m k)
missing m zero y ys h = refl
missing m (suc k) y ys h =
    let other : eqb y (suc m) ≡ false = ne_eqb y (suc m) (λ e. omega arith) in
    rw (other, missing (suc m) k y ys (omega arith))

one_less : (m k y : ℕ) (ys : List ℕ) → m < y → y ≤ m + k → has y ys ≡ false →
    length (filter (λ x. not (has x (y ∷ ys))) (after m k)) + 1 ≡ length (filter (λ x. not (has x ys)) (after m k))
one_less m zero y ys l h free = absurd (omega arith)
one_less m (suc k) y ys l h free = elim (cases_eq y (suc m)) [
  | inl e ↦ (let is : eqb y (suc m) ≡ true = eq-eqb y (suc m) e in
      let lacks : has (suc m) ys ≡ false = rw e at free in
      rw (is, lacks) (omega (arith, ap length (missing (suc m) k y ys (omega arith)))))
  | inr d ↦ (let other : eqb y (suc m) ≡ false = ne_eqb y (suc m) d in
      let rest = one_less (suc m) k y ys (omega arith) (omega arith) free in
      elim (cases_Bool (has (suc m) ys)) [ inl t ↦ rw (other, t) rest | inr f ↦ rw (other, f) (omega (arith, rest)) ])
]

all_unused : (m k : ℕ) → length (filter (λ x. not (has x [])) (after m k)) ≡ k
all_unused m zero = refl
all_unused m (suc k) = ap suc (all_unused (suc m) k)

pub count_unused : (n : ℕ) (p : List ℕ) → Entries n p → length (unused_above n p 0) + length p ≡ n
count_unused n [] h = omega (arith, all_unused 0 (n - 0))
count_unused n (y ∷ ys) h =
    let (r, rest) = h.range in
    let (free, others) = h.apart in
    let less = one_less 0 (n - 0) y ys (omega (arith, r.0)) (omega (arith, r.1)) free in
    omega (arith, less, count_unused n ys (record { range = rest; apart = others }))

-- no number of a list is y
lacking : (y : ℕ) (u : List ℕ) → All (λ x. x ≡ y → ⊥) u → has y u ≡ false
lacking y [] h = refl
lacking y (x ∷ xs) h = or_from (eqb x y) (has y xs) (ne_eqb x y h.0) (lacking y xs h.1)

sorted_apart : (u : List ℕ) → Sorted ◌<◌ u → Apart u
sorted_apart [] h = tt
sorted_apart (x ∷ xs) h =
    (lacking x xs (All-weaker (λ y. x < y) (λ y. y ≡ x → ⊥) (λ y l e. omega arith) xs h.0), sorted_apart xs h.1)

has_append : (y : ℕ) (p u : List ℕ) → has y p ≡ false → has y u ≡ false → has y (p ++ u) ≡ false
has_append y [] u h k = k
has_append y (x ∷ xs) u h k = let (a, b) = or_parts (eqb x y) (has y xs) h in
    or_from (eqb x y) (has y (xs ++ u)) a (has_append y xs u b k)

apart_append : (p u : List ℕ) → Apart p → Apart u → All (λ x. has x p ≡ false) u → Apart (p ++ u)
apart_append [] u h k out = k
apart_append (y ∷ ys) u h k out = (
  has_append y ys u h.0 (lacking y u (All-weaker (λ x. has x (y ∷ ys) ≡ false) (λ x. x ≡ y → ⊥)
      (λ x f e. both_ways (has x (y ∷ ys)) f (or_left (eqb y x) (has x ys) (eq-eqb y x (sym e)))) u out)),
  apart_append ys u h.1 k (All-weaker (λ x. has x (y ∷ ys) ≡ false) (λ x. has x ys ≡ false)
      (λ x f. (or_parts (eqb y x) (has x ys) f).1) u out),
)

-- the entries of a prefix, and the unused numbers
pub entries_completed : (n : ℕ) (p : List ℕ) → Entries n p → Entries n (p ++ unused_above n p 0)
entries_completed n p h =
    let u = unused_above n p 0 in
    let facts = unused_all n p 0 in
    record {
      range = All-append (λ x. (1 ≤ x) × (x ≤ n)) p u h.range
          (All-weaker (λ x. ((0 < x) × (x ≤ n)) × (not (has x p) ≡ true)) (λ x. (1 ≤ x) × (x ≤ n)) (λ x f. f.0) u
          facts);
      apart = apart_append p u h.apart (sorted_apart u (kept_sorted ◌<◌ (λ x. not (has x p)) (after 0 (n - 0))
          (after_sorted 0 (n - 0))))
          (All-weaker (λ x. ((0 < x) × (x ≤ n)) × (not (has x p) ≡ true)) (λ x. has x p ≡ false)
          (λ x f. not-true (has x p) f.1) u facts);
    }

pub length_completed : (n : ℕ) (p : List ℕ) → Entries n p → length (p ++ unused_above n p 0) ≡ n
length_completed n p h = omega (arith, length-append p (unused_above n p 0), count_unused n p h)

-- entries that are apart differ by place
apart_distinct : (q : List ℕ) → Apart q → (j k : ℕ) → j < k → k < length q → get_or q j 0 ≡ get_or q k 0 → ⊥
apart_distinct [] a j k l h e = absurd (not-suc-le-zero h)
apart_distinct (x ∷ xs) a zero zero l h e = absurd (omega arith)
apart_distinct (x ∷ xs) a zero (suc k) l h e = both_ways (has x xs) a.0 (has_at xs k x (omega arith) (sym e))
apart_distinct (x ∷ xs) a (suc j) zero l h e = absurd (omega arith)
apart_distinct (x ∷ xs) a (suc j) (suc k) l h e = apart_distinct xs a.1 j k (omega arith) (omega arith) e

apart_from : (q : List ℕ) → ((j k : ℕ) → j < k → k < length q → get_or q j 0 ≡ get_or q k 0 → ⊥) → Apart q
apart_from [] d = tt
apart_from (x ∷ xs) d = (
  elim (cases_Bool (has x xs)) [
    | inl t ↦ absurd (let (k, hk, e) = has_index xs x t in d 0 (suc k) (omega arith) (omega arith) (sym e))
    | inr f ↦ f
  ],
  apart_from xs (λ j k l h e. d (suc j) (suc k) (omega arith) (omega arith) e),
)

zero_past : (m i : ℕ) → get_or {A = ℕ} (replicate m 0) i 0 ≡ 0
zero_past m i = elim (cases_lt i m) [
  | inl l ↦ get_or-replicate m i 0 0 l
  | inr l ↦ get_or_past (replicate m 0) i 0 (omega (arith, length-replicate {A = ℕ} m 0))
]

pub padded_past : (q : List ℕ) (k : ℕ) → length q ≤ k → at (padded q) k ≡ 0
padded_past q k h =
    get_or-append_right q (replicate (8 - length q) 0) (length q) k 0 refl h ∙ zero_past (8 - length q) (k - length q)

pub length_padded : (q : List ℕ) → length q ≤ 8 → length (padded q) ≡ 8
length_padded q h =
    omega (arith, length-append q (replicate (8 - length q) 0), length-replicate {A = ℕ} (8 - length q) 0)

-- all n variables, and zeros, are an ordering
pub ordering_of : (n : ℕ) (q : List ℕ) → n ≤ 8 → Entries n q → length q ≡ n → IsOrdering n (padded q)
ordering_of n q few h long =
    let zeros : List ℕ = replicate (8 - length q) 0 in
    let inside : (k : ℕ) → k < n → at (padded q) k ≡ get_or q k 0 =
    λ k l. get_or_append_left q zeros 0 k (omega arith) in
    let range : (k : ℕ) → k < n → (1 ≤ get_or q k 0) × (get_or q k 0 ≤ n) =
    λ k l. All-get_or (λ x. (1 ≤ x) × (x ≤ n)) q k 0 (omega arith) h.range in
    record {
      eight = length_padded q (omega arith);
      low = λ k l. omega (arith, inside k l, (range k l).0);
      high = λ k l. omega (arith, inside k l, (range k l).1);
      distinct =
          λ j k l m e. apart_distinct q h.apart j k l (omega arith) (sym (inside j (omega arith)) ∙ e ∙ inside k m);
      zeros = λ k l. padded_past q k (omega arith);
    }

module _ (n : ℕ) (p : List ℕ) (h : Entries n p) where
  pub completed_ordering : n ≤ 8 → IsOrdering n (completed n p)
  completed_ordering few =
      ordering_of n (p ++ unused_above n p 0) few (entries_completed n p h) (length_completed n p h)

  pub completed_front : take (length p) (completed n p) ≡ p
  completed_front =
      let u = unused_above n p 0 in
      let l : length p ≤ length (p ++ u) = omega (arith, length-append p u) in
      take-append-le (length p) (p ++ u) (replicate (8 - length (p ++ u)) 0) l ∙ take_at p u (length p) refl

  pub completed_full : length p ≡ n → completed n p ≡ padded p
  completed_full e =
      let none : unused_above n p 0 ≡ [] = nil_from_length (unused_above n p 0) (omega (arith, count_unused n p h)) in
      rw (none, append-nil p)

-- an ordering is the prefix of its n variables, and zeros
module _ (n : ℕ) (order : List ℕ) (o : IsOrdering n order) where
  long : length (take n order) ≡ n
  long = length-take-le n order (omega (arith, few n order o, o.eight))

  inner : (k : ℕ) → k < n → get_or (take n order) k 0 ≡ at order k
  inner k l = get_or-take n order k 0 l

  pub ordering_prefix : 1 ≤ n → Prefix n (take n order)
  ordering_prefix some = record {
    some = omega (arith, long);
    most = omega (arith, long);
    entries = record {
      range = All-from_get_or (λ x. (1 ≤ x) × (x ≤ n)) (take n order) 0
          (λ k l. let h : k < n = omega (arith, long) in (
            omega (arith, inner k h, o.low k h),
            omega (arith, inner k h, o.high k h),
          ));
      apart = apart_from (take n order)
          (λ j k l h e. o.distinct j k l (omega (arith, long))
          (sym (inner j (omega (arith, long))) ∙ e ∙ inner k (omega (arith, long))));
    };
  }

  pub ordering_long : length (take n order) ≡ n
  ordering_long = long

  pub ordering_padded : padded (take n order) ≡ order
  ordering_padded =
      let q = take n order in
      let eight = length_padded q (omega (arith, long, few n order o)) in
      ext_get_or 0 (padded q) order (eight ∙ sym o.eight) (λ k l. elim (cases_lt k n) [
        | inl h ↦ get_or_append_left q (replicate (8 - length q) 0) 0 k (omega (arith, long)) ∙ inner k h
        | inr h ↦ padded_past q k (omega (arith, long)) ∙ sym (o.zeros k h)
      ])
