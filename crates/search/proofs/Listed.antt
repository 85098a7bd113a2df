-- The listing has each prefix, nothing else, and is in order. Assumes nothing.
use Rattle.std.proofs.Common.{◌≡◌, ℕ, zero, suc, ◌+◌, ◌-◌, ◌<◌, ◌≤◌, Bool, true, false, not, eqb, List, [], ◌∷◌, ◌++◌, length, filter, sym, refl, ap, ◌∙◌, subst, ◌⊎◌, inl, inr, ⊎_elim, append_assoc, arith, length-append}
use Rattle.std.specs.List.{AllPairs, Contains}
use Rattle.std.proofs.lemmas.List.Elements.{All-from_recursion}
use Rattle.std.proofs.lemmas.List.Kept.{AllPairs-cons}
use Rattle.std.specs.List.{flat_map}
use Rattle.std.specs.List.{AllByRecursion as All}
use Rattle.std.proofs.ByRecursion.{All-append, All-weaker, All-push}
use Rattle.std.proofs.lemmas.Bool.{eq-eqb, ne_eqb, eqb-false, or_left, or_right, or_from, or_parts, both_ways, cond_both, cond-true, not-true, not_from_false, cases_eq}
use Rattle.search.specs.Prefixes.{after, has, unused_above, extensions, prefixes, Apart, Entries, Prefix, Before, ListingHasEveryPrefixInOrder}
use Rattle.search.proofs.Entries.{has_snoc}

-- each stands in the relation to all that follow it
abbrev pub Sorted : {X : Type 0} → (X → X → Type 0) → List X → Type 0
Sorted R [] = Unit {0}
Sorted R (x ∷ xs) = All (R x) xs × Sorted R xs

pub AllPairs-from_sorted : {X : Type 0} (R : X → X → Type 0) (xs : List X) → Sorted R xs → AllPairs R xs
AllPairs-from_sorted R [] s = λ i j d less within. absurd (omega arith)
AllPairs-from_sorted R (x ∷ xs) s =
    AllPairs-cons R x xs (All-from_recursion (R x) xs s.0) (AllPairs-from_sorted R xs s.1)

abbrev pub Among : {X : Type 0} → X → List X → Type 0
Among x [] = ⊥
Among x (y ∷ ys) = (x ≡ y) ⊎ Among x ys

pub Contains-from_among : {X : Type 0} (x : X) (xs : List X) → Among x xs → Contains xs x
Contains-from_among x [] a = absurd a
Contains-from_among x (y ∷ ys) (inl e) = (0, omega arith, sym e)
Contains-from_among x (y ∷ ys) (inr a) = let (k, l, e) = Contains-from_among x ys a in (suc k, omega arith, e)

pub among_from_Contains : {X : Type 0} (x : X) (xs : List X) → Contains xs x → Among x xs
among_from_Contains x [] (k, l, e) = absurd (omega arith)
among_from_Contains x (y ∷ ys) (zero, l, e) = inl (sym e)
among_from_Contains x (y ∷ ys) (suc k, l, e) = inr (among_from_Contains x ys (k, omega arith, e))

-- x after q, and what it begins
abbrev pub block : ℕ → ℕ → List ℕ → ℕ → List (List ℕ)
block n d q x = (q ++ (x ∷ [])) ∷ extensions n d (q ++ (x ∷ []))

-- entries

pub apart_snoc : (q : List ℕ) (x : ℕ) → Apart q → has x q ≡ false → Apart (q ++ (x ∷ []))
apart_snoc [] x h k = (refl, tt)
apart_snoc (y ∷ ys) x h k =
    let p = or_parts (eqb y x) (has x ys) k in
    (has_snoc ys x y h.0 (λ e. eqb-false y x p.0 (sym e)), apart_snoc ys x h.1 p.1)

pub entries_snoc : (n : ℕ) (q : List ℕ) (x : ℕ) → Entries n q → (1 ≤ x) × (x ≤ n) → has x q ≡ false →
    Entries n (q ++ (x ∷ []))
entries_snoc n q x h r k =
    record { range = All-push (λ y. (1 ≤ y) × (y ≤ n)) q x h.range r; apart = apart_snoc q x h.apart k }

pub has_front : (x : ℕ) (q s : List ℕ) → has x (q ++ s) ≡ false → has x q ≡ false
has_front x [] s h = refl
has_front x (y ∷ ys) s h = let p = or_parts (eqb y x) (has x (ys ++ s)) h in
    or_from (eqb y x) (has x ys) p.0 (has_front x ys s p.1)

pub apart_front : (q s : List ℕ) → Apart (q ++ s) → Apart q
apart_front [] s h = tt
apart_front (y ∷ ys) s h = (has_front y ys s h.0, apart_front ys s h.1)

pub all_front : (P : ℕ → Type 0) (q s : List ℕ) → All P (q ++ s) → All P q
all_front P [] s h = tt
all_front P (y ∷ ys) s h = (h.0, all_front P ys s h.1)

pub entries_front : (n : ℕ) (q s : List ℕ) → Entries n (q ++ s) → Entries n q
entries_front n q s h = record { range = all_front _ q s h.range; apart = apart_front q s h.apart }

-- the unused numbers

pub after_all : (n m k : ℕ) → k ≤ n - m → All (λ x. (m < x) × (x ≤ n)) (after m k)
after_all n m zero h = tt
after_all n m (suc k) h = (
  (omega arith, omega arith),
  All-weaker (λ x. (suc m < x) × (x ≤ n)) (λ x. (m < x) × (x ≤ n)) (λ x g. (omega arith, g.1)) (after (suc m) k)
      (after_all n (suc m) k (omega arith)),
)

pub kept_all : {X : Type 0} (P : X → Type 0) (f : X → Bool) (xs : List X) → All P xs →
    All (λ x. P x × (f x ≡ true)) (filter f xs)
kept_all P f [] h = tt
kept_all P f (x ∷ xs) h =
    let i = kept_all P f xs h.1 in
    cond_both (f x) (x ∷ filter f xs) (filter f xs) (λ t. All (λ y. P y × (f y ≡ true)) t) (λ e. ((h.0, e), i)) (λ e. i)

pub unused_all : (n : ℕ) (q : List ℕ) (m : ℕ) → All (λ x. ((m < x) × (x ≤ n)) × (not (has x q) ≡ true))
    (unused_above n q m)
unused_all n q m =
    kept_all (λ x. (m < x) × (x ≤ n)) (λ x. not (has x q)) (after m (n - m)) (after_all n m (n - m) (omega arith))

each_all_of : (Q : ℕ → Type 0) (P : List ℕ → Type 0) (f : ℕ → List (List ℕ)) (xs : List ℕ) → All Q xs →
    ((x : ℕ) → Q x → All P (f x)) → All P (flat_map f xs)
each_all_of Q P f [] q h = tt
each_all_of Q P f (x ∷ xs) q h = All-append P (f x) (flat_map f xs) (h x q.0) (each_all_of Q P f xs q.1 h)

-- only prefixes are listed

ext_only : (n d : ℕ) (q : List ℕ) → length q + d ≤ n → Entries n q → All (Prefix n) (extensions n d q)
ext_only n zero q l h = tt
ext_only n (suc d) q l h =
    each_all_of _ (Prefix n) (λ x. (q ++ (x ∷ [])) ∷ extensions n d (q ++ (x ∷ []))) (unused_above n q 0)
    (unused_all n q 0)
    (λ x u.
    let e : length (q ++ (x ∷ [])) ≡ length q + 1 = length-append q (x ∷ []) in
    let more = entries_snoc n q x h (omega arith, u.0.1) (not-true (has x q) u.1) in (
      record { some = omega arith; most = omega arith; entries = more },
      ext_only n d (q ++ (x ∷ [])) (omega arith) more,
    ))

-- all prefixes are listed

among_left : {X : Type 0} (x : X) (xs ys : List X) → Among x xs → Among x (xs ++ ys)
among_left x [] ys h = absurd h
among_left x (z ∷ zs) ys h = ⊎_elim inl (λ k. inr (among_left x zs ys k)) h

among_right : {X : Type 0} (x : X) (xs ys : List X) → Among x ys → Among x (xs ++ ys)
among_right x [] ys h = h
among_right x (z ∷ zs) ys h = inr (among_right x zs ys h)

pub among_each : (f : ℕ → List (List ℕ)) (xs : List ℕ) (x : ℕ) (p : List ℕ) → Among x xs → Among p (f x) →
    Among p (flat_map f xs)
among_each f [] x p h k = absurd h
among_each f (z ∷ zs) x p h k =
    ⊎_elim (λ e. among_left p (f z) (flat_map f zs) (subst (λ (y : ℕ). Among p (f y)) e k))
    (λ g. among_right p (f z) (flat_map f zs) (among_each f zs x p g k)) h

pub among_after : (m k x : ℕ) → m < x → x ≤ m + k → Among x (after m k)
among_after m zero x h l = absurd (omega arith)
among_after m (suc k) x h l =
    ⊎_elim (λ e. inl e) (λ ne. inr (among_after (suc m) k x (omega arith) (omega arith))) (cases_eq x (suc m))

pub among_kept : {X : Type 0} (f : X → Bool) (xs : List X) (x : X) → Among x xs → f x ≡ true → Among x (filter f xs)
among_kept f [] x h k = h
among_kept f (z ∷ zs) x h k =
    ⊎_elim
    (λ e. subst (λ t. Among x t) (sym (cond-true (f z) (z ∷ filter f zs) (filter f zs) (sym (ap f e) ∙ k))) (inl e))
    (λ g. let i = among_kept f zs x g k in cond_both (f z) (z ∷ filter f zs) (filter f zs) (λ t. Among x t)
    (λ _. inr i) (λ _. i))
    h

pub has_middle : (x : ℕ) (q s : List ℕ) → has x (q ++ (x ∷ s)) ≡ true
has_middle x [] s = or_left (eqb x x) (has x s) (eq-eqb x x refl)
has_middle x (y ∷ ys) s = or_right (eqb y x) (has x (ys ++ (x ∷ s))) (has_middle x ys s)

-- x, after q in an apart list, is not in q
pub apart_middle : (q : List ℕ) (x : ℕ) (s : List ℕ) → Apart (q ++ (x ∷ s)) → has x q ≡ false
apart_middle [] x s h = refl
apart_middle (y ∷ ys) x s h =
    or_from (eqb y x) (has x ys)
    (ne_eqb y x (λ e. both_ways (has y (ys ++ (x ∷ s))) h.0 (subst (λ (z : ℕ). has z (ys ++ (x ∷ s)) ≡ true) (sym e)
    (has_middle x ys s))))
    (apart_middle ys x s h.1)

pub all_middle : (P : ℕ → Type 0) (q : List ℕ) (x : ℕ) (s : List ℕ) → All P (q ++ (x ∷ s)) → P x
all_middle P [] x s h = h.0
all_middle P (y ∷ ys) x s h = all_middle P ys x s h.1

among_unused : (n : ℕ) (q : List ℕ) (x : ℕ) (s : List ℕ) → Entries n (q ++ (x ∷ s)) → Among x (unused_above n q 0)
among_unused n q x s h =
    let r = all_middle (λ y. (1 ≤ y) × (y ≤ n)) q x s h.range in
    among_kept (λ y. not (has y q)) (after 0 (n - 0)) x (among_after 0 (n - 0) x (omega arith) (omega arith))
    (not_from_false (has x q) (apart_middle q x s h.apart))

pub ext_all : (n d : ℕ) (q : List ℕ) (x : ℕ) (s : List ℕ) → length s < d → Entries n (q ++ (x ∷ s)) →
    Among (q ++ (x ∷ s)) (extensions n d q)
ext_all n zero q x s l h = absurd (omega arith)
ext_all n (suc d) q x [] l h =
    among_each (block n d q) (unused_above n q 0) x (q ++ (x ∷ [])) (among_unused n q x [] h) (inl refl)
ext_all n (suc d) q x (y ∷ s) l h =
    let e : (q ++ (x ∷ [])) ++ (y ∷ s) ≡ q ++ (x ∷ (y ∷ s)) = append_assoc q (x ∷ []) (y ∷ s) in
    among_each (block n d q) (unused_above n q 0) x (q ++ (x ∷ (y ∷ s))) (among_unused n q x (y ∷ s) h)
    (inr (subst (λ t. Among t (extensions n d (q ++ (x ∷ [])))) e
    (ext_all n d (q ++ (x ∷ [])) y s (omega arith) (subst (λ t. Entries n t) (sym e) h))))

-- the listing is in order

-- what q begins
abbrev Longer : List ℕ → List ℕ → Type 0
Longer q p = (y : ℕ) × (t : List ℕ) × (p ≡ q ++ (y ∷ t))

-- what q and x begin
abbrev From : List ℕ → ℕ → List ℕ → Type 0
From q x p = (t : List ℕ) × (p ≡ q ++ (x ∷ t))

block_from' : (n d : ℕ) (q : List ℕ) (x : ℕ) → All (Longer (q ++ (x ∷ []))) (extensions n d (q ++ (x ∷ []))) →
    All (From q x) (block n d q x)
block_from' n d q x h = (
  ([], refl),
  All-weaker (Longer (q ++ (x ∷ []))) (From q x)
      (λ p b. (b.0 ∷ b.1, b.2 ∙ append_assoc q (x ∷ []) (b.0 ∷ b.1))) (extensions n d (q ++ (x ∷ []))) h,
)

ext_longer : (n d : ℕ) (q : List ℕ) → All (Longer q) (extensions n d q)
ext_longer n zero q = tt
ext_longer n (suc d) q =
    each_all_of _ (Longer q) (block n d q) (unused_above n q 0) (unused_all n q 0)
    (λ x _. All-weaker (From q x) (Longer q) (λ p b. (x, b.0, b.1)) (block n d q x)
    (block_from' n d q x (ext_longer n d (q ++ (x ∷ [])))))

block_from : (n d : ℕ) (q : List ℕ) (x : ℕ) → All (From q x) (block n d q x)
block_from n d q x = block_from' n d q x (ext_longer n d (q ++ (x ∷ [])))

before_less : (q : List ℕ) (x : ℕ) (t : List ℕ) (y : ℕ) (u : List ℕ) → x < y → Before (q ++ (x ∷ t)) (q ++ (y ∷ u))
before_less [] x t y u h = inl h
before_less (z ∷ zs) x t y u h = inr (refl, before_less zs x t y u h)

before_more : (q : List ℕ) (y : ℕ) (t : List ℕ) → Before q (q ++ (y ∷ t))
before_more [] y t = tt
before_more (z ∷ zs) y t = inr (refl, before_more zs y t)

sorted_append : {X : Type 0} (R : X → X → Type 0) (xs ys : List X) → Sorted R xs → Sorted R ys →
    All (λ x. All (R x) ys) xs → Sorted R (xs ++ ys)
sorted_append R [] ys s t h = t
sorted_append R (x ∷ xs) ys s t h = (All-append (R x) xs ys s.0 h.0, sorted_append R xs ys s.1 t h.1)

each_sorted : (n d : ℕ) (q xs : List ℕ) → Sorted ◌<◌ xs → ((x : ℕ) → Sorted Before (extensions n d (q ++ (x ∷ [])))) →
    Sorted Before (flat_map (block n d q) xs)
each_sorted n d q [] s h = tt
each_sorted n d q (x ∷ xs) s h =
    sorted_append Before (block n d q x) (flat_map (block n d q) xs) (
      All-weaker (Longer (q ++ (x ∷ []))) (Before (q ++ (x ∷ [])))
          (λ p b. subst (λ r. Before (q ++ (x ∷ [])) r) (sym b.2) (before_more (q ++ (x ∷ [])) b.0 b.1))
          (extensions n d (q ++ (x ∷ []))) (ext_longer n d (q ++ (x ∷ []))),
      h x,
    )
    (each_sorted n d q xs s.1 h)
    (All-weaker (From q x) (λ p. All (Before p) (flat_map (block n d q) xs))
    (λ p b. each_all_of (λ y. x < y) (Before p) (block n d q) xs s.0
    (λ y less. All-weaker (From q y) (Before p)
    (λ r g. subst (λ a. Before a r) (sym b.1) (subst (λ a. Before (q ++ (x ∷ b.0)) a) (sym g.1)
    (before_less q x b.0 y g.0 less)))
    (block n d q y) (block_from n d q y)))
    (block n d q x) (block_from n d q x))

pub kept_sorted : {X : Type 0} (R : X → X → Type 0) (f : X → Bool) (xs : List X) → Sorted R xs → Sorted R (filter f xs)
kept_sorted R f [] s = tt
kept_sorted R f (x ∷ xs) s =
    let i = kept_sorted R f xs s.1 in
    let k = All-weaker (λ y. R x y × (f y ≡ true)) (R x) (λ y g. g.0) (filter f xs) (kept_all (R x) f xs s.0) in
    cond_both (f x) (x ∷ filter f xs) (filter f xs) (λ t. Sorted R t) (λ _. (k, i)) (λ _. i)

pub after_above : (m k : ℕ) → All (λ x. m < x) (after m k)
after_above m zero = tt
after_above m (suc k) = (
  omega arith,
  All-weaker (λ x. suc m < x) (λ x. m < x) (λ x g. omega arith) (after (suc m) k)
      (after_above (suc m) k),
)

pub after_sorted : (m k : ℕ) → Sorted ◌<◌ (after m k)
after_sorted m zero = tt
after_sorted m (suc k) = (after_above (suc m) k, after_sorted (suc m) k)

ext_sorted : (n d : ℕ) (q : List ℕ) → Sorted Before (extensions n d q)
ext_sorted n zero q = tt
ext_sorted n (suc d) q =
    each_sorted n d q (unused_above n q 0) (kept_sorted ◌<◌ (λ x. not (has x q)) (after 0 (n - 0))
    (after_sorted 0 (n - 0))) (λ x. ext_sorted n d (q ++ (x ∷ [])))

all_listed : (n : ℕ) (p : List ℕ) → Prefix n p → Among p (prefixes n)
unfolding prefixes
all_listed n [] h = absurd (omega arith)
all_listed n (x ∷ s) h = ext_all n n [] x s h.most h.entries

-- the listing, by recursion
pub record HasAll (n : ℕ) (ps : List (List ℕ)) : Type 0 where
  pub only : All (Prefix n) ps
  pub all : (p : List ℕ) → Prefix n p → Among p ps
  pub order : Sorted Before ps

pub listed : (n : ℕ) → HasAll n (prefixes n)
unfolding prefixes
listed n = record {
  only = ext_only n n [] (omega arith) (record { range = tt; apart = tt });
  all = all_listed n;
  order = ext_sorted n n [];
}

pub listing_has_every_prefix_in_order : ListingHasEveryPrefixInOrder
listing_has_every_prefix_in_order n =
    let l = listed n in
    record {
      only = All-from_recursion (Prefix n) (prefixes n) l.only;
      all = λ p h. Contains-from_among p (prefixes n) (l.all p h);
      order = AllPairs-from_sorted Before (prefixes n) l.order;
    }
