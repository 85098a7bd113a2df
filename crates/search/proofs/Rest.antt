-- The listing from where the search stands. Assumes nothing.
use Rattle.std.proofs.Common.{◌≡◌, ℕ, zero, suc, ◌+◌, ◌-◌, ◌*◌, ◌<◌, ◌≤◌, Bool, true, false, cond, not, ◌&&◌, eqb, ◌≢◌, List, [], ◌∷◌, ◌++◌, length, get_or, take, set, Some, None, filter, sym, refl, ap, ◌∙◌, subst, append_assoc, append-nil, add-zero, mul-le-mul_right, suc-mul, zero-add, add-one, arith, length-append, take_all, get_or-set_other, get_or-set_same, take-take, take-suc-set}
use Rattle.std.specs.List.{flat_map}
use Rattle.std.specs.List.{find}
use lib.Seq.{take-set-le, take-append-le}
use Rattle.std.specs.List.{AllByRecursion as All}
use Rattle.std.proofs.ByRecursion.{All-append}
use Rattle.std.proofs.lemmas.Bool.{eq-eqb, ne_eqb, and_from, and_left, and_right, and_parts, not-true, cond-true, cond-false, cond_both}
use Rattle.std.specs.Option.{option_map}
use Rattle.search.specs.Prefixes.{after, has, unused_above, extensions, prefixes, Entries, padded, completed}
use Rattle.search.specs.Walks.{lives, reached, up_to}
use Rattle.search.proofs.Listed.{block, entries_snoc, unused_all}
use Rattle.search.proofs.Orders.{completed_full}
use Rattle.search.proofs.Held.{Held, length_held}
use Rattle.search.proofs.Reached.{full, first_full, tested_of}

-- what the listing has after the first k entries of a, and all that they begin
abbrev pub later : ℕ → ℕ → List ℕ → List (List ℕ)
later n zero a = []
later n (suc k) a = flat_map (block n (n - suc k) (take k a)) (unused_above n (take k a) (get_or a k 0)) ++ later n k a

-- what is left where the first k entries of a are to be followed by a number above m
abbrev pub rest : ℕ → ℕ → List ℕ → ℕ → List (List ℕ)
rest n k a m = flat_map (block n (n - suc k) (take k a)) (unused_above n (take k a) m) ++ later n k a

pub rest_start : (n : ℕ) (a : List ℕ) → 1 ≤ n → rest n 0 a 0 ≡ prefixes n
unfolding prefixes
rest_start n a h = let e : suc (n - 1) ≡ n = omega arith in append-nil _ ∙ ap (λ (d : ℕ). extensions n d []) e

later_set : (n k : ℕ) (a : List ℕ) (i x : ℕ) → k ≤ i → later n k (set a i x) ≡ later n k a
later_set n zero a i x h = refl
later_set n (suc k) a i x h =
    let le : k ≤ i = omega arith in
    let ne : k ≢ i = omega arith in
    rw (take-set-le k a i x, get_or-set_other a i k x 0, later_set n k a i x le)

pub rest_set : (n k : ℕ) (a : List ℕ) (m i x : ℕ) → k ≤ i → rest n k (set a i x) m ≡ rest n k a m
rest_set n k a m i x h = rw (take-set-le k a i x, later_set n k a i x h)

pub rest_some : (n k : ℕ) (a : List ℕ) (m x : ℕ) → unused_above n (take k a) m ≡ x ∷ unused_above n (take k a) x
    → rest n k a m ≡ (take k a ++ (x ∷ [])) ∷ (extensions n (n - suc k) (take k a ++ (x ∷ [])) ++ rest n k a x)
rest_some n k a m x e =
    ap (λ us. flat_map (block n (n - suc k) (take k a)) us ++ later n k a) e
    ∙ ap {B = List (List ℕ)} (λ r. (take k a ++ (x ∷ [])) ∷ r)
    (append_assoc (extensions n (n - suc k) (take k a ++ (x ∷ []))) _ (later n k a))

pub rest_none : (n k : ℕ) (a : List ℕ) (m : ℕ) → unused_above n (take k a) m ≡ [] → rest n k a m ≡ later n k a
rest_none n k a m e = ap (λ us. flat_map (block n (n - suc k) (take k a)) us ++ later n k a) e

pub rest_pop : (n j : ℕ) (a : List ℕ) (m : ℕ) → unused_above n (take (suc j) a) m ≡ [] →
    rest n (suc j) a m ≡ rest n j (set a j 0) (get_or a j 0)
rest_pop n j a m e = rest_none n (suc j) a m e ∙ sym (rest_set n j a (get_or a j 0) j 0 (omega arith))

pub rest_live : (n k : ℕ) (a : List ℕ) (x : ℕ) → suc k < n → k < length a
    → rest n (suc k) (set a k x) 0 ≡ extensions n (n - suc k) (take k a ++ (x ∷ [])) ++ rest n k a x
rest_live n k a x h l =
    let e : n - suc k ≡ suc (n - suc (suc k)) = omega arith in
    rw (take-suc-set a k x l, get_or-set_same a k x 0 l, rest_set n k a x k x (omega arith), e)

-- liveness of the shorter prefixes

module _ (alive : List ℕ → Bool) where
  lives_append : (k : ℕ) (q s : List ℕ) → k ≤ length q → lives alive k (q ++ s) ≡ lives alive k q
  lives_append zero q s h = refl
  lives_append (suc k) q s h = rw (take-append-le (suc k) q s, lives_append k q s (omega arith))

  lives_take : (k m : ℕ) (a : List ℕ) → k ≤ m → lives alive k (take m a) ≡ lives alive k a
  lives_take zero m a h = refl
  lives_take (suc k) m a h = rw (take-take (suc k) m a, lives_take k m a (omega arith))

  lives_set : (k : ℕ) (a : List ℕ) (i x : ℕ) → k ≤ i → lives alive k (set a i x) ≡ lives alive k a
  lives_set zero a i x h = refl
  lives_set (suc k) a i x h = rw (take-set-le (suc k) a i x, lives_set k a i x (omega arith))

  reached_snoc : (q : List ℕ) (x : ℕ) → reached alive (q ++ (x ∷ [])) ≡ lives alive (length q) q
  reached_snoc q x =
      let e : length (q ++ (x ∷ [])) - 1 ≡ length q = simp length-append (omega arith) in
      ap (λ (k : ℕ). lives alive k (q ++ (x ∷ []))) e ∙ lives_append (length q) q (x ∷ []) (omega arith)

  lives_snoc : (q : List ℕ) (x : ℕ) → lives alive (length (q ++ (x ∷ []))) (q ++ (x ∷ [])) ≡
      (alive (q ++ (x ∷ [])) && lives alive (length q) q)
  lives_snoc q x =
      let e : length (q ++ (x ∷ [])) ≡ suc (length q) = simp length-append (omega arith) in
      let l : length (q ++ (x ∷ [])) ≤ suc (length q) = omega arith in
      ap (λ (k : ℕ). lives alive k (q ++ (x ∷ []))) e
      ∙ rw (take_all (suc (length q)) (q ++ (x ∷ [])) l, lives_append (length q) q (x ∷ []) (omega arith))

  lives_snoc_dead : (q : List ℕ) (x : ℕ) → lives alive (length q) q ≡ false →
      lives alive (length (q ++ (x ∷ []))) (q ++ (x ∷ [])) ≡ false
  lives_snoc_dead q x h = lives_snoc q x ∙ and_right _ _ h

  each_all : (P : List ℕ → Type 0) (f : ℕ → List (List ℕ)) (xs : List ℕ) → ((x : ℕ) → All P (f x)) →
      All P (flat_map f xs)
  each_all P f [] h = tt
  each_all P f (x ∷ xs) h = All-append P (f x) (flat_map f xs) (h x) (each_all P f xs h)

  -- nothing that a dead prefix begins is reached
  ext_dead : (n d : ℕ) (q : List ℕ) → lives alive (length q) q ≡ false →
      All (λ p. reached alive p ≡ false) (extensions n d q)
  ext_dead n zero q h = tt
  ext_dead n (suc d) q h =
      each_all (λ p. reached alive p ≡ false) (block n d q) (unused_above n q 0)
      (λ x. (reached_snoc q x ∙ h, ext_dead n d (q ++ (x ∷ [])) (lives_snoc_dead q x h)))

  abbrev pub count_in : ℕ → List (List ℕ) → ℕ
  count_in n xs = length (filter (reached alive) (up_to (full alive n) xs))

  skip : (n : ℕ) (xs ys : List (List ℕ)) → All (λ p. reached alive p ≡ false) xs
      → (find (full alive n) (xs ++ ys) ≡ find (full alive n) ys) × (count_in n (xs ++ ys) ≡ count_in n ys)
  skip n [] ys h = (refl, refl)
  skip n (x ∷ xs) ys h =
      let f : full alive n x ≡ false = and_right (eqb (length x) n) _ (and_right (alive x) _ h.0) in
      let i = skip n xs ys h.1 in (
        cond-false (full alive n x) _ _ f ∙ i.0,
        ap length (cond-false (reached alive x) _ _ h.0) ∙ ap (λ t. length (filter (reached alive) t))
            (cond-false (full alive n x) _ _ f) ∙ i.1,
      )

  one_more : (n : ℕ) (p : List ℕ) (ps : List (List ℕ)) → reached alive p ≡ true → full alive n p ≡ false →
      count_in n (p ∷ ps) ≡ suc (count_in n ps)
  one_more n p ps r f =
      ap length (cond-true (reached alive p) _ _ r) ∙ ap (λ t. suc (length (filter (reached alive) t)))
      (cond-false (full alive n p) _ _ f)

  last_one : (n : ℕ) (p : List ℕ) (ps : List (List ℕ)) → reached alive p ≡ true → full alive n p ≡ true →
      count_in n (p ∷ ps) ≡ 1
  last_one n p ps r f =
      ap length (cond-true (reached alive p) _ _ r) ∙ ap (λ t. suc (length (filter (reached alive) t)))
      (cond-true (full alive n p) _ _ f)

  count_le : (n : ℕ) (xs : List (List ℕ)) → count_in n xs ≤ length xs
  count_le n [] = omega arith
  count_le n (x ∷ xs) =
      let i = count_le n xs in
      let low : length (filter (reached alive) (cond (full alive n x) [] (up_to (full alive n) xs))) ≤ length xs =
      cond_both (full alive n x) [] (up_to (full alive n) xs) (λ t. length (filter (reached alive) t) ≤ length xs)
      (λ _. omega arith) (λ _. i) in
      cond_both (reached alive x) (x ∷ filter (reached alive) (cond (full alive n x) [] (up_to (full alive n) xs))) _
      (λ t. length t ≤ suc (length xs)) (λ _. omega arith) (λ _. omega arith)

-- how long the listing is

top : ℕ → ℕ
top zero = 1
top (suc d) = 9 * top d

top_pos : (d : ℕ) → 1 ≤ top d
unfolding top
top_pos zero = omega arith
top_pos (suc d) = omega (arith, top_pos d)

top_le : (d e : ℕ) → d ≤ e → top d ≤ top e
unfolding top
top_le zero e h = top_pos e
top_le (suc d) zero h = omega arith
top_le (suc d) (suc e) h = omega (arith, top_le d e (omega arith))

top_eight : top 8 ≡ 43046721
unfolding top
top_eight = refl

each_length : (f : ℕ → List (List ℕ)) (b : ℕ) → ((x : ℕ) → length (f x) ≤ b) → (xs : List ℕ) →
    length (flat_map f xs) ≤ length xs * b
each_length f b h [] = omega arith
each_length f b h (x ∷ xs) =
    omega (arith, length-append (f x) (flat_map f xs), each_length f b h xs, h x, suc-mul (length xs) b)

kept_le : (f : ℕ → Bool) (xs : List ℕ) → length (filter f xs) ≤ length xs
kept_le f [] = omega arith
kept_le f (x ∷ xs) = let i = kept_le f xs in cond_both (f x) (x ∷ filter f xs) (filter f xs)
    (λ t. length t ≤ suc (length xs)) (λ _. omega arith) (λ _. omega arith)

after_length : (m k : ℕ) → length (after m k) ≡ k
after_length m zero = refl
after_length m (suc k) = ap suc (after_length (suc m) k)

ext_length : (n d : ℕ) (q : List ℕ) → n ≤ 8 → length (extensions n d q) + 1 ≤ top d
unfolding top
ext_length n zero q h = omega arith
ext_length n (suc d) q h =
    let us : length (unused_above n q 0) ≤ 8 =
    omega (arith, kept_le (λ x. not (has x q)) (after 0 (n - 0)), after_length 0 (n - 0)) in
    let one : (x : ℕ) → length (block n d q x) ≤ top d = λ x. omega (arith, ext_length n d (q ++ (x ∷ [])) h) in
    omega (arith, each_length (block n d q) (top d) one (unused_above n q 0), mul-le-mul_right (top d) us, top_pos d)

prefixes_length : (n : ℕ) → n ≤ 8 → length (prefixes n) < 43046721
unfolding prefixes
prefixes_length n h = omega (arith, ext_length n n [] h, top_le n 8 h, top_eight)

-- where the search stands: the first k entries of a, fewer than n, are to be followed by a number above m, and c
-- prefixes have been tested
pub record AtTurn (n k : ℕ) (a : List ℕ) (m c : ℕ) : Type 0 where
  pub within : k < n
  pub budget : c + length (rest n k a m) ≤ length (prefixes n)

-- what is left decides the answer and the count
pub record Follows (alive : List ℕ → Bool) (n k : ℕ) (a : List ℕ) (m c : ℕ) : Type 0 where
  pub lived : lives alive k a ≡ true
  pub same_first : find (full alive n) (rest n k a m) ≡ first_full alive n
  pub same_count : c + count_in alive n (rest n k a m) ≡ length (tested_of alive n)

pub start : (n : ℕ) (a : List ℕ) → 1 ≤ n → AtTurn n 0 a 0 0
start n a h = record { within = h; budget = omega (arith, ap length (rest_start n a h)) }

pub start_follows : (alive : List ℕ → Bool) (n : ℕ) (a : List ℕ) → 1 ≤ n → Follows alive n 0 a 0 0
unfolding first_full tested_of
start_follows alive n a h = record {
  lived = refl;
  same_first = ap (λ xs. find (full alive n) xs) (rest_start n a h);
  same_count = zero-add _ ∙ ap (λ xs. count_in alive n xs) (rest_start n a h);
}

popped_follows' : {alive : List ℕ → Bool} {n : ℕ} (j : ℕ) {a : List ℕ} {m c : ℕ} → Follows alive n (suc j) a m c →
    unused_above n (take (suc j) a) m ≡ []
    → Follows alive n j (set a j 0) (get_or a j 0) c
popped_follows' {alive} {n} j {a} {m} {c} s e = record {
  lived = lives_set alive j a j 0 (omega arith) ∙ (and_parts _ _ s.lived).1;
  same_first = sym (ap (λ xs. find (full alive n) xs) (rest_pop n j a m e)) ∙ s.same_first;
  same_count = sym (ap (λ xs. c + count_in alive n xs) (rest_pop n j a m e)) ∙ s.same_count;
}

module _ {n k : ℕ} {a : List ℕ} {m c : ℕ} (h : Held n k a) (s : AtTurn n k a m c) where
  pub bounded : c < 43046721
  bounded = omega (arith, s.budget, prefixes_length n h.most)

  -- no number is left at this place
  module _ (j : ℕ) (z : k ≡ suc j) (e : unused_above n (take k a) m ≡ []) where
    same_rest : rest n k a m ≡ rest n j (set a j 0) (get_or a j 0)
    same_rest =
        ap (λ (i : ℕ). rest n i a m) z ∙ rest_pop n j a m (subst (λ (i : ℕ). unused_above n (take i a) m ≡ []) z e)

    pub popped : AtTurn n j (set a j 0) (get_or a j 0) c
    popped = record { within = omega (arith, s.within); budget = omega (arith, s.budget, ap length same_rest) }

    pub popped_less : 2 * length (rest n j (set a j 0) (get_or a j 0)) + j < 2 * length (rest n k a m) + k
    popped_less = omega (arith, ap length same_rest)

  module _ (x : ℕ) (e : unused_above n (take k a) m ≡ x ∷ unused_above n (take k a) x) where
    abbrev pub p : List ℕ
    p = take k a ++ (x ∷ [])

    abbrev ps : List (List ℕ)
    ps = extensions n (n - suc k) p ++ rest n k a x

    -- it is a variable, and unused
    pub fresh : ((1 ≤ x) × (x ≤ n)) × (has x (take k a) ≡ false)
    fresh =
        let u = (subst (λ us. All (λ y. ((m < y) × (y ≤ n)) × (not (has y (take k a)) ≡ true)) us) e
        (unused_all n (take k a) m)).0 in
        ((omega (arith, u.0.0), u.0.1), not-true _ u.1)

    lt : k < length a
    lt = omega (arith, h.long, h.most, s.within)

    length_p : length p ≡ suc k
    length_p = omega (arith, length-append (take k a) (x ∷ []), length_held h)

    -- what follows p, and what is left after that, are left
    left : suc (length (extensions n (n - suc k) p) + length (rest n k a x)) ≡ length (rest n k a m)
    left = omega (arith, ap length (rest_some n k a m x e), length-append (extensions n (n - suc k) p) (rest n k a x))

    pub entries_p : Entries n p
    entries_p = entries_snoc n (take k a) x h.proper fresh.0 fresh.1

    rest_back : rest n k (set (set a k x) k 0) x ≡ rest n k a x
    rest_back = rest_set n k (set a k x) x k 0 (omega arith) ∙ rest_set n k a x k x (omega arith)

    pub dead : AtTurn n k (set (set a k x) k 0) x (c + 1)
    dead = record { within = s.within; budget = omega (arith, left, s.budget, ap length rest_back) }

    pub dead_less : 2 * length (rest n k (set (set a k x) k 0) x) + k < 2 * length (rest n k a m) + k
    dead_less = omega (arith, ap length rest_back, left)

    rest_deeper : k + 1 < n → rest n (k + 1) (set a k x) 0 ≡ ps
    rest_deeper l = ap (λ (i : ℕ). rest n i (set a k x) 0) (add-one k) ∙ rest_live n k a x (omega arith) lt

    pub deeper : k + 1 < n → AtTurn n (k + 1) (set a k x) 0 (c + 1)
    deeper l = record {
      within = l;
      budget = omega (
        arith,
        left,
        s.budget,
        ap length (rest_deeper l),
        length-append (extensions n (n - suc k) p) (rest n k a x),
      );
    }

    pub deeper_less : k + 1 < n → 2 * length (rest n (k + 1) (set a k x) 0) + (k + 1) < 2 * length (rest n k a m) + k
    deeper_less l = omega (arith, ap length (rest_deeper l), ap length (rest_some n k a m x e))

  module _ {alive : List ℕ → Bool} (f : Follows alive n k a m c) where
    -- no number is left at any place
    all_done : k ≡ 0 → unused_above n (take k a) m ≡ [] → rest n k a m ≡ []
    all_done z e = rest_none n k a m e ∙ ap (λ (j : ℕ). later n j a) z

    pub ended_first : k ≡ 0 → unused_above n (take k a) m ≡ [] → None ≡ option_map padded (first_full alive n)
    ended_first z e =
        sym (ap (λ xs. option_map padded (find (full alive n) xs)) (all_done z e)) ∙ ap (option_map padded) f.same_first

    pub ended_count : k ≡ 0 → unused_above n (take k a) m ≡ [] → c ≡ length (tested_of alive n)
    ended_count z e = sym (add-zero c) ∙ sym (ap (λ xs. c + count_in alive n xs) (all_done z e)) ∙ f.same_count

    pub popped_follows : (j : ℕ) → k ≡ suc j → unused_above n (take k a) m ≡ [] →
        Follows alive n j (set a j 0) (get_or a j 0) c
    popped_follows j z e =
        popped_follows' j (subst (λ (i : ℕ). Follows alive n i a m c) z f)
        (subst (λ (i : ℕ). unused_above n (take i a) m ≡ []) z e)

    module _ (x : ℕ) (e : unused_above n (take k a) m ≡ x ∷ unused_above n (take k a) x) where
      reached_p : reached alive (p x e) ≡ true
      reached_p =
          reached_snoc alive (take k a) x
          ∙ ap (λ (i : ℕ). lives alive i (take k a)) (length_held h)
          ∙ lives_take alive k k a (omega arith)
          ∙ f.lived

      pub dead_follows : alive (p x e) ≡ false → Follows alive n k (set (set a k x) k 0) x (c + 1)
      dead_follows dp =
          let g : full alive n (p x e) ≡ false = and_right (eqb (length (p x e)) n) _ (and_left (alive (p x e)) _ dp) in
          let over = skip alive n (extensions n (n - suc k) (p x e)) (rest n k a x)
          (ext_dead alive n (n - suc k) (p x e) (lives_snoc alive (take k a) x ∙ and_left (alive (p x e)) _ dp)) in
          let counted : count_in alive n (rest n k a m) ≡ suc (count_in alive n (rest n k a x)) =
          ap (λ xs. count_in alive n xs) (rest_some n k a m x e) ∙ one_more alive n (p x e) (ps x e) reached_p g
          ∙ ap suc over.1 in
          record {
            lived = lives_set alive k (set a k x) k 0 (omega arith) ∙ lives_set alive k a k x (omega arith) ∙ f.lived;
            same_first =
                rw (rest_back x e)
                (sym (ap (λ xs. find (full alive n) xs) (rest_some n k a m x e)
                ∙ cond-false (full alive n (p x e)) _ _ g ∙ over.0) ∙ f.same_first);
            same_count = omega (arith, counted, f.same_count, ap (λ xs. count_in alive n xs) (rest_back x e));
          }

      pub deeper_follows : alive (p x e) ≡ true → k + 1 < n → Follows alive n (k + 1) (set a k x) 0 (c + 1)
      deeper_follows dp l =
          let g : full alive n (p x e) ≡ false =
          and_left (eqb (length (p x e)) n) _ (ne_eqb (length (p x e)) n (λ q. omega (arith, length_p x e, q))) in
          let r = rest_deeper x e l in
          let counted : count_in alive n (rest n k a m) ≡ suc (count_in alive n (rest n (k + 1) (set a k x) 0)) =
          ap (λ xs. count_in alive n xs) (rest_some n k a m x e) ∙ one_more alive n (p x e) (ps x e) reached_p g
          ∙ sym (ap (λ xs. suc (count_in alive n xs)) r) in
          record {
            lived = rw add-one (and_from _ _ (ap alive (take-suc-set a k x (lt x e)) ∙ dp)
                (lives_set alive k a k x (omega arith) ∙ f.lived));
            same_first =
                sym (ap (λ xs. find (full alive n) xs) (rest_some n k a m x e)
                ∙ cond-false (full alive n (p x e)) _ _ g ∙ sym (ap (λ xs. find (full alive n) xs) r))
                ∙ f.same_first;
            same_count = omega (arith, counted, f.same_count);
          }

      full_p : alive (p x e) ≡ true → k + 1 ≡ n → full alive n (p x e) ≡ true
      full_p dp l = and_from (eqb (length (p x e)) n) _ (eq-eqb (length (p x e)) n (omega (arith, length_p x e)))
          (and_from (alive (p x e)) _ dp reached_p)

      pub found_first : alive (p x e) ≡ true → k + 1 ≡ n → Some (completed n (p x e)) ≡
          option_map padded (first_full alive n)
      found_first dp l =
          let g = full_p dp l in
          ap (λ (b : List ℕ). Some b) (completed_full n (p x e) (entries_p x e) (omega (arith, length_p x e)))
          ∙ ap (option_map padded) (sym (ap (λ xs. find (full alive n) xs) (rest_some n k a m x e)
          ∙ cond-true (full alive n (p x e)) _ _ g) ∙ f.same_first)

      pub found_count : alive (p x e) ≡ true → k + 1 ≡ n → c + 1 ≡ length (tested_of alive n)
      found_count dp l =
          let counted : count_in alive n (rest n k a m) ≡ 1 =
          ap (λ xs. count_in alive n xs) (rest_some n k a m x e)
          ∙ last_one alive n (p x e) (ps x e) reached_p (full_p dp l) in
          omega (arith, counted, f.same_count)
