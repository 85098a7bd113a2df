-- Where what a dead prefix begins is dead, a search that goes on from live prefixes only misses nothing. Assumes
-- nothing.
use Rattle.std.proofs.Common.{◌≡◌, ℕ, zero, suc, ◌-◌, ◌<◌, ◌≤◌, Bool, true, false, ◌&&◌, eqb, List, [], ◌∷◌, ◌++◌, length, get_or, take, drop, filter, Option, refl, ap, ◌∙◌, arith, take-append-drop, length-take-le, take_all, take-suc}
use Rattle.std.specs.List.{find}
use Rattle.std.specs.List.{AllByRecursion as All}
use Rattle.std.proofs.ByRecursion.{All-weaker}
use Rattle.std.proofs.lemmas.Bool.{and_from, and_parts}
use Rattle.search.specs.Prefixes.{prefixes, Entries, Prefix}
use Rattle.search.specs.Walks.{lives, reached, ends, up_to, first_live, tested_to, Closed}
use Rattle.search.proofs.Listed.{entries_front, listed}

-- live and of length n, with only live prefixes on the way
abbrev pub full : (List ℕ → Bool) → ℕ → List ℕ → Bool
full alive n p = eqb (length p) n && (alive p && reached alive p)

-- the first such prefix, and what is tested down to it
unfoldable pub first_full : (List ℕ → Bool) → ℕ → Option (List ℕ)
first_full alive n = find (full alive n) (prefixes n)

unfoldable pub tested_of : (List ℕ → Bool) → ℕ → List (List ℕ)
tested_of alive n = filter (reached alive) (up_to (full alive n) (prefixes n))

-- the first entries of a prefix
pub prefix_front : (n : ℕ) (p : List ℕ) (k : ℕ) → Prefix n p → 1 ≤ k → k ≤ length p → Prefix n (take k p)
prefix_front n p k h low high =
    let e = length-take-le k p high in
    let whole : Entries n (take k p ++ drop k p) = rw (take-append-drop k p) h.entries in
    record { some = omega arith; most = omega (arith, h.most); entries = entries_front n (take k p) (drop k p) whole }

module _ (alive : List ℕ → Bool) (n : ℕ) (closed : Closed alive n) where
  lives_closed : (p : List ℕ) → Prefix n p → (k : ℕ) → k < length p → alive (take (suc k) p) ≡ true →
      lives alive (suc k) p ≡ true
  lives_closed p h zero l e = and_from (alive (take 1 p)) true e refl
  lives_closed p h (suc k) l e =
      let lt : suc k ≤ length p = omega arith in
      let is = take-suc p (suc k) 0 l in
      let whole : Prefix n (take (suc k) p ++ (get_or p (suc k) 0 ∷ [])) =
      rw is at (prefix_front n p (suc (suc k)) h (omega arith) l) in
      let at : alive (take (suc k) p) ≡ true =
      closed (take (suc k) p) (get_or p (suc k) 0) (omega (arith, length-take-le (suc k) p lt)) whole (rw is at e) in
      and_from (alive (take (suc (suc k)) p)) (lives alive (suc k) p) e (lives_closed p h k (omega arith) at)

  -- each shorter prefix of a live one is live
  pub reached_closed : (p : List ℕ) → Prefix n p → alive p ≡ true → reached alive p ≡ true
  reached_closed p h l =
      let some = h.some in
      let whole : take (suc (length p - 1)) p ≡ p = take_all (suc (length p - 1)) p (omega arith) in
      (and_parts (alive (take (suc (length p - 1)) p)) _ (lives_closed p h (length p - 1) (omega arith)
      (ap alive whole ∙ l))).1

  full_closed : (p : List ℕ) → Prefix n p → full alive n p ≡ ends alive n p
  full_closed p h = ap (λ b. eqb (length p) n && b) (absorb (alive p) (reached alive p) (reached_closed p h))
    where
      absorb : (b d : Bool) → (b ≡ true → d ≡ true) → (b && d) ≡ b
      absorb true d h = h refl
      absorb false d h = refl

  pub literal : (first_full alive n ≡ first_live alive n) × (tested_of alive n ≡ tested_to alive n)
  unfolding first_full first_live tested_of tested_to
  literal =
      let same =
      All-weaker (Prefix n) (λ p. full alive n p ≡ ends alive n p) full_closed (prefixes n) (listed n).only in (
        first_same (full alive n) (ends alive n) (prefixes n) same,
        ap (λ ps. filter (reached alive) ps) (up_to_same (full alive n) (ends alive n) (prefixes n) same),
      )
    where
      first_same : (f g : List ℕ → Bool) (ps : List (List ℕ)) → All (λ p. f p ≡ g p) ps → find f ps ≡ find g ps
      first_same f g [] h = refl
      first_same f g (p ∷ ps) h = rw (h.0, first_same f g ps h.1)

      up_to_same : (f g : List ℕ → Bool) (ps : List (List ℕ)) → All (λ p. f p ≡ g p) ps → up_to f ps ≡ up_to g ps
      up_to_same f g [] h = refl
      up_to_same f g (p ∷ ps) h = rw (h.0, up_to_same f g ps h.1)
