-- Prefixes of orderings, and their listing. Assumes nothing.
use Rattle.std.specs.Prelude.{◌≡◌, ℕ, zero, suc, ◌-◌, ◌<◌, ◌≤◌, Bool, false, not, ◌⊎◌, List, [], ◌∷◌, ◌++◌, length, replicate, filter, ⊤, All, AllPairs, Contains, ◌==◌, slice_index_or}
use Rattle.std.specs.List.{AllByRecursion, list_any, flat_map}

-- the k numbers after m, in order
abbrev pub after : ℕ → ℕ → List ℕ
after m zero = []
after m (suc k) = suc m ∷ after (suc m) k

-- whether x is an entry
abbrev pub has : ℕ → List ℕ → Bool
has x q = list_any (λ y. y == x) q

-- at index x a list tells whether x is an entry of q; past its end none is
abbrev pub Marked : List ℕ → List Bool → Type 0
Marked q marks = (x : ℕ) → slice_index_or marks x false ≡ has x q

-- the numbers above m, to n, that q lacks
abbrev pub unused_above : ℕ → List ℕ → ℕ → List ℕ
unused_above n q m = filter (λ x. not (has x q)) (after m (n - m))

-- no number stands twice
abbrev pub Apart : List ℕ → Type 0
Apart [] = ⊤
Apart (x ∷ xs) = (has x xs ≡ false) × Apart xs

-- distinct numbers of 1 to n
pub record Entries (n : ℕ) (q : List ℕ) : Type 0 where
  pub range : AllByRecursion (λ x. (1 ≤ x) × (x ≤ n)) q
  pub apart : Apart q

-- a prefix of an ordering of n variables: 1 to n of them, the greatest first
pub record Prefix (n : ℕ) (p : List ℕ) : Type 0 where
  pub some : 1 ≤ length p
  pub most : length p ≤ n
  pub entries : Entries n p

-- p stands before q: by the first entry in which they differ, and a prefix before its extensions
abbrev pub Before : List ℕ → List ℕ → Type 0
Before [] [] = ⊥
Before [] (y ∷ ys) = ⊤
Before (x ∷ xs) [] = ⊥
Before (x ∷ xs) (y ∷ ys) = (x < y) ⊎ ((x ≡ y) × Before xs ys)

-- the prefixes that q begins, with 1 to d entries more, in the order of the listing
abbrev pub extensions : ℕ → ℕ → List ℕ → List (List ℕ)
extensions n zero q = []
extensions n (suc d) q =
    flat_map (λ x. (q ++ (x ∷ [])) ∷ extensions n d (q ++ (x ∷ []))) (unused_above n q 0)

-- the listing of all prefixes
unfoldable pub prefixes : ℕ → List (List ℕ)
prefixes n = extensions n n []

-- a list has the prefixes of n, all of them and nothing else, in order
pub record Lists (n : ℕ) (ps : List (List ℕ)) : Type 0 where
  pub only : All (Prefix n) ps
  pub all : (p : List ℕ) → Prefix n p → Contains ps p
  pub order : AllPairs Before ps

abbrev pub ListingHasEveryPrefixInOrder : Type 0
ListingHasEveryPrefixInOrder = (n : ℕ) → Lists n (prefixes n)

-- the entries, then zeros up to eight
abbrev pub padded : List ℕ → List ℕ
padded q = q ++ replicate (8 - length q) 0

-- the ordering of n variables that a prefix begins: its entries, then the unused variables in
-- increasing order
abbrev pub completed : ℕ → List ℕ → List ℕ
completed n p = padded (p ++ unused_above n p 0)
