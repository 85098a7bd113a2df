-- What a search finds in the listing and tests on the way. Assumes nothing.
use Rattle.std.specs.Prelude.{◌≡◌, ℕ, zero, suc, ◌-◌, ◌≤◌, Bool, true, if◌then◌else◌, ◌&&◌, List, [], ◌∷◌, ◌++◌, length, take, filter, Option, ◌==◌}
use Rattle.std.specs.List.{find}
use Rattle.search.specs.Prefixes.{Prefix, prefixes}

-- the first 1, 2, .. k entries of p, each taken as a prefix, are live
abbrev pub lives : (List ℕ → Bool) → ℕ → List ℕ → Bool
lives alive zero p = true
lives alive (suc k) p = alive (take (suc k) p) && lives alive k p

-- every shorter prefix of p is live
abbrev pub reached : (List ℕ → Bool) → List ℕ → Bool
reached alive p = lives alive (length p - 1) p

-- live, and of length n
abbrev pub ends : (List ℕ → Bool) → ℕ → List ℕ → Bool
ends alive n p = length p == n && alive p

-- all down to the first that passes, with it
abbrev pub up_to : (List ℕ → Bool) → List (List ℕ) → List (List ℕ)
up_to f [] = []
up_to f (p ∷ ps) = p ∷ (if f p then [] else up_to f ps)

-- the first live prefix of length n
unfoldable pub first_live : (List ℕ → Bool) → ℕ → Option (List ℕ)
first_live alive n = find (ends alive n) (prefixes n)

-- of the listing down to that one, the prefixes of which every shorter one is live
unfoldable pub tested_to : (List ℕ → Bool) → ℕ → List (List ℕ)
tested_to alive n = filter (reached alive) (up_to (ends alive n) (prefixes n))

-- what a dead prefix begins is dead
abbrev pub Closed : (List ℕ → Bool) → ℕ → Type 0
Closed alive n =
    (p : List ℕ) (x : ℕ) → 1 ≤ length p → Prefix n (p ++ (x ∷ [])) →
    alive (p ++ (x ∷ [])) ≡ true → alive p ≡ true
