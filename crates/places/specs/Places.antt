-- Sets of places. Assumes nothing.
use Rattle.std.specs.Prelude.{◌≡◌, ℕ, ◌<◌, Bool, true, false, not, ◌&&◌, ◌||◌, ◌==◌}
use Rattle.std.specs.Int.{bit_at}
use Rattle.places.specs.declared.Places.{Places}

-- whether the bit of a place is 1
abbrev pub among : ℕ → ℕ → Bool
among bits place = bit_at bits place == 1

-- whether a set has a place
abbrev pub contains : Places → ℕ → Bool
contains set place = among set.bits place

-- no place is in the set
abbrev pub IsEmpty : Places → Type 0
IsEmpty set = (p : ℕ) → contains set p ≡ false

-- the place is the first of the set
abbrev pub IsFirst : Places → ℕ → Type 0
IsFirst set place =
    (place < 64) × (contains set place ≡ true) × ((p : ℕ) → p < place → contains set p ≡ false)

-- the new set has the place, and else what the old one has
abbrev pub Adds : Places → Places → ℕ → Type 0
Adds old new place = (p : ℕ) → contains new p ≡ (p == place || contains old p)

-- the new set lacks the place, and else has what the old one has
abbrev pub Removes : Places → Places → ℕ → Type 0
Removes old new place = (p : ℕ) → contains new p ≡ (not (p == place) && contains old p)

-- the new set is smaller, so that a loop that takes places out ends
abbrev pub IsSmaller : Places → Places → Type 0
IsSmaller old new = new.bits < old.bits
