-- The divisions that have a number. Assumes nothing.
use Rattle.std.specs.Prelude.{◌≡◌, ℕ, List, [], ◌∷◌, Some, None, Option, slice_index_or}
use Rattle.divisions.specs.declared.Janet.{Janet}
use Rattle.divisions.specs.declared.JanetLike.{JanetLike}
use Rattle.divisions.specs.declared.Thomas.{Thomas}
use Rattle.divisions.specs.declared.OneOf.{OneOf}
use Rattle.divisions.specs.Laws.{Meaning}
use Rattle.divisions.specs.Either.{either}
use Rattle.divisions.specs.Janet.{janet, janet_like}
use Rattle.divisions.specs.Thomas.{thomas}

-- the divisions by their numbers, from 0 on: 1 is Janet, 2 is Janet-like, 3 is Thomas
abbrev pub by_number : List (Option Meaning)
by_number = None ∷ Some janet ∷ Some janet_like ∷ Some thomas ∷ []

-- what the division of a number means, if there is one
abbrev pub IsNumbered : ℕ → Option Meaning → Type 0
IsNumbered r d = slice_index_or by_number r None ≡ d

-- a division that has a number
abbrev pub Numbered : Type 0
Numbered = OneOf Janet (OneOf JanetLike Thomas)

-- what it means
abbrev pub numbered_meaning : Numbered → Meaning
numbered_meaning = either (λ _. janet) (either (λ _. janet_like) (λ _. thomas))
