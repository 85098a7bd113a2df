-- The worked sets, and what is shown of them together. Assumes nothing.
use Rattle.std.specs.Prelude.{◌≡◌, ℕ, List, [], ◌∷◌, length, Some, None, Option}
use Rattle.elements.specs.Element.{Shown}
use Rattle.divisions.specs.Laws.{Meaning}
use Rattle.divisions.specs.Janet.{janet, janet_like}
use Rattle.divisions.specs.Thomas.{thomas}
use Rattle.cones.specs.Cones.{Complete, IsFirstShortfall}
use Rattle.search.specs.Liveness.{RowsOfSheet, Dead, answer, tested}

-- an element of a family by its exponents of variables 1, 2 and 3
abbrev pub element : ℕ → ℕ → ℕ → ℕ → Shown
element family a b c = record { family = family; exponents = a ∷ b ∷ c ∷ 0 ∷ 0 ∷ 0 ∷ 0 ∷ 0 ∷ [] }

-- a plain term by these exponents
abbrev pub plain : ℕ → ℕ → ℕ → Shown
plain a b c = element 0 a b c

-- x1, x1², x2, x1x3
abbrev pub set_a : List Shown
set_a = plain 1 0 0 ∷ plain 2 0 0 ∷ plain 0 1 0 ∷ plain 1 0 1 ∷ []

-- x1³, x1x2, x2²
abbrev pub set_b : List Shown
set_b = plain 3 0 0 ∷ plain 1 1 0 ∷ plain 0 2 0 ∷ []

-- x1, x2, x1x2
abbrev pub set_c : List Shown
set_c = plain 1 0 0 ∷ plain 0 1 0 ∷ plain 1 1 0 ∷ []

-- x1⁵, x1²x2, x1x2⁴, x1²x3², x1x2²x3², x3⁵
abbrev pub set_d : List Shown
set_d = plain 5 0 0 ∷ plain 2 1 0 ∷ plain 1 4 0 ∷ plain 2 0 2 ∷ plain 1 2 2 ∷ plain 0 0 5 ∷ []

-- x1², x2²
abbrev pub set_e : List Shown
set_e = plain 2 0 0 ∷ plain 0 2 0 ∷ []

-- the same as derivatives, of functions 1 and 2
abbrev pub derivatives_e : List Shown
derivatives_e = element 1 2 0 0 ∷ element 2 0 2 0 ∷ []

-- the ordering 3,2,1
abbrev pub falling : List ℕ
falling = 3 ∷ 2 ∷ 1 ∷ 0 ∷ 0 ∷ 0 ∷ 0 ∷ 0 ∷ []

-- for these rows of a sheet the search answers p, and tests c prefixes
pub record SearchAnswers (m : Meaning) (n : ℕ) (rows : List Shown)
    (p : Option (List ℕ)) (c : ℕ) : Type 0 where
  pub sheet : RowsOfSheet n rows
  pub answers : answer m n rows ≡ p
  pub counts : length (tested m n rows) ≡ c

-- what is shown of the worked sets by Janet, by Janet-like and by Thomas division, for which the
-- ordering plays no part
pub record TheTenWorkedResults : Type 0 where
  pub janet_settles_a : SearchAnswers janet 3 set_a (Some (1 ∷ 2 ∷ 3 ∷ [])) 3
  pub prefix_3_of_a_is_dead : Dead janet 3 set_a (3 ∷ [])
  pub janet_settles_b : SearchAnswers janet 2 set_b (Some (2 ∷ 1 ∷ [])) 3
  pub janet_like_settles_b : SearchAnswers janet_like 2 set_b (Some (1 ∷ 2 ∷ [])) 2
  pub janet_never_settles_e : SearchAnswers janet 2 set_e None 2
  pub janet_like_settles_e : SearchAnswers janet_like 2 set_e (Some (1 ∷ 2 ∷ [])) 2
  pub janet_settles_derivatives_e : SearchAnswers janet 2 derivatives_e (Some (1 ∷ 2 ∷ [])) 2
  pub janet_like_completes_d : Complete 3 set_d (janet_like set_d falling)
  pub janet_falls_short_on_d : IsFirstShortfall 3 set_d (janet set_d falling) 0 3 1
  pub thomas_completes_c : (order : List ℕ) → Complete 2 set_c (thomas set_c order)
