-- Terms and orderings as people write them. Assumes nothing.
use Rattle.std.specs.Prelude.{ℕ, List, [], ◌∷◌, ◌++◌, map, filter, codes, decimal, nat_lt, ◌==◌, if◌then◌else◌}
use Rattle.std.specs.List.{enumerate_from}
use Rattle.lines.specs.Words.{each}

-- words, a separator between each two
abbrev pub joined : List ℕ → List (List ℕ) → List ℕ
joined separator [] = []
joined separator (w ∷ ws) = w ++ each (λ x. separator ++ x) ws

-- a variable and its exponent, as x1 or x1^3
abbrev pub power_text : ℕ × ℕ → List ℕ
power_text p = codes "x" ++ (decimal p.0 ++ (if p.1 == 1 then [] else codes "^" ++ decimal p.1))

-- a product of words, 1 where there is none
abbrev pub product_text : List (List ℕ) → List ℕ
product_text [] = codes "1"
product_text (w ∷ ws) = joined (codes " ") (w ∷ ws)

-- the variables, counted from 1, whose exponents are above 0, with these
abbrev pub powers : List ℕ → List (ℕ × ℕ)
powers exponents = filter (λ p. nat_lt 0 p.1) (enumerate_from 1 exponents)

abbrev pub monomial_text : List ℕ → List ℕ
monomial_text exponents = product_text (map power_text (powers exponents))

-- the variables above 0, the first first
abbrev pub listed_text : List ℕ → List ℕ
listed_text order = joined (codes ",") (map decimal (filter (λ v. nat_lt 0 v) order))
