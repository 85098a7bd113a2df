-- Elements by what they show, over natural numbers of any size. Assumes nothing.
use Rattle.std.specs.Prelude.{◌≡◌, ℕ, ◌+◌, ◌-◌, ◌<◌, ◌≤◌, if◌then◌else◌, List, ◌∷◌, map, replicate, ◌==◌, slice_index}
use Rattle.std.specs.List.{range_with_len}

-- an element: the number of its family, and the exponents of variables 1, 2, .. in this order
pub record Shown : Type 0 where
  pub family : ℕ
  pub exponents : List ℕ

-- the exponent of variable v, which counts from 1, in a list of exponents; 0 where there is none
abbrev pub entry : List ℕ → ℕ → ℕ
entry exponents v = slice_index (0 ∷ exponents) v

-- the exponent of variable v in an element
abbrev pub exponent : Shown → ℕ → ℕ
exponent e v = entry e.exponents v

-- u divides w, and w is a multiple of u: one family, and no exponent of u is greater
pub record Divides (u w : Shown) : Type 0 where
  pub family : u.family ≡ w.family
  pub smaller : (v : ℕ) → exponent u v ≤ exponent w v

-- the eight exponents that are f v for each variable v
abbrev pub term : (ℕ → ℕ) → List ℕ
term f = map f (range_with_len 1 8)

-- variable v to the power m
unfoldable pub power : ℕ → ℕ → List ℕ
power v m = term (λ x. if x == v then m else 0)

-- u times a term
unfoldable pub product : Shown → List ℕ → Shown
product u t = record { family = u.family; exponents = term (λ v. exponent u v + entry t v) }

-- u times variable v to the power m
abbrev pub times : Shown → ℕ → ℕ → Shown
times u v m = product u (power v m)

-- u times a term has an exponent above 65,535, which no element can show
abbrev pub Overflows : Shown → List ℕ → Type 0
Overflows u t = (v : ℕ) × (65535 < exponent u v + entry t v)

-- v is the number of one of the eight variables
pub record Variable (v : ℕ) : Type 0 where
  pub low : 1 ≤ v
  pub high : v ≤ 8

-- w / u, where u divides w: the term of the differences
unfoldable pub quotient : Shown → Shown → List ℕ
quotient u w = term (λ v. exponent w v - exponent u v)

-- u divides w, and t is the term w / u
abbrev pub IsQuotient : Shown → Shown → List ℕ → Type 0
IsQuotient u w t = Divides u w × (t ≡ quotient u w)

-- what stands in a place without a row
abbrev pub blank : Shown
blank = record { family = 0; exponents = replicate 8 0 }
