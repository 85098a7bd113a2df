-- Text as lines, and lines as words that stand one space apart. Assumes nothing.
use Rattle.std.specs.Prelude.{ℕ, ◌/◌, ◌%◌, List, [], ◌∷◌, ◌++◌, codes, slice_index}

-- the texts of items, one after another
abbrev pub each : {A : Type 0} → (A → List ℕ) → List A → List ℕ
each text [] = []
each text (x ∷ xs) = text x ++ each text xs

-- a word after one space
abbrev pub after_space : List ℕ → List ℕ
after_space w = codes " " ++ w

-- a line, ended
abbrev pub ended : List ℕ → List ℕ
ended line = line ++ (10 ∷ [])

-- the words of a line, one space between each two
abbrev pub spaced : List (List ℕ) → List ℕ
spaced [] = []
spaced (w ∷ ws) = w ++ each after_space ws

-- a hexadecimal digit
abbrev pub hex_digit : ℕ → ℕ
hex_digit d = slice_index (codes "0123456789ABCDEF") d

-- a byte as two hexadecimal digits
abbrev pub hex : ℕ → List ℕ
hex b = hex_digit (b / 16) ∷ hex_digit (b % 16) ∷ []
