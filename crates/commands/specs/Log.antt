-- The bytes of a log, command by command. Assumes nothing.
use Rattle.std.specs.Prelude.{◌≡◌, ℕ, ◌+◌, ◌-◌, ◌*◌, ◌<◌, ◌≤◌, ◌⊎◌, List, [], ◌∷◌, ◌++◌, length, slice_index}
use Rattle.elements.specs.Element.{Shown, term}

-- a list as so many first bytes and the rest
pub record Parted (count : ℕ) (bytes first rest : List ℕ) : Type 0 where
  pub wide : length first ≡ count
  pub parts : bytes ≡ first ++ rest

-- the codes are 1 to 8
pub record Code (c : ℕ) : Type 0 where
  pub low : 1 ≤ c
  pub high : c ≤ 8

-- how many operand bytes follow each code, the codes in their order
abbrev pub widths : List ℕ
widths = 17 ∷ 17 ∷ 8 ∷ 1 ∷ 9 ∷ 1 ∷ 17 ∷ 0 ∷ []

abbrev pub width : ℕ → ℕ
width c = slice_index widths (c - 1)

-- what stands at the front of a log
pub data Front : Type 0 where
  nothing : Front
  -- a code, its operand bytes and the rest of the log
  command : ℕ → List ℕ → List ℕ → Front
  -- a first byte, and the number by which it is misread
  misread : ℕ → ℕ → Front

-- a whole command: its code, as many operand bytes as the code says, and then the rest
pub record Whole (log : List ℕ) (code : ℕ) (operands rest : List ℕ) : Type 0 where
  pub known : Code code
  pub wide : length operands ≡ width code
  pub parts : log ≡ code ∷ (operands ++ rest)

-- a first byte that is no code
pub record Unknown (log : List ℕ) (first : ℕ) : Type 0 where
  pub after : List ℕ
  pub unknown : Code first → ⊥
  pub parts : log ≡ first ∷ after

-- a code that fewer bytes follow than it has operand bytes
pub record CutShort (log : List ℕ) (code : ℕ) : Type 0 where
  pub after : List ℕ
  pub known : Code code
  pub short : length after < width code
  pub parts : log ≡ code ∷ after

-- how a log begins
abbrev pub Reads : List ℕ → Front → Type 0
Reads log nothing = log ≡ []
Reads log (command code operands rest) = Whole log code operands rest
Reads log (misread first number) =
    (Unknown log first × (number ≡ 1)) ⊎ (CutShort log first × (number ≡ 2))

-- an element by its bytes: the family, then the exponents of variables 1 to 8, two bytes each, the
-- high byte first
unfoldable pub element : List ℕ → Shown
element bytes = record {
  family = slice_index bytes 0;
  exponents = term (λ v. slice_index bytes (2 * v - 1) * 256 + slice_index bytes (2 * v));
}

-- a log begins in one way only
abbrev pub ReadingHasOneOutcome : Type 0
ReadingHasOneOutcome = (log : List ℕ) (a b : Front) → Reads log a → Reads log b → a ≡ b
