-- Orderings of the variables, and where two elements part under one. Assumes nothing.
use Rattle.std.specs.Prelude.{◌≡◌, ℕ, ◌<◌, ◌≤◌, ◌⊎◌, List, length, ◌≢◌, slice_index}
use Rattle.elements.specs.Element.{Shown, exponent}

-- how many variables a sheet may have
pub record VariableCount (n : ℕ) : Type 0 where
  pub some : 1 ≤ n
  pub most : n ≤ 8

-- the variable at position k, 0 past the end; position 0 has the greatest
abbrev pub at : List ℕ → ℕ → ℕ
at order k = slice_index order k

-- the entry at position k stands at an earlier position too
abbrev pub Repeats : List ℕ → ℕ → Type 0
Repeats list k = (j : ℕ) × (j < k) × (at list j ≡ at list k)

-- the entry at position k is one of n variables, and stands nowhere before it
abbrev pub IsNew : ℕ → List ℕ → ℕ → Type 0
IsNew n list k = (1 ≤ at list k) × (at list k ≤ n) × ¬ Repeats list k

-- an ordering of n variables: eight numbers, of which the first n are 1 to n, each once, and the
-- rest 0
pub record IsOrdering (n : ℕ) (order : List ℕ) : Type 0 where
  pub eight : length order ≡ 8
  pub low : (k : ℕ) → k < n → 1 ≤ at order k
  pub high : (k : ℕ) → k < n → at order k ≤ n
  pub distinct : (j k : ℕ) → j < k → k < n → at order j ≢ at order k
  pub zeros : (k : ℕ) → n ≤ k → at order k ≡ 0

-- an ordering lists each of its variables, at one position
abbrev pub EachVariableStandsOnce : Type 0
EachVariableStandsOnce =
    (n : ℕ) (order : List ℕ) → IsOrdering n order → (v : ℕ) → 1 ≤ v → v ≤ n →
    (k : ℕ) × (k < n) × (at order k ≡ v) × ((j : ℕ) → at order j ≡ v → j ≡ k)

-- u and w agree in the k greatest variables
abbrev pub Agree : List ℕ → ℕ → Shown → Shown → Type 0
Agree order k u w = (j : ℕ) → j < k → exponent u (at order j) ≡ exponent w (at order j)

-- u and w agree in every variable of the list
abbrev pub AgreeInAll : List ℕ → Shown → Shown → Type 0
AgreeInAll order u w = Agree order (length order) u w

-- position k of the list is the first at which u and w differ
pub record DifferAt (order : List ℕ) (k : ℕ) (u w : Shown) : Type 0 where
  pub inside : k < length order
  pub above : Agree order k u w
  pub here : exponent u (at order k) ≢ exponent w (at order k)

-- u and w, of one family, part at position k: the greatest variable in which they differ stands
-- there, and u has the smaller exponent
pub record PartAt (order : List ℕ) (k : ℕ) (u w : Shown) : Type 0 where
  pub family : u.family ≡ w.family
  pub above : Agree order k u w
  pub smaller : exponent u (at order k) < exponent w (at order k)

-- u is below w: by family, and in one family by the greatest variable in which they differ
abbrev pub Below : List ℕ → Shown → Shown → Type 0
Below order u w = (u.family < w.family) ⊎ ((k : ℕ) × PartAt order k u w)
