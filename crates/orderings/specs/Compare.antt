-- What compare answers, and that it is a total order. Assumes nothing.
use Rattle.std.specs.Prelude.{◌≡◌, ℕ, Bool, ◌⊎◌, List, [], ◌∷◌}
use Rattle.elements.specs.Element.{Shown}
use Rattle.orderings.specs.Answer.{Answer, granted, refused, Check, check, Answers}
use Rattle.orderings.specs.Fit.{Fit}
use Rattle.orderings.specs.Order.{VariableCount, IsOrdering, Below}

-- what compare asks: a variable count, two elements that fit, an ordering of so many variables
abbrev pub compare_checks : (ℕ → Bool) → ℕ → List ℕ → Shown → Shown → List Check
compare_checks admits n order u w =
    check 5 (VariableCount n) ∷
    check 9 (Fit admits n u × Fit admits n w) ∷
    check 11 (IsOrdering n order) ∷ []

-- 0 where u is below w, 1 where they are the same, 2 where u is above w
pub data TellsComparison (order : List ℕ) (u w : Shown) : Answer → Type 0 where
  below : Below order u w → TellsComparison order u w (granted (0 ∷ []))
  same : u ≡ w → TellsComparison order u w (granted (1 ∷ []))
  above : Below order w u → TellsComparison order u w (granted (2 ∷ []))

-- compare's answer on u and w
abbrev pub Compares : (ℕ → Bool) → ℕ → List ℕ → Shown → Shown → Answer → Type 0
Compares admits n order u w a =
    Answers (compare_checks admits n order u w) (TellsComparison order u w) a

-- under an ordering the elements that fit are ordered totally
pub record IsTotalOrder (admits : ℕ → Bool) (n : ℕ) (order : List ℕ) : Type 0 where
  pub total : (u w : Shown) → Fit admits n u → Fit admits n w →
      Below order u w ⊎ ((u ≡ w) ⊎ Below order w u)
  pub irreflexive : (u : Shown) → ¬ Below order u u
  pub transitive : (u v w : Shown) → Below order u v → Below order v w → Below order u w

-- so it is under every ordering
abbrev pub CompareIsATotalOrder : Type 0
CompareIsATotalOrder =
    (admits : ℕ → Bool) (n : ℕ) (order : List ℕ) → IsOrdering n order → IsTotalOrder admits n order

-- the answer with its elements exchanged: 0 and 2 are swapped, and the rest stays
pub data Mirrors : Answer → Answer → Type 0 where
  below_above : Mirrors (granted (0 ∷ [])) (granted (2 ∷ []))
  above_below : Mirrors (granted (2 ∷ [])) (granted (0 ∷ []))
  same_same : Mirrors (granted (1 ∷ [])) (granted (1 ∷ []))
  refused_refused : {r : ℕ} {vs : List ℕ} → Mirrors (refused r vs) (refused r vs)

-- each input has one answer
abbrev pub CompareHasOneAnswer : Type 0
CompareHasOneAnswer =
    (admits : ℕ → Bool) (n : ℕ) (order : List ℕ) (u w : Shown) (a b : Answer) →
    Compares admits n order u w a → Compares admits n order u w b → a ≡ b

-- exchanging the elements mirrors the answer
abbrev pub SwappingMirrorsCompare : Type 0
SwappingMirrorsCompare =
    (admits : ℕ → Bool) (n : ℕ) (order : List ℕ) (u w : Shown) (a b : Answer) →
    Compares admits n order u w a → Compares admits n order w u b → Mirrors a b
