-- A cone that is sought among some places. Assumes nothing.
use Rattle.std.proofs.Common.{◌≡◌, ℕ, true, List, sym, ◌∙◌, inl, inr}
use Rattle.std.proofs.lemmas.Bool.{cases_eq, ne_eqb, false≢true}
use Rattle.elements.specs.Element.{Shown}
use Rattle.places.specs.declared.Places.{Places}
use Rattle.places.specs.Places.{contains, IsEmpty, Removes}
use Rattle.cones.specs.Cones.{Limits, InCone}

-- each of the places whose cone holds w is one of those that are left
abbrev pub Left : ℕ → List Shown → Limits → Places → Places → Shown → Type 0
Left n rows lim all left w = (s : ℕ) → contains all s ≡ true → InCone n rows lim s w → contains left s ≡ true

module _ (n : ℕ) (rows : List Shown) (lim : Limits) (all left : Places) (w : Shown)
    (l : Left n rows lim all left w) where
  pub none_left : IsEmpty left → (s : ℕ) → contains all s ≡ true → InCone n rows lim s w → ⊥
  none_left none s is cone = false≢true (sym (none s) ∙ l s is cone)

  -- one that does not hold it is taken out
  pub left_without : (f : ℕ) (less : Places) → Removes left less f → (InCone n rows lim f w → ⊥) →
      Left n rows lim all less w
  left_without f less out fails s is cone = elim (cases_eq s f) [
    | inl e ↦ absurd (fails (rw e at cone))
    | inr d ↦ out s ∙ rw (ne_eqb s f d) (l s is cone)
  ]
