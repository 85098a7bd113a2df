-- What the checks of a call decide, where the grant may count on them. Assumes nothing.
use Rattle.std.proofs.Common.{◌≡◌, ℕ, ◌⊎◌, List, [], ◌∷◌, sym, ◌∙◌, inl, inr}
use Rattle.orderings.specs.Answer.{granted, refused, Check, Judged}
use Rattle.orderings.proofs.Judging.{Hold}

pub granted_not_refused : {us vs : List ℕ} {r : ℕ} → granted us ≡ refused r vs → ⊥
granted_not_refused e = absurd cc

module _ {O : Type 0} (refuse : ℕ → O) (G : O → Type 0) where
  -- refused, or granted with every check holding
  pub refused_or_held : (cs : List Check) (o : O) → Judged refuse cs G o → ((r : ℕ) × (o ≡ refuse r)) ⊎ (Hold cs × G o)
  refused_or_held [] o g = inr (tt, g)
  refused_or_held (c ∷ cs) o (inl x) = inl (c.number, x.1)
  refused_or_held (c ∷ cs) o (inr x) = elim (refused_or_held cs o x.1) [
    | inl r ↦ inl r
    | inr h ↦ inr ((x.0, h.0), h.1)
  ]

  -- where the grant has one outcome when every check holds, there is one outcome
  pub held_once : (cs : List Check) → (Hold cs → (a b : O) → G a → G b → a ≡ b) → (a b : O) → Judged refuse cs G a →
      Judged refuse cs G b → a ≡ b
  held_once [] once a b x y = once tt a b x y
  held_once (c ∷ cs) once a b (inl x) (inl y) = x.1 ∙ sym y.1
  held_once (c ∷ cs) once a b (inl x) (inr y) = absurd (x.0 y.0)
  held_once (c ∷ cs) once a b (inr x) (inl y) = absurd (y.0 x.0)
  held_once (c ∷ cs) once a b (inr x) (inr y) = held_once cs (λ h. once (x.0, h)) a b x.1 y.1
