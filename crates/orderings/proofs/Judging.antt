-- What the checks of a call decide. Assumes nothing.
use Rattle.std.proofs.Common.{◌≡◌, ℕ, ◌⊎◌, List, [], ◌∷◌, sym, ap, ◌∙◌, inl, inr}
use Rattle.orderings.specs.Answer.{Check, Judged}

module _ {O : Type 0} (refuse : ℕ → O) (G H : O → Type 0) where
  -- two outcomes of the same checks: both by one refusal, or both granted
  pub judged_alike : (cs : List Check) (a b : O) → Judged refuse cs G a → Judged refuse cs H b →
      ((r : ℕ) × (a ≡ refuse r) × (b ≡ refuse r)) ⊎ (G a × H b)
  judged_alike [] a b x y = inr (x, y)
  judged_alike (c ∷ cs) a b (inl x) (inl y) = inl (c.number, x.1, y.1)
  judged_alike (c ∷ cs) a b (inl x) (inr y) = absurd (x.0 y.0)
  judged_alike (c ∷ cs) a b (inr x) (inl y) = absurd (y.0 x.0)
  judged_alike (c ∷ cs) a b (inr x) (inr y) = judged_alike cs a b x.1 y.1

-- where a grant has one outcome, the checks and the grant have one
pub judged_once : {O : Type 0} (refuse : ℕ → O) (G : O → Type 0) → ((a b : O) → G a → G b → a ≡ b) →
    (cs : List Check) (a b : O) → Judged refuse cs G a → Judged refuse cs G b → a ≡ b
judged_once refuse G once cs a b x y = elim (judged_alike refuse G G cs a b x y) [
  | inl r ↦ r.1 ∙ sym r.2
  | inr g ↦ once a b g.0 g.1
]

-- r is the number of the first check that fails
abbrev pub Fails : List Check → ℕ → Type 0
Fails [] r = ⊥
Fails (c ∷ cs) r = ((c.holds → ⊥) × (r ≡ c.number)) ⊎ (c.holds × Fails cs r)

-- every check holds
abbrev pub Hold : List Check → Type 0
Hold [] = Unit {0}
Hold (c ∷ cs) = c.holds × Hold cs

module _ {O : Type 0} (refuse : ℕ → O) (G : O → Type 0) where
  pub judged_refused : (cs : List Check) (r : ℕ) → Fails cs r → Judged refuse cs G (refuse r)
  judged_refused [] r f = absurd f
  judged_refused (c ∷ cs) r (inl f) = inl (f.0, ap refuse f.1)
  judged_refused (c ∷ cs) r (inr f) = inr (f.0, judged_refused cs r f.1)

  pub judged_granted : (cs : List Check) (o : O) → Hold cs → G o → Judged refuse cs G o
  judged_granted [] o h g = g
  judged_granted (c ∷ cs) o h g = inr (h.0, judged_granted cs o h.1 g)
