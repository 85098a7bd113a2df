-- Arrays that a closure makes which no call changes. Assumes nothing.
use Rattle.std.proofs.Common.{◌≡◌, ℕ, zero, suc, ◌+◌, ◌<◌, ◌≤◌, List, get_or, refl, subst, inl, inr, arith}
use Rattle.std.specs.Array.{IsFromFnResult, IsFromFnResultFrom, index_steps}
use Rattle.std.specs.Fn.{Mut, Called, Takes}
use Rattle.std.specs.Iterator.{CallableAtEachTurn}
use Rattle.std.proofs.lemmas.Bool.{cases_eq}
use Rattle.std.proofs.lemmas.Fn.{serves_by}

module _ {F B : Type 0} (g : Mut F (ℕ × Unit {0}) B) (f : F) where
  -- what may be called at each index may be called at one after the other
  pub callable : (n : ℕ) → ((i : ℕ) (y : B) (f' : F) → Called g f (i, tt) y f' → f' ≡ f) →
      ((i : ℕ) → i < n → Takes g f (i, tt)) →
      CallableAtEachTurn (index_steps n) (λ p x q. (y : B) × Called g p (x, tt) y q) (λ p x. Takes g p (x, tt)) 0 f
  callable n stays takes =
      serves_by (λ p x q. (y : B) × Called g p (x, tt) y q) (λ xs q. q ≡ f)
      (λ xs p x q e c. stays x c.0 q (subst (λ (z : F). Called g z (x, tt) c.0 q) e c.1))
      (index_steps n) (λ p x. Takes g p (x, tt)) 0 f refl (λ xs t q x u y e s. rw s (takes x (omega arith)))

  -- what each call gives holds at each place of the array that the calls make
  module _ (Gives : ℕ → B → Type 0) (step : (i : ℕ) (y : B) (f' : F) → Called g f (i, tt) y f' → Gives i y × (f' ≡ f))
      (ys : List B) (d : B) where
    made_from : (q : F) (i n : ℕ) → q ≡ f → IsFromFnResultFrom g q ys i n → (k : ℕ) → i ≤ k → k < i + n →
        Gives k (get_or ys k d)
    made_from q i zero e r k l h = absurd (omega arith)
    made_from q i (suc n) e r k l h =
        let now = step i r.1 r.0 (subst (λ p. Called g p (i, tt) r.1 r.0) e r.3) in
        elim (cases_eq k i) [
          | inl s ↦ rw s (rw (r.2.1 d) now.0)
          | inr t ↦ made_from r.0 (i + 1) n now.1 r.4 k (omega arith) (omega arith)
        ]

    pub made : (n : ℕ) → IsFromFnResult g f ys n → (k : ℕ) → k < n → Gives k (get_or ys k d)
    made n r k h = made_from f 0 n refl r.each k (omega arith) (omega arith)
