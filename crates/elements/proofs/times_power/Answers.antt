use Rattle.std.proofs.Common.{◌≡◌, ℕ, ◌≤◌, true, ◌⊎◌, List, is_some, Some, None, Option, refl, inr, MatchOption}
use Rattle.elements.specs.Element.{Shown, exponent, Variable, Overflows, power, product, times}
use Rattle.elements.proofs.Terms.{small_power}
use Rattle.elements.proofs.times_power.Goals as goal

-- what the product with the power gives
module _ {E : Type 0} (shown : E → Shown) (u : Shown) (v m : ℕ) where
  value_of : (r : Option E) (t : List ℕ) → t ≡ power v m → MatchOption r (Overflows u t) (λ p. shown p ≡ product u t) →
      MatchOption r ((Variable v → ⊥) ⊎ Overflows u (power v m)) (λ p. shown p ≡ times u v m)
  value_of None t e h = inr (rw e at h)
  value_of (Some p) t e h = rw e at h

  some_of : (r : Option E) (t : List ℕ) → t ≡ power v m → MatchOption r (Overflows u t) (λ p. shown p ≡ product u t) →
      ((x : ℕ) → exponent u x ≤ 4095) → m ≤ 4096 → is_some r ≡ true
  some_of None t e h low l = absurd (small_power u v m low l (rw e at h))
  some_of (Some p) t e h low l = refl

pub returns : goal.returns
returns g c =
    record {
      value = value_of g.E.Element.shown _ _ _ c.product.result _ c.in_ok-power.ensures c.product.ensures;
      small = λ _ low l. some_of g.E.Element.shown _ _ _ c.product.result _ c.in_ok-power.ensures c.product.ensures
          low l;
    }
