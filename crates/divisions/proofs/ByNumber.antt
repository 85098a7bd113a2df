-- The division of a number. Assumes nothing.
use Rattle.std.proofs.Common.{ℕ, zero, suc, None, Option, IfSome, get_or, ◌≢◌, refl, subst}
use Rattle.divisions.specs.Laws.{Meaning, Lawful}
use Rattle.divisions.specs.Lawfulness.{janet_lawful, janet_like_lawful, thomas_lawful}
use Rattle.divisions.specs.Numbered.{by_number, IsNumbered}

-- each division that has a number is lawful
lawful_at : (r : ℕ) → IfSome (get_or by_number r None) Lawful
lawful_at zero = tt
lawful_at (suc zero) = janet_lawful
lawful_at (suc (suc zero)) = janet_like_lawful
lawful_at (suc (suc (suc zero))) = thomas_lawful
lawful_at (suc (suc (suc (suc r)))) = tt

pub lawful_by_number : (r : ℕ) (d : Option Meaning) → IsNumbered r d → IfSome d Lawful
lawful_by_number r d e = subst (λ (o : Option Meaning). IfSome o Lawful) e (lawful_at r)

-- another number is no division
pub no_other : (r : ℕ) → (r ≢ 1) → (r ≢ 2) → (r ≢ 3) → IsNumbered r None
no_other zero e f g = refl
no_other (suc zero) e f g = absurd (e refl)
no_other (suc (suc zero)) e f g = absurd (f refl)
no_other (suc (suc (suc zero))) e f g = absurd (g refl)
no_other (suc (suc (suc (suc r)))) e f g = refl
