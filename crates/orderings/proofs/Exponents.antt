-- Exponents of eight variables. Assumes nothing.
use Rattle.std.proofs.Common.{◌≡◌, ℕ, zero, suc, ◌+◌, ◌-◌, ◌<◌, ◌≤◌, Bool, true, false, List, length, drop, get_or, Decides, sym, refl, ap, ◌∙◌, inl, inr, arith}
use Rattle.std.specs.Bool.{MatchBool}
use Rattle.std.specs.List.{AllWithin, HoldsAt}
use Rattle.std.proofs.lemmas.List.{get_or-drop, length-drop}
use Rattle.std.proofs.lemmas.Bool.{cases_lt, false≢true}
use Rattle.elements.specs.Element.{Shown, entry}
use Rattle.elements.proofs.Terms.{entry_past}
use Rattle.orderings.specs.Fit.{Admitted, Fit}

-- what holds of exponent 0, and of each of the eight exponents at its variable, holds of every exponent
pub of_each : (P : ℕ → ℕ → Type 0) (xs : List ℕ) → length xs ≡ 8 → ((v : ℕ) → P v 0) →
    ((k : ℕ) → k < 8 → P (suc k) (get_or xs k 0)) → (v : ℕ) → P v (entry xs v)
of_each P xs n none each zero = none 0
of_each P xs n none each (suc k) = elim (cases_lt k 8) [
  | inl l ↦ each k l
  | inr l ↦ rw (entry_past xs (suc k) (omega arith)) (none (suc k))
]

-- where the exponents after the first n are 0, and only there, an element of a family of its kind is admitted
pub admitted_by_places : (admits : ℕ → Bool) (n : ℕ) (e : Shown) (xs : List ℕ) (r : Bool) → xs ≡ e.exponents →
    length xs ≡ 8 →
    admits e.family ≡ true → e.family ≤ 255 → ((k : ℕ) → k < 8 → get_or xs k 0 ≤ 65535) →
    MatchBool r (AllWithin (λ x. x ≡ 0) (drop n xs) 0 (length (drop n xs)))
    ((k : ℕ) × (k < length (drop n xs)) × HoldsAt (λ x. x ≡ 0 → ⊥) (drop n xs) k) →
    Decides r (Admitted admits n e)
admitted_by_places admits n e xs true is eight family byte bound h = (
  λ _. record {
    family = family;
    byte = byte;
    eight = ap length (sym is) ∙ eight;
    bound = rw is at (of_each (λ v x. x ≤ 65535) xs eight (λ v. omega arith) bound);
    unused = rw is at (of_each (λ v x. n < v → x ≡ 0) xs eight (λ v l. refl)
        (λ k l m. rw (sum k m) at (sym (get_or-drop n xs (k - n) 0)) ∙
        h (k - n) 0 (omega arith) (omega (arith, length-drop n xs))));
  },
  λ _. refl,
)
  where
    sum : (k : ℕ) → n < suc k → n + (k - n) ≡ k
    sum k m = omega arith
admitted_by_places admits n e xs false is eight family byte bound (k, l, h) = (
  λ t. absurd (false≢true t),
  λ a. absurd (h 0 (get_or-drop n xs k 0 ∙ rw (← is) at (a.unused (suc (n + k)) (omega arith)))),
)

-- where no exponent of an admitted element is above 4,095, and only there, it fits
pub fit_by_places : (admits : ℕ → Bool) (n : ℕ) (e : Shown) (xs : List ℕ) (r : Bool) → xs ≡ e.exponents →
    length xs ≡ 8 → Admitted admits n e →
    MatchBool r (AllWithin (λ x. x ≤ 4095) xs 0 (length xs))
    ((k : ℕ) × (k < length xs) × HoldsAt (λ x. 4095 < x) xs k) → Decides r (Fit admits n e)
fit_by_places admits n e xs true is eight a h = (
  λ _. record {
    admitted = a;
    small =
        rw is at (of_each (λ v x. x ≤ 4095) xs eight (λ v. omega arith) (λ k l. h k 0 (omega arith) (omega arith)));
  },
  λ _. refl,
)
fit_by_places admits n e xs false is eight a (k, l, h) =
    (λ t. absurd (false≢true t), λ f. absurd (omega (arith, h 0, rw (← is) at (f.small (suc k)))))
