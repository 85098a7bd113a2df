-- The tests of bars say what the words say. Assumes nothing.
use Rattle.std.proofs.Common.{◌≡◌, ℕ, zero, suc, ◌-◌, ◌<◌, Bool, true, false, ◌&&◌, eqb, ltb, List, [], ◌∷◌, take, Some, None, Decides, refl, inl, inr, arith}
use Rattle.std.proofs.lemmas.Bool.{and_parts, and_from, or_cases, or_left, or_right, lt-ltb, ltb-true, eq-eqb, eqb-true, cond-true, cond-false, cases_order, false≢true}
use Rattle.std.proofs.lemmas.Bool.Decides.{Decides-and, Decides-eqb, Decides-ltb, Decides-like}
use Rattle.elements.specs.Element.{Shown, exponent}
use Rattle.orderings.specs.Order.{at, Agree, DifferAt}
use Rattle.barcode.specs.Bars.{position, SameBar, LowerBar, Rises, agrees, below, same_bar, lower_bar}
use Rattle.barcode.specs.Gap.{height, rises, rise}

pub agrees_decides : (order : List ℕ) (k : ℕ) (u w : Shown) → Decides (agrees (take k order) u w) (Agree order k u w)
agrees_decides order zero u w = (λ _ j l. absurd (omega arith), λ _. refl)
agrees_decides [] (suc k) u w = (λ _ j l. refl, λ _. refl)
agrees_decides (x ∷ xs) (suc k) u w =
    let rest = agrees_decides xs k u w in (
      λ t. let p = and_parts (eqb (exponent u x) (exponent w x)) (agrees (take k xs) u w) t in
          all (eqb-true _ _ p.0) (rest.0 p.1),
      λ a. and_from _ _ (eq-eqb _ _ (a 0 (omega arith))) (rest.1 (λ j l. a (suc j) (omega arith))),
    )
  where
    all : exponent u x ≡ exponent w x → Agree xs k u w → Agree (x ∷ xs) (suc k) u w
    all e a zero l = e
    all e a (suc j) l = a j (omega arith)

-- the first of k positions at which u and w differ, where u is smaller
abbrev pub Under : List ℕ → ℕ → Shown → Shown → Type 0
Under order k u w = (j : ℕ) × (j < k) × Agree order j u w × (exponent u (at order j) < exponent w (at order j))

pub below_decides : (order : List ℕ) (k : ℕ) (u w : Shown) → Decides (below (take k order) u w) (Under order k u w)
below_decides order zero u w = (λ t. absurd (false≢true t), λ d. absurd (omega (arith, d.1)))
below_decides [] (suc k) u w = (λ t. absurd (false≢true t), λ d. absurd (omega (arith, d.3)))
below_decides (x ∷ xs) (suc k) u w =
    let rest = below_decides xs k u w in (
      λ t. elim (or_cases (ltb (exponent u x) (exponent w x))
          (eqb (exponent u x) (exponent w x) && below (take k xs) u w) t) [
            | inl a ↦ (0, omega arith, (λ j l. absurd (omega arith)), ltb-true _ _ a)
            | inr a ↦ (let p = and_parts (eqb (exponent u x) (exponent w x)) (below (take k xs) u w) a in
                let d = rest.0 p.1 in (suc d.0, omega (arith, d.1), later d.0 (eqb-true _ _ p.0) d.2, d.3))
          ],
      back rest.1,
    )
  where
    later : (i : ℕ) → exponent u x ≡ exponent w x → Agree xs i u w → Agree (x ∷ xs) (suc i) u w
    later i e a zero l = e
    later i e a (suc j) l = a j (omega arith)

    back : (Under xs k u w → below (take k xs) u w ≡ true) → Under (x ∷ xs) (suc k) u w →
        below (take (suc k) (x ∷ xs)) u w ≡ true
    back rest (zero, l, a, m) = or_left (ltb (exponent u x) (exponent w x)) _ (lt-ltb _ _ m)
    back rest (suc j, l, a, m) =
        or_right (ltb (exponent u x) (exponent w x)) _
        (and_from (eqb (exponent u x) (exponent w x)) _ (eq-eqb _ _ (a 0 (omega arith)))
        (rest (j, omega arith, (λ i h. a (suc i) (omega arith)), m)))

pub same_bar_decides : (order : List ℕ) (v : ℕ) (u w : Shown) → Decides (same_bar order v u w) (SameBar order v u w)
same_bar_decides order v u w =
    Decides-like (same_bar order v u w) (λ p. record { family = p.0; agree = p.1 }) (λ b. (b.family, b.agree))
    (Decides-and (eqb u.family w.family) _ (Decides-eqb u.family w.family)
    (agrees_decides order (suc (position order v)) u w))

pub lower_bar_decides : (order : List ℕ) (v : ℕ) (u w : Shown) → Decides (lower_bar order v u w) (LowerBar order v u w)
lower_bar_decides order v u w =
    Decides-like (lower_bar order v u w)
    (λ p. record {
      at_position = p.1.0;
      down_to = omega (arith, p.1.1);
      parts = record { family = p.0; above = p.1.2; smaller = p.1.3 };
    })
    (λ b. (b.parts.family, (b.at_position, omega (arith, b.down_to), b.parts.above, b.parts.smaller)))
    (Decides-and (eqb u.family w.family) _ (Decides-eqb u.family w.family)
    (below_decides order (suc (position order v)) u w))

pub rises_decides : (order : List ℕ) (v : ℕ) (u w : Shown) → Decides (rises order v u w) (Rises order v u w)
rises_decides order v u w =
    Decides-like (rises order v u w) (λ p. record { family = p.0; above = p.1.0; smaller = p.1.1 })
    (λ b. (b.family, (b.above, b.smaller)))
    (Decides-and (eqb u.family w.family) _ (Decides-eqb u.family w.family)
    (Decides-and (agrees (take (position order v) order) u w) _ (agrees_decides order (position order v) u w)
    (Decides-ltb (height order v u) (height order v w))))

-- the rise, by whether w counts
pub rise_some : (order : List ℕ) (v : ℕ) (u w : Shown) → Rises order v u w →
    rise order v u w ≡ Some (height order v w - height order v u)
rise_some order v u w r = cond-true (rises order v u w) _ None ((rises_decides order v u w).1 r)

pub rise_none : (order : List ℕ) (v : ℕ) (u w : Shown) → (Rises order v u w → ⊥) → rise order v u w ≡ None
rise_none order v u w h = cond-false (rises order v u w) _ None
    (false_from (rises order v u w) (rises_decides order v u w) h)
  where
    false_from : (b : Bool) → Decides b (Rises order v u w) → (Rises order v u w → ⊥) → b ≡ false
    false_from true d h = absurd (h (d.0 refl))
    false_from false d h = refl

-- what the first difference says of a rise
module _ (order : List ℕ) (v : ℕ) (u w : Shown) where
  pub none_elsewhere : (k : ℕ) → DifferAt order k u w → (k ≡ position order v → ⊥) → Rises order v u w → ⊥
  none_elsewhere k d ne r = elim (cases_order k (position order v)) [
    | inl e ↦ ne e
    | inr o ↦ elim o [ inl l ↦ d.here (r.above k l) | inr l ↦ omega (arith, d.above (position order v) l, r.smaller) ]
  ]
