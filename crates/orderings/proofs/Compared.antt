-- Compare has one answer, and exchanging the elements mirrors it. Assumes nothing.
use Rattle.std.proofs.Common.{◌≡◌, ℕ, Bool, List, [], ◌∷◌, sym, refl, subst, inl, inr, arith}
use Rattle.elements.specs.Element.{Shown}
use Rattle.orderings.specs.Answer.{Answer, granted, refused, Answers, comparison_number}
use Rattle.orderings.specs.Compare.{compare_checks, TellsComparison, below, same, above, Mirrors, below_above, above_below, same_same, refused_refused, CompareHasOneAnswer, SwappingMirrorsCompare}
use Rattle.orderings.specs.Fit.{Fit}
use Rattle.orderings.specs.Order.{IsOrdering, Below}
use Rattle.orderings.specs.declared.comparing.Comparison.{Comparison}
use Rattle.orderings.specs.declared.comparing.Comparison.TheVariants as case
use Rattle.orderings.specs.Comparison.{IsComparison}
use Rattle.orderings.proofs.Judging.{judged_alike, judged_once}
use Rattle.orderings.proofs.Positions.{few}
use Rattle.orderings.proofs.Lines.{irreflexive, asymmetric, same_shown}

stands_once : (order : List ℕ) (u w : Shown) (a b : Answer) → TellsComparison order u w a →
    TellsComparison order u w b → a ≡ b
stands_once order u w _ _ (below x) (below y) = refl
stands_once order u w _ _ (below x) (same y) = absurd (irreflexive order w (subst (λ (z : Shown). Below order z w) y x))
stands_once order u w _ _ (below x) (above y) = absurd (asymmetric order u w x y)
stands_once order u w _ _ (same x) (below y) = absurd (irreflexive order w (subst (λ (z : Shown). Below order z w) x y))
stands_once order u w _ _ (same x) (same y) = refl
stands_once order u w _ _ (same x) (above y) = absurd (irreflexive order w (subst (λ (z : Shown). Below order w z) x y))
stands_once order u w _ _ (above x) (below y) = absurd (asymmetric order u w y x)
stands_once order u w _ _ (above x) (same y) = absurd (irreflexive order w (subst (λ (z : Shown). Below order w z) y x))
stands_once order u w _ _ (above x) (above y) = refl

pub compare_has_one_answer : CompareHasOneAnswer
compare_has_one_answer admits n order u w a b x y =
    judged_once (λ r. refused r []) (TellsComparison order u w) (stands_once order u w)
    (compare_checks admits n order u w) a b x y

mirrored : (order : List ℕ) (u w : Shown) (a : Answer) → TellsComparison order u w a →
    (b : Answer) × (TellsComparison order w u b × Mirrors a b)
mirrored order u w _ (below x) = (granted (2 ∷ []), (above x, below_above))
mirrored order u w _ (same x) = (granted (1 ∷ []), (same (sym x), same_same))
mirrored order u w _ (above x) = (granted (0 ∷ []), (below x, above_below))

-- the checks of exchanged elements ask the same
exchanged : (admits : ℕ → Bool) (n : ℕ) (order : List ℕ) (u w : Shown) (G : Answer → Type 0) (a : Answer) →
    Answers (compare_checks admits n order u w) G a → Answers (compare_checks admits n order w u) G a
exchanged admits n order u w G a (inl x) = inl x
exchanged admits n order u w G a (inr (c, inl x)) = inr (c, inl (λ f. x.0 (f.1, f.0), x.1))
exchanged admits n order u w G a (inr (c, inr (f, x))) = inr (c, inr ((f.1, f.0), x))

pub swapping_mirrors_compare : SwappingMirrorsCompare
swapping_mirrors_compare admits n order u w a b x y =
    elim (judged_alike (λ r. refused r []) (TellsComparison order u w) (TellsComparison order w u)
    (compare_checks admits n order u w) a b x (exchanged admits n order w u (TellsComparison order w u) b y)) [
      | inl r ↦ subst (λ z. Mirrors z b) (sym r.1) (subst (λ z. Mirrors (refused r.0 []) z) (sym r.2) refused_refused)
      | inr g ↦ (let m = mirrored order u w a g.0 in
          subst (λ z. Mirrors a z) (stands_once order w u m.0 b m.1.0 g.1) m.1.1)
    ]

-- how one element stands to another, as a number
pub stands_from : (admits : ℕ → Bool) (n : ℕ) (order : List ℕ) (u w : Shown) (c : Comparison) → IsOrdering n order →
    Fit admits n u → Fit admits n w →
    IsComparison order u w c → TellsComparison order u w (granted (comparison_number c ∷ []))
stands_from admits n order u w case.Below o a b s = below s
stands_from admits n order u w case.Same o a b s =
    same (same_shown admits n order o u w a.admitted b.admitted s.0
    (λ j l. s.1 j (omega (arith, few n order o, o.eight))))
stands_from admits n order u w case.Above o a b s = above s
