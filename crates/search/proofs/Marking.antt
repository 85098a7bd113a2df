-- Marks of the entries of a list, as entries come and go. Assumes nothing.
use Rattle.std.proofs.Common.{◌≡◌, ℕ, ◌<◌, Bool, true, false, eqb, ◌||◌, List, [], ◌∷◌, ◌++◌, length, set, sym, refl, ap, ◌∙◌, inl, inr}
use Rattle.std.proofs.lemmas.List.{get_or-set_same, get_or-set_other}
use Rattle.std.proofs.lemmas.Bool.{cases_eq, ne_eqb, or_from}
use Rattle.search.specs.Prefixes.{has, Marked}
use Rattle.search.proofs.Listed.{has_middle}

-- one entry more is no other
has_past : (q : List ℕ) (x y : ℕ) → (y ≡ x → ⊥) → has y q ≡ has y (q ++ (x ∷ []))
has_past [] x y d = sym (or_from (eqb x y) false (ne_eqb x y (λ e. d (sym e))) refl)
has_past (z ∷ zs) x y d = ap (λ b. eqb z y || b) (has_past zs x y d)

module _ (q : List ℕ) (x : ℕ) (marks : List Bool) (inside : x < length marks) where
  pub marked_more : Marked q marks → Marked (q ++ (x ∷ [])) (set marks x true)
  marked_more m = λ y. elim (cases_eq y x) [
    | inl e ↦ rw e (get_or-set_same marks x true false inside ∙ sym (has_middle x q []))
    | inr d ↦ get_or-set_other marks x y true false d ∙ m y ∙ has_past q x y d
  ]

  pub marked_less : has x q ≡ false → Marked (q ++ (x ∷ [])) marks → Marked q (set marks x false)
  marked_less unused m = λ y. elim (cases_eq y x) [
    | inl e ↦ rw e (get_or-set_same marks x false false inside ∙ sym unused)
    | inr d ↦ get_or-set_other marks x y false false d ∙ m y ∙ sym (has_past q x y d)
  ]
