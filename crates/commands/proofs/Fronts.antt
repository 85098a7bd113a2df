-- A log begins in one way only. Assumes nothing.
use Rattle.std.proofs.Common.{◌≡◌, ℕ, ◌+◌, List, [], ◌∷◌, ◌++◌, length, take, drop, sym, refl, ap, ◌∙◌, inl, inr, arith, length-append}
use Rattle.std.proofs.lemmas.List.{take_at, drop_at}
use Rattle.commands.specs.Log.{width, nothing, command, misread, Whole, Unknown, CutShort, ReadingHasOneOutcome}

-- two lists with equal starts of one length
front_same : (a b c d : List ℕ) → length a ≡ length c → a ++ b ≡ c ++ d → a ≡ c
front_same a b c d n e = sym (take_at a b (length c) n) ∙ ap (take (length c)) e ∙ take_at c d (length c) refl

back_same : (a b c d : List ℕ) → length a ≡ length c → a ++ b ≡ c ++ d → b ≡ d
back_same a b c d n e = sym (drop_at a b (length c) n) ∙ ap (drop (length c)) e ∙ drop_at c d (length c) refl

module _ (log : List ℕ) where
  empty_or_not : {X : Type 0} (first : ℕ) (rest : List ℕ) → log ≡ [] → log ≡ first ∷ rest → X
  empty_or_not first rest p q = let z : ◌≡◌ {A = ℕ} 0 (1 + length rest) = sym (ap length p) ∙ ap length q ∙
      omega arith in absurd (omega arith)

  whole_once : (c d : ℕ) (o p r s : List ℕ) → Whole log c o r → Whole log d p s → command c o r ≡ command d p s
  whole_once c d o p r s x y =
      let joined = sym x.parts ∙ y.parts in
      let code : c ≡ d = cc in
      let more : o ++ r ≡ p ++ s = cc in
      let wide : length o ≡ length p = x.wide ∙ ap width code ∙ sym y.wide in
      let front = front_same o r p s wide more in
      let back = back_same o r p s wide more in
      cc

  whole_or_unknown : {X : Type 0} (c f : ℕ) (o r : List ℕ) → Whole log c o r → Unknown log f → X
  whole_or_unknown c f o r x u = absurd (let joined = sym x.parts ∙ u.parts in let code : c ≡ f = cc in
      u.unknown (rw code at x.known))

  whole_or_short : {X : Type 0} (c f : ℕ) (o r : List ℕ) → Whole log c o r → CutShort log f → X
  whole_or_short c f o r x u = absurd (
      let joined = sym x.parts ∙ u.parts in
      let code : c ≡ f = cc in
      let more : o ++ r ≡ u.after = cc in
      omega (arith, x.wide, u.short, ap width code, simp length-append at (ap length more)))

  unknown_or_short : {X : Type 0} (f g : ℕ) → Unknown log f → CutShort log g → X
  unknown_or_short f g u s = absurd (let joined = sym s.parts ∙ u.parts in let code : g ≡ f = cc in
      u.unknown (rw code at s.known))

pub reading_has_one_outcome : ReadingHasOneOutcome
reading_has_one_outcome log nothing nothing p q = refl
reading_has_one_outcome log nothing (command d p' s) p q = empty_or_not log _ _ p q.parts
reading_has_one_outcome log nothing (misread g n) p (inl q) = empty_or_not log _ _ p q.0.parts
reading_has_one_outcome log nothing (misread g n) p (inr q) = empty_or_not log _ _ p q.0.parts
reading_has_one_outcome log (command c o r) nothing p q = empty_or_not log _ _ q p.parts
reading_has_one_outcome log (command c o r) (command d p' s) p q = whole_once log c d o p' r s p q
reading_has_one_outcome log (command c o r) (misread g n) p (inl q) = whole_or_unknown log c g o r p q.0
reading_has_one_outcome log (command c o r) (misread g n) p (inr q) = whole_or_short log c g o r p q.0
reading_has_one_outcome log (misread f m) nothing (inl p) q = empty_or_not log _ _ q p.0.parts
reading_has_one_outcome log (misread f m) nothing (inr p) q = empty_or_not log _ _ q p.0.parts
reading_has_one_outcome log (misread f m) (command d p' s) (inl p) q = whole_or_unknown log d f p' s q p.0
reading_has_one_outcome log (misread f m) (command d p' s) (inr p) q = whole_or_short log d f p' s q p.0
reading_has_one_outcome log (misread f m) (misread g n) (inl p) (inl q) = let joined = sym p.0.parts ∙ q.0.parts in
    cc (p.1, q.1)
reading_has_one_outcome log (misread f m) (misread g n) (inl p) (inr q) = unknown_or_short log f g p.0 q.0
reading_has_one_outcome log (misread f m) (misread g n) (inr p) (inl q) = unknown_or_short log g f q.0 p.0
reading_has_one_outcome log (misread f m) (misread g n) (inr p) (inr q) = let joined = sym p.0.parts ∙ q.0.parts in
    cc (p.1, q.1)
