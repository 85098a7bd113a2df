-- Exponents that are compared one after another. Assumes nothing.
use Rattle.std.proofs.Common.{◌≡◌, ℕ, ◌+◌, ◌<◌, ◌≤◌, Bool, ◌&&◌, leb, List, length, get_or, Decides, sym, inl, inr, arith}
use Rattle.std.proofs.lemmas.Bool.{cases_eq, leb-true, le-leb}
use Rattle.std.proofs.lemmas.Bool.Decides.{Decides-and, Decides-like}
use Rattle.elements.specs.Element.{Shown, Divides}
use Rattle.elements.proofs.Terms.{at_each, place_of}

-- no exponent of the first i is greater
abbrev pub NoneGreater : List ℕ → List ℕ → ℕ → Type 0
NoneGreater a b i = (k : ℕ) → k < i → get_or a k 0 ≤ get_or b k 0

pub compared_more : (P : Type 0) (a b : List ℕ) (i : ℕ) (r : Bool) (x : ℕ) → x ≡ get_or a i 0 →
    Decides r (P × NoneGreater a b i) →
    Decides (r && leb x (get_or b i 0)) (P × NoneGreater a b (i + 1))
compared_more P a b i r x read d =
    Decides-like (r && leb x (get_or b i 0))
    (λ t. (t.0.0, λ k l. elim (cases_eq k i) [ inl e ↦ rw (e, sym read) t.1 | inr o ↦ t.0.1 k (omega (arith, o)) ]))
    (λ t. ((t.0, λ k l. t.1 k (omega arith)), rw read (t.1 i (omega arith))))
    (Decides-and r (leb x (get_or b i 0)) d (leb-true x (get_or b i 0), le-leb x (get_or b i 0)))

pub compared_all : (u w : Shown) (a b : List ℕ) → a ≡ u.exponents → b ≡ w.exponents → length a ≡ 8 →
    (i : ℕ) → 8 ≤ i → (r : Bool) →
    Decides r ((u.family ≡ w.family) × NoneGreater a b i) → Decides r (Divides u w)
compared_all u w a b ea eb eight i all r d =
    Decides-like r (λ t. at_each u w a b ea eb eight t.0 (λ k l. t.1 k (omega arith)))
    (λ v. (v.family, λ k l. place_of u w a b ea eb v k)) d
