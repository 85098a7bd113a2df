-- The smallest of a list of numbers that may be absent. Assumes nothing.
use Rattle.std.proofs.Common.{◌≡◌, ℕ, zero, suc, ◌<◌, ◌≤◌, min, ◌⊎◌, List, [], ◌∷◌, map, length, get_or, Some, None, Option, sym, refl, ap, ◌∙◌, inl, inr, arith}
use Rattle.std.specs.List.{fold, reduce, filter_map, cons_option}
use Rattle.std.proofs.lemmas.Bool.{cases_lt}
use Rattle.std.proofs.lemmas.Option.{none-some}
use Rattle.barcode.specs.Gap.{lesser, least}

pub lesser_assoc : (a b c : Option ℕ) → lesser (lesser a b) c ≡ lesser a (lesser b c)
lesser_assoc None b c = refl
lesser_assoc (Some x) None c = refl
lesser_assoc (Some x) (Some y) None = refl
lesser_assoc (Some x) (Some y) (Some z) = ap Some (omega arith)

fold_min : (xs : List ℕ) (x : ℕ) → Some (fold min x xs) ≡ lesser (Some x) (reduce min xs)
fold_min [] x = refl
fold_min (y ∷ ys) x = fold_min ys (min x y) ∙ lesser_assoc (Some x) (Some y) (reduce min ys) ∙
    ap (lesser (Some x)) (sym (fold_min ys y))

least_with : (o : Option ℕ) (xs : List ℕ) → reduce min (cons_option o xs) ≡ lesser o (reduce min xs)
least_with None xs = refl
least_with (Some x) xs = fold_min xs x

-- the least of the numbers that are there
pub least_picked : {X Y : Type 0} (f : Y → Option ℕ) (h : X → Y) (xs : List X) →
    reduce min (filter_map (λ x. f (h x)) xs) ≡ least (map f (map h xs))
least_picked f h [] = refl
least_picked f h (x ∷ xs) = least_with (f (h x)) (filter_map (λ y. f (h y)) xs) ∙
    ap (lesser (f (h x))) (least_picked f h xs)

-- what a least number is: one of the list, and above none of it
module _ {Y : Type 0} (f : Y → Option ℕ) (e : Y) where
  under_left : (a : Option ℕ) (d : ℕ) (b : Option ℕ) → a ≡ Some d → (m : ℕ) × (lesser a b ≡ Some m) × (m ≤ d)
  under_left a d None h = (d, rw h, omega arith)
  under_left a d (Some y) h = (min d y, rw h, omega arith)

  under_right : (a b : Option ℕ) (d : ℕ) → ((m : ℕ) × (b ≡ Some m) × (m ≤ d)) →
      (m : ℕ) × (lesser a b ≡ Some m) × (m ≤ d)
  under_right None b d h = h
  under_right (Some x) b d h = (min x h.0, let q = h.1 in rw q, omega (arith, h.2))

  pub least_under : (ys : List Y) (j d : ℕ) → j < length ys → f (get_or ys j e) ≡ Some d →
      (m : ℕ) × (least (map f ys) ≡ Some m) × (m ≤ d)
  least_under [] j d l h = absurd (omega arith)
  least_under (y ∷ ys) zero d l h = under_left (f y) d (least (map f ys)) h
  least_under (y ∷ ys) (suc j) d l h = under_right (f y) (least (map f ys)) d (least_under ys j d (omega arith) h)

  chosen : (a b : Option ℕ) (m : ℕ) → lesser a b ≡ Some m → (a ≡ Some m) ⊎ (b ≡ Some m)
  chosen None b m h = inr h
  chosen (Some x) None m h = inl h
  chosen (Some x) (Some y) m h =
      let q : min x y ≡ m = cc in
      elim (cases_lt x y) [ inl l ↦ inl (ap Some (omega arith)) | inr l ↦ inr (ap Some (omega arith)) ]

  pub least_found : (ys : List Y) (m : ℕ) → least (map f ys) ≡ Some m →
      (j : ℕ) × (j < length ys) × (f (get_or ys j e) ≡ Some m)
  least_found [] m h = absurd (none-some m h)
  least_found (y ∷ ys) m h =
      elim (chosen (f y) (least (map f ys)) m h) [
        | inl q ↦ (0, omega arith, q)
        | inr q ↦ (let r = least_found ys m q in (suc r.0, omega (arith, r.1), r.2))
      ]
