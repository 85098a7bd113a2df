-- What a prefix holds as entries come and go. Assumes nothing.
use Rattle.std.proofs.Common.{◌≡◌, ℕ, suc, ◌+◌, ◌-◌, ◌<◌, ◌≤◌, false, List, [], ◌∷◌, ◌++◌, length, get_or, take, drop, set, replicate, refl, ap, ◌∙◌, sym, subst, add-one, append_assoc, arith, length-append, length-set, length-take, length-take-le, drop-cons, take-suc, take-suc-set}
use lib.Seq.{take-set-le, set_split}
use Rattle.std.specs.Coded.{×_prop, Unit-prop, le_prop}
use Rattle.std.specs.List.{AllByRecursion-prop}
use Rattle.std.proofs.Math.Bool.{Bool-set}
use Rattle.std.proofs.Math.Logic.{∥∥₁_elim}
use Rattle.std.proofs.Math.Seq.{drop-append_seam}
use Rattle.search.specs.Prefixes.{has, Apart, Entries, Prefix, padded}
use Rattle.search.specs.declared.prefix.Prefix.{Prefix as Listed}
use Rattle.search.proofs.Listed.{entries_snoc, entries_front, all_middle, apart_middle}
use Rattle.search.proofs.Orders.{count_unused, length_padded}

-- the first k entries of a, with zeros after them
pub record Held (n k : ℕ) (a : List ℕ) : Type 0 where
  pub long : length a ≡ 8
  pub most : n ≤ 8
  pub within : k ≤ n
  pub proper : Entries n (take k a)
  pub zeros : a ≡ padded (take k a)

Apart-prop : (q : List ℕ) → IsProp (Apart q)
Apart-prop [] = Unit-prop
Apart-prop (x ∷ xs) = ×_prop (Bool-set _ _) (Apart-prop xs)

Entries-prop : (n : ℕ) (q : List ℕ) → IsProp (Entries n q)
Entries-prop n q a b i = record {
  range = AllByRecursion-prop _ (λ x. ×_prop le_prop le_prop) q a.range b.range i;
  apart = Apart-prop q a.apart b.apart i;
}

pub open_entries : {n : ℕ} {q : List ℕ} → ∥ Entries n q ∥₁ → Entries n q
open_entries {n} {q} h = ∥∥₁_elim h (Entries-prop n q) (λ e. e)

-- what the type says
pub held : (p : Listed) → Held p.n p.len p.entries
held p =
    let short : length (take p.len p.entries) ≤ 8 = omega (arith, length-take p.len p.entries, p.within, p.few) in
    record {
      long = ap length p.zeros ∙ length_padded (take p.len p.entries) short;
      most = p.few;
      within = p.within;
      proper = open_entries p.proper;
      zeros = p.zeros;
    }

-- a list that lacks one of n numbers has fewer than n
room : (n : ℕ) (q : List ℕ) (x : ℕ) → Entries n q → (1 ≤ x) × (x ≤ n) → has x q ≡ false → length q < n
room n q x e range unused =
    omega (arith, count_unused n (q ++ (x ∷ [])) (entries_snoc n q x e range unused), length-append q (x ∷ []))

module _ {n k : ℕ} {a : List ℕ} (h : Held n k a) where
  pub length_held : length (take k a) ≡ k
  length_held = length-take-le k a (omega (arith, h.long, h.within, h.most))

  -- the zeros after them
  tail : drop k a ≡ replicate (8 - k) 0
  tail =
      subst (λ (i : ℕ). drop i a ≡ replicate (8 - i) 0) length_held
      (ap (λ (b : List ℕ). drop (length (take k a)) b) h.zeros
      ∙ drop-append_seam (take k a) (replicate (8 - length (take k a)) 0))

  pub held_prefix : 1 ≤ k → Prefix n (take k a)
  held_prefix some =
      record { some = omega (arith, length_held); most = omega (arith, length_held, h.within); entries = h.proper }

  module _ (j : ℕ) (z : k ≡ suc j) where
    place : j < length a
    place = omega (arith, h.long, h.within, h.most)

    pub held_last : take k a ≡ take j a ++ (get_or a j 0 ∷ [])
    held_last = ap (λ (i : ℕ). take i a) z ∙ take-suc a j 0 place

    pub last_range : (1 ≤ get_or a j 0) × (get_or a j 0 ≤ n)
    last_range = all_middle (λ y. (1 ≤ y) × (y ≤ n)) (take j a) (get_or a j 0) [] (rw held_last at h.proper.range)

    -- it is no other entry
    pub last_unused : has (get_or a j 0) (take j a) ≡ false
    last_unused = apart_middle (take j a) (get_or a j 0) [] (rw held_last at h.proper.apart)

    pub held_less : Held n j (set a j 0)
    held_less =
        let kept : take j (set a j 0) ≡ take j a = take-set-le j a j 0 (omega arith) in
        let shorter : length (take j a) ≡ j = length-take-le j a (omega arith) in
        let w : 8 - j ≡ suc (8 - k) = omega (arith, h.within, h.most) in
        let rest : drop (suc j) a ≡ replicate (8 - k) 0 = ap (λ (i : ℕ). drop i a) (sym z) ∙ tail in
        record {
          long = length-set a j 0 ∙ h.long;
          most = h.most;
          within = omega (arith, h.within);
          proper = rw kept (entries_front n (take j a) (get_or a j 0 ∷ []) (rw held_last at h.proper));
          zeros = rw kept (set_split a j 0 place ∙ rw (rest, shorter, w) refl);
        }

  module _ (x : ℕ) (range : (1 ≤ x) × (x ≤ n)) (unused : has x (take k a) ≡ false) where
    pub held_room : k < n
    held_room = omega (arith, room n (take k a) x h.proper range unused, length_held)

    inside : k < length a
    inside = omega (arith, h.long, h.most, held_room)

    pub taken_more : take (k + 1) (set a k x) ≡ take k a ++ (x ∷ [])
    taken_more = rw add-one (take-suc-set a k x inside)

    after : drop (suc k) a ≡ replicate (8 - suc k) 0
    after =
        let w : 8 - k ≡ suc (8 - suc k) = omega (arith, h.most, held_room) in
        let split : get_or a k 0 ∷ drop (suc k) a ≡ 0 ∷ replicate (8 - suc k) 0 =
        sym (drop-cons a k 0 inside) ∙ tail ∙ ap (λ (i : ℕ). replicate i 0) w in
        cc split

    pub held_more : Held n (k + 1) (set a k x)
    held_more = record {
      long = length-set a k x ∙ h.long;
      most = h.most;
      within = omega (arith, held_room);
      proper = rw taken_more (entries_snoc n (take k a) x h.proper range unused);
      zeros =
          let longer : length (take k a ++ (x ∷ [])) ≡ suc k =
          omega (arith, length-append (take k a) (x ∷ []), length_held) in
          rw taken_more (set_split a k x inside ∙ rw (longer, after)
          (sym (append_assoc (take k a) (x ∷ []) (replicate (8 - suc k) 0))));
    }
