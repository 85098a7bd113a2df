-- A prefix completed step by step. Assumes nothing.
use Rattle.std.proofs.Common.{◌≡◌, ℕ, ◌+◌, ◌-◌, ◌<◌, ◌≤◌, true, false, List, [], ◌∷◌, ◌++◌, take, set, sym, refl, ap, ◌∙◌, append_assoc, append-nil, arith}
use Rattle.search.specs.Prefixes.{has, unused_above, Entries, padded, completed}
use Rattle.search.proofs.Entries.{above_none, above_yes, above_no}
use Rattle.search.proofs.Listed.{apart_middle, all_middle}
use Rattle.search.proofs.Orders.{entries_completed}
use Rattle.search.proofs.Held.{Held, held_room, held_more, taken_more}

-- the unused numbers of p to m follow it in q
pub record Fills (n : ℕ) (p : List ℕ) (m : ℕ) (q : List ℕ) : Type 0 where
  pub left : q ++ unused_above n p m ≡ p ++ unused_above n p 0

module _ {n : ℕ} {p : List ℕ} {m : ℕ} {q : List ℕ} (f : Fills n p m q) where
  module _ (x : ℕ) (next : unused_above n p m ≡ x ∷ unused_above n p x) where
    step : q ++ (x ∷ unused_above n p x) ≡ p ++ unused_above n p 0
    step = ap (λ u. q ++ u) (sym next) ∙ f.left

    -- it is a variable, and not among the earlier ones
    pub fills_next : Entries n p → ((1 ≤ x) × (x ≤ n)) × (has x q ≡ false)
    fills_next e =
        let all : Entries n (q ++ (x ∷ unused_above n p x)) = rw step (entries_completed n p e) in (
          all_middle (λ y. (1 ≤ y) × (y ≤ n)) q x (unused_above n p x) all.range,
          apart_middle q x (unused_above n p x) all.apart,
        )

    pub fills_more : Fills n p x (q ++ (x ∷ []))
    fills_more = record { left = append_assoc q (x ∷ []) (unused_above n p x) ∙ step }

  pub fills_end : unused_above n p m ≡ [] → q ≡ p ++ unused_above n p 0
  fills_end none = sym (append-nil q) ∙ ap (λ u. q ++ u) (sym none) ∙ f.left

-- and q stands in an array
pub record Filled (n : ℕ) (p : List ℕ) (m k : ℕ) (a : List ℕ) : Type 0 where
  pub held : Held n k a
  pub fills : Fills n p m (take k a)

pub filled_start : (n : ℕ) (k : ℕ) (a : List ℕ) → Held n k a → Filled n (take k a) 0 k a
filled_start n k a h = record { held = h; fills = record { left = refl } }

module _ {n : ℕ} {p : List ℕ} {k : ℕ} {a : List ℕ} (x : ℕ) (f : Filled n p (x - 1) k a) (low : 1 ≤ x)
    (high : x ≤ n) where
  same : x - 1 + 1 ≡ x
  same = omega arith

  -- x is one of p
  pub filled_past : has x p ≡ true → Filled n p x k a
  filled_past own = record {
    held = f.held;
    fills = record {
      left = ap (λ u. take k a ++ u) (sym (rw same at (above_no n p (x - 1) (omega arith)
          (rw same own)))) ∙ f.fills.left;
    };
  }

  -- it is none
  module _ (e : Entries n p) (lacks : has x p ≡ false) where
    next : unused_above n p (x - 1) ≡ x ∷ unused_above n p x
    next = rw same at (above_yes n p (x - 1) (omega arith) (rw same lacks))

    fresh : ((1 ≤ x) × (x ≤ n)) × (has x (take k a) ≡ false)
    fresh = fills_next f.fills x next e

    pub filled_room : k < 8
    filled_room = omega (arith, held_room f.held x fresh.0 fresh.1, f.held.most)

    pub filled_with : Filled n p x (k + 1) (set a k x)
    filled_with = record {
      held = held_more f.held x fresh.0 fresh.1;
      fills = rw (taken_more f.held x fresh.0 fresh.1) (fills_more f.fills x next);
    }

pub filled_end : (n : ℕ) (p : List ℕ) (m k : ℕ) (a : List ℕ) → n ≤ m → Filled n p m k a → a ≡ completed n p
filled_end n p m k a through f = f.held.zeros ∙ ap padded (fills_end f.fills (above_none n p m through))
