-- What holds of every sound book. Assumes nothing.
use Rattle.std.proofs.Common.{◌≡◌, ℕ, ◌≤◌, List, [], ◌∷◌, length, sym, refl, ap, subst, inl, inr, arith}
use Rattle.elements.specs.Element.{Shown}
use Rattle.orderings.specs.Answer.{Answer, granted, refused}
use Rattle.orderings.specs.Fit.{Admitted}
use Rattle.orderings.specs.Order.{IsOrdering}
use Rattle.divisions.specs.Laws.{Meaning, Lawful, OnSheet}
use Rattle.cones.specs.Cones.{InCone}
use Rattle.cones.proofs.Divisors.{cones_are_disjoint}
use Rattle.cones.proofs.Wider.{lawful_limits_are_separated, janet_like_completes_what_any_division_completes}
use Rattle.search.specs.Liveness.{tested}
use Rattle.search.specs.Theorems.{NoneComplete}
use Rattle.sheets.specs.Book.{Book, State, opened, settled_by, settle, locate, Takes, Located, TellsSettled, serving, unserved, with_state, Answered}
use Rattle.sheets.specs.History.{Multiple, SettlingFindsNone, NoFalseNone, OneConeForEachMultiple, LocatingNamesThatCone, LocatingFindsNoOther, JanetLikeCompletesToo}
use Rattle.sheets.proofs.Sound.{Sound}

pub on : (b : Book) → Sound b → (order : List ℕ) → IsOrdering b.n order → OnSheet b.n b.rows order
on b sound order o =
    record {
      kind = b.admits;
      variables = sound.variables;
      few = omega (arith, sound.room, sound.places.most);
      fit =
          sound.rows;
      ordered = o;
    }

-- no element lies in two cones of a lawful division
pub one_cone : (b : Book) → Sound b → (m : Meaning) → Lawful m → (s t : ℕ) (w : Shown) →
    InCone b.n b.rows (m b.rows b.order) s w → InCone b.n b.rows (m b.rows b.order) t w → s ≡ t
one_cone b sound m law s t w =
    cones_are_disjoint b.admits b.n b.order b.rows (m b.rows b.order) sound.ordered sound.rows
    (lawful_limits_are_separated m law b.n b.rows b.order (on b sound b.order sound.ordered)) s t w

-- an answer of 16 is given where no ordering serves
by_sixteen : (n : ℕ) (rows : List Shown) (d : Meaning) (told : Answer) (vs : List ℕ) → TellsSettled n rows d told →
    told ≡ refused 16 vs → NoneComplete d n rows
by_sixteen n rows d told vs (serving best) e = absurd cc
by_sixteen n rows d told vs (unserved never) e = never

not_that_number : {r q : ℕ} {us vs : List ℕ} → refused r us ≡ refused q vs → r ≡ q
not_that_number e = cc

module _ (b : Book) (sound : Sound b) where
  finds_none : 1 ≤ length b.rows → (d : Meaning) → SettlingFindsNone b d → NoneComplete d b.n b.rows
  finds_none some d (count, inl x) = absurd (omega (arith, not_that_number x.1))
  finds_none some d (count, inr (t, inl x)) = absurd (omega (arith, not_that_number x.1))
  finds_none some d (count, inr (t, inr (h, tells))) = by_sixteen b.n b.rows d (refused 16 (count ∷ [])) (count ∷ [])
      tells refl

  found_none : b.state ≡ opened → 1 ≤ length b.rows → (d : Meaning) → NoneComplete d b.n b.rows → SettlingFindsNone b d
  found_none free some d never =
      let takes : Takes b.state (settle d) = subst (λ (s : State). Takes s (settle d)) (sym free) tt in
      (length (tested d b.n b.rows), inr (takes, inr (some, unserved never)))

-- a settled book
module _ (b : Book) (m : Meaning) (sound : Sound b) (e : b.state ≡ settled_by m) where
  at_state : (P : Book → Type 0) → P (with_state b (settled_by m)) → P b
  at_state P p = let back : with_state b (settled_by m) ≡ b = ap (with_state b) (sym e) in subst P back p

  lies_once : (w : Shown) → Multiple b w → (s : ℕ) × Located b w s × ((t : ℕ) → Located b w t → t ≡ s)
  lies_once w (p, l, divides) =
      let kept = sound.settled m e in
      let here = kept.1 w p l divides in
      at_state (λ c. (s : ℕ) × Located c w s × ((t : ℕ) → Located c w t → t ≡ s))
      (here.0, here.1, λ t at. one_cone b sound m kept.0 t here.0 w at here.1)

  named_by : (x : Shown) → Admitted b.admits b.n x → Multiple b x → (s : ℕ) × Located b x s ×
      Answered b (locate x) (granted (s ∷ []))
  named_by x fit multiple =
      let s = lies_once x multiple in
      let takes : Takes b.state (locate x) = subst (λ (t : State). Takes t (locate x)) (sym e) tt in
      (s.0, s.1, inr (takes, inr (fit, inr ((s.0, s.1), (s.0, s.1, refl)))))

  not_named : (x : Shown) → Admitted b.admits b.n x → (Multiple b x → ⊥) → Answered b (locate x) (refused 17 [])
  not_named x fit never =
      let takes : Takes b.state (locate x) = subst (λ (t : State). Takes t (locate x)) (sym e) tt in
      inr (takes, inr (fit, inl (λ found. never (found.0, found.1.place, found.1.divides), refl)))

module _ (b : Book) (sound : Sound b) where
  pub no_false_none : NoFalseNone b
  no_false_none free some d law = (finds_none b sound some d, found_none b sound free some d)

  pub one_cone_for_each_multiple : OneConeForEachMultiple b
  one_cone_for_each_multiple m e = lies_once b m sound e

  pub locating_names_that_cone : LocatingNamesThatCone b
  locating_names_that_cone m e = named_by b m sound e

  pub locating_finds_no_other : LocatingFindsNoOther b
  locating_finds_no_other m e = not_named b m sound e

  pub janet_like_completes_too : JanetLikeCompletesToo b
  janet_like_completes_too d law order o = janet_like_completes_what_any_division_completes d law b.n b.rows order
      (on b sound order o)
