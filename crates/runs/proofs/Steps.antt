-- One call on a sheet of either state, from the call's own contract. Assumes nothing.
use Rattle.std.proofs.Common.{◌≡◌, ℕ, Bool, List, Some, None, Ok, Err, Result, IsErrAnd, sym, refl, ap, ◌∙◌, subst, inl}
use Rattle.elements.specs.Element.{Shown}
use Rattle.orderings.specs.Answer.{Answer, granted, refused, answer}
use Rattle.orderings.specs.declared.refusals.Refusal.{Refusal}
use Rattle.divisions.specs.Laws.{Meaning}
use Rattle.sheets.specs.declared.parts.Parts.{Parts}
use Rattle.sheets.specs.declared.open_sheet.OpenSheet.{OpenSheet}
use Rattle.sheets.specs.Book.{Takes}
use Rattle.sheets.specs.Read.{ActsAsPromised}
use Rattle.runs.specs.declared.requests.Request.{Request}
use Rattle.runs.specs.declared.requests.NotGranted.TheVariants.{NotTaken, Refused}
use Rattle.runs.specs.declared.requests.Grant.{Grant}
use Rattle.runs.specs.declared.requests.Sheet.{Sheet}
use Rattle.runs.specs.declared.requests.Sheet.TheVariants.{Open}
use Rattle.runs.specs.Replies.{Reply, grant_told, grant_form, parts_of, state_of, call_of, answer_of, Form, form_of, asked_form, StepFollowsThePlainBook}

pub nothing_is_some : {X : Type 0} {x : X} → None ≡ Some x → ⊥
nothing_is_some e = absurd cc

pub one_some : {X : Type 0} {a b : X} → Some a ≡ Some b → b ≡ a
one_some e = cc

module _ {E D : Type 0} (admits : ℕ → Bool) (shown : E → Shown) (meaning : D → Meaning) where
  -- a call that the state takes
  pub taken_step : (before s t : Sheet E D) (request k : Request E D) (reply : Reply E) (told : Answer) → before ≡ s →
      request ≡ k → answer_of shown reply ≡ told →
      Takes (state_of meaning s) (call_of shown meaning k) →
      ActsAsPromised admits shown (state_of meaning s) (parts_of s) (call_of shown meaning k) told (state_of meaning t)
      (parts_of t) →
      ((r : ℕ) (vs : List ℕ) → told ≡ refused r vs → t ≡ s) →
      ((f : Form) → form_of reply ≡ Some f → f ≡ asked_form (call_of shown meaning k)) →
      StepFollowsThePlainBook admits shown meaning before request t reply
  taken_step before s t request k reply told same asked replied takes m back form =
      let at : StepFollowsThePlainBook admits shown meaning s k t reply = record {
        makes_sheet = m.follows_the_plain_book.makes_sheet;
        follows = m.follows_the_plain_book.follows;
        answered = λ st. rw replied (m.follows_the_plain_book.answered st);
        refused_by_3 = λ never. absurd (never takes);
        refused_by_8 = λ _ none. replied ∙ m.follows_the_plain_book.refused_by_8 none;
        refused_alters_nothing = λ r vs e. back r vs (sym replied ∙ e);
        has_its_form = form;
      } in
      subst (λ (x : Sheet E D). StepFollowsThePlainBook admits shown meaning x request t reply) (sym same)
      (subst (λ (x : Request E D). StepFollowsThePlainBook admits shown meaning s x t reply) (sym asked) at)

  -- a call on an open sheet that stays open: what the parts are, the sheet is
  pub open_step : (before : Sheet E D) (s t : OpenSheet E) (request k : Request E D) (reply : Reply E)
      (told : Answer) → before ≡ Open s → request ≡ k → answer_of shown reply ≡ told →
      Takes (state_of {E = E} meaning (Open s)) (call_of shown meaning k) →
      ActsAsPromised admits shown (state_of {E = E} meaning (Open s)) s.parts (call_of shown meaning k) told
      (state_of {E = E} meaning (Open t)) t.parts →
      ((f : Form) → form_of reply ≡ Some f → f ≡ asked_form (call_of shown meaning k)) →
      StepFollowsThePlainBook admits shown meaning before request (Open t) reply
  open_step before s t request k reply told same asked replied takes m form =
      taken_step before (Open s) (Open t) request k reply told same asked replied takes m
      (λ r vs e. ap (λ (p : Parts E). Open (record { parts = p }))
      (m.follows_the_plain_book.refused_alters_nothing r vs e).1) form

  -- a call that leaves an open sheet open, and what it was told
  module _ (s t : OpenSheet E) (request k : Request E D) {R : Type 0} (tells : R → List ℕ) (told : Result R Refusal)
      (asked : request ≡ k)
      (takes : Takes (state_of {E = E} meaning (Open s)) (call_of shown meaning k))
      (m : ActsAsPromised admits shown (state_of {E = E} meaning (Open s)) s.parts (call_of shown meaning k)
      (answer tells told) (state_of {E = E} meaning (Open t)) t.parts) where
    pub granted_step : (x : R) (gr : Grant E) → told ≡ Ok x → grant_told shown gr ≡ tells x →
        grant_form gr ≡ asked_form (call_of shown meaning k) →
        StepFollowsThePlainBook admits shown meaning (Open s) request (Open t) (Ok gr)
    granted_step x gr is same form =
        open_step (Open s) s t request k (Ok gr) (answer tells told) refl asked (ap granted same ∙
        ap (answer tells) (sym is)) takes m (λ f e. one_some e ∙ form)

    pub refused_step : (why : Refusal) (reply : Reply E) → told ≡ Err why → IsErrAnd reply (λ n. n ≡ Refused why) →
        StepFollowsThePlainBook admits shown meaning (Open s) request (Open t) reply
    refused_step why reply is error =
        subst (λ (r : Reply E). StepFollowsThePlainBook admits shown meaning (Open s) request (Open t) r)
        (sym (reply_is reply error))
        (open_step (Open s) s t request k (Err (Refused why)) (answer tells told) refl asked
        (ap (answer tells) (sym is)) takes m (λ f e. absurd (nothing_is_some e)))
      where
        reply_is : (r : Reply E) → IsErrAnd r (λ n. n ≡ Refused why) → r ≡ Err (Refused why)
        reply_is (Ok x) e = absurd e
        reply_is (Err n) e = ap Err e

  -- a call that the state does not take
  pub untaken_step : (before s : Sheet E D) (request k : Request E D) → before ≡ s → request ≡ k →
      (Takes (state_of meaning s) (call_of shown meaning k) → ⊥) →
      StepFollowsThePlainBook admits shown meaning before request s (Err NotTaken)
  untaken_step before s request k same asked never =
      let at : StepFollowsThePlainBook admits shown meaning s k s (Err NotTaken) = record {
        makes_sheet = λ st. st;
        follows = λ _. inl (never, refl);
        answered = λ _. inl (never, refl);
        refused_by_3 = λ _. refl;
        refused_by_8 = λ takes _. absurd (never takes);
        refused_alters_nothing = λ _ _ _. refl;
        has_its_form = λ f e. absurd (nothing_is_some e);
      } in
      subst (λ (x : Sheet E D). StepFollowsThePlainBook admits shown meaning x request s (Err NotTaken)) (sym same)
      (subst (λ (x : Request E D). StepFollowsThePlainBook admits shown meaning s x s (Err NotTaken)) (sym asked) at)
