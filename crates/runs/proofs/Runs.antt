-- Runs of requests on a sheet. Assumes nothing.
use Rattle.std.proofs.Common.{◌≡◌, ℕ, ◌+◌, ◌<◌, ◌≤◌, Bool, List, [], ◌∷◌, ◌++◌, map, length, get_or, take, set, Some, Ok, Err, Result, IsErrAnd, vec_len, sym, refl, ◌∙◌, subst}
use Rattle.std.proofs.Math.Seq.{map-set_same}
use Rattle.std.proofs.lemmas.List.{map_push, take_all, take_more_set}
use Rattle.elements.specs.Element.{Shown}
use Rattle.orderings.specs.Answer.{Answer}
use Rattle.divisions.specs.Laws.{Meaning, Lawful}
use Rattle.sheets.specs.declared.parts.Parts.{Parts}
use Rattle.sheets.specs.declared.open_sheet.OpenSheet.{OpenSheet}
use Rattle.sheets.specs.declared.answers.Denied.{Denied}
use Rattle.sheets.specs.Book.{Call}
use Rattle.sheets.specs.History.{LawfulCall, History}
use Rattle.sheets.specs.Read.{OpensAsPromised}
use Rattle.sheets.proofs.Histories.{holds_after_every_call, reached_by}
use Rattle.runs.specs.declared.requests.Request.{Request}
use Rattle.runs.specs.declared.requests.Request.TheVariants.{Insert, Withdraw, Arrange, Bar, Limit, Verdict, Weigh, Settle, Locate, Reopen}
use Rattle.runs.specs.declared.requests.Exchange.{Exchange}
use Rattle.runs.specs.declared.requests.Sheet.{Sheet}
use Rattle.runs.specs.declared.requests.Sheet.TheVariants.{Open}
use Rattle.runs.specs.Replies.{Reply, book_of, call_of, answer_of, HasItsForm, IsReplied, AreReplied, StepFollowsThePlainBook, SheetEqualsThePlainBook, SheetIsAsPromised, StepEqualsThePlainBookAfterEveryCall, GrantsOpening, BeginsAsPromised, RepliesToAll, ReplaysAsPromised}

-- requests bring lawful divisions
module _ {E D : Type 0} (shown : E → Shown) (meaning : D → Meaning) (law : (d : D) → Lawful (meaning d)) where
  pub lawful_call : (k : Request E D) → LawfulCall (call_of shown meaning k)
  lawful_call (Insert e) = tt
  lawful_call (Withdraw e) = tt
  lawful_call (Arrange list) = tt
  lawful_call (Bar p v) = tt
  lawful_call (Limit d p v) = law d
  lawful_call (Verdict d) = law d
  lawful_call (Weigh d list) = law d
  lawful_call (Settle d) = law d
  lawful_call (Locate e) = tt
  lawful_call Reopen = tt

module _ {E D : Type 0} (admits : ℕ → Bool) (shown : E → Shown) (meaning : D → Meaning) where
  -- a sheet that was opened
  pub begun : (parts : Parts E) (start : OpenSheet E) → OpensAsPromised admits shown parts (Ok start) →
      BeginsAsPromised admits shown meaning parts (Ok (Open start))
  begun parts start opens = (opens.answered, opens.once_opened)

  -- a call that follows the plain book does so after every history
  pub stepped_as_promised : ((d : D) → Lawful (meaning d)) → (before s : Sheet E D) (request : Request E D)
      (after : Sheet E D) (reply : Reply E) → before ≡ s →
      StepFollowsThePlainBook admits shown meaning s request after reply →
      StepEqualsThePlainBookAfterEveryCall admits shown meaning before request after reply
  stepped_as_promised law before s request after reply same step h given =
      let equals : SheetEqualsThePlainBook admits shown meaning h s =
      subst (λ (x : Sheet E D). SheetEqualsThePlainBook admits shown meaning h x) same given in
      let reached = reached_by equals.reached (book_of admits shown meaning after) (call_of shown meaning request)
      (answer_of shown reply) (lawful_call shown meaning law request)
      (step.answered equals.makes_sheet) (step.follows equals.makes_sheet) in
      record {
        equals_the_plain_book = record { makes_sheet = step.makes_sheet equals.makes_sheet; reached = reached };
        holds_after_every_call = holds_after_every_call reached;
      }

  -- an opening that was refused: no call is performed
  pub unopened : (parts : Parts E) (xs : List (Exchange E D)) (denied : Denied (Parts E))
      (result : Result (Sheet E D) (Denied (Parts E))) →
      BeginsAsPromised admits shown meaning parts (Err denied) → IsErrAnd result (λ d. d ≡ denied) →
      ReplaysAsPromised admits shown meaning parts xs xs result
  unopened parts xs denied (Ok sheet) begins e = absurd e
  unopened parts xs denied (Err d) begins e = rw e (begins, refl)

  -- the history of the first i of a list of calls on a sheet that was opened over the parts
  abbrev pub history : Parts E → List (Exchange E D) → List Answer → History
  history parts xs answers = record {
    variables = parts.header.variables;
    places = vec_len parts.table;
    calls = map (λ (x : Exchange E D). call_of shown meaning x.request) xs;
    answers = answers;
  }

  -- the sheet after the first i of a list of calls, each with its reply at its place
  pub record SoFar (parts : Parts E) (given xs : List (Exchange E D)) (i : ℕ) (sheet : Sheet E D) : Type 0 where
    pub grants_opening : GrantsOpening admits shown meaning parts
    pub same_requests : map (λ (x : Exchange E D). x.request) xs ≡ map (λ (x : Exchange E D). x.request) given
    pub answers : List Answer
    pub are_replied : AreReplied shown meaning (take i xs) answers
    pub is_as_promised : SheetIsAsPromised admits shown meaning (history parts (take i xs) answers) sheet

  pub none_so_far : (parts : Parts E) (given : List (Exchange E D)) (sheet : Sheet E D) →
      BeginsAsPromised admits shown meaning parts (Ok sheet) → SoFar parts given given 0 sheet
  none_so_far parts given sheet begins =
      record {
        grants_opening = begins.0;
        same_requests = refl;
        answers = [];
        are_replied = tt;
        is_as_promised =
            begins.1;
      }

  replied_push : {x : Exchange E D} {told : Answer} → IsReplied shown meaning x told →
      (xs : List (Exchange E D)) (ys : List Answer) →
      AreReplied shown meaning xs ys → AreReplied shown meaning (xs ++ x ∷ []) (ys ++ told ∷ [])
  replied_push is [] [] t = (is, tt)
  replied_push is [] (y ∷ ys) t = absurd t
  replied_push is (x ∷ xs) [] t = absurd t
  replied_push is (x ∷ xs) (y ∷ ys) t = (t.0, replied_push is xs ys t.1)

  -- one call more
  pub one_so_more : {parts : Parts E} {given xs : List (Exchange E D)} {i : ℕ} {sheet : Sheet E D} (after : Sheet E D)
      (d : Exchange E D) (reply : Reply E) →
      i < length xs → SoFar parts given xs i sheet → StepEqualsThePlainBookAfterEveryCall admits shown meaning sheet
      (get_or xs i d).request after reply →
      HasItsForm shown meaning (get_or xs i d).request reply →
      SoFar parts given (set xs i (record { request = (get_or xs i d).request; reply = Some reply })) (i + 1) after
  one_so_more {parts} {given} {xs} {i} {sheet} after d reply l so_far step form =
      let x : Exchange E D = get_or xs i d in
      let y : Exchange E D = record { request = x.request; reply = Some reply } in
      let told = answer_of shown reply in
      let taken : take (i + 1) (set xs i y) ≡ take i xs ++ y ∷ [] = take_more_set xs i y l in
      let calls : map (λ (z : Exchange E D). call_of shown meaning z.request) (take i xs) ++ call_of shown meaning
      x.request ∷ [] ≡
      map (λ (z : Exchange E D). call_of shown meaning z.request) (take i xs ++ y ∷ []) =
      sym (map_push (λ (z : Exchange E D). call_of shown meaning z.request) (take i xs) y) in
      let answers = so_far.answers ++ told ∷ [] in
      record {
        grants_opening = so_far.grants_opening;
        same_requests = map-set_same (λ (z : Exchange E D). z.request) xs i y d refl ∙ so_far.same_requests;
        answers = answers;
        are_replied = subst (λ (zs : List (Exchange E D)). AreReplied shown meaning zs answers) (sym taken)
            (replied_push (record { reply = reply; written = refl; tells = refl; has_its_form = form }) (take i xs)
            so_far.answers so_far.are_replied);
        is_as_promised = subst (λ (zs : List (Exchange E D)). SheetIsAsPromised admits shown meaning
            (history parts zs answers) after) (sym taken)
            (subst (λ (cs : List Call). SheetIsAsPromised admits shown meaning
            (record {
              variables = parts.header.variables;
              places = vec_len parts.table;
              calls = cs;
              answers =
                  answers;
            }) after) calls
            (step (history parts (take i xs) so_far.answers) so_far.is_as_promised.equals_the_plain_book));
      }

  pub all_so_far : {parts : Parts E} {given xs : List (Exchange E D)} {i : ℕ} {sheet : Sheet E D} → length xs ≤ i →
      SoFar parts given xs i sheet →
      RepliesToAll admits shown meaning parts given xs sheet
  all_so_far {parts} {given} {xs} {i} {sheet} l so_far =
      let all : take i xs ≡ xs = take_all i xs l in
      record {
        grants_opening = so_far.grants_opening;
        same_requests = so_far.same_requests;
        answers = so_far.answers;
        are_replied = subst (λ (zs : List (Exchange E D)). AreReplied shown meaning zs so_far.answers)
            all so_far.are_replied;
        is_as_promised = subst (λ (zs : List (Exchange E D)). SheetIsAsPromised admits shown meaning
            (history parts zs so_far.answers) sheet) all so_far.is_as_promised;
      }
