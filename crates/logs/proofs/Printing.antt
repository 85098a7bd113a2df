-- The text of a command's line, by its answer. Assumes nothing.
use Rattle.std.proofs.Common.{◌≡◌, ℕ, ◌-◌, Bool, List, [], ◌∷◌, get_or, Some, None, Ok, Err, codes, decimal, Option, sym, refl, ap, ◌∙◌}
use Rattle.std.specs.Option.{option_map}
use Rattle.elements.specs.Element.{Shown}
use Rattle.orderings.specs.Answer.{Answer, refused}
use Rattle.divisions.specs.Laws.{Meaning}
use Rattle.divisions.specs.Numbered.{Numbered, numbered_meaning}
use Rattle.sheets.specs.Book.{Call, verdict, weigh, settle}
use Rattle.runs.specs.declared.requests.Grant.{Grant}
use Rattle.runs.specs.declared.requests.Request.{Request}
use Rattle.runs.specs.declared.requests.Sheet.{Sheet}
use Rattle.runs.specs.Replies.{Reply, parts_of, state_of, call_of, grant_told, grant_form, answer_of, Form, form_of, asked_form, done, StepFollowsThePlainBook, StepEqualsThePlainBookAfterEveryCall}
use Rattle.runs.proofs.Steps.{nothing_is_some, one_some}
use Rattle.lines.specs.declared.faults.Untaken.{Untaken}
use Rattle.lines.specs.declared.faults.Untaken.TheVariants.{WrongState, NoSuchDivision}
use Rattle.lines.specs.declared.faults.Cause.TheVariants.{Session}
use Rattle.lines.specs.declared.lines.Told.{Told}
use Rattle.lines.specs.declared.lines.Line.{Line}
use Rattle.lines.specs.Line.{told_words, granted_words, fault_words, line_text}
use Rattle.lines.specs.Words.{spaced, hex}
use Rattle.logs.specs.Session.{Calls, inserts, withdraws, arranges, judges, weighs, settles, locates, reopens, untaken, undivided, called, entry}
use Rattle.logs.specs.Told.{forms, values_words, entry_text, Requested}
use Rattle.logs.specs.Promised.{LineTells, PerformsAsPromised, makes_its_call, told_3, told_4}

-- the line of a granted reply, whose form is that of its code
pub granted_line : {E : Type 0} (shown : E → Shown) (place code n : ℕ) (reply : Reply E) (grant : Grant E)
    (told : Told) → reply ≡ Ok grant →
    told_words told ≡ values_words (grant_form grant) n (grant_told shown grant) →
    ((f : Form) → form_of reply ≡ Some f → get_or forms (code - 1) done ≡ f) →
    spaced (granted_words (record { place = place; code = code; told = told })) ≡ entry_text n
    (entry place code (answer_of shown reply))
granted_line shown place code n reply grant told same words asked =
    let fits : get_or forms (code - 1) done ≡ grant_form grant = asked (grant_form grant) (ap form_of same) in
    ap (λ (ws : List (List ℕ)). spaced (decimal place ∷ hex code ∷ codes "ok" ∷ ws))
    (words ∙ sym (ap (λ (x : Form). values_words x n (grant_told shown grant)) fits)) ∙
    ap (λ (a : Answer). entry_text n (entry place code a)) (sym (ap (answer_of shown) same))

-- the form of a code is that of the call which it makes
mapped_form : (make : Meaning → Call) (f : Form) → ((m : Meaning) → asked_form (make m) ≡ f) →
    (d : Option Meaning) (call : Call) → option_map make d ≡ Some call → f ≡ asked_form call
mapped_form make f h None call e = absurd (nothing_is_some e)
mapped_form make f h (Some m) call e = sym (h m) ∙ ap asked_form (sym (one_some e))

pub form_of_code : (code : ℕ) (operands : List ℕ) (o : Option Call) (call : Call) → Calls code operands o →
    o ≡ Some call → get_or forms (code - 1) done ≡ asked_form call
form_of_code code operands o call inserts e = ap asked_form (sym (one_some e))
form_of_code code operands o call withdraws e = ap asked_form (sym (one_some e))
form_of_code code operands o call arranges e = ap asked_form (sym (one_some e))
form_of_code code operands o call (judges {d = d} x) e = mapped_form verdict _ (λ _. refl) d call e
form_of_code code operands o call (weighs {d = d} {bytes = bytes} x) e =
    mapped_form (λ m. weigh m bytes) _ (λ _. refl) d call e
form_of_code code operands o call (settles {d = d} x) e = mapped_form settle _ (λ _. refl) d call e
form_of_code code operands o call locates e = ap asked_form (sym (one_some e))
form_of_code code operands o call reopens e = ap asked_form (sym (one_some e))

-- a command whose call was made
pub called_line : {E : Type 0} (admits : ℕ → Bool) (shown : E → Shown) (before after : Sheet E Numbered)
    (n place code seen : ℕ) (operands : List ℕ)
    (request : Request E Numbered) (reply : Reply E) (line : Line) →
    n ≡ (parts_of before).header.variables → seen ≡ code → Requested shown (state_of numbered_meaning before)
    code operands (Ok request) →
    StepFollowsThePlainBook admits shown numbered_meaning before request after reply →
    StepEqualsThePlainBookAfterEveryCall admits shown numbered_meaning before request after reply →
    (((f : Form) → form_of reply ≡ Some f → get_or forms (seen - 1) done ≡ f) → line_text line ≡ entry_text n
    (entry place seen (answer_of shown reply))) →
    PerformsAsPromised admits shown before place code operands after line
called_line admits shown before after n place code seen operands request reply line of_sheet same decided s promised
    text =
    let call = call_of shown numbered_meaning request in
    let form : get_or forms (code - 1) done ≡ asked_form call =
    form_of_code code operands (Some call) call decided.1 refl in
    let fits : (f : Form) → form_of reply ≡ Some f → get_or forms (seen - 1) done ≡ f =
    λ f e. ap (λ (x : ℕ). get_or forms (x - 1) done) same ∙ form ∙ sym (s.has_its_form f e) in
    let told : LineTells admits shown before place code (answer_of shown reply) line =
    text fits ∙ ap (λ (x : ℕ). entry_text n (entry place x (answer_of shown reply))) same ∙
    ap (λ (x : ℕ). entry_text x (entry place code (answer_of shown reply))) of_sheet in
    record {
      makes_sheet = s.makes_sheet;
      follows_the_plain_book = λ st. (
        answer_of shown reply,
        told,
        called decided.0 decided.1 (s.answered st)
            (s.follows st),
      );
      after_every_command = λ h equals. (
        answer_of shown reply,
        told,
        makes_its_call decided.0 decided.1
            (promised h equals),
      );
    }

-- a command that makes no call
pub passed_line : {E : Type 0} (admits : ℕ → Bool) (shown : E → Shown) (sheet : Sheet E Numbered)
    (place code seen : ℕ) (operands : List ℕ) (why : Untaken) (line : Line) → seen ≡ code →
    Requested shown (state_of numbered_meaning sheet) code operands (Err why) →
    line_text line ≡ spaced (fault_words (record { place = place; code = seen; cause = Session why })) →
    PerformsAsPromised admits shown sheet place code operands sheet line
passed_line admits shown sheet place code seen operands WrongState line same never text =
    let told = text ∙ ap (λ (x : ℕ). spaced (decimal place ∷ hex x ∷ codes "no" ∷ decimal 3 ∷ [])) same in
    record {
      makes_sheet = λ st. st;
      follows_the_plain_book = λ _. (refused 3 [], told, untaken never);
      after_every_command = λ _ _. (refused 3 [], told, told_3 never);
    }
passed_line admits shown sheet place code seen operands NoSuchDivision line same none text =
    let told = text ∙ ap (λ (x : ℕ). spaced (decimal place ∷ hex x ∷ codes "no" ∷ decimal 4 ∷ [])) same in
    record {
      makes_sheet = λ st. st;
      follows_the_plain_book = λ _. (refused 4 [], told, undivided none.0 none.1);
      after_every_command = λ _ _. (refused 4 [], told, told_4 none.0 none.1);
    }
