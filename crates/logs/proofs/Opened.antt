-- The log of a sheet that was opened for it. Assumes nothing.
use Rattle.std.proofs.Common.{◌≡◌, ℕ, ◌-◌, ◌≤◌, Bool, ◌&&◌, eqb, leb, List, [], ◌∷◌, length, get_or, take, drop, IfOk, OnErr, Ok, Err, vec_len, Result, sym, refl, ap, ◌∙◌, subst, arith}
use Rattle.std.proofs.lemmas.List.{take_all}
use Rattle.std.proofs.Math.Path.{fun_ext}
use Rattle.elements.specs.Element.{Shown}
use Rattle.orderings.specs.Order.{VariableCount}
use Rattle.divisions.specs.Numbered.{Numbered, numbered_meaning}
use Rattle.sheets.specs.declared.parts.Parts.{Parts}
use Rattle.orderings.specs.Answer.{Answer}
use Rattle.sheets.specs.Book.{Book, Call, fresh}
use Rattle.runs.specs.declared.requests.Sheet.{Sheet}
use Rattle.sheets.specs.History.{Run, over, next}
use Rattle.runs.specs.Replies.{book_of, BeginsAsPromised}
use Rattle.lines.specs.declared.lines.Line.{Line}
use Rattle.lines.specs.declared.reports.Report.{Report}
use Rattle.logs.specs.Told.{Lines}
use Rattle.logs.specs.Input.{ReportsKind, KindAdmits, Reports, of_kind}
use Rattle.logs.specs.Laws.{OpensSomeLog}

-- before any call the book is the fresh one
no_calls : {b c : Book} {answers : List Answer} {calls : List Call} → calls ≡ [] → Run b calls answers c → c ≡ b
no_calls e over = refl
no_calls e (next t f r) = absurd cc

pub logged_from : {E : Type 0} (admits : ℕ → Bool) (shown : E → Shown) (before : Parts E) (n : ℕ)
    (sheet : Sheet E Numbered) (number kind : ℕ) (log : List ℕ) (lines : List Line) (end : ℕ) →
    before.header.variables ≡ n → vec_len before.table ≡ 64 → number ≡ kind →
    BeginsAsPromised admits shown numbered_meaning before (Ok sheet) →
    Lines (book_of admits shown numbered_meaning sheet).n (book_of admits shown numbered_meaning sheet) log lines end →
    VariableCount n × (n ≡ n) × (number ≡ kind) × Lines n (fresh admits n 64) log lines end
logged_from admits shown before n sheet number kind log lines end variables places same_kind opens told =
    let same : book_of admits shown numbered_meaning sheet ≡ fresh admits n 64 =
    no_calls refl opens.1.equals_the_plain_book.reached.run ∙ ap (λ v. fresh admits v (vec_len before.table))
    variables ∙ ap (fresh admits n) places in (
      subst VariableCount variables opens.1.equals_the_plain_book.reached.variable_count,
      refl,
      same_kind,
      subst (λ (b : Book). Lines b.n b log lines end) same told,
    )

-- an input of two bytes and more: these, and the part from the third byte on
abbrev pub from_third : List ℕ → List ℕ
from_third input = take (length input - 2) (drop 2 input)

pub two_bytes : (input : List ℕ) → 2 ≤ length input → input ≡ get_or input 0 0 ∷ get_or input 1 0 ∷ from_third input
two_bytes [] l = absurd (omega arith)
two_bytes (x ∷ []) l = absurd (omega arith)
two_bytes (x ∷ y ∷ ys) l = ap (λ (r : List ℕ). x ∷ y ∷ r) (sym (take_all (length (x ∷ y ∷ ys) - 2) ys (omega arith)))

-- the families of plain terms: 0 and nothing else
plain_family : (f : ℕ) → leb 0 f && leb f 0 ≡ eqb f 0
plain_family f = grind arith

pub plain_families : ◌≡◌ {A = ℕ → Bool} (λ f. leb 0 f && leb f 0) (λ f. eqb f 0)
plain_families = fun_ext plain_family

pub reported : {X : Type 0} (admits : ℕ → Bool) (input : List ℕ) (kind : ℕ) (r : Result Report X) → 2 ≤ length input →
    length input ≤ 65536 → get_or input 1 0 ≡ kind → KindAdmits kind admits →
    IfOk r (ReportsKind admits (get_or input 0 0) kind (from_third input)) → IfOk r (Reports input)
reported admits input kind (Ok report) some few e k h =
    of_kind few (two_bytes input some ∙ ap (λ (x : ℕ). get_or input 0 0 ∷ x ∷ from_third input) e) k h
reported admits input kind (Err x) some few e k h = tt

pub logs_alone : {X : Type 0} (admits : ℕ → Bool) (input : List ℕ) (kind : ℕ) (r : Result Report X) →
    2 ≤ length input → length input ≤ 65536 → get_or input 1 0 ≡ kind → KindAdmits kind admits →
    OnErr r (VariableCount (get_or input 0 0)) → OnErr r (OpensSomeLog input)
logs_alone admits input kind (Ok report) some few e k count = tt
logs_alone admits input kind (Err x) some few e k count = (
  get_or input 0 0,
  kind,
  admits,
  from_third input,
  record {
    few = few;
    parts = two_bytes input some ∙ ap (λ (x : ℕ). get_or input 0 0 ∷ x ∷ from_third input) e;
    of_kind = k;
    variable_count = count;
  },
)
