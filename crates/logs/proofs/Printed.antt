-- An input has one output. Assumes nothing.
use Rattle.std.proofs.Common.{◌≡◌, ℕ, ◌<◌, Bool, cond, ◌&&◌, eqb, leb, ◌⊎◌, List, [], ◌∷◌, ◌++◌, map, length, codes, decimal, IfOk, Ok, Err, Result, sym, refl, ap, ◌∙◌, subst, ap₂, subst₂, inl, inr, arith}
use Rattle.orderings.specs.Order.{VariableCount}
use Rattle.sheets.specs.Book.{fresh}
use Rattle.lines.specs.declared.reports.BadStart.TheVariants.{CutShort, NoSuchKind, VariableCount as BadCount}
use Rattle.lines.specs.declared.reports.Report.{Report}
use Rattle.lines.specs.declared.reports.Report.TheVariants.{TooLong, NoLog, Log}
use Rattle.lines.specs.Words.{each, ended, spaced}
use Rattle.lines.specs.Report.{report_text}
use Rattle.sheets.proofs.Sound.{a_fresh_book_is_sound}
use Rattle.logs.specs.Session.{Entry, Logged}
use Rattle.logs.specs.Told.{entry_text}
use Rattle.logs.specs.Input.{ReportsKind, KindAdmits, terms, derivatives, Reports, too_long, cut_short, no_kind, of_kind, Prints}
use Rattle.logs.specs.Laws.{OpensALog, log_text, TellsTheAnswersOfThePlainBook, AnInputHasOneOutput}
use Rattle.logs.proofs.Once.{a_log_has_one_outcome}

-- the text for the lines of a log and its end
abbrev lines_text : ℕ → ℕ → List (List ℕ) → ℕ → List ℕ
lines_text n kind lines end = each ended (spaced (codes "sheet" ∷ decimal n ∷ decimal kind ∷ []) ∷
    (lines ++ (spaced (codes "end" ∷ decimal end ∷ []) ∷ [])))

one_log_text : (n m kind number : ℕ) (lines others : List (List ℕ)) (end : ℕ) → n ≡ m → kind ≡ number →
    lines ≡ others → lines_text n kind lines end ≡ lines_text m number others end
one_log_text n m kind number lines others end e f g = cc

-- the text of the report on a log, by the log's entries
data KindText (admits : ℕ → Bool) (n kind : ℕ) (log : List ℕ) : List ℕ → Type 0 where
  bad_count : (VariableCount n → ⊥) → KindText admits n kind log (report_text (NoLog BadCount))
  logged : {entries : List Entry} {end : ℕ} → VariableCount n → Logged (fresh admits n 64) 2 log entries end →
      KindText admits n kind log (log_text n kind entries end)

-- the text of a report is that by the entries
text_of_kind : (admits : ℕ → Bool) (n kind : ℕ) (log : List ℕ) (r : Report) → ReportsKind admits n kind log r →
    KindText admits n kind log (report_text r)
text_of_kind admits n kind log TooLong x = absurd x
text_of_kind admits n kind log (NoLog CutShort) x = absurd x
text_of_kind admits n kind log (NoLog NoSuchKind) x = absurd x
text_of_kind admits n kind log (NoLog BadCount) x = bad_count x
text_of_kind admits n kind log (Log variables number lines end) (count, same-n, same_kind, told) =
    subst (KindText admits n kind log) (sym (one_log_text variables n number kind _ (map (entry_text n) told.0)
    end same-n same_kind told.2)) (logged count told.1)

-- a kind fixes the families that it admits
abbrev families : ℕ → ℕ → Bool
families kind = cond (eqb kind 0) (λ f. eqb f 0) (λ f. leb 1 f && leb f 16)

kind_families : (kind : ℕ) (admits : ℕ → Bool) → KindAdmits kind admits → admits ≡ families kind
kind_families kind admits terms = refl
kind_families kind admits derivatives = refl

kind_known : (kind : ℕ) (admits : ℕ → Bool) → KindAdmits kind admits → (kind ≡ 0) ⊎ (kind ≡ 1)
kind_known kind admits terms = inl refl
kind_known kind admits derivatives = inr refl

one_kind_text : (admits : ℕ → Bool) (n kind : ℕ) (log t u : List ℕ) → KindText admits n kind log t →
    KindText admits n kind log u → t ≡ u
one_kind_text admits n kind log t u (bad_count x) (bad_count y) = refl
one_kind_text admits n kind log t u (bad_count x) (logged y goes) = absurd (x y)
one_kind_text admits n kind log t u (logged x goes) (bad_count y) = absurd (y x)
one_kind_text admits n kind log t u (logged {entries = es} {end = e} x goes) (logged {entries = fs} {end = f} y on) =
    let sound = a_fresh_book_is_sound admits n 64 x (record { some = omega arith; most = omega arith }) in
    let same = a_log_has_one_outcome (fresh admits n 64) 2 log es fs e f sound goes on in
    ap₂ (λ (entries : List Entry). log_text n kind entries) same.0 same.1

-- an input has one first byte, one second byte and one log
one_count : (input : List ℕ) (n k m j : ℕ) (l s : List ℕ) → input ≡ n ∷ k ∷ l → input ≡ m ∷ j ∷ s → n ≡ m
one_count input n k m j l s e f = cc

one_kind : (input : List ℕ) (n k m j : ℕ) (l s : List ℕ) → input ≡ n ∷ k ∷ l → input ≡ m ∷ j ∷ s → k ≡ j
one_kind input n k m j l s e f = cc

one_log : (input : List ℕ) (n k m j : ℕ) (l s : List ℕ) → input ≡ n ∷ k ∷ l → input ≡ m ∷ j ∷ s → l ≡ s
one_log input n k m j l s e f = cc

-- two bytes are not cut short
not_cut_short : {X : Type 0} (input : List ℕ) (n kind : ℕ) (log : List ℕ) → length input < 2 → input ≡ n ∷ kind ∷ log →
    X
not_cut_short input n kind log short e = absurd (omega (arith, ap length e))

-- a second byte is a kind or none
no_such_kind : {X : Type 0} (input : List ℕ) (n k m j : ℕ) (l s : List ℕ) (admits : ℕ → Bool) → input ≡ n ∷ k ∷ l →
    (k ≡ 0 → ⊥) → (k ≡ 1 → ⊥) → input ≡ m ∷ j ∷ s → KindAdmits j admits → X
no_such_kind input n k m j l s admits e not-0 not-1 f known = let same = one_kind input n k m j l s e f in
    absurd (elim (kind_known j admits known) [
      | inl x ↦ not-0 (same ∙ x)
      | inr x ↦ not-1 (same ∙ x)
    ])

-- the reports of a kind on one input
one_of_kind : (input : List ℕ) (n k m j : ℕ) (l s : List ℕ) (admits others : ℕ → Bool) (r q : Report) →
    input ≡ n ∷ k ∷ l → input ≡ m ∷ j ∷ s → KindAdmits k admits → KindAdmits j others →
    ReportsKind admits n k l r → ReportsKind others m j s q → report_text r ≡ report_text q
one_of_kind input n k m j l s admits others r q e f known also x y =
    let kind : j ≡ k = one_kind input m j n k s l f e in
    let admitted : others ≡ admits = kind_families j others also ∙ ap families kind ∙
    sym (kind_families k admits known) in
    let P : (ℕ → Bool) → List ℕ → Type 0 = λ a log. KindText a n k log (report_text q) in
    let Q : ℕ → ℕ → Type 0 = λ count number. KindText others count number s (report_text q) in
    let told : KindText others n k s (report_text q) =
    subst₂ Q (one_count input m j n k s l f e) kind (text_of_kind others m j s q y) in
    one_kind_text admits n k l (report_text r) (report_text q) (text_of_kind admits n k l r x)
    (subst₂ P admitted (one_log input m j n k s l f e) told)

one_report : (input : List ℕ) (r q : Report) → Reports input r → Reports input q → report_text r ≡ report_text q
one_report input r q (too_long x) (too_long y) = refl
one_report input r q (too_long x) (cut_short y) = absurd (omega arith)
one_report input r q (too_long x) (no_kind y f a b) = absurd (omega arith)
one_report input r q (too_long x) (of_kind y f k h) = absurd (omega arith)
one_report input r q (cut_short x) (too_long y) = absurd (omega arith)
one_report input r q (cut_short x) (cut_short y) = refl
one_report input r q (cut_short x) (no_kind y f a b) = not_cut_short input _ _ _ x f
one_report input r q (cut_short x) (of_kind y f k h) = not_cut_short input _ _ _ x f
one_report input r q (no_kind x e a b) (too_long y) = absurd (omega arith)
one_report input r q (no_kind x e a b) (cut_short y) = not_cut_short input _ _ _ y e
one_report input r q (no_kind x e a b) (no_kind y f c d) = refl
one_report input r q (no_kind x e a b) (of_kind y f k h) = no_such_kind input _ _ _ _ _ _ _ e a b f k
one_report input r q (of_kind x e k h) (too_long y) = absurd (omega arith)
one_report input r q (of_kind x e k h) (cut_short y) = not_cut_short input _ _ _ y e
one_report input r q (of_kind x e k h) (no_kind y f a b) = no_such_kind input _ _ _ _ _ _ _ f a b e k
one_report input r q (of_kind {n = n} {kind = kind} {log = log} {admits = admits} x e k h) (of_kind {n = m} {kind =
    number} {log = bytes} {admits = others} y f k' h') =
    one_of_kind input n kind m number log bytes admits others r q e f k k' h h'

pub an_input_has_one_output : AnInputHasOneOutput
an_input_has_one_output = record { once = λ input t u (r, x, e) (q, y, f). e ∙ one_report input r q x y ∙ sym f }

-- the text of a log on a sheet, by its entries
Told : (ℕ → Bool) → ℕ → ℕ → List ℕ → List ℕ → Type 0
Told admits n kind log text = (entries : List Entry) × (end : ℕ) × Logged (fresh admits n 64) 2 log entries end ×
    (text ≡ log_text n kind entries end)

told_of : (admits : ℕ → Bool) (n kind : ℕ) (log text : List ℕ) → VariableCount n → KindText admits n kind log text →
    Told admits n kind log text
unfolding Told
told_of admits n kind log _ count (bad_count x) = absurd (x count)
told_of admits n kind log _ count (logged {entries = entries} {end = end} x goes) = (entries, end, goes, refl)

told_of_report : (input : List ℕ) (r : Report) (n kind : ℕ) (admits : ℕ → Bool) (log : List ℕ) → Reports input r →
    OpensALog input n kind admits log → Told admits n kind log (report_text r)
told_of_report input r n kind admits log (too_long x) opens = absurd (omega (arith, opens.few))
told_of_report input r n kind admits log (cut_short x) opens = not_cut_short input _ _ _ x opens.parts
told_of_report input r n kind admits log (no_kind x e a b) opens =
    no_such_kind input _ _ _ _ _ _ _ e a b opens.parts opens.of_kind
told_of_report input r n kind admits log (of_kind {n = m} {kind = number} {log = bytes} {admits = others} x e k h)
    opens =
    let same : number ≡ kind = one_kind input m number n kind bytes log e opens.parts in
    let admitted : others ≡ admits = kind_families number others k ∙ ap families same ∙
    sym (kind_families kind admits opens.of_kind) in
    let P : (ℕ → Bool) → List ℕ → Type 0 = λ a l. KindText a n kind l (report_text r) in
    let Q : ℕ → ℕ → Type 0 = λ count j. KindText others count j bytes (report_text r) in
    let told : KindText others n kind bytes (report_text r) =
    subst₂ Q (one_count input m number n kind bytes log e opens.parts) same (text_of_kind others m number bytes r h) in
    told_of admits n kind log (report_text r) opens.variable_count
    (subst₂ P admitted (one_log input m number n kind bytes log e opens.parts) told)

pub tells_the_answers_of_the_plain_book : (input text : List ℕ) → Prints input text →
    TellsTheAnswersOfThePlainBook input text
unfolding Told
tells_the_answers_of_the_plain_book input text (r, reports, e) n kind admits log opens =
    let (entries, end, goes, same) = told_of_report input r n kind admits log reports opens in
    (entries, end, goes, e ∙ same)

pub told_if_printed : {T X : Type 0} (bytes : T → List ℕ) (input : List ℕ) (r : Result T X) →
    IfOk r (λ t. Prints input (bytes t)) → IfOk r (λ t. TellsTheAnswersOfThePlainBook input (bytes t))
told_if_printed bytes input (Ok t) printed = tells_the_answers_of_the_plain_book input (bytes t) printed
told_if_printed bytes input (Err x) printed = tt
