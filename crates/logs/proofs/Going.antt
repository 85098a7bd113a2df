-- A log that is read so far, and what comes next. Assumes nothing.
use Rattle.std.proofs.Common.{◌≡◌, ℕ, suc, ◌+◌, ◌-◌, ◌≤◌, Bool, List, [], ◌∷◌, ◌++◌, map, length, Bor, sym, refl, ap, ◌∙◌, subst, arith}
use Rattle.std.proofs.lemmas.List.{map_push, length-append}
use Rattle.elements.specs.Element.{Shown}
use Rattle.orderings.specs.Answer.{Answer, refused}
use Rattle.sheets.specs.Book.{Book}
use Rattle.commands.specs.Log.{Reads, command, misread}
use Rattle.lines.specs.declared.lines.Line.{Line}
use Rattle.lines.specs.Line.{line_text}
use Rattle.logs.proofs.Called.{a_command_keeps_n}
use Rattle.logs.specs.Session.{Commanded, Entry, entry, Through, none, more, whole, faulty}
use Rattle.logs.specs.Told.{entry_text, Lines}
use Rattle.logs.specs.declared.reading.Step.{Step}
use Rattle.logs.specs.declared.reading.Step.TheVariants.{End, Performed, Misread}
use Rattle.logs.specs.Promised.{LogSheet, LineTells, PerformsAsPromised, PerformsNextAsPromised}

-- one command more
through_push : {b c : Book} (d : Book) {place end : ℕ} {log left : List ℕ} {entries : List Entry} (code : ℕ)
    (operands rest : List ℕ) (told : Answer) → Through b place log entries c end left →
    Reads left (command code operands rest) → Commanded c code operands told d →
    Through b place log (entries ++ entry end code told ∷ []) d (end + (1 + length operands)) rest
through_push d code operands rest told none reads does = more reads does none
through_push d code operands rest told (more r s through) reads does =
    more r s (through_push d code operands rest told through reads does)

-- the commands that were read, their lines, and what is left; the place is the number of bytes before what is left
pub record Going (n : ℕ) (start : Book) (bytes : ℕ) (log : List ℕ) (b : Book) (rest : List ℕ)
    (lines : List Line) : Type 0 where
  pub entries : List Entry
  pub through : Through start 2 log entries b (bytes - length rest) rest
  pub texts : map line_text lines ≡ map (entry_text n) entries
  pub same_n : b.n ≡ n
  pub room : length rest ≤ bytes

pub going_start : (b : Book) (bytes : ℕ) (log : List ℕ) (lines : List Line) → length log + 2 ≡ bytes → lines ≡ [] →
    Going b.n b bytes log b log lines
going_start b bytes log lines e f =
    let at : 2 ≡ bytes - length log = omega arith in
    record {
      entries = [];
      through = subst (λ (k : ℕ). Through b 2 log [] b k log) at none;
      texts = ap (map line_text) f;
      same_n = refl;
      room = omega arith;
    }

module _ {n : ℕ} {start : Book} {bytes : ℕ} {log : List ℕ} {b : Book} {rest : List ℕ} {lines : List Line}
    (going : Going n start bytes log b rest lines) where
  more_texts : (longer : List Line) (line : Line) (e : Entry) → longer ≡ lines ++ line ∷ [] →
      line_text line ≡ entry_text b.n e →
      map line_text longer ≡ map (entry_text n) (going.entries ++ e ∷ [])
  more_texts longer line e f t =
      ap (map line_text) f ∙ map_push line_text lines line ∙ ap (λ (ts : List (List ℕ)). ts ++ line_text line ∷ [])
      going.texts ∙
      ap (λ (x : List ℕ). map (entry_text n) going.entries ++ x ∷ [])
      (t ∙ ap (λ (k : ℕ). entry_text k e) going.same_n) ∙ sym (map_push (entry_text n) going.entries e)

  pub going_on : (c : Book) (code : ℕ) (operands after : List ℕ) (told : Answer) (longer : List Line) (line : Line) →
      Reads rest (command code operands after) → Commanded b code operands told c →
      longer ≡ lines ++ line ∷ [] → line_text line ≡ entry_text b.n (entry (bytes - length rest) code told) →
      Going n start bytes log c after longer
  going_on c code operands after told longer line reads does f t =
      let long : length rest ≡ 1 + length operands + length after =
      ap length reads.parts ∙ omega (arith, length-append operands after) in
      let at : bytes - length rest + (1 + length operands) ≡ bytes - length after = omega (arith, going.room) in
      record {
        entries = going.entries ++ entry (bytes - length rest) code told ∷ [];
        through = subst (λ (k : ℕ). Through start 2 log (going.entries ++ entry (bytes - length rest) code told ∷ [])
            c k after) at (through_push c code operands after told going.through reads does);
        texts = more_texts longer line (entry (bytes - length rest) code told) f t;
        same_n = a_command_keeps_n b c code operands told does ∙ going.same_n;
        room = omega (arith, going.room);
      }

  -- nothing is left
  pub going_ends : rest ≡ [] → Lines n start log lines (bytes - length rest)
  going_ends e = (
    going.entries,
    whole (subst (λ (l : List ℕ). Through start 2 log going.entries b
        (bytes - length rest) l) e going.through),
    going.texts,
  )

  -- no whole command is left
  pub going_fails : (first number : ℕ) (longer : List Line) (line : Line) → Reads rest (misread first number) →
      longer ≡ lines ++ line ∷ [] →
      line_text line ≡ entry_text b.n (entry (bytes - length rest) first (refused number [])) →
      Lines n start log longer (bytes - length rest)
  going_fails first number longer line reads f t = (
    going.entries ++ entry (bytes - length rest) first (refused number []) ∷ [],
    faulty going.through reads,
    more_texts longer line (entry (bytes - length rest) first (refused number [])) f t,
  )

-- a command takes at least its code
pub less_left : (code : ℕ) (operands after rest : List ℕ) → Reads rest (command code operands after) →
    suc (length after) ≤ length rest
less_left code operands after rest reads = omega (arith, ap length reads.parts, length-append operands after)

-- what the next step of a log came to, by cases
module _ {E : Type 0} (admits : ℕ → Bool) (shown : E → Shown) (before after : LogSheet E) (place : ℕ) (log : List ℕ)
    (step : Step) (does : PerformsNextAsPromised admits shown before place log after step) where
  pub next_end : step ≡ End → log ≡ []
  next_end e = (subst (λ (s : Step). PerformsNextAsPromised admits shown before place log after s) e does).0

  pub next_performed : {line : Line} {rest : Bor (List ℕ)} → step ≡ Performed line rest →
      (code : ℕ) × (operands : List ℕ) × Reads log (command code operands rest.now) ×
      PerformsAsPromised admits shown before place code operands after line
  next_performed e = subst (λ (s : Step). PerformsNextAsPromised admits shown before place log after s) e does

  pub next_misread : {line : Line} → step ≡ Misread line →
      (first : ℕ) × (number : ℕ) × Reads log (misread first number) × LineTells admits shown before place first
      (refused number []) line × (after ≡ before)
  next_misread e = subst (λ (s : Step). PerformsNextAsPromised admits shown before place log after s) e does
