-- What is printed of an input. Assumes nothing.
use Rattle.std.specs.Prelude.{◌≡◌, ℕ, ◌<◌, ◌≤◌, Bool, ◌&&◌, List, ◌∷◌, length, vec_items, ◌≢◌, nat_eq, nat_le}
use Rattle.orderings.specs.Order.{VariableCount}
use Rattle.sheets.specs.Book.{fresh}
use Rattle.lines.specs.declared.reports.BadStart.TheVariants.{CutShort, NoSuchKind, VariableCount as BadCount}
use Rattle.lines.specs.declared.reports.Report.{Report}
use Rattle.lines.specs.declared.reports.Report.TheVariants.{TooLong, NoLog, Log}
use Rattle.lines.specs.Report.{report_text}
use Rattle.logs.specs.Told.{Lines}

-- the report on a log for a sheet of 64 places, of n variables and the kind that admits such
-- families
abbrev pub ReportsKind : (ℕ → Bool) → ℕ → ℕ → List ℕ → Report → Type 0
ReportsKind admits n kind log TooLong = ⊥
ReportsKind admits n kind log (NoLog CutShort) = ⊥
ReportsKind admits n kind log (NoLog NoSuchKind) = ⊥
ReportsKind admits n kind log (NoLog BadCount) = VariableCount n → ⊥
ReportsKind admits n kind log (Log variables number lines end) =
    VariableCount n × (variables ≡ n) × (number ≡ kind) ×
    Lines n (fresh admits n 64) log (vec_items lines) end

-- the kinds: 0 for plain terms, whose family is 0, and 1 for derivatives, whose families are 1 to
-- 16
pub data KindAdmits : ℕ → (ℕ → Bool) → Type 0 where
  terms : KindAdmits 0 (λ f. nat_eq f 0)
  derivatives : KindAdmits 1 (λ f. nat_le 1 f && nat_le f 16)

-- the report on an input: too long above 65,536 bytes; 2 below two bytes; 4 where the second is no
-- kind; and else the report on the log from the third byte on
pub data Reports (input : List ℕ) : Report → Type 0 where
  too_long : 65536 < length input → Reports input TooLong
  cut_short : length input < 2 → Reports input (NoLog CutShort)
  no_kind : {n kind : ℕ} {log : List ℕ} →
      length input ≤ 65536 → input ≡ n ∷ kind ∷ log → (kind ≢ 0) → (kind ≢ 1) →
      Reports input (NoLog NoSuchKind)
  of_kind : {n kind : ℕ} {log : List ℕ} {admits : ℕ → Bool} {report : Report} →
      length input ≤ 65536 → input ≡ n ∷ kind ∷ log → KindAdmits kind admits →
      ReportsKind admits n kind log report → Reports input report

-- the text that is printed is that of a report
abbrev pub Prints : List ℕ → List ℕ → Type 0
Prints input text = (report : Report) × Reports input report × (text ≡ report_text report)
