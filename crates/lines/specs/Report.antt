-- The lines of the whole output. Assumes nothing.
use Rattle.std.specs.Prelude.{◌≡◌, ℕ, ◌<◌, List, [], ◌∷◌, ◌++◌, map, vec_items, codes, decimal, Result, MatchResult}
use Rattle.lines.specs.declared.reports.BadStart.{BadStart}
use Rattle.lines.specs.declared.reports.BadStart.TheVariants.{CutShort, NoSuchKind, VariableCount}
use Rattle.lines.specs.declared.reports.LogKind.{LogKind}
use Rattle.lines.specs.declared.reports.LogKind.TheVariants.{PlainTerms, Derivatives}
use Rattle.lines.specs.declared.reports.Report.{Report}
use Rattle.lines.specs.declared.reports.Report.TheVariants.{TooLong, NoLog, Log}
use Rattle.lines.specs.Line.{line_text}
use Rattle.lines.specs.Words.{each, ended, spaced}

abbrev pub start_number : BadStart → ℕ
start_number CutShort = 2
start_number NoSuchKind = 4
start_number VariableCount = 5

-- the byte that says a kind
abbrev pub kind_number : LogKind → ℕ
kind_number PlainTerms = 0
kind_number Derivatives = 1

-- the result is the kind that a byte says, or an error at a byte that says none
abbrev pub SaysKind : ℕ → Result LogKind BadStart → Type 0
SaysKind byte r =
    MatchResult r (λ kind. kind_number kind ≡ byte) (λ e. (e ≡ NoSuchKind) × (1 < byte))

abbrev pub report_lines : Report → List (List ℕ)
report_lines TooLong = codes "too long" ∷ []
report_lines (NoLog cause) = spaced (codes "no" ∷ decimal (start_number cause) ∷ []) ∷ []
report_lines (Log variables kind lines end) =
    spaced (codes "sheet" ∷ decimal variables ∷ decimal kind ∷ []) ∷
    (map line_text (vec_items lines) ++ (spaced (codes "end" ∷ decimal end ∷ []) ∷ []))

-- every line, ended
abbrev pub report_text : Report → List ℕ
report_text r = each ended (report_lines r)
