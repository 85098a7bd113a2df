-- The words of a command's line. Assumes nothing.
use Rattle.std.specs.Prelude.{ℕ, List, [], ◌∷◌, map, take, codes, decimal, Ok, Err, Result}
use Rattle.lines.specs.declared.faults.Cause.{Cause}
use Rattle.lines.specs.declared.faults.Fault.{Fault}
use Rattle.lines.specs.declared.lines.Told.{Told}
use Rattle.lines.specs.declared.lines.Told.TheVariants.{Nothing, Place, Complete, Shortfall, Settled}
use Rattle.lines.specs.declared.lines.Granted.{Granted}
use Rattle.lines.specs.declared.lines.Line.{Line}
use Rattle.lines.specs.Numbers.{cause_number, cause_values}
use Rattle.lines.specs.Words.{spaced, hex}

-- the values of a granted command
abbrev pub told_words : Told → List (List ℕ)
told_words Nothing = []
told_words (Place p) = decimal p ∷ []
told_words Complete = codes "yes" ∷ []
told_words (Shortfall place variable power) = decimal place ∷ decimal variable ∷ decimal power ∷ []
told_words (Settled tested variables ordering) =
    decimal tested ∷ map decimal (take variables ordering)

-- the number of a cause, and its values
abbrev pub cause_words : Cause → List (List ℕ)
cause_words c = decimal (cause_number c) ∷ map decimal (cause_values c)

-- the place, the code in hexadecimal, `ok` or `no`, and the values
abbrev pub granted_words : Granted → List (List ℕ)
granted_words g = decimal g.place ∷ hex g.code ∷ codes "ok" ∷ told_words g.told

abbrev pub fault_words : Fault → List (List ℕ)
fault_words f = decimal f.place ∷ hex f.code ∷ codes "no" ∷ cause_words f.cause

abbrev pub words : Result Granted Fault → List (List ℕ)
words (Ok granted) = granted_words granted
words (Err fault) = fault_words fault

abbrev pub line_text : Line → List ℕ
line_text l = spaced (words l.0)
