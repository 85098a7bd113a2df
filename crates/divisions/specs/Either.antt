-- What one division or another means. Assumes nothing.
use Rattle.divisions.specs.declared.OneOf.{OneOf}
use Rattle.divisions.specs.declared.OneOf.TheVariants.{First, Second}
use Rattle.divisions.specs.Laws.{Meaning}

abbrev pub either : {A B : Type 0} → (A → Meaning) → (B → Meaning) → OneOf A B → Meaning
either first second (First a) = first a
either first second (Second b) = second b
