-- How one element stands to another, case by case. Assumes nothing.
use Rattle.std.specs.Prelude.{◌≡◌, ℕ, List}
use Rattle.elements.specs.Element.{Shown}
use Rattle.orderings.specs.declared.comparing.Comparison.{Comparison}
use Rattle.orderings.specs.declared.comparing.Comparison.TheVariants as case
use Rattle.orderings.specs.Order.{AgreeInAll, Below}

-- u is below w, agrees with it in family and every listed variable, or is above it
abbrev pub IsComparison : List ℕ → Shown → Shown → Comparison → Type 0
IsComparison order u w case.Below = Below order u w
IsComparison order u w case.Same = (u.family ≡ w.family) × AgreeInAll order u w
IsComparison order u w case.Above = Below order w u
