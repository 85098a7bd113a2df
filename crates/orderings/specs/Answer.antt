-- What calls answer: the numbers and values behind every case. Assumes nothing.
use Rattle.std.specs.Prelude.{◌≡◌, ℕ, ◌⊎◌, List, [], ◌∷◌, Ok, Err, Result, codes}
use Rattle.std.specs.declared.cmp.Ordering.{Ordering}
use Rattle.std.specs.declared.cmp.Ordering.TheVariants.{Less, Equal, Greater}
use Rattle.orderings.specs.declared.refusals.Refusal.{Refusal}
use Rattle.orderings.specs.declared.refusals.Refusal.TheVariants.{VariableCount, PlaceCount, OrderLength, NotASheet, UnfitElement, NoSuchBar, NotAnOrdering, NoRows, AlreadyARow, TableFull, NotARow, NoOrdering, NoCone}
use Rattle.orderings.specs.declared.comparing.Comparison.{Comparison}
use Rattle.orderings.specs.declared.comparing.Comparison.TheVariants.{Below, Same, Above}

-- a granted call answers with its values, a refused one with its refusal's number and values
pub data Answer : Type 0 where
  granted : List ℕ → Answer
  refused : ℕ → List ℕ → Answer

-- the number of a refusal
abbrev pub number : Refusal → ℕ
number VariableCount = 5
number PlaceCount = 6
number OrderLength = 7
number NotASheet = 8
number UnfitElement = 9
number NoSuchBar = 10
number NotAnOrdering = 11
number NoRows = 12
number AlreadyARow = 13
number TableFull = 14
number NotARow = 15
number (NoOrdering tested) = 16
number NoCone = 17

-- the values that a refusal carries: how many prefixes were tested, where no ordering was found
abbrev pub values : Refusal → List ℕ
values VariableCount = []
values PlaceCount = []
values OrderLength = []
values NotASheet = []
values UnfitElement = []
values NoSuchBar = []
values NotAnOrdering = []
values NoRows = []
values AlreadyARow = []
values TableFull = []
values NotARow = []
values (NoOrdering tested) = tested ∷ []
values NoCone = []

-- a refusal in words
abbrev pub reason : Refusal → List ℕ
reason VariableCount = codes "the variable count is not 1 to 8"
reason PlaceCount = codes "the table does not have 1 to 64 places"
reason OrderLength = codes "the order bytes are not eight"
reason NotASheet = codes "the parts do not make a sheet"
reason UnfitElement = codes "the element does not fit the sheet"
reason NoSuchBar = codes "there is no such row or variable"
reason NotAnOrdering = codes "the list is not an ordering of the variables"
reason NoRows = codes "there is no row to judge"
reason AlreadyARow = codes "the element is a row already"
reason TableFull = codes "every place is taken"
reason NotARow = codes "the element is not a row"
reason (NoOrdering tested) = codes "no ordering makes the rows complete"
reason NoCone = codes "no cone holds the element"

-- what a refused call answers
abbrev pub refusal : Refusal → Answer
refusal r = refused (number r) (values r)

-- the number by which a comparison is told
abbrev pub comparison_number : Comparison → ℕ
comparison_number Below = 0
comparison_number Same = 1
comparison_number Above = 2

-- how the first of two numbers stands to the second, as a comparison
abbrev pub comparison : Ordering → Comparison
comparison Less = Below
comparison Equal = Same
comparison Greater = Above

-- what a call answers, by what its granted result tells
abbrev pub answer : {R : Type 0} → (R → List ℕ) → Result R Refusal → Answer
answer tells (Ok r) = granted (tells r)
answer tells (Err w) = refusal w

-- what has to hold, and the number that refuses where it does not
pub record Check : Type 1 where
  pub number : ℕ
  pub holds : Type 0

-- a check, by its number and what has to hold
abbrev pub check : ℕ → Type 0 → Check
check r p = record { number = r; holds = p }

-- the first check that fails decides the outcome by its number; where all hold, `grants` says
-- which outcomes there are
abbrev pub Judged : {O : Type 0} → (ℕ → O) → List Check → (O → Type 0) → O → Type 0
Judged refuse [] grants o = grants o
Judged refuse (c ∷ cs) grants o =
    (¬ c.holds × (o ≡ refuse c.number)) ⊎ (c.holds × Judged refuse cs grants o)

-- a call's answer: its first refusal, which carries no value, or what it grants
abbrev pub Answers : List Check → (Answer → Type 0) → Answer → Type 0
Answers checks grants a = Judged (λ r. refused r []) checks grants a
