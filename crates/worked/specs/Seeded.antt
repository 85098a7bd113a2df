-- Small sheets made by seed, with what the second implementation says of them. Written by
-- reference/seeded.py. Assumes nothing.
use Rattle.std.specs.Prelude.{◌≡◌, ℕ, Bool, true, false, List, [], ◌∷◌, map, length, take, Some, None, Option}
use Rattle.std.specs.List.{range_with_len}
use Rattle.elements.specs.Element.{Shown}
use Rattle.orderings.specs.Rows.{row}
use Rattle.barcode.specs.Bars.{bar_number}
use Rattle.barcode.specs.Gap.{gap}
use Rattle.divisions.specs.Janet.{janet, janet_like}
use Rattle.divisions.specs.Thomas.{thomas}
use Rattle.search.specs.Liveness.{live}
use Rattle.worked.specs.Sets.{element, SearchAnswers}

-- a list for each place, with an entry for each variable
abbrev pub table : {A : Type 0} → ℕ → List Shown → (ℕ → ℕ → A) → List (List A)
table n rows f = map (λ p. map (f p) (range_with_len 1 n)) (range_with_len 0 (length rows))

-- the numbers of bars, the gaps and the limits by Thomas division under an ordering, and whether it
-- makes the rows complete by Janet, by Janet-like and by Thomas division
pub record Evaluates (n : ℕ) (rows : List Shown) (order : List ℕ)
    (bars : List (List ℕ)) (gaps : List (List (Option ℕ)))
    (thomas_limits : List (List (Option ℕ)))
    (by_janet by_janet_like by_thomas : Bool) : Type 0 where
  pub bars_are : table n rows (λ p v. bar_number rows order (row rows p) v) ≡ bars
  pub gaps_are : table n rows (gap rows order) ≡ gaps
  pub thomas_limits_are : table n rows (thomas rows order) ≡ thomas_limits
  pub janet_says : live janet n rows (take n order) ≡ by_janet
  pub janet_like_says : live janet_like n rows (take n order) ≡ by_janet_like
  pub thomas_says : live thomas n rows (take n order) ≡ by_thomas

abbrev pub sheet_1 : List Shown
sheet_1 = element 0 0 1 1 ∷ element 0 0 2 0 ∷ element 0 0 0 2 ∷ []

abbrev pub sheet_2 : List Shown
sheet_2 = element 0 0 1 3 ∷ element 0 2 0 1 ∷ element 0 1 1 3 ∷ []

abbrev pub sheet_3 : List Shown
sheet_3 = element 0 3 0 0 ∷ element 0 0 3 0 ∷ element 0 2 2 0 ∷ element 0 1 2 0 ∷ []

abbrev pub sheet_4 : List Shown
sheet_4 = element 0 0 1 1 ∷ element 0 1 1 0 ∷ element 0 0 0 1 ∷ []

abbrev pub sheet_5 : List Shown
sheet_5 = element 0 2 3 0 ∷ element 0 3 2 0 ∷ element 0 2 2 0 ∷ []

abbrev pub sheet_6 : List Shown
sheet_6 = element 0 0 2 0 ∷ element 0 2 0 0 ∷ element 0 2 1 0 ∷ []

abbrev pub sheet_7 : List Shown
sheet_7 = element 1 0 0 3 ∷ element 1 0 1 0 ∷ element 1 0 1 3 ∷ element 1 3 3 0 ∷ []

abbrev pub sheet_8 : List Shown
sheet_8 = element 2 0 0 0 ∷ element 2 0 2 0 ∷ element 1 0 1 0 ∷ []

abbrev pub sheet_9 : List Shown
sheet_9 = element 1 1 0 0 ∷ element 2 0 1 0 ∷ element 2 0 0 0 ∷ element 1 2 0 0 ∷
    element 2 2 1 0 ∷ []

abbrev pub sheet_10 : List Shown
sheet_10 = element 0 1 0 0 ∷ element 0 0 3 0 ∷ element 0 0 0 0 ∷ []

abbrev pub sheet_11 : List Shown
sheet_11 = element 0 2 3 1 ∷ element 0 1 3 0 ∷ element 0 3 1 0 ∷ element 0 1 2 2 ∷
    element 0 1 1 3 ∷ []

abbrev pub sheet_12 : List Shown
sheet_12 = element 0 0 3 2 ∷ element 0 0 3 3 ∷ element 0 0 0 0 ∷ element 0 0 1 0 ∷
    element 0 0 2 0 ∷ []

-- on each of the sheets the definitions give what the reference says
pub record TheSeededSheetsAreAsTheReferenceSays : Type 0 where
  pub told_1 : Evaluates 3 sheet_1 (2 ∷ 1 ∷ 3 ∷ 0 ∷ 0 ∷ 0 ∷ 0 ∷ 0 ∷ [])
      ((2 ∷ 2 ∷ 2 ∷ []) ∷ (3 ∷ 3 ∷ 3 ∷ []) ∷ (1 ∷ 1 ∷ 1 ∷ []) ∷ [])
      ((None ∷ Some 1 ∷ None ∷ []) ∷ (None ∷ None ∷ None ∷ []) ∷ (None ∷ Some 1 ∷ None ∷ []) ∷ [])
      ((None ∷ Some 1 ∷ Some 1 ∷ []) ∷ (None ∷ None ∷ Some 1 ∷ []) ∷
      (None ∷ Some 1 ∷ None ∷ []) ∷ [])
      true true false
  pub janet_1 : SearchAnswers janet 3 sheet_1 (Some (1 ∷ 2 ∷ 3 ∷ [])) 3
  pub janet_like_1 : SearchAnswers janet_like 3 sheet_1 (Some (1 ∷ 2 ∷ 3 ∷ [])) 3
  pub thomas_1 : SearchAnswers thomas 3 sheet_1 None 13
  pub told_2 : Evaluates 3 sheet_2 (2 ∷ 1 ∷ 3 ∷ 0 ∷ 0 ∷ 0 ∷ 0 ∷ 0 ∷ [])
      ((2 ∷ 2 ∷ 2 ∷ []) ∷ (1 ∷ 1 ∷ 1 ∷ []) ∷ (3 ∷ 2 ∷ 3 ∷ []) ∷ [])
      ((Some 1 ∷ None ∷ None ∷ []) ∷ (None ∷ Some 1 ∷ None ∷ []) ∷ (None ∷ None ∷ None ∷ []) ∷ [])
      ((Some 1 ∷ None ∷ None ∷ []) ∷ (None ∷ Some 1 ∷ Some 1 ∷ []) ∷
      (Some 1 ∷ None ∷ None ∷ []) ∷ [])
      false false false
  pub janet_2 : SearchAnswers janet 3 sheet_2 (Some (1 ∷ 2 ∷ 3 ∷ [])) 3
  pub janet_like_2 : SearchAnswers janet_like 3 sheet_2 (Some (1 ∷ 2 ∷ 3 ∷ [])) 3
  pub thomas_2 : SearchAnswers thomas 3 sheet_2 None 5
  pub told_3 : Evaluates 2 sheet_3 (2 ∷ 1 ∷ 0 ∷ 0 ∷ 0 ∷ 0 ∷ 0 ∷ 0 ∷ [])
      ((1 ∷ 1 ∷ []) ∷ (4 ∷ 3 ∷ []) ∷ (3 ∷ 2 ∷ []) ∷ (2 ∷ 2 ∷ []) ∷ [])
      ((None ∷ Some 2 ∷ []) ∷ (None ∷ None ∷ []) ∷ (None ∷ Some 1 ∷ []) ∷
      (Some 1 ∷ Some 1 ∷ []) ∷ [])
      ((None ∷ Some 1 ∷ []) ∷ (Some 1 ∷ None ∷ []) ∷ (Some 1 ∷ Some 1 ∷ []) ∷
      (Some 1 ∷ Some 1 ∷ []) ∷ [])
      false true false
  pub janet_3 : SearchAnswers janet 2 sheet_3 (Some (1 ∷ 2 ∷ [])) 2
  pub janet_like_3 : SearchAnswers janet_like 2 sheet_3 (Some (1 ∷ 2 ∷ [])) 2
  pub thomas_3 : SearchAnswers thomas 2 sheet_3 None 3
  pub told_4 : Evaluates 3 sheet_4 (2 ∷ 3 ∷ 1 ∷ 0 ∷ 0 ∷ 0 ∷ 0 ∷ 0 ∷ [])
      ((3 ∷ 2 ∷ 3 ∷ []) ∷ (2 ∷ 2 ∷ 2 ∷ []) ∷ (1 ∷ 1 ∷ 1 ∷ []) ∷ [])
      ((None ∷ None ∷ None ∷ []) ∷ (None ∷ None ∷ Some 1 ∷ []) ∷ (None ∷ Some 1 ∷ None ∷ []) ∷ [])
      ((Some 1 ∷ None ∷ None ∷ []) ∷ (None ∷ None ∷ Some 1 ∷ []) ∷
      (Some 1 ∷ Some 1 ∷ None ∷ []) ∷ [])
      true true false
  pub janet_4 : SearchAnswers janet 3 sheet_4 (Some (2 ∷ 1 ∷ 3 ∷ [])) 4
  pub janet_like_4 : SearchAnswers janet_like 3 sheet_4 (Some (2 ∷ 1 ∷ 3 ∷ [])) 4
  pub thomas_4 : SearchAnswers thomas 3 sheet_4 None 9
  pub told_5 : Evaluates 2 sheet_5 (1 ∷ 2 ∷ 0 ∷ 0 ∷ 0 ∷ 0 ∷ 0 ∷ 0 ∷ [])
      ((1 ∷ 2 ∷ []) ∷ (2 ∷ 3 ∷ []) ∷ (1 ∷ 1 ∷ []) ∷ [])
      ((Some 1 ∷ None ∷ []) ∷ (None ∷ None ∷ []) ∷ (Some 1 ∷ Some 1 ∷ []) ∷ [])
      ((Some 1 ∷ None ∷ []) ∷ (None ∷ Some 1 ∷ []) ∷ (Some 1 ∷ Some 1 ∷ []) ∷ [])
      true true false
  pub janet_5 : SearchAnswers janet 2 sheet_5 (Some (1 ∷ 2 ∷ [])) 2
  pub janet_like_5 : SearchAnswers janet_like 2 sheet_5 (Some (1 ∷ 2 ∷ [])) 2
  pub thomas_5 : SearchAnswers thomas 2 sheet_5 None 4
  pub told_6 : Evaluates 2 sheet_6 (2 ∷ 1 ∷ 0 ∷ 0 ∷ 0 ∷ 0 ∷ 0 ∷ 0 ∷ [])
      ((3 ∷ 3 ∷ []) ∷ (1 ∷ 1 ∷ []) ∷ (2 ∷ 2 ∷ []) ∷ [])
      ((None ∷ None ∷ []) ∷ (None ∷ Some 1 ∷ []) ∷ (None ∷ Some 1 ∷ []) ∷ [])
      ((Some 1 ∷ None ∷ []) ∷ (None ∷ Some 1 ∷ []) ∷ (None ∷ Some 1 ∷ []) ∷ [])
      true true false
  pub janet_6 : SearchAnswers janet 2 sheet_6 (Some (2 ∷ 1 ∷ [])) 3
  pub janet_like_6 : SearchAnswers janet_like 2 sheet_6 (Some (1 ∷ 2 ∷ [])) 2
  pub thomas_6 : SearchAnswers thomas 2 sheet_6 None 3
  pub told_7 : Evaluates 3 sheet_7 (3 ∷ 2 ∷ 1 ∷ 0 ∷ 0 ∷ 0 ∷ 0 ∷ 0 ∷ [])
      ((3 ∷ 3 ∷ 2 ∷ []) ∷ (1 ∷ 1 ∷ 1 ∷ []) ∷ (4 ∷ 4 ∷ 2 ∷ []) ∷ (2 ∷ 2 ∷ 1 ∷ []) ∷ [])
      ((None ∷ Some 1 ∷ None ∷ []) ∷ (None ∷ Some 2 ∷ Some 3 ∷ []) ∷ (None ∷ None ∷ None ∷ []) ∷
      (None ∷ None ∷ Some 3 ∷ []) ∷ [])
      ((Some 1 ∷ Some 1 ∷ None ∷ []) ∷ (Some 1 ∷ Some 1 ∷ Some 1 ∷ []) ∷
      (Some 1 ∷ Some 1 ∷ None ∷ []) ∷ (None ∷ None ∷ Some 1 ∷ []) ∷ [])
      false false false
  pub janet_7 : SearchAnswers janet 3 sheet_7 None 3
  pub janet_like_7 : SearchAnswers janet_like 3 sheet_7 None 5
  pub thomas_7 : SearchAnswers thomas 3 sheet_7 None 3
  pub told_8 : Evaluates 3 sheet_8 (2 ∷ 3 ∷ 1 ∷ 0 ∷ 0 ∷ 0 ∷ 0 ∷ 0 ∷ [])
      ((1 ∷ 1 ∷ 1 ∷ []) ∷ (2 ∷ 2 ∷ 2 ∷ []) ∷ (1 ∷ 1 ∷ 1 ∷ []) ∷ [])
      ((None ∷ Some 2 ∷ None ∷ []) ∷ (None ∷ None ∷ None ∷ []) ∷ (None ∷ None ∷ None ∷ []) ∷ [])
      ((None ∷ Some 1 ∷ None ∷ []) ∷ (None ∷ None ∷ None ∷ []) ∷ (None ∷ None ∷ None ∷ []) ∷ [])
      false true false
  pub janet_8 : SearchAnswers janet 3 sheet_8 None 9
  pub janet_like_8 : SearchAnswers janet_like 3 sheet_8 (Some (1 ∷ 2 ∷ 3 ∷ [])) 3
  pub thomas_8 : SearchAnswers thomas 3 sheet_8 None 9
  pub told_9 : Evaluates 2 sheet_9 (2 ∷ 1 ∷ 0 ∷ 0 ∷ 0 ∷ 0 ∷ 0 ∷ 0 ∷ [])
      ((1 ∷ 1 ∷ []) ∷ (2 ∷ 2 ∷ []) ∷ (1 ∷ 1 ∷ []) ∷ (2 ∷ 1 ∷ []) ∷ (3 ∷ 2 ∷ []) ∷ [])
      ((Some 1 ∷ None ∷ []) ∷ (Some 2 ∷ None ∷ []) ∷ (None ∷ Some 1 ∷ []) ∷ (None ∷ None ∷ []) ∷
      (None ∷ None ∷ []) ∷ [])
      ((Some 1 ∷ None ∷ []) ∷ (Some 1 ∷ None ∷ []) ∷ (Some 1 ∷ Some 1 ∷ []) ∷ (None ∷ None ∷ []) ∷
      (None ∷ None ∷ []) ∷ [])
      false true false
  pub janet_9 : SearchAnswers janet 2 sheet_9 None 3
  pub janet_like_9 : SearchAnswers janet_like 2 sheet_9 (Some (2 ∷ 1 ∷ [])) 3
  pub thomas_9 : SearchAnswers thomas 2 sheet_9 None 3
  pub told_10 : Evaluates 2 sheet_10 (1 ∷ 2 ∷ 0 ∷ 0 ∷ 0 ∷ 0 ∷ 0 ∷ 0 ∷ [])
      ((2 ∷ 3 ∷ []) ∷ (1 ∷ 2 ∷ []) ∷ (1 ∷ 1 ∷ []) ∷ [])
      ((None ∷ None ∷ []) ∷ (Some 1 ∷ None ∷ []) ∷ (Some 1 ∷ Some 3 ∷ []) ∷ [])
      ((None ∷ Some 1 ∷ []) ∷ (Some 1 ∷ None ∷ []) ∷ (Some 1 ∷ Some 1 ∷ []) ∷ [])
      false true false
  pub janet_10 : SearchAnswers janet 2 sheet_10 None 3
  pub janet_like_10 : SearchAnswers janet_like 2 sheet_10 (Some (1 ∷ 2 ∷ [])) 2
  pub thomas_10 : SearchAnswers thomas 2 sheet_10 None 3
  pub told_11 : Evaluates 3 sheet_11 (3 ∷ 2 ∷ 1 ∷ 0 ∷ 0 ∷ 0 ∷ 0 ∷ 0 ∷ [])
      ((3 ∷ 3 ∷ 2 ∷ []) ∷ (2 ∷ 2 ∷ 1 ∷ []) ∷ (1 ∷ 1 ∷ 1 ∷ []) ∷ (4 ∷ 4 ∷ 3 ∷ []) ∷
      (5 ∷ 5 ∷ 4 ∷ []) ∷ [])
      ((None ∷ None ∷ Some 1 ∷ []) ∷ (None ∷ None ∷ Some 1 ∷ []) ∷ (None ∷ Some 2 ∷ Some 1 ∷ []) ∷
      (None ∷ None ∷ Some 1 ∷ []) ∷ (None ∷ None ∷ None ∷ []) ∷ [])
      ((Some 1 ∷ None ∷ Some 1 ∷ []) ∷ (Some 1 ∷ None ∷ Some 1 ∷ []) ∷
      (None ∷ Some 1 ∷ Some 1 ∷ []) ∷ (Some 1 ∷ Some 1 ∷ Some 1 ∷ []) ∷
      (Some 1 ∷ Some 1 ∷ None ∷ []) ∷ [])
      false false false
  pub janet_11 : SearchAnswers janet 3 sheet_11 None 3
  pub janet_like_11 : SearchAnswers janet_like 3 sheet_11 None 3
  pub thomas_11 : SearchAnswers thomas 3 sheet_11 None 3
  pub told_12 : Evaluates 3 sheet_12 (2 ∷ 3 ∷ 1 ∷ 0 ∷ 0 ∷ 0 ∷ 0 ∷ 0 ∷ [])
      ((4 ∷ 4 ∷ 4 ∷ []) ∷ (5 ∷ 4 ∷ 5 ∷ []) ∷ (1 ∷ 1 ∷ 1 ∷ []) ∷ (2 ∷ 2 ∷ 2 ∷ []) ∷
      (3 ∷ 3 ∷ 3 ∷ []) ∷ [])
      ((None ∷ None ∷ Some 1 ∷ []) ∷ (None ∷ None ∷ None ∷ []) ∷ (None ∷ Some 1 ∷ None ∷ []) ∷
      (None ∷ Some 1 ∷ None ∷ []) ∷ (None ∷ Some 1 ∷ None ∷ []) ∷ [])
      ((None ∷ None ∷ Some 1 ∷ []) ∷ (None ∷ None ∷ None ∷ []) ∷ (None ∷ Some 1 ∷ Some 1 ∷ []) ∷
      (None ∷ Some 1 ∷ Some 1 ∷ []) ∷ (None ∷ Some 1 ∷ Some 1 ∷ []) ∷ [])
      false false false
  pub janet_12 : SearchAnswers janet 3 sheet_12 None 5
  pub janet_like_12 : SearchAnswers janet_like 3 sheet_12 None 5
  pub thomas_12 : SearchAnswers thomas 3 sheet_12 None 5
