-- What the second implementation says of the seeded sheets, by computing the definitions. Written by
-- reference/seeded.py. Assumes nothing.
use Rattle.std.proofs.Common.{true, false, [], ◌∷◌, Some, None, refl}
use Rattle.divisions.specs.Janet.{janet, janet_like}
use Rattle.divisions.specs.Thomas.{thomas}
use Rattle.search.specs.Prefixes.{prefixes}
use Rattle.search.specs.Walks.{first_live, tested_to}
use Rattle.worked.specs.Sets.{SearchAnswers}
use Rattle.worked.specs.Seeded.{sheet_1, sheet_2, sheet_3, sheet_4, sheet_5, sheet_6, sheet_7, sheet_8, sheet_9, sheet_10, sheet_11, sheet_12, Evaluates, TheSeededSheetsAreAsTheReferenceSays}
use Rattle.worked.proofs.Fitting.{rows_from}
use Rattle.worked.proofs.Results.{of_plain, of_derivatives}

told_1 : Evaluates 3 sheet_1 (2 ∷ 1 ∷ 3 ∷ 0 ∷ 0 ∷ 0 ∷ 0 ∷ 0 ∷ [])
    ((2 ∷ 2 ∷ 2 ∷ []) ∷ (3 ∷ 3 ∷ 3 ∷ []) ∷ (1 ∷ 1 ∷ 1 ∷ []) ∷ [])
    ((None ∷ Some 1 ∷ None ∷ []) ∷ (None ∷ None ∷ None ∷ []) ∷ (None ∷ Some 1 ∷ None ∷ []) ∷ [])
    ((None ∷ Some 1 ∷ Some 1 ∷ []) ∷ (None ∷ None ∷ Some 1 ∷ []) ∷ (None ∷ Some 1 ∷ None ∷ []) ∷ [])
    true true false
unfolding first_live tested_to prefixes
told_1 = record {
  bars_are = refl;
  gaps_are = refl;
  thomas_limits_are = refl;
  janet_says = refl;
  janet_like_says = refl;
  thomas_says = refl;
}

janet_1 : SearchAnswers janet 3 sheet_1 (Some (1 ∷ 2 ∷ 3 ∷ [])) 3
unfolding first_live tested_to prefixes
janet_1 = record { sheet = rows_from of_plain 3 sheet_1 refl; answers = refl; counts = refl }

janet_like_1 : SearchAnswers janet_like 3 sheet_1 (Some (1 ∷ 2 ∷ 3 ∷ [])) 3
unfolding first_live tested_to prefixes
janet_like_1 = record { sheet = rows_from of_plain 3 sheet_1 refl; answers = refl; counts = refl }

thomas_1 : SearchAnswers thomas 3 sheet_1 None 13
unfolding first_live tested_to prefixes
thomas_1 = record { sheet = rows_from of_plain 3 sheet_1 refl; answers = refl; counts = refl }

told_2 : Evaluates 3 sheet_2 (2 ∷ 1 ∷ 3 ∷ 0 ∷ 0 ∷ 0 ∷ 0 ∷ 0 ∷ [])
    ((2 ∷ 2 ∷ 2 ∷ []) ∷ (1 ∷ 1 ∷ 1 ∷ []) ∷ (3 ∷ 2 ∷ 3 ∷ []) ∷ [])
    ((Some 1 ∷ None ∷ None ∷ []) ∷ (None ∷ Some 1 ∷ None ∷ []) ∷ (None ∷ None ∷ None ∷ []) ∷ [])
    ((Some 1 ∷ None ∷ None ∷ []) ∷ (None ∷ Some 1 ∷ Some 1 ∷ []) ∷ (Some 1 ∷ None ∷ None ∷ []) ∷ [])
    false false false
unfolding first_live tested_to prefixes
told_2 = record {
  bars_are = refl;
  gaps_are = refl;
  thomas_limits_are = refl;
  janet_says = refl;
  janet_like_says = refl;
  thomas_says = refl;
}

janet_2 : SearchAnswers janet 3 sheet_2 (Some (1 ∷ 2 ∷ 3 ∷ [])) 3
unfolding first_live tested_to prefixes
janet_2 = record { sheet = rows_from of_plain 3 sheet_2 refl; answers = refl; counts = refl }

janet_like_2 : SearchAnswers janet_like 3 sheet_2 (Some (1 ∷ 2 ∷ 3 ∷ [])) 3
unfolding first_live tested_to prefixes
janet_like_2 = record { sheet = rows_from of_plain 3 sheet_2 refl; answers = refl; counts = refl }

thomas_2 : SearchAnswers thomas 3 sheet_2 None 5
unfolding first_live tested_to prefixes
thomas_2 = record { sheet = rows_from of_plain 3 sheet_2 refl; answers = refl; counts = refl }

told_3 : Evaluates 2 sheet_3 (2 ∷ 1 ∷ 0 ∷ 0 ∷ 0 ∷ 0 ∷ 0 ∷ 0 ∷ [])
    ((1 ∷ 1 ∷ []) ∷ (4 ∷ 3 ∷ []) ∷ (3 ∷ 2 ∷ []) ∷ (2 ∷ 2 ∷ []) ∷ [])
    ((None ∷ Some 2 ∷ []) ∷ (None ∷ None ∷ []) ∷ (None ∷ Some 1 ∷ []) ∷ (Some 1 ∷ Some 1 ∷ []) ∷ [])
    ((None ∷ Some 1 ∷ []) ∷ (Some 1 ∷ None ∷ []) ∷ (Some 1 ∷ Some 1 ∷ []) ∷
    (Some 1 ∷ Some 1 ∷ []) ∷ [])
    false true false
unfolding first_live tested_to prefixes
told_3 = record {
  bars_are = refl;
  gaps_are = refl;
  thomas_limits_are = refl;
  janet_says = refl;
  janet_like_says = refl;
  thomas_says = refl;
}

janet_3 : SearchAnswers janet 2 sheet_3 (Some (1 ∷ 2 ∷ [])) 2
unfolding first_live tested_to prefixes
janet_3 = record { sheet = rows_from of_plain 2 sheet_3 refl; answers = refl; counts = refl }

janet_like_3 : SearchAnswers janet_like 2 sheet_3 (Some (1 ∷ 2 ∷ [])) 2
unfolding first_live tested_to prefixes
janet_like_3 = record { sheet = rows_from of_plain 2 sheet_3 refl; answers = refl; counts = refl }

thomas_3 : SearchAnswers thomas 2 sheet_3 None 3
unfolding first_live tested_to prefixes
thomas_3 = record { sheet = rows_from of_plain 2 sheet_3 refl; answers = refl; counts = refl }

told_4 : Evaluates 3 sheet_4 (2 ∷ 3 ∷ 1 ∷ 0 ∷ 0 ∷ 0 ∷ 0 ∷ 0 ∷ [])
    ((3 ∷ 2 ∷ 3 ∷ []) ∷ (2 ∷ 2 ∷ 2 ∷ []) ∷ (1 ∷ 1 ∷ 1 ∷ []) ∷ [])
    ((None ∷ None ∷ None ∷ []) ∷ (None ∷ None ∷ Some 1 ∷ []) ∷ (None ∷ Some 1 ∷ None ∷ []) ∷ [])
    ((Some 1 ∷ None ∷ None ∷ []) ∷ (None ∷ None ∷ Some 1 ∷ []) ∷ (Some 1 ∷ Some 1 ∷ None ∷ []) ∷ [])
    true true false
unfolding first_live tested_to prefixes
told_4 = record {
  bars_are = refl;
  gaps_are = refl;
  thomas_limits_are = refl;
  janet_says = refl;
  janet_like_says = refl;
  thomas_says = refl;
}

janet_4 : SearchAnswers janet 3 sheet_4 (Some (2 ∷ 1 ∷ 3 ∷ [])) 4
unfolding first_live tested_to prefixes
janet_4 = record { sheet = rows_from of_plain 3 sheet_4 refl; answers = refl; counts = refl }

janet_like_4 : SearchAnswers janet_like 3 sheet_4 (Some (2 ∷ 1 ∷ 3 ∷ [])) 4
unfolding first_live tested_to prefixes
janet_like_4 = record { sheet = rows_from of_plain 3 sheet_4 refl; answers = refl; counts = refl }

thomas_4 : SearchAnswers thomas 3 sheet_4 None 9
unfolding first_live tested_to prefixes
thomas_4 = record { sheet = rows_from of_plain 3 sheet_4 refl; answers = refl; counts = refl }

told_5 : Evaluates 2 sheet_5 (1 ∷ 2 ∷ 0 ∷ 0 ∷ 0 ∷ 0 ∷ 0 ∷ 0 ∷ [])
    ((1 ∷ 2 ∷ []) ∷ (2 ∷ 3 ∷ []) ∷ (1 ∷ 1 ∷ []) ∷ [])
    ((Some 1 ∷ None ∷ []) ∷ (None ∷ None ∷ []) ∷ (Some 1 ∷ Some 1 ∷ []) ∷ [])
    ((Some 1 ∷ None ∷ []) ∷ (None ∷ Some 1 ∷ []) ∷ (Some 1 ∷ Some 1 ∷ []) ∷ [])
    true true false
unfolding first_live tested_to prefixes
told_5 = record {
  bars_are = refl;
  gaps_are = refl;
  thomas_limits_are = refl;
  janet_says = refl;
  janet_like_says = refl;
  thomas_says = refl;
}

janet_5 : SearchAnswers janet 2 sheet_5 (Some (1 ∷ 2 ∷ [])) 2
unfolding first_live tested_to prefixes
janet_5 = record { sheet = rows_from of_plain 2 sheet_5 refl; answers = refl; counts = refl }

janet_like_5 : SearchAnswers janet_like 2 sheet_5 (Some (1 ∷ 2 ∷ [])) 2
unfolding first_live tested_to prefixes
janet_like_5 = record { sheet = rows_from of_plain 2 sheet_5 refl; answers = refl; counts = refl }

thomas_5 : SearchAnswers thomas 2 sheet_5 None 4
unfolding first_live tested_to prefixes
thomas_5 = record { sheet = rows_from of_plain 2 sheet_5 refl; answers = refl; counts = refl }

told_6 : Evaluates 2 sheet_6 (2 ∷ 1 ∷ 0 ∷ 0 ∷ 0 ∷ 0 ∷ 0 ∷ 0 ∷ [])
    ((3 ∷ 3 ∷ []) ∷ (1 ∷ 1 ∷ []) ∷ (2 ∷ 2 ∷ []) ∷ [])
    ((None ∷ None ∷ []) ∷ (None ∷ Some 1 ∷ []) ∷ (None ∷ Some 1 ∷ []) ∷ [])
    ((Some 1 ∷ None ∷ []) ∷ (None ∷ Some 1 ∷ []) ∷ (None ∷ Some 1 ∷ []) ∷ [])
    true true false
unfolding first_live tested_to prefixes
told_6 = record {
  bars_are = refl;
  gaps_are = refl;
  thomas_limits_are = refl;
  janet_says = refl;
  janet_like_says = refl;
  thomas_says = refl;
}

janet_6 : SearchAnswers janet 2 sheet_6 (Some (2 ∷ 1 ∷ [])) 3
unfolding first_live tested_to prefixes
janet_6 = record { sheet = rows_from of_plain 2 sheet_6 refl; answers = refl; counts = refl }

janet_like_6 : SearchAnswers janet_like 2 sheet_6 (Some (1 ∷ 2 ∷ [])) 2
unfolding first_live tested_to prefixes
janet_like_6 = record { sheet = rows_from of_plain 2 sheet_6 refl; answers = refl; counts = refl }

thomas_6 : SearchAnswers thomas 2 sheet_6 None 3
unfolding first_live tested_to prefixes
thomas_6 = record { sheet = rows_from of_plain 2 sheet_6 refl; answers = refl; counts = refl }

told_7 : Evaluates 3 sheet_7 (3 ∷ 2 ∷ 1 ∷ 0 ∷ 0 ∷ 0 ∷ 0 ∷ 0 ∷ [])
    ((3 ∷ 3 ∷ 2 ∷ []) ∷ (1 ∷ 1 ∷ 1 ∷ []) ∷ (4 ∷ 4 ∷ 2 ∷ []) ∷ (2 ∷ 2 ∷ 1 ∷ []) ∷ [])
    ((None ∷ Some 1 ∷ None ∷ []) ∷ (None ∷ Some 2 ∷ Some 3 ∷ []) ∷ (None ∷ None ∷ None ∷ []) ∷
    (None ∷ None ∷ Some 3 ∷ []) ∷ [])
    ((Some 1 ∷ Some 1 ∷ None ∷ []) ∷ (Some 1 ∷ Some 1 ∷ Some 1 ∷ []) ∷
    (Some 1 ∷ Some 1 ∷ None ∷ []) ∷ (None ∷ None ∷ Some 1 ∷ []) ∷ [])
    false false false
unfolding first_live tested_to prefixes
told_7 = record {
  bars_are = refl;
  gaps_are = refl;
  thomas_limits_are = refl;
  janet_says = refl;
  janet_like_says = refl;
  thomas_says = refl;
}

janet_7 : SearchAnswers janet 3 sheet_7 None 3
unfolding first_live tested_to prefixes
janet_7 = record { sheet = rows_from of_derivatives 3 sheet_7 refl; answers = refl; counts = refl }

janet_like_7 : SearchAnswers janet_like 3 sheet_7 None 5
unfolding first_live tested_to prefixes
janet_like_7 = record { sheet = rows_from of_derivatives 3 sheet_7 refl; answers = refl; counts = refl }

thomas_7 : SearchAnswers thomas 3 sheet_7 None 3
unfolding first_live tested_to prefixes
thomas_7 = record { sheet = rows_from of_derivatives 3 sheet_7 refl; answers = refl; counts = refl }

told_8 : Evaluates 3 sheet_8 (2 ∷ 3 ∷ 1 ∷ 0 ∷ 0 ∷ 0 ∷ 0 ∷ 0 ∷ [])
    ((1 ∷ 1 ∷ 1 ∷ []) ∷ (2 ∷ 2 ∷ 2 ∷ []) ∷ (1 ∷ 1 ∷ 1 ∷ []) ∷ [])
    ((None ∷ Some 2 ∷ None ∷ []) ∷ (None ∷ None ∷ None ∷ []) ∷ (None ∷ None ∷ None ∷ []) ∷ [])
    ((None ∷ Some 1 ∷ None ∷ []) ∷ (None ∷ None ∷ None ∷ []) ∷ (None ∷ None ∷ None ∷ []) ∷ [])
    false true false
unfolding first_live tested_to prefixes
told_8 = record {
  bars_are = refl;
  gaps_are = refl;
  thomas_limits_are = refl;
  janet_says = refl;
  janet_like_says = refl;
  thomas_says = refl;
}

janet_8 : SearchAnswers janet 3 sheet_8 None 9
unfolding first_live tested_to prefixes
janet_8 = record { sheet = rows_from of_derivatives 3 sheet_8 refl; answers = refl; counts = refl }

janet_like_8 : SearchAnswers janet_like 3 sheet_8 (Some (1 ∷ 2 ∷ 3 ∷ [])) 3
unfolding first_live tested_to prefixes
janet_like_8 = record { sheet = rows_from of_derivatives 3 sheet_8 refl; answers = refl; counts = refl }

thomas_8 : SearchAnswers thomas 3 sheet_8 None 9
unfolding first_live tested_to prefixes
thomas_8 = record { sheet = rows_from of_derivatives 3 sheet_8 refl; answers = refl; counts = refl }

told_9 : Evaluates 2 sheet_9 (2 ∷ 1 ∷ 0 ∷ 0 ∷ 0 ∷ 0 ∷ 0 ∷ 0 ∷ [])
    ((1 ∷ 1 ∷ []) ∷ (2 ∷ 2 ∷ []) ∷ (1 ∷ 1 ∷ []) ∷ (2 ∷ 1 ∷ []) ∷ (3 ∷ 2 ∷ []) ∷ [])
    ((Some 1 ∷ None ∷ []) ∷ (Some 2 ∷ None ∷ []) ∷ (None ∷ Some 1 ∷ []) ∷ (None ∷ None ∷ []) ∷
    (None ∷ None ∷ []) ∷ [])
    ((Some 1 ∷ None ∷ []) ∷ (Some 1 ∷ None ∷ []) ∷ (Some 1 ∷ Some 1 ∷ []) ∷ (None ∷ None ∷ []) ∷
    (None ∷ None ∷ []) ∷ [])
    false true false
unfolding first_live tested_to prefixes
told_9 = record {
  bars_are = refl;
  gaps_are = refl;
  thomas_limits_are = refl;
  janet_says = refl;
  janet_like_says = refl;
  thomas_says = refl;
}

janet_9 : SearchAnswers janet 2 sheet_9 None 3
unfolding first_live tested_to prefixes
janet_9 = record { sheet = rows_from of_derivatives 2 sheet_9 refl; answers = refl; counts = refl }

janet_like_9 : SearchAnswers janet_like 2 sheet_9 (Some (2 ∷ 1 ∷ [])) 3
unfolding first_live tested_to prefixes
janet_like_9 = record { sheet = rows_from of_derivatives 2 sheet_9 refl; answers = refl; counts = refl }

thomas_9 : SearchAnswers thomas 2 sheet_9 None 3
unfolding first_live tested_to prefixes
thomas_9 = record { sheet = rows_from of_derivatives 2 sheet_9 refl; answers = refl; counts = refl }

told_10 : Evaluates 2 sheet_10 (1 ∷ 2 ∷ 0 ∷ 0 ∷ 0 ∷ 0 ∷ 0 ∷ 0 ∷ [])
    ((2 ∷ 3 ∷ []) ∷ (1 ∷ 2 ∷ []) ∷ (1 ∷ 1 ∷ []) ∷ [])
    ((None ∷ None ∷ []) ∷ (Some 1 ∷ None ∷ []) ∷ (Some 1 ∷ Some 3 ∷ []) ∷ [])
    ((None ∷ Some 1 ∷ []) ∷ (Some 1 ∷ None ∷ []) ∷ (Some 1 ∷ Some 1 ∷ []) ∷ [])
    false true false
unfolding first_live tested_to prefixes
told_10 = record {
  bars_are = refl;
  gaps_are = refl;
  thomas_limits_are = refl;
  janet_says = refl;
  janet_like_says = refl;
  thomas_says = refl;
}

janet_10 : SearchAnswers janet 2 sheet_10 None 3
unfolding first_live tested_to prefixes
janet_10 = record { sheet = rows_from of_plain 2 sheet_10 refl; answers = refl; counts = refl }

janet_like_10 : SearchAnswers janet_like 2 sheet_10 (Some (1 ∷ 2 ∷ [])) 2
unfolding first_live tested_to prefixes
janet_like_10 = record { sheet = rows_from of_plain 2 sheet_10 refl; answers = refl; counts = refl }

thomas_10 : SearchAnswers thomas 2 sheet_10 None 3
unfolding first_live tested_to prefixes
thomas_10 = record { sheet = rows_from of_plain 2 sheet_10 refl; answers = refl; counts = refl }

told_11 : Evaluates 3 sheet_11 (3 ∷ 2 ∷ 1 ∷ 0 ∷ 0 ∷ 0 ∷ 0 ∷ 0 ∷ [])
    ((3 ∷ 3 ∷ 2 ∷ []) ∷ (2 ∷ 2 ∷ 1 ∷ []) ∷ (1 ∷ 1 ∷ 1 ∷ []) ∷ (4 ∷ 4 ∷ 3 ∷ []) ∷
    (5 ∷ 5 ∷ 4 ∷ []) ∷ [])
    ((None ∷ None ∷ Some 1 ∷ []) ∷ (None ∷ None ∷ Some 1 ∷ []) ∷ (None ∷ Some 2 ∷ Some 1 ∷ []) ∷
    (None ∷ None ∷ Some 1 ∷ []) ∷ (None ∷ None ∷ None ∷ []) ∷ [])
    ((Some 1 ∷ None ∷ Some 1 ∷ []) ∷ (Some 1 ∷ None ∷ Some 1 ∷ []) ∷ (None ∷ Some 1 ∷ Some 1 ∷ []) ∷
    (Some 1 ∷ Some 1 ∷ Some 1 ∷ []) ∷ (Some 1 ∷ Some 1 ∷ None ∷ []) ∷ [])
    false false false
unfolding first_live tested_to prefixes
told_11 = record {
  bars_are = refl;
  gaps_are = refl;
  thomas_limits_are = refl;
  janet_says = refl;
  janet_like_says = refl;
  thomas_says = refl;
}

janet_11 : SearchAnswers janet 3 sheet_11 None 3
unfolding first_live tested_to prefixes
janet_11 = record { sheet = rows_from of_plain 3 sheet_11 refl; answers = refl; counts = refl }

janet_like_11 : SearchAnswers janet_like 3 sheet_11 None 3
unfolding first_live tested_to prefixes
janet_like_11 = record { sheet = rows_from of_plain 3 sheet_11 refl; answers = refl; counts = refl }

thomas_11 : SearchAnswers thomas 3 sheet_11 None 3
unfolding first_live tested_to prefixes
thomas_11 = record { sheet = rows_from of_plain 3 sheet_11 refl; answers = refl; counts = refl }

told_12 : Evaluates 3 sheet_12 (2 ∷ 3 ∷ 1 ∷ 0 ∷ 0 ∷ 0 ∷ 0 ∷ 0 ∷ [])
    ((4 ∷ 4 ∷ 4 ∷ []) ∷ (5 ∷ 4 ∷ 5 ∷ []) ∷ (1 ∷ 1 ∷ 1 ∷ []) ∷ (2 ∷ 2 ∷ 2 ∷ []) ∷
    (3 ∷ 3 ∷ 3 ∷ []) ∷ [])
    ((None ∷ None ∷ Some 1 ∷ []) ∷ (None ∷ None ∷ None ∷ []) ∷ (None ∷ Some 1 ∷ None ∷ []) ∷
    (None ∷ Some 1 ∷ None ∷ []) ∷ (None ∷ Some 1 ∷ None ∷ []) ∷ [])
    ((None ∷ None ∷ Some 1 ∷ []) ∷ (None ∷ None ∷ None ∷ []) ∷ (None ∷ Some 1 ∷ Some 1 ∷ []) ∷
    (None ∷ Some 1 ∷ Some 1 ∷ []) ∷ (None ∷ Some 1 ∷ Some 1 ∷ []) ∷ [])
    false false false
unfolding first_live tested_to prefixes
told_12 = record {
  bars_are = refl;
  gaps_are = refl;
  thomas_limits_are = refl;
  janet_says = refl;
  janet_like_says = refl;
  thomas_says = refl;
}

janet_12 : SearchAnswers janet 3 sheet_12 None 5
unfolding first_live tested_to prefixes
janet_12 = record { sheet = rows_from of_plain 3 sheet_12 refl; answers = refl; counts = refl }

janet_like_12 : SearchAnswers janet_like 3 sheet_12 None 5
unfolding first_live tested_to prefixes
janet_like_12 = record { sheet = rows_from of_plain 3 sheet_12 refl; answers = refl; counts = refl }

thomas_12 : SearchAnswers thomas 3 sheet_12 None 5
unfolding first_live tested_to prefixes
thomas_12 = record { sheet = rows_from of_plain 3 sheet_12 refl; answers = refl; counts = refl }

pub seeded : TheSeededSheetsAreAsTheReferenceSays
seeded = record {
  told_1 = told_1;
  janet_1 = janet_1;
  janet_like_1 = janet_like_1;
  thomas_1 = thomas_1;
  told_2 = told_2;
  janet_2 = janet_2;
  janet_like_2 = janet_like_2;
  thomas_2 = thomas_2;
  told_3 = told_3;
  janet_3 = janet_3;
  janet_like_3 = janet_like_3;
  thomas_3 = thomas_3;
  told_4 = told_4;
  janet_4 = janet_4;
  janet_like_4 = janet_like_4;
  thomas_4 = thomas_4;
  told_5 = told_5;
  janet_5 = janet_5;
  janet_like_5 = janet_like_5;
  thomas_5 = thomas_5;
  told_6 = told_6;
  janet_6 = janet_6;
  janet_like_6 = janet_like_6;
  thomas_6 = thomas_6;
  told_7 = told_7;
  janet_7 = janet_7;
  janet_like_7 = janet_like_7;
  thomas_7 = thomas_7;
  told_8 = told_8;
  janet_8 = janet_8;
  janet_like_8 = janet_like_8;
  thomas_8 = thomas_8;
  told_9 = told_9;
  janet_9 = janet_9;
  janet_like_9 = janet_like_9;
  thomas_9 = thomas_9;
  told_10 = told_10;
  janet_10 = janet_10;
  janet_like_10 = janet_like_10;
  thomas_10 = thomas_10;
  told_11 = told_11;
  janet_11 = janet_11;
  janet_like_11 = janet_like_11;
  thomas_11 = thomas_11;
  told_12 = told_12;
  janet_12 = janet_12;
  janet_like_12 = janet_like_12;
  thomas_12 = thomas_12;
}
