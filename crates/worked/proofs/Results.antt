-- The ten results, by computing the definitions. Assumes nothing.
use Rattle.std.proofs.Common.{◌≡◌, ℕ, zero, suc, ◌<◌, ◌≤◌, Bool, ◌&&◌, eqb, leb, List, [], ◌∷◌, length, Some, None, Option, refl, ap, ◌∙◌, subst, arith}
use Rattle.std.proofs.lemmas.Option.{none-some}
use Rattle.std.specs.Option.{option_map}
use Rattle.elements.specs.Element.{Shown, entry, product, power, quotient, times}
use Rattle.orderings.specs.Rows.{row}
use Rattle.divisions.specs.Janet.{janet, janet_like}
use Rattle.divisions.specs.Thomas.{thomas}
use Rattle.divisions.specs.Lawfulness.{janet_like_lawful, thomas_lawful}
use Rattle.cones.specs.Cones.{InCone, Complete, IsShortfall, IsFirstShortfall}
use Rattle.search.specs.Prefixes.{prefixes, Prefix, padded}
use Rattle.search.specs.Walks.{first_live, tested_to}
use Rattle.search.specs.Liveness.{RowsOfSheet, prefix_limits, Dead, answer, tested}
use Rattle.search.proofs.Deadness.{live_is_told_by_its_test, full_prefix_is_live_exactly_when_complete}
use Rattle.search.proofs.Testing.{decides_divides}
use Rattle.worked.specs.Sets.{plain, set_a, set_b, set_c, set_d, set_e, derivatives_e, falling, SearchAnswers, TheTenWorkedResults}
use Rattle.worked.proofs.Fitting.{rows_from}

one_is : (l : ℕ) → ◌≡◌ {A = Option ℕ} (Some 1) (Some l) → 1 ≡ l
one_is l e = cc

-- the kinds: plain terms, and derivatives
abbrev pub of_plain : ℕ → Bool
of_plain f = eqb f 0

abbrev pub of_derivatives : ℕ → Bool
of_derivatives f = leb 1 f && leb f 16

sheet_a : RowsOfSheet 3 set_a
sheet_a = rows_from of_plain 3 set_a refl

sheet_b : RowsOfSheet 2 set_b
sheet_b = rows_from of_plain 2 set_b refl

sheet_c : RowsOfSheet 2 set_c
sheet_c = rows_from of_plain 2 set_c refl

sheet_d : RowsOfSheet 3 set_d
sheet_d = rows_from of_plain 3 set_d refl

sheet_e : RowsOfSheet 2 set_e
sheet_e = rows_from of_plain 2 set_e refl

sheet_derivatives : RowsOfSheet 2 derivatives_e
sheet_derivatives = rows_from of_derivatives 2 derivatives_e refl

settles_a : SearchAnswers janet 3 set_a (Some (1 ∷ 2 ∷ 3 ∷ [])) 3
unfolding first_live tested_to prefixes
settles_a = record { sheet = sheet_a; answers = refl; counts = refl }

settles_b : SearchAnswers janet 2 set_b (Some (2 ∷ 1 ∷ [])) 3
unfolding first_live tested_to prefixes
settles_b = record { sheet = sheet_b; answers = refl; counts = refl }

like_settles_b : SearchAnswers janet_like 2 set_b (Some (1 ∷ 2 ∷ [])) 2
unfolding first_live tested_to prefixes
like_settles_b = record { sheet = sheet_b; answers = refl; counts = refl }

never_settles_e : SearchAnswers janet 2 set_e None 2
unfolding first_live tested_to prefixes
never_settles_e = record { sheet = sheet_e; answers = refl; counts = refl }

like_settles_e : SearchAnswers janet_like 2 set_e (Some (1 ∷ 2 ∷ [])) 2
unfolding first_live tested_to prefixes
like_settles_e = record { sheet = sheet_e; answers = refl; counts = refl }

settles_derivatives : SearchAnswers janet 2 derivatives_e (Some (1 ∷ 2 ∷ [])) 2
unfolding first_live tested_to prefixes
settles_derivatives = record { sheet = sheet_derivatives; answers = refl; counts = refl }

-- x2x3 is a multiple of x2 only, which has limit 1 in variable 3
dead_a : Dead janet 3 set_a (3 ∷ [])
unfolding product power quotient
dead_a = (2, 3, 1, record { place = omega arith; low = omega arith; high = omega arith; limit = refl; outside = none })
  where
    none : (s : ℕ) → InCone 3 set_a (prefix_limits janet 3 set_a (3 ∷ [])) s (times (row set_a 2) 3 1) → ⊥
    none zero cone = let h : 1 ≤ 0 = cone.divides.smaller 1 in omega arith
    none (suc zero) cone = let h : 2 ≤ 0 = cone.divides.smaller 1 in omega arith
    none (suc (suc zero)) cone = let h : 1 < 1 = cone.multiplier 3 1 (omega arith) (omega arith) refl in omega arith
    none (suc (suc (suc zero))) cone = let h : 1 ≤ 0 = cone.divides.smaller 1 in omega arith
    none (suc (suc (suc (suc s)))) cone = omega (arith, cone.place)

prefix_321 : Prefix 3 (3 ∷ 2 ∷ 1 ∷ [])
prefix_321 = record {
  some = omega arith;
  most = omega arith;
  entries = record {
    range = ((omega arith, omega arith), ((omega arith, omega arith), ((omega arith, omega arith), tt)));
    apart = (refl, (refl, (refl, tt)));
  };
}

-- all of 3,2,1 is live by Janet-like
complete_d : Complete 3 set_d (janet_like set_d falling)
complete_d =
    let full = 3 ∷ 2 ∷ 1 ∷ [] in
    (full_prefix_is_live_exactly_when_complete janet_like janet_like_lawful 3 set_d sheet_d full prefix_321 refl).0
    ((live_is_told_by_its_test janet_like 3 set_d sheet_d full prefix_321).0 refl)

-- x1⁵x3 lies in no cone, since x1⁵ has limit 1 in variable 3 and no other row divides it; x1⁵x2 lies in that of x1²x2
short_d : IsFirstShortfall 3 set_d (janet set_d falling) 0 3 1
unfolding product power quotient
short_d = record {
  shortfall = record { place = omega arith; low = omega arith; high = omega arith; limit = refl; outside = none };
  none_lower = λ q x l h. absurd (omega arith);
  none_before = before;
}
  where
    none : (s : ℕ) → InCone 3 set_d (janet set_d falling) s (times (row set_d 0) 3 1) → ⊥
    none zero cone = let h : 1 < 1 = cone.multiplier 3 1 (omega arith) (omega arith) refl in omega arith
    none (suc zero) cone = let h : 1 ≤ 0 = cone.divides.smaller 2 in omega arith
    none (suc (suc zero)) cone = let h : 4 ≤ 0 = cone.divides.smaller 2 in omega arith
    none (suc (suc (suc zero))) cone = let h : 2 ≤ 1 = cone.divides.smaller 3 in omega arith
    none (suc (suc (suc (suc zero)))) cone = let h : 2 ≤ 0 = cone.divides.smaller 2 in omega arith
    none (suc (suc (suc (suc (suc zero))))) cone = let h : 5 ≤ 1 = cone.divides.smaller 3 in omega arith
    none (suc (suc (suc (suc (suc (suc s)))))) cone = omega (arith, cone.place)

    within : (v l : ℕ) → 1 ≤ v → v ≤ 3 → janet set_d falling 1 v ≡ Some l →
        entry (quotient (row set_d 1) (times (row set_d 0) 2 1)) v < l
    within zero l low high e = absurd (omega arith)
    within (suc zero) l low high e = absurd (none-some l e)
    within (suc (suc zero)) l low high e = let is : 1 ≡ l = one_is l e in omega arith
    within (suc (suc (suc zero))) l low high e = let is : 1 ≡ l = one_is l e in omega arith
    within (suc (suc (suc (suc v)))) l low high e = absurd (omega arith)

    cone : InCone 3 set_d (janet set_d falling) 1 (times (row set_d 0) 2 1)
    cone = record {
      place = omega arith;
      divides = (decides_divides (row set_d 1) (row set_d 0) 2 1 refl).0 refl;
      multiplier = within;
    }

    before : (x l : ℕ) → x < 3 → IsShortfall 3 set_d (janet set_d falling) 0 x l → ⊥
    before zero l h short = omega (arith, short.low)
    before (suc zero) l h short = none-some l short.limit
    before (suc (suc zero)) l h short =
        let Holding : ℕ → Type 0 = λ k. InCone 3 set_d (janet set_d falling) 1 (times (row set_d 0) 2 k) in
        short.outside 1 (subst Holding (one_is l short.limit) cone)
    before (suc (suc (suc x))) l h short = omega arith

prefix_12 : Prefix 2 (1 ∷ 2 ∷ [])
prefix_12 = record {
  some = omega arith;
  most = omega arith;
  entries = record {
    range = ((omega arith, omega arith), ((omega arith, omega arith), tt));
    apart = (refl, (refl, tt));
  };
}

-- all of 1,2 is live by Thomas, whose limits are the same under every ordering
complete_c : (order : List ℕ) → Complete 2 set_c (thomas set_c order)
complete_c order =
    let full = 1 ∷ 2 ∷ [] in
    (full_prefix_is_live_exactly_when_complete thomas thomas_lawful 2 set_c sheet_c full prefix_12 refl).0
    ((live_is_told_by_its_test thomas 2 set_c sheet_c full prefix_12).0 refl)

pub ten : TheTenWorkedResults
ten = record {
  janet_settles_a = settles_a;
  prefix_3_of_a_is_dead = dead_a;
  janet_settles_b = settles_b;
  janet_like_settles_b = like_settles_b;
  janet_never_settles_e = never_settles_e;
  janet_like_settles_e = like_settles_e;
  janet_settles_derivatives_e = settles_derivatives;
  janet_like_completes_d = complete_d;
  janet_falls_short_on_d = short_d;
  thomas_completes_c = complete_c;
}

-- what a search over the rows of set B answers
module _ (u v w : Shown) (a : u ≡ plain 3 0 0) (b : v ≡ plain 1 1 0) (c : w ≡ plain 0 2 0) where
  is_b : u ∷ v ∷ w ∷ [] ≡ set_b
  is_b = cc

  pub ordering_b : (o : Option (List ℕ)) →
      (RowsOfSheet 2 (u ∷ v ∷ w ∷ []) → o ≡ option_map padded (answer janet 2 (u ∷ v ∷ w ∷ []))) →
      o ≡ Some (2 ∷ 1 ∷ 0 ∷ 0 ∷ 0 ∷ 0 ∷ 0 ∷ 0 ∷ [])
  ordering_b o h =
      subst (λ rows. RowsOfSheet 2 rows → o ≡ option_map padded (answer janet 2 rows)) is_b h sheet_b ∙
      ap (option_map padded) settles_b.answers

  pub tested_b : (t : ℕ) → (RowsOfSheet 2 (u ∷ v ∷ w ∷ []) → t ≡ length (tested janet 2 (u ∷ v ∷ w ∷ []))) → t ≡ 3
  tested_b t h = subst (λ rows. RowsOfSheet 2 rows → t ≡ length (tested janet 2 rows)) is_b h sheet_b ∙ settles_b.counts
