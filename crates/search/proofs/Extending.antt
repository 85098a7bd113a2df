-- A table of limits while entries come and go, and what it tells of a prefix. Assumes nothing.
use Rattle.std.proofs.Common.{◌≡◌, ℕ, ◌<◌, ◌≤◌, Bool, cond, eqb, List, [], ◌∷◌, ◌++◌, length, replicate, None, Decides, Option, sym, ap, ◌∙◌, inl, inr, arith}
use Rattle.std.proofs.lemmas.List.{get_or-replicate, get_or_past}
use Rattle.std.proofs.lemmas.Bool.{cases_eq, cases_lt, cases_Bool, eq-eqb, ne_eqb, cond-true, cond-false}
use Rattle.std.proofs.lemmas.Bool.Decides.{same_from_decides, Decides-like}
use Rattle.elements.specs.Element.{Shown}
use Rattle.divisions.specs.Laws.{Meaning, Lawful}
use Rattle.cones.specs.Cones.{IsShortfall}
use Rattle.cones.specs.Tables.{limits_of}
use Rattle.cones.proofs.Alike.{Same, same_back}
use Rattle.search.specs.Prefixes.{has, Entries, Prefix, completed}
use Rattle.search.specs.Liveness.{RowsOfSheet, prefix_limits, live}
use Rattle.search.specs.Columns.{Wide, Written, Tabled, cones_at, TellsCones, without, Relocated, Extended}
use Rattle.search.proofs.Entries.{has_snoc}
use Rattle.search.proofs.Listed.{has_middle, apart_middle, entries_front}
use Rattle.search.proofs.Orders.{count_unused, completed_front}
use Rattle.search.proofs.Testing.{only_kept}
use Rattle.search.proofs.Writing.{no_limit, start_wide, start_limits}
use Rattle.search.proofs.Locating.{located_less, located_alike}
use Rattle.search.proofs.Deadness.{shortfall_on, live_is_told_by_its_test, begun, same_limits, front_more, has_on}

module _ (m : Meaning) (lawful : Lawful m) (n : ℕ) (rows : List Shown) (s : RowsOfSheet n rows) where
  module _ (p : List ℕ) (x : ℕ) (h : Entries n (p ++ (x ∷ []))) where
    -- the last entry alone makes a difference
    agree : (q v : ℕ) → q < length rows → (v ≡ x → ⊥) → prefix_limits m n rows (p ++ (x ∷ [])) q v ≡
        prefix_limits m n rows p q v
    agree q v hq d = elim (cases_Bool (has v p)) [
      | inl t ↦ only_kept (p ++ (x ∷ [])) (m rows (completed n (p ++ (x ∷ [])))) q v
          (has_on m lawful n rows s v p (x ∷ []) t)
          ∙ same_limits m lawful n rows s p (completed n (p ++ (x ∷ []))) (completed n p)
          (begun m lawful n rows s (p ++ (x ∷ [])) h) (begun m lawful n rows s p front)
          (front_more m lawful n rows s p (x ∷ []) h) (completed_front n p front) most q v hq t
          ∙ sym (only_kept p (m rows (completed n p)) q v t)
      | inr f ↦ cond-false (has v (p ++ (x ∷ []))) (m rows (completed n (p ++ (x ∷ []))) q v) None
          (has_snoc p x v f (λ e. d (sym e)))
          ∙ sym (cond-false (has v p) (m rows (completed n p) q v) None f)
    ]
      where
        front : Entries n p
        front = entries_front n p (x ∷ []) h

        most : length p ≤ n
        most = omega (arith, count_unused n p front)

    -- a variable that is no entry has no limits
    unlisted : (q v : ℕ) → v ≡ x → prefix_limits m n rows p q v ≡ None
    unlisted q v e = cond-false (has v p) (m rows (completed n p) q v) None (rw e (apart_middle p x [] h.apart))

    -- a cone that is told by all limits is one by fewer
    pub located_back : (cones : List (List ℕ)) → TellsCones n rows (prefix_limits m n rows (p ++ (x ∷ []))) cones →
        TellsCones n rows (prefix_limits m n rows p) cones
    located_back cones l =
        located_less n rows (prefix_limits m n rows p) (prefix_limits m n rows (p ++ (x ∷ []))) cones
        (λ q v d hq low high e. elim (cases_eq v x) [
          | inl z ↦ no_limit d (sym (unlisted q v z) ∙ e)
          | inr o ↦ agree q v hq o ∙ e
        ]) l

    module _ (old new : List (List (Option ℕ))) where
      -- its column comes
      pub tabled_more : Tabled m n rows p old →
          (Wide old → Wide new × ((q v : ℕ) → q < length rows → limits_of new q v ≡
          cond (eqb v x) (m rows (completed n (p ++ (x ∷ []))) q x) (limits_of old q v))) →
          Tabled m n rows (p ++ (x ∷ [])) new
      tabled_more t w = record {
        wide = (w t.wide).0;
        limits = λ q v hq low high. elim (cases_eq v x) [
          | inl e ↦ (w t.wide).1 q v hq ∙ cond-true (eqb v x) (m rows (completed n (p ++ (x ∷ []))) q x)
              (limits_of old q v) (eq-eqb v x e)
              ∙ ap (λ (y : ℕ). m rows (completed n (p ++ (x ∷ []))) q y) (sym e)
              ∙ sym (only_kept (p ++ (x ∷ [])) (m rows (completed n (p ++ (x ∷ [])))) q v (rw e (has_middle x p [])))
          | inr d ↦ (w t.wide).1 q v hq ∙ cond-false (eqb v x) (m rows (completed n (p ++ (x ∷ []))) q x)
              (limits_of old q v) (ne_eqb v x d)
              ∙ t.limits q v hq low high ∙ sym (agree q v hq d)
        ];
      }

      -- and goes
      pub tabled_less : (count : ℕ) → length rows ≡ count → Tabled m n rows (p ++ (x ∷ [])) old →
          (Wide old → Wide new × ((q v : ℕ) → q < count → limits_of new q v ≡
          cond (eqb v x) None (limits_of old q v))) →
          Tabled m n rows p new
      tabled_less count long t w = record {
        wide = (w t.wide).0;
        limits = λ q v hq low high.
            let place : q < count = omega arith in
            elim (cases_eq v x) [
              | inl e ↦ (w t.wide).1 q v place ∙ cond-true (eqb v x) None (limits_of old q v) (eq-eqb v x e)
                  ∙ sym (unlisted q v e)
              | inr d ↦ (w t.wide).1 q v place ∙ cond-false (eqb v x) None (limits_of old q v) (ne_eqb v x d)
                  ∙ t.limits q v hq low high ∙ agree q v hq d
            ];
      }

  module _ (p : List ℕ) (h : Prefix n p) (table : List (List (Option ℕ))) (t : Tabled m n rows p table) where
    -- whoever tells whether the table has a shortfall tells whether the prefix is live
    pub tabled_live : (r : Bool) → Decides r ((q v d : ℕ) → IsShortfall n rows (limits_of table) q v d → ⊥) →
        r ≡ live m n rows p
    tabled_live r told =
        same_from_decides r (live m n rows p)
        (Decides-like r
        (λ none (q, v, d, short). none q v d (shortfall_on n rows (prefix_limits m n rows p) (limits_of table)
        (λ a b c ha low high e. t.limits a b ha low high ∙ e) q v d short))
        (λ alive q v d short. alive (
          q,
          v,
          d,
          shortfall_on n rows (limits_of table) (prefix_limits m n rows p)
              (λ a b c ha low high e. sym (t.limits a b ha low high) ∙ e) q v d short,
        ))
        told)
        (live_is_told_by_its_test m n rows s p h)

  -- x is added to q: its column is written by the ordering that the longer prefix begins, and r and the table of cones
  -- tell where the products then lie
  pub extended : (p q : List ℕ) (x : ℕ) (order : List ℕ) (old new : List (List (Option ℕ)))
      (before after : List (List ℕ)) (count : ℕ) (r : Bool) →
      p ≡ q ++ (x ∷ []) → Prefix n p → order ≡ completed n p → length rows ≡ count → Tabled m n rows q old →
      TellsCones n rows (prefix_limits m n rows q) before →
      Written (λ c. m rows order c x) x count old new →
      (TellsCones n rows (without x (limits_of new)) before → Relocated n rows x (limits_of new) r after) →
      Extended m n rows q p r new after
  extended p q x order old new before after count r more h is long t l w told =
      let entries : Entries n (q ++ (x ∷ [])) = rw more at h.entries in
      let order_is : order ≡ completed n (q ++ (x ∷ [])) = is ∙ ap (λ xs. completed n xs) more in
      let tabled : Tabled m n rows (q ++ (x ∷ [])) new =
      tabled_more q x entries old new t (λ wide. (
        (w wide).0,
        λ c v l. rw (← order_is)
            ((w wide).1 c v (omega arith)),
      )) in
      let whole : Tabled m n rows p new = rw more tabled in
      let same : Same n rows (prefix_limits m n rows q) (without x (limits_of new)) =
      λ c v hc low high. elim (cases_eq v x) [
        | inl e ↦ unlisted q x entries c v e ∙ sym (cond-true (eqb v x) None (limits_of new c v) (eq-eqb v x e))
        | inr d ↦ sym (t.limits c v hc low high) ∙ sym (cond-false (eqb v x) (m rows order c x) (limits_of old c v)
            (ne_eqb v x d)) ∙ sym ((w t.wide).1 c v (omega arith))
            ∙ sym (cond-false (eqb v x) None (limits_of new c v) (ne_eqb v x d))
      ] in
      let found = told (located_alike n rows (prefix_limits m n rows q) (without x (limits_of new)) before same l) in
      record {
        told = tabled_live p h new whole r found.told;
        tabled = whole;
        shorter = located_alike n rows (without x (limits_of new)) (prefix_limits m n rows q) after
            (same_back n rows (prefix_limits m n rows q) (without x (limits_of new)) same) found.others;
        longer =
            λ live. located_alike n rows (limits_of new) (prefix_limits m n rows p) after whole.limits (found.all live);
      }

module _ (m : Meaning) (lawful : Lawful m) (n : ℕ) (rows : List Shown) (s : RowsOfSheet n rows) where
  -- no entries, no limits
  pub tabled_start : Tabled m n rows [] (replicate 64 (replicate 8 None))
  tabled_start = record { wide = start_wide; limits = λ q v hq low high. start_limits q v }

  -- no limits, no products
  pub located_start : TellsCones n rows (prefix_limits m n rows []) (replicate 64 (replicate 8 64))
  located_start = record { wide = wide_cones; cone = λ q v d hq low high e. no_limit d e }
    where
      wide_cones : (q : ℕ) → length (cones_at (replicate 64 (replicate 8 64)) q) ≡ 8
      wide_cones q = elim (cases_lt q 64) [
        | inl l ↦ ap length (get_or-replicate 64 q (replicate 8 64) (replicate 8 0) l)
        | inr l ↦ ap length (get_or_past (replicate 64 (replicate 8 64)) q (replicate 8 0) l)
      ]
