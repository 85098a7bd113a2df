-- The steps of the search. Assumes nothing.
use Rattle.std.proofs.Common.{◌≡◌, ℕ, suc, ◌+◌, ◌-◌, ◌*◌, ◌<◌, ◌≤◌, ◌≢◌, Bool, true, false, List, [], ◌∷◌, ◌++◌, length, map, get_or, take, set, replicate, Some, None, Option, MatchOption, sym, refl, ap, ◌∙◌, add-one, arith}
use lib.Seq.{take-set-le}
use Rattle.std.specs.Option.{option_map}
use Rattle.elements.specs.Element.{Shown}
use Rattle.elements.specs.declared.Element as element
use Rattle.divisions.specs.Laws.{Meaning, Lawful}
use Rattle.search.specs.Prefixes.{has, unused_above, padded, completed}
use Rattle.search.specs.Liveness.{RowsOfSheet, prefix_limits, live, answer, tested}
use Rattle.search.specs.Columns.{Written, Tabled, TellsCones, TellsPrefix, Extended}
use Rattle.search.specs.Prefix.{LosesLast, NoneUnusedAbove, IsNextUnused, entries_of, shorter}
use Rattle.search.specs.Walk.{rows_of, IsAtPrefix, TakesIn}
use Rattle.search.specs.declared.prefix.Prefix.{Prefix}
use Rattle.search.specs.declared.walk.Walk.{Walk}
use Rattle.search.proofs.Reached.{literal}
use Rattle.search.proofs.Deadness.{closed}
use Rattle.search.proofs.Held.{Held, held, held_last, last_range, taken_more}
use Rattle.search.proofs.Extending.{tabled_start, tabled_less, located_start, located_back}
use Rattle.search.proofs.Rest.{rest, AtTurn, Follows, start, start_follows, bounded, fresh, entries_p, popped, popped_less, popped_follows, dead, dead_less, dead_follows, deeper, deeper_less, deeper_follows, found_first, found_count, ended_first, ended_count}

-- where the search stands; for rows of a sheet, what is left decides what it finds, the table has the limits of the
-- prefix, and that of cones tells where the products lie
pub record Walking (m : Meaning) (n : ℕ) (rows : List Shown) (p : Prefix) (from c : ℕ) (table : List (List (Option ℕ)))
    (cones : List (List ℕ)) : Type 0 where
  pub same : p.n ≡ n
  pub stands : AtTurn n p.len p.entries from c
  pub follows : RowsOfSheet n rows → Follows (live m n rows) n p.len p.entries from c
  pub tabled : RowsOfSheet n rows → Tabled m n rows (take p.len p.entries) table
  pub located : RowsOfSheet n rows → TellsCones n rows (prefix_limits m n rows (take p.len p.entries)) cones

-- what an extension tells of a walk tells it of one with the same rows and tables
pub told_alike : {E : Type 0} {e : element.Ghosts E} (m : Meaning) (n : ℕ) (q p : List ℕ) (r : Bool) (rows : List E)
    (old alike new : Walk E e) →
    alike.rows.now ≡ rows → alike.table ≡ old.table → alike.cones ≡ old.cones →
    (RowsOfSheet n (rows_of alike) → IsAtPrefix m n q alike → TakesIn m n q p r alike new) →
    RowsOfSheet n (map e.shown rows) → TellsPrefix m n (map e.shown rows) q old.table.limits old.cones →
    Extended m n (map e.shown rows) q p r new.table.limits new.cones
told_alike m n q p r rows old alike new same table cones told = rw (← same, ← table, ← cones) told

-- what is left of the listing
abbrev pub work : ℕ → Prefix → ℕ → ℕ
work n p from = 2 * length (rest n p.len p.entries from) + p.len

-- what the search answers for rows of a sheet
pub record Answers (m : Meaning) (n : ℕ) (rows : List Shown) (o : Option (List ℕ)) (c : ℕ) : Type 0 where
  pub ordering : o ≡ option_map padded (answer m n rows)
  pub tested : c ≡ length (tested m n rows)

-- q is p with x after it
abbrev pub Pushed : Prefix → ℕ → Prefix → Type 0
Pushed p x q = record { entries : q.entries ≡ set p.entries p.len x; len : q.len ≡ p.len + 1; same : q.n ≡ p.n }

-- q is p without its last entry, x
abbrev pub Popped : Prefix → ℕ → Prefix → Type 0
Popped p x q = record { last : LosesLast p q x; same : q.n ≡ p.n }

-- q is what a pop leaves of p, and o what it takes off
abbrev pub Pops : Prefix → Option ℕ → Prefix → Type 0
Pops p o q = record { last : MatchOption o (p.len ≡ 0) (LosesLast p q); same : q.n ≡ p.n }

-- what was pushed is popped
module _ (p : Prefix) (x : ℕ) (q : Prefix) (on : Pushed p x q) (b : Prefix) where
  off : (o : Option ℕ) → Pops q o b → (b.len ≡ p.len) × (b.entries ≡ set q.entries b.len 0)
  off None pops = absurd (omega (arith, pops.last, on.len))
  off (Some y) pops = (omega (arith, pops.last.fewer, on.len), pops.last.entries)

  back : (o : Option ℕ) → Pops q o b → (b.len ≡ p.len) × (b.entries ≡ set (set p.entries p.len x) p.len 0)
  back o pops = let (len, entries) = off o pops in (len, entries ∙ rw (len, on.entries) refl)

module _ {m : Meaning} (lawful : Lawful m) {n : ℕ} {rows : List Shown} where
  pub walking_start : 1 ≤ n → (p : Prefix) → p.len ≡ 0 → p.n ≡ n →
      Walking m n rows p 0 0 (replicate 64 (replicate 8 None)) (replicate 64 (replicate 8 64))
  walking_start some p z same = record {
    same = same;
    stands = rw z (start n p.entries some);
    follows = λ s. rw z (start_follows (live m n rows) n p.entries some);
    tabled = λ s. rw z (tabled_start m lawful n rows s);
    located = λ s. rw z (located_start m lawful n rows s);
  }

  module _ {p : Prefix} {from c : ℕ} {table : List (List (Option ℕ))} {cones : List (List ℕ)}
      (w : Walking m n rows p from c table cones) where
    here : Held n p.len p.entries
    here = rw w.same at (held p)

    pub tests_fit : c < 43046721
    tests_fit = bounded here w.stands

    -- no variable is left at this place
    module _ (e : NoneUnusedAbove p from) where
      ended : unused_above n (take p.len p.entries) from ≡ []
      ended = rw w.same at e

      -- and no other place
      pub walking_end : p.len ≡ 0 → RowsOfSheet n rows → Answers m n rows None c
      walking_end z s =
          let (o, t) = literal (live m n rows) n (closed m lawful n rows s) in
          record {
            ordering = ended_first here w.stands (w.follows s) z ended ∙ ap (option_map padded) o;
            tested = ended_count here w.stands (w.follows s) z ended ∙ ap length t;
          }

      module _ {x : ℕ} (q : Prefix) (off : Popped p x q) where
        z : p.len ≡ suc q.len
        z = off.last.fewer ∙ add-one q.len

        pub pop_range : (1 ≤ x) × (x ≤ 8)
        pop_range = let (low, high) = last_range here q.len z in
            (omega (arith, off.last.last, low), omega (arith, off.last.last, high, here.most))

        pub walking_back : (new : List (List (Option ℕ))) (count : ℕ) → length rows ≡ count →
            Written (λ r. None) x count table new → Walking m n rows q x c new cones
        walking_back new count long written = record {
          same = off.same ∙ w.same;
          stands = rw (off.last.entries, ← off.last.last) (popped here w.stands q.len z ended);
          follows = λ s.
              rw (off.last.entries, ← off.last.last) (popped_follows here w.stands (w.follows s) q.len z ended);
          tabled = λ s.
              let last = held_last here q.len z in
              rw (off.last.entries, take-set-le q.len p.entries q.len 0 (omega arith))
              (tabled_less m lawful n rows s (take q.len p.entries) (get_or p.entries q.len 0) (rw last at here.proper)
              table new count long (rw last at (w.tabled s)) (rw (← off.last.last) at written));
          located = λ s.
              let last = held_last here q.len z in
              rw (off.last.entries, take-set-le q.len p.entries q.len 0 (omega arith))
              (located_back m lawful n rows s (take q.len p.entries) (get_or p.entries q.len 0)
              (rw last at here.proper) cones (rw last at (w.located s)));
        }

        pub work_back : work n q x < work n p from
        work_back = rw (off.last.entries, ← off.last.last) (popped_less here w.stands q.len z ended)

    -- x comes next
    module _ (x : ℕ) (e : IsNextUnused p from x) where
      next : unused_above n (take p.len p.entries) from ≡ x ∷ unused_above n (take p.len p.entries) x
      next = rw w.same at e

      pub next_fresh : ((1 ≤ x) × (x ≤ p.n)) × (has x (take p.len p.entries) ≡ false)
      next_fresh = let (range, unused) = fresh here w.stands x next in (rw w.same range, unused)

      pub next_range : (1 ≤ x) × (x ≤ 8)
      next_range = let range = (fresh here w.stands x next).0 in (range.0, omega (arith, range.1, here.most))

      module _ (q : Prefix) (on : Pushed p x q) where
        taken : take q.len q.entries ≡ take p.len p.entries ++ (x ∷ [])
        taken =
            let (range, unused) = fresh here w.stands x next in
            rw (on.entries, on.len) (taken_more here x range unused)

        kept : take (q.len - 1) q.entries ≡ take p.len p.entries
        kept =
            let less : q.len - 1 ≡ p.len = omega (arith, on.len) in
            rw (less, on.entries) (take-set-le p.len p.entries p.len x (omega arith))

        module _ (r : Bool) (new : List (List (Option ℕ))) (found : List (List ℕ))
            (told : RowsOfSheet q.n rows → TellsPrefix m q.n rows (shorter q) table cones →
            Extended m q.n rows (shorter q) (entries_of q) r new found) where
          extended : RowsOfSheet n rows → Extended m n rows (take p.len p.entries) (take p.len p.entries ++ (x ∷ [])) r
              new found
          extended s =
              (rw (on.same ∙ w.same, kept, taken) at told) s (record { tabled = w.tabled s; located = w.located s })

          module _ (o : Option ℕ) (b : Prefix) (pops : Pops q o b) where
            pub walking_dead : r ≡ false → (last : List (List (Option ℕ))) (count : ℕ) → length rows ≡ count →
                Written (λ i. None) x count new last → Walking m n rows b x (c + 1) last found
            walking_dead is last count long written =
                let (len, entries) = back p x q on b o pops in
                record {
                  same = pops.same ∙ on.same ∙ w.same;
                  stands = rw (len, entries) (dead here w.stands x next);
                  follows = λ s. rw (len, entries) (dead_follows here w.stands (w.follows s) x next
                      (sym (extended s).told ∙ is));
                  tabled = λ s.
                      rw (
                        len,
                        entries,
                        take-set-le p.len (set p.entries p.len x) p.len 0 (omega arith),
                        take-set-le p.len p.entries p.len x (omega arith),
                      )
                      (tabled_less m lawful n rows s (take p.len p.entries) x (entries_p here w.stands x next) new last
                      count long (extended s).tabled written);
                  located = λ s.
                      rw (
                        len,
                        entries,
                        take-set-le p.len (set p.entries p.len x) p.len 0 (omega arith),
                        take-set-le p.len p.entries p.len x (omega arith),
                      ) (extended s).shorter;
                }

            pub work_dead : work n b x < work n p from
            work_dead = let (len, entries) = back p x q on b o pops in
                rw (len, entries) (dead_less here w.stands x next)

          module _ (is : r ≡ true) where
            module _ (short : q.len ≢ q.n) where
              less : p.len + 1 < n
              less = omega (arith, short, on.len, on.same ∙ w.same, w.stands.within)

              pub walking_on : Walking m n rows q 0 (c + 1) new found
              walking_on = record {
                same = on.same ∙ w.same;
                stands = rw (on.len, on.entries) (deeper here w.stands x next less);
                follows = λ s. rw (on.len, on.entries) (deeper_follows here w.stands (w.follows s) x next
                    (sym (extended s).told ∙ is) less);
                tabled = λ s. rw taken (extended s).tabled;
                located = λ s. rw taken ((extended s).longer is);
              }

              pub work_on : work n q 0 < work n p from
              work_on = rw (on.len, on.entries) (deeper_less here w.stands x next less)

            pub walking_found : q.len ≡ q.n → (order : List ℕ) → order ≡ completed q.n (take q.len q.entries) →
                RowsOfSheet n rows → Answers m n rows (Some order) (c + 1)
            walking_found all order ordered s =
                let (o, t) = literal (live m n rows) n (closed m lawful n rows s) in
                let passes = sym (extended s).told ∙ is in
                let l : p.len + 1 ≡ n = sym on.len ∙ all ∙ on.same ∙ w.same in
                let is_completed : order ≡ completed n (take p.len p.entries ++ (x ∷ [])) =
                ordered ∙ rw (on.same ∙ w.same, taken) refl in
                record {
                  ordering = ap (λ (b : List ℕ). Some b) is_completed
                      ∙ found_first here w.stands (w.follows s) x next passes l ∙ ap (option_map padded) o;
                  tested = found_count here w.stands (w.follows s) x next passes l ∙ ap length t;
                }
