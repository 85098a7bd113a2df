-- Every call keeps a book sound. Assumes nothing.
use Rattle.std.proofs.Common.{◌≡◌, ℕ, ◌≤◌, Bool, List, [], ◌∷◌, ◌++◌, length, sym, refl, ap, subst, inl, inr, arith}
use Rattle.std.proofs.lemmas.List.{length_push, length-append}
use Rattle.elements.specs.Element.{Shown}
use Rattle.orderings.specs.Order.{VariableCount, IsOrdering}
use Rattle.orderings.specs.Answer.{Answer}
use Rattle.orderings.specs.Rows.{Rows}
use Rattle.orderings.proofs.Judging.{Hold}
use Rattle.divisions.specs.Laws.{Meaning, Lawful}
use Rattle.cones.specs.Cones.{Complete}
use Rattle.search.specs.Prefixes.{padded}
use Rattle.search.proofs.Orders.{ordering_of}
use Rattle.sheets.specs.Book.{Book, State, opened, settled_by, Call, insert, withdraw, arrange, bar, limit, verdict, weigh, settle, locate, reopen, Takes, checks, Becomes, BecomesSettled, first, none, with_rows, with_order, with_state, Follows, fresh}
use Rattle.sheets.proofs.Natural.{natural_ordered}
use Rattle.sheets.proofs.Rows.{rows_push, rows_split_off}
use Rattle.sheets.specs.Sheet.{PlaceCount}
use Rattle.sheets.specs.History.{Run, over, next, LawfulCall, LawfulCalls, History, OpenedThenWentThrough}
use Rattle.sheets.proofs.Judged.{refused_or_held}

-- a book of a sheet: as many places as a sheet may have, different rows that fit, an ordering of the variables, and,
-- where it is settled, by a lawful division that makes the rows complete under the ordering
pub record Sound (b : Book) : Type 0 where
  pub variables : VariableCount b.n
  pub places : PlaceCount b.places
  pub room : length b.rows ≤ b.places
  pub rows : Rows b.admits b.n b.rows
  pub ordered : IsOrdering b.n b.order
  pub settled : (m : Meaning) → b.state ≡ settled_by m → Lawful m × Complete b.n b.rows (m b.rows b.order)

pub not_both : (s : State) (m : Meaning) → s ≡ opened → s ≡ settled_by m → ⊥
not_both s m o e = absurd cc

pub one_division : (m d : Meaning) → settled_by m ≡ settled_by d → m ≡ d
one_division m d e = cc

-- a call that open books take is taken by no other
pub taken_open : (s : State) (call : Call) → Takes opened call → Takes s call → s ≡ opened
taken_open opened call o t = refl
taken_open (settled_by m) (insert e) o t = absurd t
taken_open (settled_by m) (withdraw e) o t = absurd t
taken_open (settled_by m) (arrange l) o t = absurd t
taken_open (settled_by m) (bar p v) o t = absurd t
taken_open (settled_by m) (limit d p v) o t = absurd t
taken_open (settled_by m) (verdict d) o t = absurd t
taken_open (settled_by m) (weigh d l) o t = absurd t
taken_open (settled_by m) (settle d) o t = absurd t
taken_open (settled_by m) (locate e) o t = absurd o
taken_open (settled_by m) reopen o t = absurd o

pub a_fresh_book_is_sound : (admits : ℕ → Bool) (n places : ℕ) → VariableCount n → PlaceCount places →
    Sound (fresh admits n places)
a_fresh_book_is_sound admits n places count room =
    record {
      variables = count;
      places = room;
      room = omega arith;
      rows = record { fit = λ p l. absurd (omega arith); different = λ p q l h. absurd (omega arith) };
      ordered = natural_ordered n count.most;
      settled = λ m e. absurd (not_both opened m refl e);
    }

module _ (b : Book) (sound : Sound b) where
  -- other rows on an open book
  with_rows_sound : (rows : List Shown) → b.state ≡ opened → length rows ≤ b.places → Rows b.admits b.n rows →
      Sound (with_rows b rows)
  with_rows_sound rows free room fit =
      record {
        variables = sound.variables;
        places = sound.places;
        room = room;
        rows = fit;
        ordered = sound.ordered;
        settled = λ m e. absurd (not_both b.state m free e);
      }

  -- another ordering and state, with what the state promises
  ordered_sound : (order : List ℕ) (state : State) → IsOrdering b.n order →
      ((m : Meaning) → state ≡ settled_by m → Lawful m × Complete b.n b.rows (m b.rows order)) →
      Sound (with_state (with_order b order) state)
  ordered_sound order state ordered settled =
      record {
        variables = sound.variables;
        places = sound.places;
        room = sound.room;
        rows = sound.rows;
        ordered = ordered;
        settled = settled;
      }

  settles_sound : (d : Meaning) (c : Book) → Lawful d → BecomesSettled b d c → Sound c
  settles_sound d c law (none never) = sound
  settles_sound d c law (first {p = p} best) =
      ordered_sound (padded p) (settled_by d) (ordering_of b.n p sound.variables.most best.prefix.entries best.full)
      (λ m e.
      let P : Meaning → Type 0 = λ x. Lawful x × Complete b.n b.rows (x b.rows (padded p)) in
      subst P (one_division d m e) (law, best.complete))

  becomes_sound : (call : Call) (c : Book) → LawfulCall call → Hold (checks b call) → Becomes b call c → Sound c
  becomes_sound (insert e) c law h e' =
      rw e' (with_rows_sound (b.rows ++ e ∷ []) (taken_open b.state (insert e) tt h.0)
      (omega (arith, length_push b.rows e, h.1.1.1.0)) (rows_push b.admits b.n b.rows e sound.rows h.1.0 h.1.1.0))
  becomes_sound (withdraw e) c law h (front, back, split, e') =
      let P : List Shown → Type 0 = λ r. Rows b.admits b.n r in
      let long : length b.rows ≡ length (front ++ e ∷ back) = cc in
      rw e' (with_rows_sound (front ++ back) (taken_open b.state (withdraw e) tt h.0)
      (omega (arith, sound.room, length-append front back, length-append front (e ∷ back)))
      (rows_split_off b.admits b.n front back e (subst P split sound.rows)))
  becomes_sound (arrange o) c law h e' =
      rw e' (ordered_sound o b.state h.1.0
      (λ m e. absurd (not_both b.state m (taken_open b.state (arrange o) tt h.0) e)))
  becomes_sound (bar p v) c law h e' = rw e' sound
  becomes_sound (limit d p v) c law h e' = rw e' sound
  becomes_sound (verdict d) c law h e' = rw e' sound
  becomes_sound (weigh d o) c law h e' = rw e' sound
  becomes_sound (settle d) c law h s = settles_sound d c law s
  becomes_sound (locate e) c law h e' = rw e' sound
  becomes_sound reopen c law h e' = rw e' (ordered_sound b.order opened sound.ordered
      (λ m e. absurd (not_both opened m refl e)))

pub every_call_keeps_books_sound : (b c : Book) (call : Call) → LawfulCall call → Sound b → Follows b call c → Sound c
every_call_keeps_books_sound b c call law sound follows =
    elim (refused_or_held (λ _. b) (Becomes b call) (checks b call) c follows) [
      | inl r ↦ subst Sound (sym r.1) sound
      | inr h ↦ becomes_sound b sound call c law h.0 h.1
    ]

-- no call alters the count of variables
becomes_keeps_n : (b c : Book) (call : Call) → Becomes b call c → c.n ≡ b.n
becomes_keeps_n b c (insert e) e' = ap (λ (x : Book). x.n) e'
becomes_keeps_n b c (withdraw e) (front, back, split, e') = ap (λ (x : Book). x.n) e'
becomes_keeps_n b c (arrange o) e' = ap (λ (x : Book). x.n) e'
becomes_keeps_n b c (bar p v) e' = ap (λ (x : Book). x.n) e'
becomes_keeps_n b c (limit d p v) e' = ap (λ (x : Book). x.n) e'
becomes_keeps_n b c (verdict d) e' = ap (λ (x : Book). x.n) e'
becomes_keeps_n b c (weigh d o) e' = ap (λ (x : Book). x.n) e'
becomes_keeps_n b c (settle d) s = settles_keeps_n b d c s
  where
    settles_keeps_n : (b : Book) (d : Meaning) (c : Book) → BecomesSettled b d c → c.n ≡ b.n
    settles_keeps_n b d c (first best) = refl
    settles_keeps_n b d c (none never) = refl
becomes_keeps_n b c (locate e) e' = ap (λ (x : Book). x.n) e'
becomes_keeps_n b c reopen e' = ap (λ (x : Book). x.n) e'

pub every_call_keeps_n : (b c : Book) (call : Call) → Follows b call c → c.n ≡ b.n
every_call_keeps_n b c call follows = elim (refused_or_held (λ _. b) (Becomes b call) (checks b call) c follows) [
  | inl r ↦ ap (λ (x : Book). x.n) r.1
  | inr h ↦ becomes_keeps_n b c call h.1
]

pub every_run_keeps_books_sound : (b c : Book) (calls : List Call) (answers : List Answer) → Sound b →
    LawfulCalls calls → Run b calls answers c → Sound c
every_run_keeps_books_sound b c calls answers sound laws over = sound
every_run_keeps_books_sound b c calls answers sound laws (next {c = d} {call = call} {calls = rest} {answers =
    more} told follows run) =
    every_run_keeps_books_sound d c rest more (every_call_keeps_books_sound b d call laws.0 sound follows) laws.1 run

-- a book that was opened and went through calls
pub a_reached_book_is_sound : {admits : ℕ → Bool} {h : History} {b : Book} → OpenedThenWentThrough admits h b → Sound b
a_reached_book_is_sound {admits} {h} {b} reached =
    let begun = a_fresh_book_is_sound admits h.variables h.places reached.variable_count reached.place_count in
    every_run_keeps_books_sound (fresh admits h.variables h.places) b h.calls h.answers begun reached.lawful reached.run
