-- The calls of an open sheet as steps of the book. Assumes nothing.
use Rattle.std.proofs.Common.{◌≡◌, ℕ, suc, ◌+◌, ◌-◌, ◌<◌, Bool, true, false, cond, List, [], ◌∷◌, ◌++◌, map, length, take, drop, set, vec_items, vec_len, Decides, sym, refl, ap, ◌∙◌, subst, inl, inr, arith}
use Rattle.std.specs.List.{ContainsAt, remove}
use Rattle.std.proofs.lemmas.List.{length-map, length-set, length-take-le, get_or-take, map-set, map-append, take-map, drop-map}
use Rattle.std.proofs.lemmas.Bool.{false≢true}
use Rattle.elements.specs.Element.{Shown, blank}
use Rattle.orderings.specs.Answer.{Answer, granted, refused, Check, Answers}
use Rattle.orderings.specs.Fit.{Fit}
use Rattle.orderings.specs.Order.{VariableCount}
use Rattle.orderings.specs.Rows.{row}
use Rattle.orderings.proofs.Judging.{Fails, Hold, judged_refused, judged_granted}
use Rattle.barcode.specs.Bars.{Star, bar_number}
use Rattle.sheets.specs.declared.parts.Parts.{Parts}
use Rattle.sheets.specs.Sheet.{Makes, PlaceCount, natural_order}
use Rattle.sheets.specs.Book.{State, opened, Book, Call, insert, withdraw, checks, Becomes, Tells, TellsBar, starred, unstarred, fresh}
use Rattle.sheets.specs.Read.{MakesSheet, book, IsAsPromised, FollowsThePlainBook, ActsAsPromised}
use Rattle.sheets.specs.History.{Run, over, LawfulCall, just_opened, OpenedThenWentThrough}
use Rattle.sheets.proofs.Natural.{natural_ordered}
use Rattle.sheets.proofs.Histories.{holds_after_every_call, reached_by}
use Rattle.sheets.proofs.Rows.{some_has, rows_insert, rows_pushed, blanks_insert, without, length_without, rows_without, rows_split, rows_withdraw, blanks_withdraw}

-- books by their parts
abbrev pub bound : (ℕ → Bool) → State → ℕ → ℕ → List Shown → List ℕ → Book
bound admits state n places rows order = record {
  admits = admits;
  n = n;
  places = places;
  rows = rows;
  order = order;
  state = state;
}

module _ (admits : ℕ → Bool) (state : State) where
  pub bound_path : {n n' places places' : ℕ} {rows rows' : List Shown} {order order' : List ℕ} → n ≡ n' →
      places ≡ places' → rows ≡ rows' → order ≡ order' →
      bound admits state n places rows order ≡ bound admits state n' places' rows' order'
  bound_path {n} {n'} {places} {places'} {rows} {rows'} {order} {order'} a b c d =
      ap (λ (x : ℕ). bound admits state x places rows order) a ∙ ap (λ (x : ℕ). bound admits state n' x rows order) b ∙
      ap (λ (x : List Shown). bound admits state n' places' x order) c ∙
      ap (λ (x : List ℕ). bound admits state n' places' rows' x) d

  pub makes_at : {n n' count count' : ℕ} {table table' : List Shown} {order order' : List ℕ} → n' ≡ n →
      count' ≡ count → table' ≡ table → order' ≡ order →
      Makes admits n count table order → Makes admits n' count' table' order'
  makes_at {n} {n'} {count} {count'} {table} {table'} {order} {order'} a b c d m =
      subst (λ (x : ℕ). Makes admits x count' table' order') (sym a) (subst (λ (x : ℕ). Makes admits n x table' order')
      (sym b)
      (subst (λ (x : List Shown). Makes admits n count x order') (sym c)
      (subst (λ (x : List ℕ). Makes admits n count table x) (sym d) m)))

module _ {E : Type 0} (admits : ℕ → Bool) (shown : E → Shown) where
  -- a lawful call that follows the plain book does so after every history
  pub as_promised : {state : State} {p : Parts E} {call : Call} {told : Answer} {next : State} {q : Parts E} →
      LawfulCall call →
      FollowsThePlainBook admits shown state p call told next q → ActsAsPromised admits shown state p call told next q
  as_promised {state} {p} {call} {told} {next} {q} law call_follows = record {
    follows_the_plain_book = call_follows;
    after_every_call = λ h equals.
        let reached = reached_by equals.reached (book admits shown next q) call told law
        (call_follows.answered equals.makes_sheet) (call_follows.follows equals.makes_sheet) in
        record {
          equals_the_plain_book = record {
            makes_sheet = call_follows.makes_sheet equals.makes_sheet;
            reached =
                reached;
          };
          holds_after_every_call = holds_after_every_call reached;
        };
  }

module _ {E : Type 0} (admits : ℕ → Bool) (shown : E → Shown) (state : State) (p : Parts E) (call : Call)
    (law : LawfulCall call) where
  -- a check that fails
  pub refused_by : (r : ℕ) → MakesSheet admits shown p → Fails (checks (book admits shown state p) call) r →
      ActsAsPromised admits shown state p call (refused r []) state p
  refused_by r st f = as_promised admits shown law record {
    makes_sheet = λ s. s;
    follows = λ _. judged_refused (λ _. book admits shown state p) (Becomes (book admits shown state p) call)
        (checks (book admits shown state p) call) r f;
    answered = λ _. judged_refused (λ x. refused x []) (Tells (book admits shown state p) call)
        (checks (book admits shown state p) call) r f;
    refused_by_8 = λ none. absurd (none st);
    refused_alters_nothing = λ _ _ _. (refl, refl);
  }

  -- a grant, after which the sheet may be in another state
  pub granted_to : (next : State) (q : Parts E) (vs : List ℕ) → MakesSheet admits shown p → MakesSheet admits shown q →
      Hold (checks (book admits shown state p) call) →
      Becomes (book admits shown state p) call (book admits shown next q) → Tells (book admits shown state p) call
      (granted vs) → ActsAsPromised admits shown state p call (granted vs) next q
  granted_to next q vs sp sq h b t = as_promised admits shown law record {
    makes_sheet = λ _. sq;
    follows = λ _. judged_granted (λ _. book admits shown state p) (Becomes (book admits shown state p) call)
        (checks (book admits shown state p) call) _ h b;
    answered = λ _. judged_granted (λ x. refused x []) (Tells (book admits shown state p) call)
        (checks (book admits shown state p) call) _ h t;
    refused_by_8 = λ none. absurd (none sp);
    refused_alters_nothing = λ r us e. absurd cc;
  }

  pub granted_by : (q : Parts E) (vs : List ℕ) → MakesSheet admits shown p → MakesSheet admits shown q →
      Hold (checks (book admits shown state p) call) →
      Becomes (book admits shown state p) call (book admits shown state q) → Tells (book admits shown state p) call
      (granted vs) → ActsAsPromised admits shown state p call (granted vs) state q
  granted_by = granted_to state

  -- every check holds, and the book stays, whatever is told
  pub kept_by : (told : Answer) → MakesSheet admits shown p → Hold (checks (book admits shown state p) call) →
      Becomes (book admits shown state p) call (book admits shown state p) → Tells (book admits shown state p)
      call told → ActsAsPromised admits shown state p call told state p
  kept_by told sp h b t = as_promised admits shown law record {
    makes_sheet = λ s. s;
    follows = λ _. judged_granted (λ _. book admits shown state p) (Becomes (book admits shown state p) call)
        (checks (book admits shown state p) call) _ h b;
    answered = λ _. judged_granted (λ x. refused x []) (Tells (book admits shown state p) call)
        (checks (book admits shown state p) call) _ h t;
    refused_by_8 = λ none. absurd (none sp);
    refused_alters_nothing = λ _ _ _. (refl, refl);
  }

module _ {E : Type 0} (admits : ℕ → Bool) (shown : E → Shown) (p q : Parts E) (st : MakesSheet admits shown p) where
  abbrev xs : List E
  xs = vec_items p.table

  -- the element stands after the last row
  pub inserted : (e : E) → Fit admits p.header.variables (shown e) →
      (ContainsAt (take p.header.rows (map shown (vec_items p.table))) (shown e) → ⊥) →
      p.header.rows < vec_len p.table →
      vec_items q.table ≡ set (vec_items p.table) p.header.rows e → vec_len q.table ≡ vec_len p.table →
      vec_items q.order ≡ vec_items p.order →
      q.header.variables ≡ p.header.variables → q.header.rows ≡ p.header.rows + 1 →
      ActsAsPromised admits shown opened p (insert (shown e)) (granted (p.header.rows ∷ [])) opened q
  inserted e fit new room items len order n count =
      let table = map shown xs in
      let k : vec_len p.table ≡ length xs = p.table.ok.0 in
      let m = length-map xs shown in
      let place : p.header.rows < length table = omega arith in
      let same : map shown (vec_items q.table) ≡ set table p.header.rows (shown e) =
      ap (map shown) items ∙ map-set shown xs p.header.rows e in
      let long : length (set table p.header.rows (shown e)) ≡ length table = length-set table p.header.rows (shown e) in
      let told : length (take p.header.rows table) ≡ p.header.rows = length-take-le p.header.rows table st.room in
      granted_by admits shown opened p (insert (shown e)) tt q (p.header.rows ∷ []) st
      (makes_at admits opened n count same order record {
        variables = st.variables;
        places = record { some = omega (arith, st.places.some); most = omega (arith, st.places.most) };
        room = omega arith;
        ordered = st.ordered;
        rows = rows_insert admits p.header.variables table p.header.rows (shown e) place st.rows fit new;
        blanks = blanks_insert admits p.header.variables table p.header.rows (shown e) place st.blanks;
      })
      (tt, (fit, (new, (omega arith, tt))))
      (bound_path admits opened n len (rw (count, same) (rows_pushed admits p.header.variables table p.header.rows
      (shown e) place)) order)
      (ap (λ (x : ℕ). granted (x ∷ [])) (sym told))

  -- what stood at a place of a row is gone, and a blank has come to the end
  pub withdrawn : (e b : E) (place : ℕ) → Fit admits p.header.variables (shown e) → place < p.header.rows →
      row (map shown (vec_items p.table)) place ≡ shown e → shown b ≡ blank →
      vec_items q.table ≡ remove (vec_items p.table) place ++ b ∷ [] → vec_len q.table ≡ vec_len p.table →
      vec_items q.order ≡ vec_items p.order →
      q.header.variables ≡ p.header.variables → q.header.rows ≡ p.header.rows - 1 →
      ActsAsPromised admits shown opened p (withdraw (shown e)) (granted []) opened q
  withdrawn e b place fit within here bare items len order n count =
      let table = map shown xs in
      let rows = take p.header.rows table in
      let inside : place < length table = omega (arith, st.room) in
      let long = length_without table place inside in
      let told : length rows ≡ p.header.rows = length-take-le p.header.rows table st.room in
      let same : map shown (vec_items q.table) ≡ without table place inside =
      ap (map shown) items ∙ map-append shown (remove xs place) (b ∷ []) ∙
      ap (λ t. t ++ shown b ∷ []) (map-append shown (take place xs) (drop (suc place) xs)) ∙
      rw (bare, take-map, drop-map) in
      granted_by admits shown opened p (withdraw (shown e)) tt q [] st
      (makes_at admits opened n count same order record {
        variables = st.variables;
        places = record { some = omega (arith, st.places.some); most = omega (arith, st.places.most) };
        room = omega (arith, st.room);
        ordered = st.ordered;
        rows = rows_withdraw table place inside p.header.rows within st.room admits p.header.variables st.rows;
        blanks = blanks_withdraw table place inside p.header.rows within st.room st.blanks;
      }) (
        tt,
        (
          fit,
          (
            some_has rows (shown e) place (omega arith) (get_or-take p.header.rows table place blank within ∙
                here),
            tt,
          ),
        ),
      ) (
        take place rows,
        drop (suc place) rows,
        rows_split table place inside p.header.rows within st.room ∙
            ap (λ (x : Shown). take place rows ++ x ∷ drop (suc place) rows) here,
        bound_path admits opened n len (rw (count, same)
            (rows_without table place inside p.header.rows within st.room)) order,
      )
      refl

-- what is granted has passed every check
pub holds_of : (cs : List Check) (G : Answer → Type 0) (vs : List ℕ) → Answers cs G (granted vs) → Hold cs
holds_of [] G vs a = tt
holds_of (c ∷ cs) G vs (inl x) = absurd cc
holds_of (c ∷ cs) G vs (inr x) = (x.0, holds_of cs G vs x.1)

-- no rows, every place blank, the ordering 1 to n
pub opened_by : {E : Type 0} (admits : ℕ → Bool) (shown : E → Shown) (q : Parts E) (n places : ℕ) → VariableCount n →
    PlaceCount places →
    vec_len q.table ≡ places → ((p : ℕ) → row (map shown (vec_items q.table)) p ≡ blank) →
    vec_items q.order ≡ natural_order n →
    q.header.variables ≡ n → q.header.rows ≡ 0 → MakesSheet admits shown q ×
    (book admits shown opened q ≡ fresh admits n places)
opened_by admits shown q n places count room len blanks order variables rows =
    let k : vec_len q.table ≡ length (vec_items q.table) = q.table.ok.0 in
    let m = length-map (vec_items q.table) shown in (
      makes_at admits opened variables rows refl order record {
        variables = count;
        places = record { some = omega (arith, room.some); most = omega (arith, room.most) };
        room = omega arith;
        ordered = natural_ordered n count.most;
        rows = record { fit = λ p l. absurd (omega arith); different = λ p r l h. absurd (omega arith) };
        blanks = λ p _. blanks p;
      },
      bound_path admits opened variables len (rw rows) order,
    )

-- with the fresh book a history begins
pub once_opened_by : {E : Type 0} (admits : ℕ → Bool) (shown : E → Shown) (q : Parts E) (n places : ℕ) →
    VariableCount n → PlaceCount places →
    MakesSheet admits shown q → book admits shown opened q ≡ fresh admits n places →
    IsAsPromised admits shown (just_opened n places) opened q
once_opened_by admits shown q n places count room st same =
    let reached : OpenedThenWentThrough admits (just_opened n places) (book admits shown opened q) =
    record {
      variable_count = count;
      place_count = room;
      lawful = tt;
      run =
          subst (λ (b : Book). Run (fresh admits n places) [] [] b) (sym same) over;
    } in
    record {
      equals_the_plain_book = record { makes_sheet = st; reached = reached };
      holds_after_every_call =
          holds_after_every_call reached;
    }

-- a bar as the code tells it
pub bar_is_told : (rows : List Shown) (order : List ℕ) (u : Shown) (v number : ℕ) (star : Bool) →
    number ≡ bar_number rows order u v → Decides star (Star rows order u v) →
    TellsBar rows order u v (granted (number ∷ cond star 1 0 ∷ []))
bar_is_told rows order u v number true e d = rw e (starred (d.0 refl))
bar_is_told rows order u v number false e d = rw e (unstarred (λ s. false≢true (d.1 s)))

pub bar_told_of : (seen rows : List Shown) (read again order : List ℕ) (p v number : ℕ) (star : Bool) → seen ≡ rows →
    read ≡ order → again ≡ order →
    number ≡ bar_number seen read (row seen p) v → Decides star (Star seen again (row seen p) v) →
    TellsBar rows order (row rows p) v (granted (number ∷ cond star 1 0 ∷ []))
bar_told_of seen rows read again order p v number star a b c e d =
    bar_is_told rows order (row rows p) v number star (rw (a, b) at e) (rw (a, c) at d)
