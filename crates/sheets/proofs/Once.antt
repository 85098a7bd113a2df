-- Each call on a sound book has one outcome. Assumes nothing.
use Rattle.std.proofs.Common.{◌≡◌, ℕ, ◌<◌, ◌≤◌, List, [], ◌∷◌, ◌++◌, length, Some, sym, refl, ap, ◌∙◌, subst, inl, inr, arith}
use Rattle.std.proofs.lemmas.List.{get_or_at, length-append}
use Rattle.std.proofs.lemmas.Bool.{cases_lt}
use Rattle.elements.specs.Element.{Shown, blank}
use Rattle.orderings.specs.Answer.{Answer, granted, refused}
use Rattle.orderings.specs.Rows.{row}
use Rattle.orderings.proofs.Judging.{Hold}
use Rattle.divisions.specs.Laws.{Meaning}
use Rattle.cones.specs.Cones.{Limits, IsFirstShortfall}
use Rattle.search.specs.Prefixes.{Before, padded}
use Rattle.search.specs.Liveness.{tested}
use Rattle.search.specs.Theorems.{FirstComplete}
use Rattle.search.proofs.Orders.{ordering_of}
use Rattle.sheets.specs.Book.{Book, State, opened, settled_by, Call, insert, withdraw, arrange, bar, limit, verdict, weigh, settle, locate, reopen, Takes, checks, Becomes, BecomesSettled, first, none, Tells, TellsBar, starred, unstarred, TellsVerdict, complete, short, TellsSettled, serving, unserved, Located, with_state, with_order, with_rows, Follows, Answered}
use Rattle.sheets.specs.History.{Run, over, next, LawfulCalls}
use Rattle.sheets.proofs.Judged.{held_once}
use Rattle.sheets.proofs.Sound.{Sound, every_call_keeps_books_sound}
use Rattle.sheets.proofs.Laws.{one_cone}

-- of two numbers neither of which is below the other
level : (p q : ℕ) → (p < q → ⊥) → (q < p → ⊥) → p ≡ q
level p q f g = elim (cases_lt p q) [
  | inl l ↦ absurd (f l)
  | inr l ↦ elim (cases_lt q p) [
    | inl h ↦ absurd (g h)
    | inr h ↦ omega arith
  ]
]

-- of two lists of one length neither of which stands before the other
alike : (p q : List ℕ) → length p ≡ length q → (Before p q → ⊥) → (Before q p → ⊥) → p ≡ q
alike [] [] e f g = refl
alike [] (y ∷ ys) e f g = absurd (f tt)
alike (x ∷ xs) [] e f g = absurd (g tt)
alike (x ∷ xs) (y ∷ ys) e f g =
    let head : x ≡ y = level x y (λ l. f (inl l)) (λ l. g (inl l)) in
    let tail : xs ≡ ys = alike xs ys (omega arith) (λ before. f (inr (head, before)))
    (λ before. g (inr (sym head, before))) in
    cc

one_first : (m : Meaning) (n : ℕ) (rows : List Shown) (p q : List ℕ) → FirstComplete m n rows p →
    FirstComplete m n rows q → p ≡ q
one_first m n rows p q a b =
    alike p q (a.full ∙ sym b.full) (λ before. b.none_before p a.prefix a.full before a.complete)
    (λ before. a.none_before q b.prefix b.full before b.complete)

one_shortfall : (n : ℕ) (rows : List Shown) (lim : Limits) (p v m q x l : ℕ) → IsFirstShortfall n rows lim p v m →
    IsFirstShortfall n rows lim q x l → (p ≡ q) × (v ≡ x) × (m ≡ l)
one_shortfall n rows lim p v m q x l a b =
    let place : p ≡ q = level p q (λ h. b.none_lower p v m h a.shortfall) (λ h. a.none_lower q x l h b.shortfall) in
    let at = subst (λ (k : ℕ). IsFirstShortfall n rows lim k x l) (sym place) b in
    let variable : v ≡ x = level v x (λ h. at.none_before v m h a.shortfall) (λ h. a.none_before x l h at.shortfall) in
    let limit : Some m ≡ Some l = sym a.shortfall.limit ∙ ap (λ (k : ℕ). lim p k) variable ∙ at.shortfall.limit in
    let power : m ≡ l = cc in
    (place, variable, power)

-- a list comes apart at a place in one way
one_parting : (f g h k : List Shown) (e : Shown) → length f ≡ length h → f ++ e ∷ g ≡ h ++ e ∷ k → f ++ g ≡ h ++ k
one_parting [] g [] k e l s = cc
one_parting [] g (y ∷ h) k e l s = absurd (omega arith)
one_parting (x ∷ f) g [] k e l s = absurd (omega arith)
one_parting (x ∷ f) g (y ∷ h) k e l s =
    let head : x ≡ y = cc in
    let tail : f ++ e ∷ g ≡ h ++ e ∷ k = cc in
    let left = one_parting f g h k e (omega arith) tail in
    cc

module _ (b : Book) (sound : Sound b) where
  -- a row stands at one place, so the rows come apart at it in one way
  one_split : (e : Shown) (f g h k : List Shown) → b.rows ≡ f ++ e ∷ g → b.rows ≡ h ++ e ∷ k → f ++ g ≡ h ++ k
  one_split e f g h k s t =
      let left : row b.rows (length f) ≡ e = ap (λ (r : List Shown). row r (length f)) s ∙
      get_or_at f e g blank (length f) refl in
      let right : row b.rows (length h) ≡ e = ap (λ (r : List Shown). row r (length h)) t ∙
      get_or_at h e k blank (length h) refl in
      let fl : length b.rows ≡ length (f ++ e ∷ g) = ap length s in
      let hl : length b.rows ≡ length (h ++ e ∷ k) = ap length t in
      let fa = length-append f (e ∷ g) in
      let ha = length-append h (e ∷ k) in
      let place : length f ≡ length h = level (length f) (length h)
      (λ l. sound.rows.different (length f) (length h) l (omega arith) (left ∙ sym right))
      (λ l. sound.rows.different (length h) (length f) l (omega arith) (right ∙ sym left)) in
      one_parting f g h k e place (sym s ∙ t)

  one_settling : (d : Meaning) (c o : Book) → BecomesSettled b d c → BecomesSettled b d o → c ≡ o
  one_settling d c o (none x) (none y) = refl
  one_settling d c o (none x) (first {p = q} y) =
      absurd (x (padded q) (ordering_of b.n q sound.variables.most y.prefix.entries y.full) y.complete)
  one_settling d c o (first {p = p} x) (none y) =
      absurd (y (padded p) (ordering_of b.n p sound.variables.most x.prefix.entries x.full) x.complete)
  one_settling d c o (first {p = p} x) (first {p = q} y) =
      ap (λ (r : List ℕ). with_state (with_order b (padded r)) (settled_by d)) (one_first d b.n b.rows p q x y)

  one_book : (call : Call) (c d : Book) → Becomes b call c → Becomes b call d → c ≡ d
  one_book (insert e) c d x y = x ∙ sym y
  one_book (withdraw e) c d (f, g, s, x) (h, k, t, y) = x ∙ ap (with_rows b) (one_split e f g h k s t) ∙ sym y
  one_book (arrange o) c d x y = x ∙ sym y
  one_book (bar p v) c d x y = x ∙ sym y
  one_book (limit m p v) c d x y = x ∙ sym y
  one_book (verdict m) c d x y = x ∙ sym y
  one_book (weigh m o) c d x y = x ∙ sym y
  one_book (settle m) c d x y = one_settling m c d x y
  one_book (locate e) c d x y = x ∙ sym y
  one_book reopen c d x y = x ∙ sym y

one_bar : (rows : List Shown) (order : List ℕ) (u : Shown) (v : ℕ) (a o : Answer) → TellsBar rows order u v a →
    TellsBar rows order u v o → a ≡ o
one_bar rows order u v a o (starred x) (starred y) = refl
one_bar rows order u v a o (starred x) (unstarred y) = absurd (y x)
one_bar rows order u v a o (unstarred x) (starred y) = absurd (x y)
one_bar rows order u v a o (unstarred x) (unstarred y) = refl

one_verdict : (n : ℕ) (rows : List Shown) (lim : Limits) (a o : Answer) → TellsVerdict n rows lim a →
    TellsVerdict n rows lim o → a ≡ o
one_verdict n rows lim a o (complete x) (complete y) = refl
one_verdict n rows lim a o (complete x) (short f s) = absurd (f x)
one_verdict n rows lim a o (short f s) (complete y) = absurd (f y)
one_verdict n rows lim a o (short {p} {v} {m} f s) (short {p = q} {v = x} {m = l} g t) =
    let same = one_shortfall n rows lim p v m q x l s t in
    rw (same.0, same.1, same.2)

one_told : (n : ℕ) (rows : List Shown) (d : Meaning) → n ≤ 8 → (a o : Answer) → TellsSettled n rows d a →
    TellsSettled n rows d o → a ≡ o
one_told n rows d few a o (serving {p = p} x) (serving {p = q} y) =
    ap (λ (r : List ℕ). granted (length (tested d n rows) ∷ padded r)) (one_first d n rows p q x y)
one_told n rows d few a o (serving {p = p} x) (unserved y) =
    absurd (y (padded p) (ordering_of n p few x.prefix.entries x.full) x.complete)
one_told n rows d few a o (unserved x) (serving {p = q} y) =
    absurd (x (padded q) (ordering_of n q few y.prefix.entries y.full) y.complete)
one_told n rows d few a o (unserved x) (unserved y) = refl

-- a settled book places an element in one cone
one_place : (b : Book) → Sound b → (state : State) → b.state ≡ state → (e : Shown) → Takes state (locate e) →
    (s t : ℕ) → Located b e s → Located b e t → s ≡ t
one_place b sound opened at e takes s t x y = absurd takes
one_place b sound (settled_by m) at e takes s t x y =
    let P : State → ℕ → Type 0 = λ u k. Located (with_state b u) e k in
    one_cone b sound m (sound.settled m at).0 s t e (subst (λ (u : State). P u s) at x)
    (subst (λ (u : State). P u t) at y)

module _ (b : Book) (sound : Sound b) where
  one_answer : (call : Call) → Hold (checks b call) → (a o : Answer) → Tells b call a → Tells b call o → a ≡ o
  one_answer (insert e) h a o x y = x ∙ sym y
  one_answer (withdraw e) h a o x y = x ∙ sym y
  one_answer (arrange l) h a o x y = x ∙ sym y
  one_answer (bar p v) h a o x y = one_bar b.rows b.order (row b.rows p) v a o x y
  one_answer (limit m p v) h a o x y = x ∙ sym y
  one_answer (verdict m) h a o x y = one_verdict b.n b.rows (m b.rows b.order) a o x y
  one_answer (weigh m l) h a o x y = one_verdict b.n b.rows (m b.rows l) a o x y
  one_answer (settle m) h a o x y = one_told b.n b.rows m sound.variables.most a o x y
  one_answer (locate e) h a o (s, x, told) (t, y, other) =
      told ∙ ap (λ (k : ℕ). granted (k ∷ [])) (one_place b sound b.state refl e h.0 s t x y) ∙ sym other
  one_answer reopen h a o x y = x ∙ sym y

-- the book and the call fix the answer and the book after it
pub a_call_has_one_outcome : (b : Book) (call : Call) → Sound b →
    ((c d : Book) → Follows b call c → Follows b call d → c ≡ d) ×
    ((a o : Answer) → Answered b call a → Answered b call o → a ≡ o)
a_call_has_one_outcome b call sound = (
  held_once (λ _. b) (Becomes b call) (checks b call) (λ _. one_book b sound call),
  held_once (λ r. refused r [])
      (Tells b call) (checks b call) (one_answer b sound call),
)

pub one_run : (b c d : Book) (calls : List Call) (answers others : List Answer) → Sound b → LawfulCalls calls →
    Run b calls answers c → Run b calls others d → (others ≡ answers) × (d ≡ c)
one_run b c d calls answers others sound laws over over = (refl, refl)
one_run b c d calls answers others sound laws (next {c = x} {call = call} {told = a} {calls = rest} {answers =
    more} told follows run) (next {c = y} {told = o} {answers = yet} again goes on) =
    let once = a_call_has_one_outcome b call sound in
    let book : y ≡ x = once.0 y x goes follows in
    let answer : o ≡ a = once.1 o a again told in
    let same = one_run x c d rest more yet (every_call_keeps_books_sound b x call laws.0 sound follows) laws.1 run
    (subst (λ (z : Book). Run z rest yet d) book on) in
    let tail = same.0 in
    (cc, same.1)
