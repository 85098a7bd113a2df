-- The call that a command makes: it is lawful, and there is one. Assumes nothing.
use Rattle.std.proofs.Common.{◌≡◌, ℕ, List, Some, None, Option, IfSome, sym, refl, ap, ◌∙◌, subst}
use Rattle.std.specs.Option.{option_map}
use Rattle.orderings.specs.Answer.{Answer}
use Rattle.divisions.specs.Laws.{Meaning, Lawful}
use Rattle.divisions.proofs.ByNumber.{lawful_by_number}
use Rattle.sheets.specs.Book.{Book, Call, verdict, weigh, settle, Answered, Follows}
use Rattle.sheets.specs.History.{LawfulCall}
use Rattle.sheets.proofs.Sound.{Sound, every_call_keeps_n, every_call_keeps_books_sound}
use Rattle.sheets.proofs.Once.{a_call_has_one_outcome}
use Rattle.logs.specs.Session.{Calls, inserts, withdraws, arranges, judges, weighs, settles, locates, reopens, Commanded, untaken, undivided, called}
use Rattle.runs.proofs.Steps.{nothing_is_some, one_some}

-- the call, if there is one, is lawful
abbrev LawfulIfAny : Option Call → Type 0
LawfulIfAny None = Unit {0}
LawfulIfAny (Some call) = LawfulCall call

-- a call that brings a division which has a number is lawful
lawful_numbered : (make : Meaning → Call) → ((m : Meaning) → Lawful m → LawfulCall (make m)) →
    (d : Option Meaning) → IfSome d Lawful → LawfulIfAny (option_map make d)
lawful_numbered make h None law = tt
lawful_numbered make h (Some m) law = h m law

lawful_if_any : (code : ℕ) (operands : List ℕ) (o : Option Call) → Calls code operands o → LawfulIfAny o
lawful_if_any code operands o inserts = tt
lawful_if_any code operands o withdraws = tt
lawful_if_any code operands o arranges = tt
lawful_if_any code operands o (judges {r = r} {d = d} x) =
    lawful_numbered verdict (λ m law. law) d (lawful_by_number r d x)
lawful_if_any code operands o (weighs {r = r} {d = d} {bytes = bytes} x) =
    lawful_numbered (λ m. weigh m bytes) (λ m law. law) d (lawful_by_number r d x)
lawful_if_any code operands o (settles {r = r} {d = d} x) =
    lawful_numbered settle (λ m law. law) d (lawful_by_number r d x)
lawful_if_any code operands o locates = tt
lawful_if_any code operands o reopens = tt

pub a_command_calls_lawfully : (code : ℕ) (operands : List ℕ) (call : Call) → Calls code operands (Some call) →
    LawfulCall call
a_command_calls_lawfully code operands call x = lawful_if_any code operands (Some call) x

-- a code and its operand bytes make one call
one_call : (code : ℕ) (operands : List ℕ) (o p : Option Call) → Calls code operands o → Calls code operands p → o ≡ p
one_call code operands o p inserts inserts = refl
one_call code operands o p withdraws withdraws = refl
one_call code operands o p arranges arranges = refl
one_call code operands o p (judges x) (judges y) = ap (option_map verdict) (sym x ∙ y)
one_call code operands o p (weighs {bytes = bytes} x) (weighs y) =
    ap (option_map (λ m. weigh m bytes)) (sym x ∙ y)
one_call code operands o p (settles x) (settles y) = ap (option_map settle) (sym x ∙ y)
one_call code operands o p locates locates = refl
one_call code operands o p reopens reopens = refl

-- a command keeps a book sound
pub a_command_keeps_books_sound : (b c : Book) (code : ℕ) (operands : List ℕ) (told : Answer) → Sound b →
    Commanded b code operands told c → Sound c
a_command_keeps_books_sound b c code operands told sound (untaken x) = sound
a_command_keeps_books_sound b c code operands told sound (undivided t x) = sound
a_command_keeps_books_sound b c code operands told sound (called {call = call} t x answered follows) =
    every_call_keeps_books_sound b c call (a_command_calls_lawfully code operands call x) sound follows

-- a command has one answer and comes to one book
pub a_command_has_one_outcome : (b c d : Book) (code : ℕ) (operands : List ℕ) (a o : Answer) → Sound b →
    Commanded b code operands a c → Commanded b code operands o d → (a ≡ o) × (c ≡ d)
a_command_has_one_outcome b c d code operands a o sound (untaken x) (untaken y) = (refl, refl)
a_command_has_one_outcome b c d code operands a o sound (untaken x) (undivided t y) = absurd (x t)
a_command_has_one_outcome b c d code operands a o sound (untaken x) (called t y u f) = absurd (x t)
a_command_has_one_outcome b c d code operands a o sound (undivided t x) (untaken y) = absurd (y t)
a_command_has_one_outcome b c d code operands a o sound (undivided t x) (undivided s y) = (refl, refl)
a_command_has_one_outcome b c d code operands a o sound (undivided t x) (called {call = other} s y u f) =
    absurd (nothing_is_some (one_call code operands None (Some other) x y))
a_command_has_one_outcome b c d code operands a o sound (called t x u f) (untaken y) = absurd (y t)
a_command_has_one_outcome b c d code operands a o sound (called {call = call} t x u f) (undivided s y) =
    absurd (nothing_is_some (one_call code operands None (Some call) y x))
a_command_has_one_outcome b c d code operands a o sound (called {call = call} t x u f) (called {call = other} s y v g) =
    let same : other ≡ call = sym (one_some (one_call code operands (Some other) (Some call) y x)) in
    let once = a_call_has_one_outcome b call sound in (
      once.1 a o u (subst (λ (k : Call). Answered b k o) same v),
      once.0 c d f (subst (λ (k : Call). Follows b k d) same g),
    )

-- no command alters the count of variables
pub a_command_keeps_n : (b c : Book) (code : ℕ) (operands : List ℕ) (told : Answer) →
    Commanded b code operands told c → c.n ≡ b.n
a_command_keeps_n b c code operands told (untaken x) = refl
a_command_keeps_n b c code operands told (undivided t x) = refl
a_command_keeps_n b c code operands told (called {call = call} t x answered follows) =
    every_call_keeps_n b c call follows
