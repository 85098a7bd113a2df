-- What commands do to a book, and the lines of a log. Assumes nothing.
use Rattle.std.specs.Prelude.{◌≡◌, ℕ, ◌+◌, ◌≤◌, ◌⊎◌, List, [], ◌∷◌, ◌++◌, length, Some, None, Option}
use Rattle.std.specs.Option.{option_map}
use Rattle.orderings.specs.Answer.{Answer, refused}
use Rattle.divisions.specs.Laws.{Meaning}
use Rattle.divisions.specs.Numbered.{IsNumbered}
use Rattle.sheets.specs.Book.{Book, State, opened, settled_by, Call, insert, withdraw, arrange, verdict, weigh, settle, locate, reopen, Follows, Answered}
use Rattle.commands.specs.Log.{Reads, command, misread, element}

-- the codes that a state takes: 1 to 6 when it is open, 7 and 8 when it is settled
abbrev pub TakesCode : State → ℕ → Type 0
TakesCode opened code = code ≤ 6
TakesCode (settled_by m) code = 7 ≤ code

-- the call that a code and its operand bytes make; none where the division byte is not one of a
-- division
pub data Calls : ℕ → List ℕ → Option Call → Type 0 where
  inserts : {bytes : List ℕ} → Calls 1 bytes (Some (insert (element bytes)))
  withdraws : {bytes : List ℕ} → Calls 2 bytes (Some (withdraw (element bytes)))
  arranges : {bytes : List ℕ} → Calls 3 bytes (Some (arrange bytes))
  judges : {r : ℕ} {d : Option Meaning} → IsNumbered r d → Calls 4 (r ∷ []) (option_map verdict d)
  weighs : {r : ℕ} {d : Option Meaning} {bytes : List ℕ} → IsNumbered r d →
      Calls 5 (r ∷ bytes) (option_map (λ m. weigh m bytes) d)
  settles : {r : ℕ} {d : Option Meaning} → IsNumbered r d → Calls 6 (r ∷ []) (option_map settle d)
  locates : {bytes : List ℕ} → Calls 7 bytes (Some (locate (element bytes)))
  reopens : Calls 8 [] (Some reopen)

-- a command on a book: 3 where the state does not take it, 4 where its division byte is none, and
-- else its call
pub data Commanded (b : Book) (code : ℕ) (operands : List ℕ) : Answer → Book → Type 0 where
  untaken : (TakesCode b.state code → ⊥) → Commanded b code operands (refused 3 []) b
  undivided : TakesCode b.state code → Calls code operands None →
      Commanded b code operands (refused 4 []) b
  called : {call : Call} {told : Answer} {c : Book} →
      TakesCode b.state code → Calls code operands (Some call) →
      Answered b call told → Follows b call c → Commanded b code operands told c

-- what there is to tell of a command: its place, its code and the answer
pub record Entry : Type 0 where
  pub place : ℕ
  pub code : ℕ
  pub told : Answer

abbrev pub entry : ℕ → ℕ → Answer → Entry
entry place code told = record { place = place; code = code; told = told }

-- whole commands one after another, each read at the end of the one before it: from a book, a place
-- and a log to a book, a place and what is left of the log
pub data Through : Book → ℕ → List ℕ → List Entry → Book → ℕ → List ℕ → Type 0 where
  none : {b : Book} {place : ℕ} {log : List ℕ} → Through b place log [] b place log
  more : {b c d : Book} {place end code : ℕ} {log operands rest left : List ℕ} {told : Answer}
      {entries : List Entry} →
      Reads log (command code operands rest) → Commanded b code operands told c →
      Through c (place + (1 + length operands)) rest entries d end left →
      Through b place log (entry place code told ∷ entries) d end left

-- the calls that the commands of a log make, with their answers, in the order of the log: one of
-- each command but those that are told 3 or 4
pub data Make : List ℕ → List Entry → List Call → List Answer → Type 0 where
  nothing : {log : List ℕ} → Make log [] [] []
  passed_over : {log operands rest : List ℕ} {place code number : ℕ} {entries : List Entry}
      {calls : List Call} {answers : List Answer} →
      Reads log (command code operands rest) → (number ≡ 3) ⊎ (number ≡ 4) →
      Make rest entries calls answers →
      Make log (entry place code (refused number []) ∷ entries) calls answers
  called_for : {log operands rest : List ℕ} {place code : ℕ} {told : Answer} {call : Call}
      {entries : List Entry} {calls : List Call} {answers : List Answer} →
      Reads log (command code operands rest) → Calls code operands (Some call) →
      Make rest entries calls answers →
      Make log (entry place code told ∷ entries) (call ∷ calls) (told ∷ answers)

-- a log to its end, or to the first byte that begins no whole command, whose line is the last; with
-- the place after the last whole command
pub data Logged (b : Book) (place : ℕ) (log : List ℕ) : List Entry → ℕ → Type 0 where
  whole : {c : Book} {end : ℕ} {entries : List Entry} →
      Through b place log entries c end [] → Logged b place log entries end
  faulty : {c : Book} {end first number : ℕ} {left : List ℕ} {entries : List Entry} →
      Through b place log entries c end left → Reads left (misread first number) →
      Logged b place log (entries ++ entry end first (refused number []) ∷ []) end
