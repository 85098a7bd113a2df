-- A log has one list of entries and one end. Assumes nothing.
use Rattle.std.proofs.Common.{◌≡◌, ℕ, ◌+◌, List, [], ◌∷◌, ◌++◌, length, refl, subst, subst₂}
use mathlib.Core.Path.{subst₃}
use Rattle.orderings.specs.Answer.{refused}
use Rattle.sheets.specs.Book.{Book}
use Rattle.commands.specs.Log.{Front, nothing, command, misread, Reads}
use Rattle.commands.proofs.Fronts.{reading_has_one_outcome}
use Rattle.sheets.proofs.Sound.{Sound}
use Rattle.logs.specs.Session.{Commanded, Entry, entry, Through, none, more, Logged, whole, faulty}
use Rattle.logs.proofs.Called.{a_command_has_one_outcome, a_command_keeps_books_sound}

-- no command stands at the front
abbrev Stops : Front → Type 0
Stops nothing = Unit {0}
Stops (command code operands rest) = ⊥
Stops (misread first number) = Unit {0}

-- no log both stops and goes on
stops_or_goes_on : (log : List ℕ) (s : Front) (code : ℕ) (operands rest : List ℕ) → Stops s → Reads log s →
    Reads log (command code operands rest) → ⊥
stops_or_goes_on log s code operands rest stops here reads =
    subst Stops (reading_has_one_outcome log s (command code operands rest) here reads) stops

-- the front of a log is of one command
one_code : (c d : ℕ) (o p r s : List ℕ) → command c o r ≡ command d p s → c ≡ d
one_code c d o p r s e = cc

one_operands : (c d : ℕ) (o p r s : List ℕ) → command c o r ≡ command d p s → o ≡ p
one_operands c d o p r s e = cc

one_rest : (c d : ℕ) (o p r s : List ℕ) → command c o r ≡ command d p s → r ≡ s
one_rest c d o p r s e = cc

-- whole commands until the log stops: there is one list of entries, one place and one front at which it stops
one_way_through : (b c d : Book) (place end last : ℕ) (log left over : List ℕ) (entries others : List Entry)
    (s t : Front) → Sound b →
    Through b place log entries c end left → Through b place log others d last over → Stops s → Stops t →
    Reads left s → Reads over t →
    (entries ≡ others) × (end ≡ last) × (s ≡ t)
one_way_through b c d place end last log left over entries others s t sound none none p q x y =
    (refl, refl, reading_has_one_outcome log s t x y)
one_way_through b c d place end last log left over entries others s t sound none (more {code = code} {operands =
    operands} {rest = rest} reads does through) p q x y =
    absurd (stops_or_goes_on log s code operands rest p x reads)
one_way_through b c d place end last log left over entries others s t sound (more {code = code} {operands =
    operands} {rest = rest} reads does through) none p q x y =
    absurd (stops_or_goes_on log t code operands rest q y reads)
one_way_through b c d place end last log left over entries others s t sound (more {c = e} {code = code} {operands =
    operands} {rest = rest} {told = told} {entries = es} reads does through)
    (more {c = f} {code = code'} {operands = operands'} {rest = rest'} {told = told'} {entries =
    fs} reads' does' through') p q x y =
    let front = reading_has_one_outcome log (command code' operands' rest') (command code operands rest) reads' reads in
    let code_same = one_code code' code operands' operands rest' rest front in
    let operands_same = one_operands code' code operands' operands rest' rest front in
    let rest-same = one_rest code' code operands' operands rest' rest front in
    let again = subst₂ (λ (k : ℕ) (l : List ℕ). Commanded b k l told' f) code_same operands_same does' in
    let once = a_command_has_one_outcome b f e code operands told' told sound again does in
    let onward = subst₃ (λ (m : Book) (l r : List ℕ). Through m (place + (1 + length l)) r fs d last over)
    once.1 operands_same rest-same through' in
    let same = one_way_through e c d (place + (1 + length operands)) end last rest left over es fs s t
    (a_command_keeps_books_sound b e code operands told sound does) through onward p q x y in
    (cc (once.0, same.0), same.1, same.2)

not_misread : (first number : ℕ) → nothing ≡ misread first number → ⊥
not_misread first number e = absurd cc

-- the line of what begins no command, after equal entries
one_last : (entries others : List Entry) (end last first number first' number' : ℕ) → entries ≡ others → end ≡ last →
    misread first number ≡ misread first' number' →
    entries ++ entry end first (refused number []) ∷ [] ≡ others ++ entry last first' (refused number' []) ∷ []
one_last entries others end last first number first' number' e f g = let a : first ≡ first' = cc in
    let b : number ≡ number' = cc in cc

-- a log from a sound book has one list of entries and one end
pub a_log_has_one_outcome : (b : Book) (place : ℕ) (log : List ℕ) (entries others : List Entry) (end last : ℕ) →
    Sound b → Logged b place log entries end → Logged b place log others last →
    (entries ≡ others) × (end ≡ last)
a_log_has_one_outcome b place log entries others end last sound (whole {c = c} x) (whole {c = d} y) =
    let same = one_way_through b c d place end last log [] [] entries others nothing nothing sound x y tt tt refl
    refl in
    (same.0, same.1)
a_log_has_one_outcome b place log entries others end last sound (whole {c = c} x) (faulty {c = d} {first =
    first} {number = number} {left = left} {entries = es} y r) =
    absurd (not_misread first number (one_way_through b c d place end last log [] left entries es nothing
    (misread first number) sound x y tt tt refl r).2)
a_log_has_one_outcome b place log entries others end last sound (faulty {c = c} {first = first} {number =
    number} {left = left} {entries = es} x r) (whole {c = d} y) =
    absurd (not_misread first number (one_way_through b d c place last end log [] left others es nothing
    (misread first number) sound y x tt tt refl r).2)
a_log_has_one_outcome b place log entries others end last sound (faulty {c = c} {first = first} {number =
    number} {left = left} {entries = es} x r)
    (faulty {c = d} {first = first'} {number = number'} {left = left'} {entries = fs} y r') =
    let same = one_way_through b c d place end last log left left' es fs (misread first number)
    (misread first' number') sound x y tt tt r r' in
    (one_last es fs end last first number first' number' same.0 same.1 same.2, same.1)
