-- The commands of a log are a run of lawful calls. Assumes nothing.
use Rattle.std.proofs.Common.{ℕ, List, [], ◌∷◌, refl, inl, inr, arith}
use Rattle.orderings.specs.Answer.{Answer}
use Rattle.sheets.specs.Book.{Book, Call, fresh}
use Rattle.sheets.specs.History.{Run, over, next, LawfulCalls, History, OpenedThenWentThrough}
use Rattle.sheets.proofs.Histories.{holds_after_every_call}
use Rattle.commands.specs.Log.{Reads, command}
use Rattle.logs.specs.Session.{Commanded, untaken, undivided, called, Entry, entry, Through, none, more, Make, nothing, passed_over, called_for}
use Rattle.logs.specs.Laws.{HoldsAfterEveryCommand}
use Rattle.logs.proofs.Called.{a_command_calls_lawfully}

-- a run from one book to another of the calls that the commands of a log make
abbrev Ran : Book → Book → List ℕ → List Entry → Type 0
Ran b c log entries = (calls : List Call) × (answers : List Answer) × Make log entries calls answers ×
    LawfulCalls calls × Run b calls answers c

-- a command before a run: its call, or none where it is refused by 3 or 4
command_ran : (b c d : Book) (place code : ℕ) (log operands rest : List ℕ) (told : Answer) (entries : List Entry) →
    Reads log (command code operands rest) →
    Commanded b code operands told c → Ran c d rest entries → Ran b d log (entry place code told ∷ entries)
command_ran b c d place code log operands rest told entries reads (untaken x) (calls, answers, made, laws, run) =
    (calls, answers, passed_over reads (inl refl) made, laws, run)
command_ran b c d place code log operands rest told entries reads (undivided t x) (calls, answers, made, laws, run) =
    (calls, answers, passed_over reads (inr refl) made, laws, run)
command_ran b c d place code log operands rest told entries reads (called {call = call} t x answered follows)
    (calls, answers, made, laws, run) = (
      call ∷ calls,
      told ∷ answers,
      called_for reads x made,
      (a_command_calls_lawfully code operands call x, laws),
      next answered follows run,
    )

log_ran : (b c : Book) (place end : ℕ) (log left : List ℕ) (entries : List Entry) →
    Through b place log entries c end left → Ran b c log entries
log_ran b c place end log left entries none = ([], [], nothing, tt, over)
log_ran b c place end log left _ (more {c = d} {code = code} {operands = operands} {rest = rest} {told =
    told} {entries = entries} reads does through) =
    command_ran b d c place code log operands rest told entries reads does (log_ran d c _ end rest left entries through)

pub holds_after_every_command : (input : List ℕ) → HoldsAfterEveryCommand input
holds_after_every_command input n kind admits log opens entries b end left through =
    let (calls, answers, made, laws, run) = log_ran (fresh admits n 64) b 2 end log left entries through in
    let h : History = record { variables = n; places = 64; calls = calls; answers = answers } in
    let reached : OpenedThenWentThrough admits h b =
    record {
      variable_count = opens.variable_count;
      place_count = record { some = omega arith; most = omega arith };
      lawful = laws;
      run = run;
    } in
    (h, refl, refl, made, reached, holds_after_every_call reached)
