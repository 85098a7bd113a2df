use Rattle.std.proofs.Common.{length, vec_items}
use Rattle.divisions.specs.Numbered.{numbered_meaning}
use Rattle.sheets.specs.Read.{MakesSheet}
use Rattle.runs.specs.Replies.{parts_of, book_of}
use Rattle.logs.proofs.Going.{Going}
use Rattle.logs.proofs.reading.lines_of.Given as goal

-- the sheet is one, and its book is that of the commands so far
abbrev pub invariant-log : goal.invariant-log
invariant-log g l =
    let book = book_of g.E.Kind.admitted g.E.Element.shown numbered_meaning in
    record {
      makes_sheet : MakesSheet g.E.Kind.admitted g.E.Element.shown (parts_of l.sheet);
      going : Going (book l.initial.sheet).n (book l.initial.sheet) l.bytes l.initial.rest
          (book l.sheet) l.rest (vec_items l.lines);
    }

abbrev pub decreases-log : goal.decreases-log
decreases-log g l = length l.rest
