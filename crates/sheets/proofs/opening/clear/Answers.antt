use Rattle.std.proofs.Common.{◌<◌, length, ◌∙◌, inl, inr, arith, below_more}
use Rattle.std.proofs.lemmas.Bool.{cases_lt}
use Rattle.orderings.proofs.Places.{row_past}
use Rattle.sheets.proofs.Tables.{row_written, row_kept}
use Rattle.sheets.proofs.opening.clear.Goals as goal

pub loop-place-preserved : goal.loop-place-preserved
loop-place-preserved g c =
    let t = c.loop-place.table in
    let l : c.loop-place.place-index < length t = omega (arith, c.loop-place-test.true) in
    below_more _ _ (λ j h. row_kept g.E.Element.shown t c.loop-place.place-index j c.blank.result h ∙
    c.loop-place.invariant j h)
    (row_written g.E.Element.shown t c.loop-place.place-index c.blank.result l ∙ c.blank.ensures)

pub returns-clause-blank : goal.returns-clause-blank
returns-clause-blank g c = λ p. elim (cases_lt p c.loop-place.place-index) [
  | inl l ↦ c.loop-place.invariant p l
  | inr l ↦ row_past g.E.Element.shown c.loop-place.table p (omega (arith, c.loop-place-test.false))
]
