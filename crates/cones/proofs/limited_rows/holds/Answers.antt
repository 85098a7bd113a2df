use Rattle.std.proofs.Common.{sym, ◌∙◌, arith}
use Rattle.std.proofs.lemmas.Bool.{false≢true}
use Rattle.std.proofs.lemmas.Bool.Decides.{Decides-like, not_from_Decides}
use Rattle.cones.proofs.Reading.{held, below_held}
use Rattle.cones.proofs.limited_rows.holds.Goals as goal

pub returns-then-is_below : goal.returns-then-is_below
returns-then-is_below g c =
    Decides-like c.is_multiple_of.result
    (λ d. held c.args.n c.args.limits.now (g.E.Element.shown c.args.row.now) _ (omega arith) d
    (c.is_below.ensures.0 c.if-is_below.true))
    (λ h. h.0) c.is_multiple_of.ensures

pub returns-else-is_below : goal.returns-else-is_below
returns-else-is_below g c = (
  λ t. absurd (false≢true (sym c.if-is_below.false ∙ t)),
  λ h. absurd (not_from_Decides _ c.is_below.ensures c.if-is_below.false
      (below_held c.args.n c.args.limits.now (g.E.Element.shown c.args.row.now) _ (omega arith) h)),
)

pub returns-then-is_multiple_of : goal.returns-then-is_multiple_of
returns-then-is_multiple_of g c =
    Decides-like c.is_below-then-is_multiple_of.result
    (held c.args.n c.args.limits.now (g.E.Element.shown c.args.row.now) _ (omega arith)
    (c.is_multiple_of-else-this-ne0.ensures.0 c.if-is_multiple_of.true))
    (below_held c.args.n c.args.limits.now (g.E.Element.shown c.args.row.now) _ (omega arith))
    c.is_below-then-is_multiple_of.ensures
