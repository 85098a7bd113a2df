use Rattle.std.proofs.Common.{sym, refl, ◌∙◌, arith}
use Rattle.std.proofs.lemmas.Bool.{eqb-true, eq-eqb}
use Rattle.cones.proofs.Compared.{compared_more, compared_all}
use Rattle.cones.proofs.shape.Shape.is_multiple_of.Goals as goal

pub loop-i-init : goal.loop-i-init
loop-i-init g c = (
  λ t. (sym c.family.ensures ∙ eqb-true _ _ t, λ k l. absurd (omega arith)),
  λ d. eq-eqb _ _ (c.family.ensures ∙ d.0),
)

pub loop-i-preserved : goal.loop-i-preserved
loop-i-preserved g c =
    compared_more _ c.exponents-least.result c.self.inside.exponents c.loop-i.i c.loop-i.divides
    c.from.result c.from.ensures c.loop-i.invariant

pub returns : goal.returns
returns g c =
    rw (← c.self.view_is) (compared_all _ _ c.exponents-least.result c.self.inside.exponents
    c.exponents-least.ensures refl (omega arith) c.loop-i.i (omega arith) c.loop-i.divides c.loop-i.invariant)
