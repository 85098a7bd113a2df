use Rattle.std.proofs.Common.{◌≡◌, ℕ, ◌∙◌, rules}
use Rattle.elements.proofs.Made.{made}
use Rattle.commands.proofs.Elements.{element_written, pair}
use Rattle.commands.proofs.element_of.Goals as goal

pub returns : goal.returns
returns g c =
    c.make.ensures ∙ element_written _ _ _ c.byte_at.ensures c.from_fn-exponents.ensures.items.long
    (made _ _ (λ (i y : ℕ). y ≡ pair c.args.bytes.now i) (λ i y f k. search rules)
    _ 0 8 c.from_fn-exponents.ensures.items)
