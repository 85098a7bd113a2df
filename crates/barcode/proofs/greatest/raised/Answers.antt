use Rattle.std.proofs.Common.{◌≡◌, max, get_or, rules, tests}
use Rattle.elements.proofs.Made.{made}
use Rattle.barcode.proofs.Tops.{raised_entry}
use Rattle.barcode.proofs.greatest.raised.Goals as goal

pub returns : goal.returns
returns c =
    let a = c.args.a in
    let b = c.args.b in
    raised_entry a b c.from_fn.result (search rules) (search rules) c.from_fn.ensures.items.long
    (made _ _ (λ k y. y ≡ max (get_or a k 0) (get_or b k 0)) (λ i y q k. search (rules, tests)) _ 0 8
    c.from_fn.ensures.items)
