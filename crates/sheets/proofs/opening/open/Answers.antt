use Rattle.std.proofs.Common.{◌≡◌, [], map, vec_items, vec_len, refl, ap, ◌∙◌}
use Rattle.std.specs.Vec.{with_items}
use Rattle.std.proofs.lemmas.List.{with_items_is}
use Rattle.orderings.specs.Answer.{granted}
use Rattle.orderings.specs.Rows.{row}
use Rattle.orderings.proofs.Judging.{Hold}
use Rattle.sheets.specs.Book.{open_asks}
use Rattle.sheets.proofs.Steps.{opened_by, once_opened_by, holds_of}
use Rattle.sheets.proofs.opening.open.Goals as goal

pub returns-in-Ok : goal.returns-in-Ok
returns-in-Ok g c =
    let shown = g.E.Element.shown in
    let p = c.args.parts in
    let asks = open_asks p.header.variables (vec_len p.table) (vec_len p.order) in
    let holds : Hold asks = holds_of asks (λ a. a ≡ granted []) [] c.in-Ok.ensures in
    let table : vec_items (with_items p.table c.clear.new.table) ≡ c.clear.new.table =
    with_items_is p.table c.clear.new.table (c.clear.ensures.length ∙ c.deref_mut.ensures.len) in
    let natural = c.natural_order.ensures holds.0.most in
    let outcome = opened_by g.E.Kind.admitted shown record {
      table = with_items p.table c.clear.new.table;
      order =
          c.copy_from_slice.new.self;
      header = record { variables = p.header.variables; rows = 0 };
    }
    _ _ holds.0 holds.1.0 refl (λ k. ap (λ xs. row (map shown xs) k) table ∙ c.clear.ensures.blank k)
    (c.copy_from_slice.ensures.items ∙ natural) refl refl in
    record {
      answered = c.in-Ok.ensures;
      outcome = outcome;
      once_opened = once_opened_by g.E.Kind.admitted shown _ _ _ holds.0 holds.1.0 outcome.0 outcome.1;
    }
