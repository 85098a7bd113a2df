use Rattle.std.proofs.Common.{rules, tests, ◌≡◌, suc, eqb, refl, sym, ◌∙◌, add-one}
use Rattle.std.proofs.lemmas.Bool.{cond-true, cond-false, eq-eqb, ne_eqb}
use Rattle.std.proofs.lemmas.Iterator.{IsFirst-from_position, index_from_first, YieldsList-from_slice}
use Rattle.barcode.specs.Bars.{position}
use Rattle.barcode.proofs.Listed.{stands_at}
use Rattle.barcode.proofs.positions.position.Goals as goal

pub returns : goal.returns
returns c =
    let v = c.args.variable in
    let e : c.unwrap_or.result ≡ position c.args.order.now v = c.unwrap_or.ensures ∙
    sym (index_from_first (λ xs. position xs v) (λ x. x ≡ v) (λ x. x ≡ v → ⊥) refl
    (λ x xs h. cond-true (eqb x v) 0 _ (eq-eqb x v h))
    (λ x xs h. cond-false (eqb x v) 0 (suc (position xs v)) (ne_eqb x v h) ∙ sym (add-one (position xs v)))
    c.args.order.now c.position.result
    (IsFirst-from_position c.position.new.self _ _ (λ x. x ≡ v) (λ x. x ≡ v → ⊥) c.position.ensures.ran
    (YieldsList-from_slice c.args.order.now cc)
    (λ x q k. search (rules, tests)) (λ x q k. search (rules, tests)))) in
    record { value = e; listed = λ n o low high. stands_at n c.args.order.now o v low high c.unwrap_or.result e }
