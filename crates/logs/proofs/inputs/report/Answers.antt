use Rattle.std.proofs.Common.{arith, ltb-true, ap, sym, subst, ◌∙◌}
use Rattle.lines.specs.Report.{kind_number}
use Rattle.logs.specs.Input.{KindAdmits, too_long, cut_short, no_kind, terms, derivatives}
use Rattle.logs.proofs.Opened.{plain_families, two_bytes, reported, logs_alone}
use Rattle.logs.proofs.inputs.report.Goals as goal

pub returns-then-input-gt-MOST_BYTES-clause-reported : goal.returns-then-input-gt-MOST_BYTES-clause-reported
returns-then-input-gt-MOST_BYTES-clause-reported c = too_long (omega (arith, c.if-input-gt-MOST_BYTES.true))

pub returns-in_default-clause-reported : goal.returns-in_default-clause-reported
returns-in_default-clause-reported c = cut_short (omega (arith, ltb-true))

pub returns-in-Ok-PlainTerms-clause-reported : goal.returns-in-Ok-PlainTerms-clause-reported
returns-in-Ok-PlainTerms-clause-reported c =
    reported _ c.args.input.now 0 c.report_kind.result c.in-len2-up.len_at_least c.if-input-gt-MOST_BYTES.false
    (sym c.in-Ok-PlainTerms.ensures ∙ ap kind_number c.in-Ok-PlainTerms.field-0-is)
    (subst (KindAdmits 0) (sym plain_families) terms) c.report_kind.ensures.reported

pub returns-in-Ok-Derivatives-clause-reported : goal.returns-in-Ok-Derivatives-clause-reported
returns-in-Ok-Derivatives-clause-reported c =
    reported _ c.args.input.now 1 c.report_kind-in-Ok-Derivatives.result c.in-len2-up.len_at_least
    c.if-input-gt-MOST_BYTES.false
    (sym c.in-Ok-Derivatives.ensures ∙ ap kind_number c.in-Ok-Derivatives.field-0-is)
    derivatives c.report_kind-in-Ok-Derivatives.ensures.reported

pub returns-in-Ok-PlainTerms-clause-only_a_log_needs_memory :
    goal.returns-in-Ok-PlainTerms-clause-only_a_log_needs_memory
returns-in-Ok-PlainTerms-clause-only_a_log_needs_memory c =
    logs_alone _ c.args.input.now 0 c.report_kind.result c.in-len2-up.len_at_least c.if-input-gt-MOST_BYTES.false
    (sym c.in-Ok-PlainTerms.ensures ∙ ap kind_number c.in-Ok-PlainTerms.field-0-is)
    (subst (KindAdmits 0) (sym plain_families) terms) c.report_kind.ensures.only_a_log_needs_memory

pub returns-in-Ok-Derivatives-clause-only_a_log_needs_memory :
    goal.returns-in-Ok-Derivatives-clause-only_a_log_needs_memory
returns-in-Ok-Derivatives-clause-only_a_log_needs_memory c =
    logs_alone _ c.args.input.now 1 c.report_kind-in-Ok-Derivatives.result c.in-len2-up.len_at_least
    c.if-input-gt-MOST_BYTES.false
    (sym c.in-Ok-Derivatives.ensures ∙ ap kind_number c.in-Ok-Derivatives.field-0-is)
    derivatives c.report_kind-in-Ok-Derivatives.ensures.only_a_log_needs_memory

pub returns-in-Err-clause-reported : goal.returns-in-Err-clause-reported
returns-in-Err-clause-reported c =
    let none = c.in-Err.ensures in
    rw none.0 (no_kind c.if-input-gt-MOST_BYTES.false (two_bytes c.args.input.now c.in-len2-up.len_at_least)
    (λ e. omega (arith, none.1)) (λ e. omega (arith, none.1)))
