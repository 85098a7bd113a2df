use Rattle.std.proofs.Common.{Ok, arith}
use Rattle.std.proofs.lemmas.Result.{err_from_is_err_and}
use Rattle.commands.specs.declared.Command.TheVariants.{Insert, Withdraw, Arrange, Verdict, Weigh, Settle, Locate, Reopen}
use Rattle.runs.specs.declared.requests.Request.TheVariants.{Insert as to_insert, Withdraw as to_withdraw, Arrange as to_arrange, Verdict as to_judge, Weigh as to_weigh, Settle as to_settle, Locate as to_locate, Reopen as to_reopen}
use Rattle.runs.specs.declared.requests.Sheet.TheVariants.{Open, Settled}
use Rattle.logs.specs.Session.{inserts, withdraws, arranges, judges, weighs, settles, locates, reopens}
use Rattle.logs.proofs.Decided.{decided}
use Rattle.logs.proofs.sessions.request_of.Goals as goal

pub returns-in-Open-Insert : goal.returns-in-Open-Insert
returns-in-Open-Insert g c =
    decided g.E.Element.shown c.args.sheet.now (Open c.in-Open-Insert.field-0-0) c.args.command.now
    (Insert c.in-Open-Insert.element) (Ok (to_insert c.element_of.result)) c.in-Open-Insert.is-0 c.in-Open-Insert.is-1
    (omega arith, rw c.element_of.ensures inserts)

pub returns-in-Open-Withdraw : goal.returns-in-Open-Withdraw
returns-in-Open-Withdraw g c =
    decided g.E.Element.shown c.args.sheet.now (Open c.in-Open-Withdraw.field-0-0) c.args.command.now
    (Withdraw c.in-Open-Withdraw.element) (Ok (to_withdraw c.element_of-in-Open-Withdraw.result))
    c.in-Open-Withdraw.is-0 c.in-Open-Withdraw.is-1
    (omega arith, rw c.element_of-in-Open-Withdraw.ensures withdraws)

pub returns-in-Open-Arrange : goal.returns-in-Open-Arrange
returns-in-Open-Arrange g c =
    decided g.E.Element.shown c.args.sheet.now (Open c.in-Open-Arrange.field-0-0) c.args.command.now
    (Arrange c.in-Open-Arrange.order) (Ok (to_arrange c.in-Open-Arrange.order))
    c.in-Open-Arrange.is-0 c.in-Open-Arrange.is-1
    (omega arith, arranges)

pub returns-in_ok-division_of-in-Open-Verdict : goal.returns-in_ok-division_of-in-Open-Verdict
returns-in_ok-division_of-in-Open-Verdict g c =
    decided g.E.Element.shown c.args.sheet.now (Open c.in-Open-Verdict.field-0-0) c.args.command.now
    (Verdict c.in-Open-Verdict.byte) (Ok (to_judge c.in_ok-division_of-in-Open-Verdict.field-0))
    c.in-Open-Verdict.is-0 c.in-Open-Verdict.is-1
    (omega arith, judges c.in_ok-division_of-in-Open-Verdict.ensures)

pub returns-in_err-division_of-in-Open-Verdict : goal.returns-in_err-division_of-in-Open-Verdict
returns-in_err-division_of-in-Open-Verdict g c =
    let none = c.in_err-division_of-in-Open-Verdict.ensures in
    let p = err_from_is_err_and c.from_residual.result c.from_residual.ensures.1 in
    decided g.E.Element.shown c.args.sheet.now (Open c.in-Open-Verdict.field-0-0) c.args.command.now
    (Verdict c.in-Open-Verdict.byte) c.from_residual.result c.in-Open-Verdict.is-0 c.in-Open-Verdict.is-1
    (rw (p.1, p.2, none.0) (omega arith, judges none.1))

pub returns-in_ok-division_of-in-Open-Weigh : goal.returns-in_ok-division_of-in-Open-Weigh
returns-in_ok-division_of-in-Open-Weigh g c =
    decided g.E.Element.shown c.args.sheet.now (Open c.in-Open-Weigh.field-0-0) c.args.command.now
    (Weigh c.in-Open-Weigh.division c.in-Open-Weigh.order)
    (Ok (to_weigh c.in_ok-division_of-in-Open-Weigh.field-0 c.in-Open-Weigh.order))
    c.in-Open-Weigh.is-0 c.in-Open-Weigh.is-1
    (omega arith, weighs c.in_ok-division_of-in-Open-Weigh.ensures)

pub returns-in_err-division_of-in-Open-Weigh : goal.returns-in_err-division_of-in-Open-Weigh
returns-in_err-division_of-in-Open-Weigh g c =
    let none = c.in_err-division_of-in-Open-Weigh.ensures in
    let p = err_from_is_err_and c.from_residual-in_err-division_of-in-Open-Weigh.result
    c.from_residual-in_err-division_of-in-Open-Weigh.ensures.1 in
    decided g.E.Element.shown c.args.sheet.now (Open c.in-Open-Weigh.field-0-0) c.args.command.now
    (Weigh c.in-Open-Weigh.division c.in-Open-Weigh.order) c.from_residual-in_err-division_of-in-Open-Weigh.result
    c.in-Open-Weigh.is-0 c.in-Open-Weigh.is-1 (rw (p.1, p.2, none.0) (omega arith, weighs none.1))

pub returns-in_ok-division_of-in-Open-Settle : goal.returns-in_ok-division_of-in-Open-Settle
returns-in_ok-division_of-in-Open-Settle g c =
    decided g.E.Element.shown c.args.sheet.now (Open c.in-Open-Settle.field-0-0) c.args.command.now
    (Settle c.in-Open-Settle.byte) (Ok (to_settle c.in_ok-division_of-in-Open-Settle.field-0))
    c.in-Open-Settle.is-0 c.in-Open-Settle.is-1
    (omega arith, settles c.in_ok-division_of-in-Open-Settle.ensures)

pub returns-in_err-division_of-in-Open-Settle : goal.returns-in_err-division_of-in-Open-Settle
returns-in_err-division_of-in-Open-Settle g c =
    let none = c.in_err-division_of-in-Open-Settle.ensures in
    let p = err_from_is_err_and c.from_residual-in_err-division_of-in-Open-Settle.result
    c.from_residual-in_err-division_of-in-Open-Settle.ensures.1 in
    decided g.E.Element.shown c.args.sheet.now (Open c.in-Open-Settle.field-0-0) c.args.command.now
    (Settle c.in-Open-Settle.byte) c.from_residual-in_err-division_of-in-Open-Settle.result c.in-Open-Settle.is-0
    c.in-Open-Settle.is-1 (rw (p.1, p.2, none.0) (omega arith, settles none.1))

pub returns-in-Settled-Locate : goal.returns-in-Settled-Locate
returns-in-Settled-Locate g c =
    decided g.E.Element.shown c.args.sheet.now (Settled c.in-Settled-Locate.field-0-0) c.args.command.now
    (Locate c.in-Settled-Locate.element) (Ok (to_locate c.element_of-in-Settled-Locate.result))
    c.in-Settled-Locate.is-0 c.in-Settled-Locate.is-1
    (omega arith, rw c.element_of-in-Settled-Locate.ensures locates)

pub returns-in-Settled-Reopen : goal.returns-in-Settled-Reopen
returns-in-Settled-Reopen g c =
    decided g.E.Element.shown c.args.sheet.now (Settled c.in-Settled-Reopen.field-0-0) c.args.command.now Reopen
    (Ok to_reopen) c.in-Settled-Reopen.is-0 c.in-Settled-Reopen.is-1
    (omega arith, reopens)
