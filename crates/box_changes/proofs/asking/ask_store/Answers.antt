use Rattle.std.proofs.Common.{sym, subst, Ok, Err}
use Rattle.store_core.specs.StoreCalls.{Applies}
use Rattle.box_changes.specs.Asking.{AsksStore}
use Rattle.box_changes.proofs.Asked.{asks}
use Rattle.box_changes.proofs.asking.ask_store.Goals as goal

pub returns-in-Ok : goal.returns-in-Ok
returns-in-Ok g c =
    let st = g.R.Disk.state in
    asks st c.args.question.now c.args.store.now c.apply.new.self c.requires (Ok c.in-Ok.reply)
    (subst (λ x. Applies st x c.args.store.now c.apply.new.self (Ok c.in-Ok.reply)) c.command.ensures
    c.in-Ok.ensures.call)

pub returns-in-Err : goal.returns-in-Err
returns-in-Err g c =
    let st = g.R.Disk.state in
    subst (λ f. AsksStore st c.args.question.now c.args.store.now c.apply.new.self (Err f)) (sym c.store_fault.ensures)
    (asks st c.args.question.now c.args.store.now c.apply.new.self c.requires (Err c.in-Err.fault)
    (subst (λ x. Applies st x c.args.store.now c.apply.new.self (Err c.in-Err.fault)) c.command.ensures
    c.in-Err.ensures.call))
