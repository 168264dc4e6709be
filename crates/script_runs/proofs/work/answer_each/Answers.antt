use Rattle.std.proofs.Common.{Ok, sym, subst}
use Rattle.std.proofs.lemmas.Result.{err_from_is_err_and}
use Rattle.script_runs.specs.Turns.{start_of, AnswersAll, AnswersCommand, LeavesLess, IsNext, asked_for}
use Rattle.script_runs.proofs.WorkTurns.{SoFar, so_far_none, so_far_more, replies, at_end, at_stop, at_fault, at_reply}
use Rattle.script_runs.proofs.WorkTurns.{was_asked, fault_met, none_asked}
use Rattle.script_runs.proofs.work.answer_each.Goals as goal

pub turns-init : goal.turns-init
turns-init g c =
    subst (SoFar g.D.Disk.state g.J.Work.told g.J.Work.trees g.J.Work.left g.J.Work.live g.J.Work.kept c.args.work.now
    c.args.work.now c.args.store.now c.args.store.now) (sym c.requires.none)
    (so_far_none g.met.D.Disk.sound c.requires.ready c.requires.begins)

pub returns-in_err-next : goal.returns-in_err-next
returns-in_err-next g c =
    let status = err_from_is_err_and c.from_residual.result c.from_residual.ensures.1 in
    rw (status.1, status.2)
    (at_stop g.met.D.Disk.sound c.turns.invariant
    (c.in_err-next.ensures.turn (start_of g.D.Disk.state c.args.store.now)
    c.args.work.now c.turns.done c.turns.invariant.work))

pub returns-in_err-answer_asked : goal.returns-in_err-answer_asked
returns-in_err-answer_asked g c =
    let status = err_from_is_err_and c.from_residual-in_err-answer_asked.result
    c.from_residual-in_err-answer_asked.ensures.1 in
    let start = start_of g.D.Disk.state c.args.store.now in
    let met = fault_met (AnswersCommand g.D.Disk.state) c.turns.store c.answer_asked.new.store c.answer_asked.new.reply
    c.in_err-answer_asked.field-0.0 (asked_for c.next.new.command c.in_ok-next.field-0) c.in_err-answer_asked.ensures in
    let asks =
    subst (λ asked. IsNext g.J.Work.told g.J.Work.trees g.J.Work.ends g.J.Work.due start
    c.args.work.now c.next.new.self c.turns.done (Ok asked))
    met.turn_is (c.in_ok-next.ensures.turn start c.args.work.now c.turns.done c.turns.invariant.work) in
    rw (status.1, status.2) (at_fault g.met.D.Disk.sound c.turns.invariant asks c.answer_asked.new.store
    c.in_err-answer_asked.field-0.0 met.answers)

pub returns-in_err-answered : goal.returns-in_err-answered
returns-in_err-answered g c =
    let status = err_from_is_err_and c.from_residual-in_err-answered.result c.from_residual-in_err-answered.ensures.1 in
    let start = start_of g.D.Disk.state c.args.store.now in
    let was = was_asked (AnswersCommand g.D.Disk.state) c.turns.store c.answer_asked.new.store c.answer_asked.new.reply
    c.in_ok-answer_asked.field-0 (asked_for c.next.new.command c.in_ok-next.field-0) c.if-branch.true
    c.in_ok-answer_asked.ensures in
    let asks =
    subst (λ asked. IsNext g.J.Work.told g.J.Work.trees g.J.Work.ends g.J.Work.due start
    c.args.work.now c.next.new.self c.turns.done (Ok asked))
    was.turn_is (c.in_ok-next.ensures.turn start c.args.work.now c.turns.done c.turns.invariant.work) in
    rw (status.1, status.2)
    (at_reply g.met.D.Disk.sound c.turns.invariant asks c.answer_asked.new.store c.answer_asked.new.reply was.answers
    (c.in_err-answered.ensures.turn start c.args.work.now c.turns.done was.turn asks.due
    (replies g.met.D.Disk.sound c.turns.invariant asks c.answer_asked.new.store c.answer_asked.new.reply was.answers)))

pub turns-preserved : goal.turns-preserved
turns-preserved g c =
    let start = start_of g.D.Disk.state c.args.store.now in
    let was = was_asked (AnswersCommand g.D.Disk.state) c.turns.store c.answer_asked.new.store c.answer_asked.new.reply
    c.in_ok-answer_asked.field-0 (asked_for c.next.new.command c.in_ok-next.field-0) c.if-branch.true
    c.in_ok-answer_asked.ensures in
    let asks =
    subst (λ asked. IsNext g.J.Work.told g.J.Work.trees g.J.Work.ends g.J.Work.due start
    c.args.work.now c.next.new.self c.turns.done (Ok asked))
    was.turn_is (c.in_ok-next.ensures.turn start c.args.work.now c.turns.done c.turns.invariant.work) in
    let falls = subst (λ asked. LeavesLess (g.J.Work.left c.turns.work) (g.J.Work.left c.next.new.self) asked)
    was.turn_is c.in_ok-next.ensures.falls in
    let taken = c.in_ok-answered.ensures in
    so_far_more g.met.D.Disk.sound c.turns.invariant asks c.answer_asked.new.store c.answer_asked.new.reply
    was.answers falls taken.falls taken.live
    (taken.turn start c.args.work.now c.turns.done was.turn asks.due
    (replies g.met.D.Disk.sound c.turns.invariant asks c.answer_asked.new.store c.answer_asked.new.reply was.answers))

pub returns : goal.returns
returns g c =
    let start = start_of g.D.Disk.state c.args.store.now in
    let none = none_asked (AnswersCommand g.D.Disk.state) c.turns.store c.answer_asked.new.store
    c.answer_asked.new.reply
    c.in_ok-answer_asked.field-0 (asked_for c.next.new.command c.in_ok-next.field-0) c.if-branch.false
    c.in_ok-answer_asked.ensures in
    let ends =
    subst (λ asked. IsNext g.J.Work.told g.J.Work.trees g.J.Work.ends g.J.Work.due start
    c.args.work.now c.next.new.self c.turns.done (Ok asked))
    none.0 (c.in_ok-next.ensures.turn start c.args.work.now c.turns.done c.turns.invariant.work) in
    subst (λ store. AnswersAll g.D.Disk.state g.J.Work.told g.J.Work.trees g.J.Work.ends (Ok tt)
    c.turns.done c.args.store.now store c.args.work.now c.next.new.self) (sym none.1)
    (at_end g.met.D.Disk.sound c.turns.invariant ends)
