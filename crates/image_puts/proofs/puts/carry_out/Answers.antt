use Rattle.std.proofs.Common.{IsTrue, Result, Ok, Err, Vec, Global, sym, ap, subst, ◌∙◌}
use Rattle.std.proofs.lemmas.Result.{err_from_is_err_and}
use Rattle.store_model.specs.Paths.{Path, is_path}
use Rattle.image_check.specs.declared.fault.ApplyFault.{ApplyFault}
use Rattle.staged_tree.specs.declared.group.GroupAnswer.{GroupAnswer}
use Rattle.store_core.specs.Streams.{AppliesStream}
use Rattle.tree_changes.specs.Puts.{fresh_of}
use Rattle.image_changes.specs.declared.outcome.Outcome.{Outcome}
use Rattle.image_changes.specs.Outcomes.{outcome_of}
use Rattle.image_puts.specs.declared.fault.PutFault.{PutFault}
use Rattle.image_puts.specs.PutChanges.{HasPutAt, HasPutAll, FailsPut, EndsPut}
use Rattle.image_puts.specs.Puts.{IsPutWhole, IsPutRefused, PutsOver}
use Rattle.image_puts.proofs.StepRounds.{keeps_itself}
use Rattle.image_puts.proofs.PutWords.{put_fails, put_answered, put_ended, by_names}
use Rattle.image_puts.proofs.puts.carry_out.Goals as goal

pub returns-in_err-answer-clause-call : goal.returns-in_err-answer-clause-call
returns-in_err-answer-clause-call g c listed tree path fresh_is =
    let first = c.args.changes.now in
    let stream = c.apply_stream.new.stream in
    let stays = c.in_err-answer.ensures.keeps first (keeps_itself g.S.DumpStream.keeps first) in
    let valid = subst (λ (x : Path). IsTrue (is_path x)) (sym stays.to) path in
    let fresh = ap (λ (v : Vec Path Global). v.items) stays.fresh ∙ fresh_is
    ∙ ap (λ x. fresh_of x listed c.args.store.now.tree) (sym stays.to) in
    let fault = err_from_is_err_and c.from_residual.result c.from_residual.ensures.1 in
    subst (λ (r : Result (Result Outcome PutFault) ApplyFault). PutsOver g.D.Disk.state
    (IsPutWhole (g.S.DumpStream.whole stream.source) first.replaces first.to listed)
    (IsPutRefused (g.S.DumpStream.came stream.source) first.replaces c.args.store.now.params first.to listed)
    (FailsPut g.S.DumpStream.came g.S.DumpStream.fails stream.source first.to) c.args.store.now c.apply_stream.new.self
    r)
    (sym (fault.1 ∙ ap (λ (f : ApplyFault). Err f) fault.2))
    (by_names g.D.Disk.state g.S.DumpStream.came g.S.DumpStream.whole g.S.DumpStream.fails c.args.store.now
    c.apply_stream.new.self stream listed tree valid fresh first.to first.replaces stays.to stays.replaces
    (Err c.in_err-answer.field-0.0)
    (put_fails g.D.Disk.state g.S.DumpStream.came g.S.DumpStream.whole g.S.DumpStream.fails c.args.store.now
    c.apply_stream.new.self stream listed tree valid fresh c.in_err-answer.field-0.0 c.in_err-answer.ensures.call))

pub returns-in-Ok-clause-call : goal.returns-in-Ok-clause-call
returns-in-Ok-clause-call g c listed tree path fresh_is =
    let first = c.args.changes.now in
    let stream = c.apply_stream.new.stream in
    let stays = c.in_ok-answer.ensures.keeps first (keeps_itself g.S.DumpStream.keeps first) in
    let valid = subst (λ (x : Path). IsTrue (is_path x)) (sym stays.to) path in
    let fresh = ap (λ (v : Vec Path Global). v.items) stays.fresh ∙ fresh_is
    ∙ ap (λ x. fresh_of x listed c.args.store.now.tree) (sym stays.to) in
    subst (λ (o : Outcome). PutsOver g.D.Disk.state
    (IsPutWhole (g.S.DumpStream.whole stream.source) first.replaces first.to listed)
    (IsPutRefused (g.S.DumpStream.came stream.source) first.replaces c.args.store.now.params first.to listed)
    (FailsPut g.S.DumpStream.came g.S.DumpStream.fails stream.source first.to) c.args.store.now c.apply_stream.new.self
    (Ok (Ok o)))
    (sym (c.outcome_of.ensures ∙ ap (λ (x : Path). outcome_of x c.in-Ok.answer) c.last.ensures))
    (by_names g.D.Disk.state g.S.DumpStream.came g.S.DumpStream.whole g.S.DumpStream.fails c.args.store.now
    c.apply_stream.new.self stream listed tree valid fresh first.to first.replaces stays.to stays.replaces
    (Ok (Ok (outcome_of stream.last c.in-Ok.answer)))
    (put_answered g.D.Disk.state g.S.DumpStream.came g.S.DumpStream.whole g.S.DumpStream.fails c.args.store.now
    c.apply_stream.new.self stream listed tree valid fresh c.in-Ok.answer
    (subst (λ (r : Result GroupAnswer PutFault). AppliesStream (HasPutAt g.S.DumpStream.came stream)
    (HasPutAll g.S.DumpStream.whole stream)
    (λ changes fault. EndsPut g.S.DumpStream.came g.S.DumpStream.fails stream fault) g.D.Disk.state c.args.store.now
    c.apply_stream.new.self (Ok r)) c.in-Ok.is c.in_ok-answer.ensures.call)))

pub returns-in-Err-clause-call : goal.returns-in-Err-clause-call
returns-in-Err-clause-call g c listed tree path fresh_is =
    let first = c.args.changes.now in
    let stream = c.apply_stream.new.stream in
    let stays = c.in_ok-answer.ensures.keeps first (keeps_itself g.S.DumpStream.keeps first) in
    let valid = subst (λ (x : Path). IsTrue (is_path x)) (sym stays.to) path in
    let fresh = ap (λ (v : Vec Path Global). v.items) stays.fresh ∙ fresh_is
    ∙ ap (λ x. fresh_of x listed c.args.store.now.tree) (sym stays.to) in
    by_names g.D.Disk.state g.S.DumpStream.came g.S.DumpStream.whole g.S.DumpStream.fails c.args.store.now
    c.apply_stream.new.self stream listed tree valid fresh first.to first.replaces stays.to stays.replaces
    (Ok (Err c.in-Err.fault))
    (put_ended g.D.Disk.state g.S.DumpStream.came g.S.DumpStream.whole g.S.DumpStream.fails c.args.store.now
    c.apply_stream.new.self stream listed tree valid fresh c.in-Err.fault
    (subst (λ (r : Result GroupAnswer PutFault). AppliesStream (HasPutAt g.S.DumpStream.came stream)
    (HasPutAll g.S.DumpStream.whole stream)
    (λ changes fault. EndsPut g.S.DumpStream.came g.S.DumpStream.fails stream fault) g.D.Disk.state c.args.store.now
    c.apply_stream.new.self (Ok r)) c.in-Err.is c.in_ok-answer.ensures.call))
