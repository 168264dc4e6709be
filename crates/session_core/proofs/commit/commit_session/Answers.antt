use Rattle.std.proofs.Common.{ℕ, ◌<◌, List, length, map, slice_get, Option, None, Some, IfSome, Result, Ok, Err, refl}
use Rattle.std.proofs.Common.{sym, ap, subst, ◌∙◌}
use Rattle.std.specs.Option.{option_map}
use Rattle.std.proofs.lemmas.Option.{slice_get-map, slice_get_read}
use Rattle.std.proofs.lemmas.Result.{err_from_is_err_and}
use Rattle.image_check.specs.declared.fault.ApplyFault.{ApplyFault}
use Rattle.script_lines.specs.Replies.{reply_of}
use Rattle.script_lines.specs.Sessions.{question_of, change_of}
use Rattle.staged_tree.specs.declared.group.GroupAnswer.{GroupAnswer}
use Rattle.staged_tree.specs.declared.group.GroupAnswer.TheVariants as groups
use Rattle.session_core.specs.declared.committed.Committed.{Committed}
use Rattle.session_core.specs.Machine.{Note, Session}
use Rattle.session_core.specs.Noted.{note_of}
use Rattle.session_core.specs.SessionSteps.{CommitsSession}
use Rattle.session_core.proofs.CommitLemmas.{asked_notes, changed_all, commits_conflict, commits_unasked, commits_done}
use Rattle.session_core.proofs.CommitLemmas.{commits_refused, commits_fails}
use Rattle.session_core.proofs.commit.commit_session.Goals as goal

pub returns-in-Some-clause-commits : goal.returns-in-Some-clause-commits
returns-in-Some-clause-commits g c =
    let store = c.args.store.now in
    let session = c.args.session.now in
    let number = c.in-Some.question in
    let now = c.first_difference.new in
    let items = c.session.inside.asked.items in
    let removed = c.swap_remove.result in
    let asked = ap (λ (s : Session). s.asked) c.session.view_is in
    let asks = asked_notes g.D.Disk.state g.met.D.Disk.sound store
    c.requires.keeps c.requires.runs (map note_of c.deref.result.now)
    session.asked (ap (map note_of) c.deref.ensures.value ∙ asked) now.store (reply_of now.now)
    (Ok c.in_ok-question.field-0) (Ok (Some number))
    (ap (λ (o : Option ℕ). Ok o) c.in-Some.is) c.in_ok-question.ensures.asks in
    let within = subst (λ (o : Option ℕ). IfSome o (λ k. k < length c.deref.result.now))
    c.in-Some.is c.in_ok-question.ensures.within in
    let here = ap (λ (l : List Note). slice_get l number) (sym asked) ∙ slice_get-map note_of items number
    ∙ ap (option_map note_of) (slice_get_read items (length c.deref.result.now) number removed
    (ap length c.deref.ensures.value) within c.swap_remove.ensures.value) in
    commits_conflict g.D.Disk.state g.met.D.Disk.sound store c.requires.keeps c.requires.runs session now.store number
    removed.reply now.now (question_of removed.question) here asks

pub returns-in_err-question-clause-commits : goal.returns-in_err-question-clause-commits
returns-in_err-question-clause-commits g c =
    let store = c.args.store.now in
    let session = c.args.session.now in
    let now = c.first_difference.new in
    let fault = err_from_is_err_and c.from_residual.result c.from_residual.ensures.1 in
    let failed = c.in_err-question.field-0.0 in
    let asks = asked_notes g.D.Disk.state g.met.D.Disk.sound store
    c.requires.keeps c.requires.runs (map note_of c.deref.result.now)
    session.asked (ap (map note_of) c.deref.ensures.value ∙ ap (λ (s : Session). s.asked) c.session.view_is)
    now.store (reply_of now.now) (Err failed) (Err failed) refl c.in_err-question.ensures.asks in
    subst (λ (r : Result Committed ApplyFault). CommitsSession g.D.Disk.state session store now.store r)
    (sym (fault.1 ∙ ap (λ (f : ApplyFault). Err f) fault.2))
    (commits_unasked g.D.Disk.state g.met.D.Disk.sound store c.requires.keeps c.requires.runs session
    now.store (reply_of now.now) failed asks)

pub returns-in_err-apply_all-clause-commits : goal.returns-in_err-apply_all-clause-commits
returns-in_err-apply_all-clause-commits g c =
    let store = c.args.store.now in
    let session = c.args.session.now in
    let now = c.first_difference.new in
    let after = c.apply_all.new.self in
    let fault = err_from_is_err_and c.from_residual-in_err-apply_all.result c.from_residual-in_err-apply_all.ensures.1
    in
    let failed = c.in_err-apply_all.field-0.0 in
    let asks = asked_notes g.D.Disk.state g.met.D.Disk.sound store
    c.requires.keeps c.requires.runs (map note_of c.deref.result.now)
    session.asked (ap (map note_of) c.deref.ensures.value ∙ ap (λ (s : Session). s.asked) c.session.view_is)
    now.store (reply_of now.now) (Ok c.in_ok-question.field-0) (Ok None)
    (ap (λ (o : Option ℕ). Ok o) c.in_default.is) c.in_ok-question.ensures.asks in
    let applies = changed_all g.D.Disk.state g.met.D.Disk.sound store
    c.requires.keeps c.requires.runs (map change_of c.deref-2.result.now)
    session.staged (ap (map change_of) c.deref-2.ensures.value ∙ ap (λ (s : Session). s.staged) c.session.view_is)
    now.store after (Err failed) (Err failed) refl c.in_err-apply_all.ensures.call in
    subst (λ (r : Result Committed ApplyFault). CommitsSession g.D.Disk.state session store after r)
    (sym (fault.1 ∙ ap (λ (f : ApplyFault). Err f) fault.2))
    (commits_fails g.D.Disk.state g.met.D.Disk.sound store c.requires.keeps c.requires.runs session now.store after
    (reply_of now.now) asks failed applies)

pub returns-in-Done-clause-commits : goal.returns-in-Done-clause-commits
returns-in-Done-clause-commits g c =
    let store = c.args.store.now in
    let session = c.args.session.now in
    let now = c.first_difference.new in
    let after = c.apply_all.new.self in
    let asks = asked_notes g.D.Disk.state g.met.D.Disk.sound store
    c.requires.keeps c.requires.runs (map note_of c.deref.result.now)
    session.asked (ap (map note_of) c.deref.ensures.value ∙ ap (λ (s : Session). s.asked) c.session.view_is)
    now.store (reply_of now.now) (Ok c.in_ok-question.field-0) (Ok None)
    (ap (λ (o : Option ℕ). Ok o) c.in_default.is) c.in_ok-question.ensures.asks in
    let applies = changed_all g.D.Disk.state g.met.D.Disk.sound store
    c.requires.keeps c.requires.runs (map change_of c.deref-2.result.now)
    session.staged (ap (map change_of) c.deref-2.ensures.value ∙ ap (λ (s : Session). s.staged) c.session.view_is)
    now.store after (Ok c.in_ok-apply_all.field-0) (Ok groups.Done)
    (ap (λ (a : GroupAnswer). Ok a) c.in-Done.is) c.in_ok-apply_all.ensures.call in
    commits_done g.D.Disk.state g.met.D.Disk.sound store c.requires.keeps c.requires.runs session now.store after
    (reply_of now.now) asks applies

pub returns-clause-commits : goal.returns-clause-commits
returns-clause-commits g c =
    let store = c.args.store.now in
    let session = c.args.session.now in
    let now = c.first_difference.new in
    let after = c.apply_all.new.self in
    let asks = asked_notes g.D.Disk.state g.met.D.Disk.sound store
    c.requires.keeps c.requires.runs (map note_of c.deref.result.now)
    session.asked (ap (map note_of) c.deref.ensures.value ∙ ap (λ (s : Session). s.asked) c.session.view_is)
    now.store (reply_of now.now) (Ok c.in_ok-question.field-0) (Ok None)
    (ap (λ (o : Option ℕ). Ok o) c.in_default.is) c.in_ok-question.ensures.asks in
    let applies = changed_all g.D.Disk.state g.met.D.Disk.sound store
    c.requires.keeps c.requires.runs (map change_of c.deref-2.result.now)
    session.staged (ap (map change_of) c.deref-2.ensures.value ∙ ap (λ (s : Session). s.staged) c.session.view_is)
    now.store after (Ok c.in_ok-apply_all.field-0) (Ok (groups.Refused c.in-Refused.index c.in-Refused.reply))
    (ap (λ (a : GroupAnswer). Ok a) c.in-Refused.is) c.in_ok-apply_all.ensures.call in
    commits_refused g.D.Disk.state g.met.D.Disk.sound store c.requires.keeps c.requires.runs session now.store after
    (reply_of now.now) asks c.in-Refused.index c.in-Refused.reply applies
