use Rattle.std.proofs.Common.{ℕ, ◌≤◌, length, map, Option, Result, Ok, Err, refl, sym, ap, subst, ◌∙◌, arith}
use Rattle.std.proofs.lemmas.Option.{slice_get-map, slice_get_read}
use Rattle.std.proofs.lemmas.Result.{err_from_is_err_and}
use Rattle.std.specs.Option.{option_map}
use Rattle.std.proofs.lemmas.List.{length-map}
use Rattle.store_model.specs.Commands.{Command}
use Rattle.image_check.specs.declared.fault.ApplyFault.{ApplyFault}
use Rattle.script_lines.specs.Replies.{reply_of}
use Rattle.store_core.specs.StoreCalls.{Applies}
use Rattle.session_core.specs.Noted.{note_of}
use Rattle.session_core.specs.SessionSteps.{AsksAgain}
use Rattle.session_core.proofs.CommitLemmas.{passes_none, passes_more, asked_fails, asked_differs, asked_all}
use Rattle.session_core.proofs.commit.first_difference.Goals as goal

pub loop-index-init : goal.loop-index-init
loop-index-init g c = passes_none g.D.Disk.state g.met.D.Disk.sound c.args.store.now c.requires.keeps c.requires.runs
    (map note_of c.args.notes.now)

pub returns-in_err-apply_into-clause-asks : goal.returns-in_err-apply_into-clause-asks
returns-in_err-apply_into-clause-asks g c =
    let notes = map note_of c.args.notes.now in
    let now = c.apply_into.new in
    let fault = err_from_is_err_and c.from_residual.result c.from_residual.ensures.1 in
    let failed = c.in_err-apply_into.field-0.0 in
    let question = c.index-notes-index.result.question in
    let applies = subst (λ (x : Command). Applies g.D.Disk.state x c.loop-index.store now.self (Err failed))
    c.command.ensures c.in_err-apply_into.ensures.call in
    subst (λ (r : Result (Option ℕ) ApplyFault). AsksAgain g.D.Disk.state notes
    (reply_of now.reply) c.args.store.now now.self r) (sym (fault.1 ∙ ap (λ (f : ApplyFault). Err f) fault.2))
    (asked_fails g.D.Disk.state g.met.D.Disk.sound c.args.store.now c.requires.keeps c.requires.runs notes
    c.loop-index.index c.loop-index.store c.loop-index.invariant question
    now.self (reply_of now.reply) failed applies)

pub returns-then-not-is_same-clause-asks : goal.returns-then-not-is_same-clause-asks
returns-then-not-is_same-clause-asks g c =
    let notes = map note_of c.args.notes.now in
    let now = c.apply_into.new in
    let note = c.index-notes-index.result in
    let here = slice_get-map note_of c.args.notes.now c.loop-index.index
    ∙ ap (option_map note_of)
    (slice_get_read c.args.notes.now (length c.args.notes.now) c.loop-index.index note refl
    c.loop-index-test.true c.index-notes-index.is) in
    let applies = subst (λ (x : Command). Applies g.D.Disk.state x c.loop-index.store now.self (Ok now.reply))
    c.command.ensures c.in_ok-apply_into.ensures.call in
    asked_differs g.D.Disk.state g.met.D.Disk.sound c.args.store.now c.requires.keeps c.requires.runs notes
    c.loop-index.index c.loop-index.store c.loop-index.invariant note.question now.self
    (reply_of note.reply) here now.reply applies
    (sym c.is_same.ensures ∙ c.if-not-is_same.true)

pub loop-index-preserved : goal.loop-index-preserved
loop-index-preserved g c =
    let notes = map note_of c.args.notes.now in
    let now = c.apply_into.new in
    let note = c.index-notes-index.result in
    let here = slice_get-map note_of c.args.notes.now c.loop-index.index
    ∙ ap (option_map note_of)
    (slice_get_read c.args.notes.now (length c.args.notes.now) c.loop-index.index note refl
    c.loop-index-test.true c.index-notes-index.is) in
    let applies = subst (λ (x : Command). Applies g.D.Disk.state x c.loop-index.store now.self (Ok now.reply))
    c.command.ensures c.in_ok-apply_into.ensures.call in
    passes_more g.D.Disk.state g.met.D.Disk.sound c.args.store.now c.requires.keeps c.requires.runs notes
    c.loop-index.index c.loop-index.store c.loop-index.invariant note.question now.self
    (reply_of note.reply) here now.reply applies
    (sym c.is_same.ensures ∙ c.if-not-is_same.false)

pub returns-clause-asks : goal.returns-clause-asks
returns-clause-asks g c =
    let notes = map note_of c.args.notes.now in
    let all : length notes ≤ c.loop-index.index = omega (arith, length-map c.args.notes.now note_of) in
    asked_all g.D.Disk.state g.met.D.Disk.sound c.args.store.now c.requires.keeps c.requires.runs notes
    c.loop-index.index c.loop-index.store c.loop-index.invariant all (reply_of c.loop-index.now)
