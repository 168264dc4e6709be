use Rattle.std.proofs.Common.{Result, Err, length, sym, ap, subst, ◌∙◌}
use Rattle.std.proofs.lemmas.Result.{err_from_is_err_and}
use Rattle.script_lines.specs.Sessions.{change_of}
use Rattle.script_lines.specs.Sessions.SessionAnswer.{Done}
use Rattle.script_lines.specs.Sessions.SessionCall.{Stage}
use Rattle.session_core.specs.Machine.{many_of}
use Rattle.session_core.specs.declared.fault.SessionFault.{SessionFault}
use Rattle.session_core.specs.SessionCalls.{CallsSessions, IsOfSessions}
use Rattle.session_core.specs.SessionState.{SessionsState}
use Rattle.session_core.proofs.PlaceCalls.{found_at, same_alone, calls_unfound, alone_unfound, stage_place}
use Rattle.session_core.proofs.sessions.Sessions.stage.Goals as goal

pub returns-in_err-place-clause-call : goal.returns-in_err-place-clause-call
returns-in_err-place-clause-call g c =
    let old = c.args.self.now in
    let fault = err_from_is_err_and c.from_residual.result c.from_residual.ensures.1 in
    let kept = c.in_err-place.ensures in
    subst (λ (r : Result (Unit {0}) SessionFault).
    CallsSessions g.D.Disk.state (Stage c.args.id (change_of c.args.change.now)) (λ (u : Unit {0}). Done) old old r)
    (sym (fault.1 ∙ ap (λ (f : SessionFault). Err f) fault.2))
    (calls_unfound g.D.Disk.state g.met.D.Disk.sound (Stage c.args.id (change_of c.args.change.now))
    (λ (u : Unit {0}). Done) old kept.sized kept.kept c.args.id (ap (λ o. many_of o (λ s. length s.staged)))
    c.in_err-place.field-0.0 kept.found)

pub returns-in_err-place-clause-alone : goal.returns-in_err-place-clause-alone
returns-in_err-place-clause-alone g c =
    let old = c.args.self.now in
    let fault = err_from_is_err_and c.from_residual.result c.from_residual.ensures.1 in
    let kept = c.in_err-place.ensures in
    subst (λ (r : Result (Unit {0}) SessionFault). IsOfSessions (Stage c.args.id (change_of c.args.change.now))
    (λ (u : Unit {0}). Done) old old r) (sym (fault.1 ∙ ap (λ (f : SessionFault). Err f) fault.2))
    (alone_unfound g.D.Disk.state g.met.D.Disk.sound (Stage c.args.id (change_of c.args.change.now))
    (λ (u : Unit {0}). Done) old kept.sized kept.kept c.args.id (ap (λ o. many_of o (λ s. length s.staged)))
    c.in_err-place.field-0.0 kept.found)

pub returns-clause-call : goal.returns-clause-call
returns-clause-call g c =
    let old = c.args.self.now in
    let inside = c.self.inside in
    let kept = c.in_ok-place.ensures in
    let here = found_at old inside.store inside.places.items c.self.view_is c.in_ok-place.place c.args.id kept.found.1
    kept.found.2 c.index_mut.result.now c.index_mut.ensures.value in
    subst (λ (s : SessionsState g.row.D.Denot).
    CallsSessions g.D.Disk.state (Stage c.args.id (change_of c.args.change.now))
    (λ (u : Unit {0}). Done) old s c.stage_in.result)
    (sym (same_alone old inside.store inside.places.items c.self.view_is c.in_ok-place.place c.args.id
    kept.found.1 c.stage_in.new.place))
    (stage_place g.D.Disk.state g.met.D.Disk.sound old
    kept.sized kept.kept kept.found.0 c.args.id (change_of c.args.change.now)
    c.index_mut.result.now c.stage_in.new.place here c.stage_in.result c.stage_in.ensures).0

pub returns-clause-alone : goal.returns-clause-alone
returns-clause-alone g c =
    let old = c.args.self.now in
    let inside = c.self.inside in
    let kept = c.in_ok-place.ensures in
    let here = found_at old inside.store inside.places.items c.self.view_is c.in_ok-place.place c.args.id kept.found.1
    kept.found.2 c.index_mut.result.now c.index_mut.ensures.value in
    subst (λ (s : SessionsState g.row.D.Denot). IsOfSessions (Stage c.args.id (change_of c.args.change.now))
    (λ (u : Unit {0}). Done) old s c.stage_in.result)
    (sym (same_alone old inside.store inside.places.items c.self.view_is c.in_ok-place.place c.args.id
    kept.found.1 c.stage_in.new.place))
    (stage_place g.D.Disk.state g.met.D.Disk.sound old
    kept.sized kept.kept kept.found.0 c.args.id (change_of c.args.change.now)
    c.index_mut.result.now c.stage_in.new.place here c.stage_in.result c.stage_in.ensures).1
