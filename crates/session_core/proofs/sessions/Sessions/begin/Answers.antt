use Rattle.std.proofs.Common.{Some, is_none, set, Ok, refl, sym, ap, subst, ◌∙◌}
use Rattle.std.specs.List.{position}
use Rattle.script_lines.specs.Sessions.SessionAnswer.{Began}
use Rattle.script_lines.specs.Sessions.SessionCall.{Begin}
use Rattle.session_core.specs.Machine.{Session, new_session}
use Rattle.session_core.specs.SessionCalls.{CallsSessions}
use Rattle.session_core.specs.SessionState.{SessionsState}
use Rattle.session_core.proofs.PlaceCalls.{same_alone, begin_crowded, begin_free}
use Rattle.session_core.proofs.sessions.Sessions.begin.Goals as goal

pub returns-in_default-clause-call : goal.returns-in_default-clause-call
returns-in_default-clause-call g c =
    let kept = c.in_ok-check_running.ensures in
    let places = c.deref.ensures.value ∙ ap (λ (s : SessionsState g.row.D.Denot). s.places) c.self.view_is in
    (begin_crowded g.D.Disk.state g.met.D.Disk.sound c.args.self.now kept.sized kept.kept kept.runs
    (sym (ap (position is_none) places) ∙ sym c.first_free.ensures ∙ c.in_default.is)).0

pub returns-clause-call : goal.returns-clause-call
returns-clause-call g c =
    let old = c.args.self.now in
    let inside = c.self.inside in
    let kept = c.in_ok-check_running.ensures in
    let places = c.deref.ensures.value ∙ ap (λ (s : SessionsState g.row.D.Denot). s.places) c.self.view_is in
    let new : Session → SessionsState g.row.D.Denot = λ s. record {
      store = inside.store;
      places = set inside.places.items c.in-Some.place (Some s);
    } in
    subst (λ (s : SessionsState g.row.D.Denot). CallsSessions g.D.Disk.state Begin Began old s (Ok c.in-Some.place))
    (sym (ap new c.new.ensures ∙ same_alone old
    inside.store inside.places.items c.self.view_is c.in-Some.place c.in-Some.place refl (Some new_session)))
    (begin_free g.D.Disk.state g.met.D.Disk.sound old
    kept.sized kept.kept kept.runs c.in-Some.place (sym (ap (position is_none) places)
    ∙ sym c.first_free.ensures ∙ c.in-Some.is)).0
