use Rattle.std.proofs.Common.{Result, Err, sym, ap, subst, ◌∙◌}
use Rattle.std.proofs.lemmas.Result.{err_from_is_err_and}
use Rattle.script_lines.specs.Sessions.SessionCall.{Commit}
use Rattle.store_core.specs.StoreState.{StoreState}
use Rattle.session_core.specs.declared.committed.Committed.{Committed}
use Rattle.session_core.specs.declared.fault.SessionFault.{SessionFault}
use Rattle.session_core.specs.Machine.{unknown_of}
use Rattle.session_core.specs.SessionCalls.{CallsSessions, committed_answer}
use Rattle.session_core.specs.SessionState.{SessionsState}
use Rattle.session_core.specs.SessionSteps.{CommitsIn}
use Rattle.session_core.proofs.CommitLemmas.{commit_place}
use Rattle.session_core.proofs.PlaceCalls.{found_at, same_new, calls_unfound}
use Rattle.session_core.proofs.sessions.Sessions.commit.Goals as goal

pub returns-in_err-place : goal.returns-in_err-place
returns-in_err-place g c =
    let old = c.args.self.now in
    let fault = err_from_is_err_and c.from_residual.result c.from_residual.ensures.1 in
    let kept = c.in_err-place.ensures in
    record {
      call =
          subst (λ (r : Result Committed SessionFault).
          CallsSessions g.D.Disk.state (Commit c.args.id) committed_answer old old r)
          (sym (fault.1 ∙ ap (λ (f : SessionFault). Err f) fault.2))
          (calls_unfound g.D.Disk.state g.met.D.Disk.sound (Commit c.args.id) committed_answer old
          kept.sized kept.kept c.args.id (ap unknown_of) c.in_err-place.field-0.0 kept.found);
    }

pub returns : goal.returns
returns g c =
    let old = c.args.self.now in
    let inside = c.self.inside in
    let kept = c.in_ok-place.ensures in
    let now = c.commit_in.new in
    let here = found_at old inside.store inside.places.items c.self.view_is c.in_ok-place.place c.args.id kept.found.1
    kept.found.2 c.index_mut.result.now c.index_mut.ensures.value in
    let commits = subst (λ (s : StoreState g.row.D.Denot).
    CommitsIn g.D.Disk.state s now.store c.index_mut.result.now now.place c.commit_in.result)
    (ap (λ (s : SessionsState g.row.D.Denot). s.store) c.self.view_is) c.commit_in.ensures in
    record {
      call =
          subst (λ (s : SessionsState g.row.D.Denot).
          CallsSessions g.D.Disk.state (Commit c.args.id) committed_answer old s c.commit_in.result)
          (sym (same_new old inside.store inside.places.items c.self.view_is c.in_ok-place.place c.args.id
          kept.found.1 now.store now.place))
          (commit_place g.D.Disk.state g.met.D.Disk.sound old
          kept.sized kept.kept kept.found.0 c.args.id now.store c.index_mut.result.now now.place here
          c.commit_in.result commits);
    }
