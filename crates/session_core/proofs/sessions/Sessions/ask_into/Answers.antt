use Rattle.std.proofs.Common.{Result, Err, length, sym, ap, subst, ◌∙◌}
use Rattle.std.proofs.lemmas.Result.{err_from_is_err_and}
use Rattle.script_lines.specs.declared.reply.Reply.{Reply}
use Rattle.script_lines.specs.InPlace.{in_place}
use Rattle.script_lines.specs.Replies.{reply_of}
use Rattle.script_lines.specs.Sessions.{question_of}
use Rattle.script_lines.specs.Sessions.SessionAnswer.{Replied}
use Rattle.script_lines.specs.Sessions.SessionCall.{Ask}
use Rattle.store_core.specs.StoreState.{StoreState}
use Rattle.session_core.specs.declared.fault.SessionFault.{SessionFault}
use Rattle.session_core.specs.Machine.{many_of}
use Rattle.session_core.specs.SessionCalls.{CallsSessions}
use Rattle.session_core.specs.SessionState.{SessionsState}
use Rattle.session_core.specs.SessionSteps.{AsksIn}
use Rattle.session_core.proofs.PlaceCalls.{found_at, same_new, calls_unfound, ask_place}
use Rattle.session_core.proofs.QuestionLemmas.{question_keeps}
use Rattle.session_core.proofs.sessions.Sessions.ask_into.Goals as goal

pub returns-in_err-place : goal.returns-in_err-place
returns-in_err-place g c =
    let old = c.args.self.now in
    let fault = err_from_is_err_and c.from_residual.result c.from_residual.ensures.1 in
    let kept = c.in_err-place.ensures in
    record {
      call =
          subst (λ (r : Result (Unit {0}) SessionFault).
          CallsSessions g.D.Disk.state (Ask c.args.id (question_of c.args.question.now))
          (λ (reply : Reply). Replied (reply_of reply)) old old (in_place c.args.reply.now r))
          (sym (fault.1 ∙ ap (λ (f : SessionFault). Err f) fault.2))
          (calls_unfound g.D.Disk.state g.met.D.Disk.sound (Ask c.args.id (question_of c.args.question.now))
          (λ (reply : Reply). Replied (reply_of reply)) old
          kept.sized kept.kept c.args.id (ap (λ o. many_of o (λ s. length s.asked)))
          c.in_err-place.field-0.0 kept.found);
    }

pub returns : goal.returns
returns g c =
    let old = c.args.self.now in
    let inside = c.self.inside in
    let kept = c.in_ok-place.ensures in
    let here = found_at old inside.store inside.places.items c.self.view_is c.in_ok-place.place c.args.id kept.found.1
    kept.found.2 c.index_mut.result.now c.index_mut.ensures.value in
    let question = question_of c.args.question.now in
    let result = in_place c.ask_in.new.reply c.ask_in.result in
    let asks = subst (λ (s : StoreState g.row.D.Denot).
    AsksIn g.D.Disk.state question s c.ask_in.new.store c.index_mut.result.now c.ask_in.new.place result)
    (ap (λ (s : SessionsState g.row.D.Denot). s.store) c.self.view_is) c.ask_in.ensures in
    record {
      call =
          subst (λ (s : SessionsState g.row.D.Denot). CallsSessions g.D.Disk.state (Ask c.args.id question)
          (λ (reply : Reply). Replied (reply_of reply)) old s result)
          (sym (same_new old inside.store inside.places.items c.self.view_is c.in_ok-place.place c.args.id
          kept.found.1 c.ask_in.new.store c.ask_in.new.place))
          (ask_place g.D.Disk.state g.met.D.Disk.sound old kept.sized kept.kept kept.found.0 c.args.id question
          (question_keeps old.store.tree c.args.question.now old.store.params)
          c.ask_in.new.store c.index_mut.result.now c.ask_in.new.place here result asks);
    }
