use Rattle.std.proofs.Common.{◌≡◌, ℕ, List, Bool, if◌then◌else◌, true, false, None, Some, refl, sym, ap, ◌∙◌, subst}
use Rattle.std.proofs.Common.{All}
use Rattle.std.proofs.lemmas.List.Elements.{All-from_recursion, recursion_from_All}
use Rattle.store_model.specs.Parameters.{Parameters}
use Rattle.store_model.specs.Trees.{Tree}
use Rattle.store_model.specs.Commands.{Command, Reply}
use Rattle.store_model.specs.Steps.{step}
use Rattle.store_model.specs.Commands.Reply.{Acknowledged}
use Rattle.script_lines.specs.Sessions.{SessionAnswer}
use Rattle.script_lines.specs.Sessions.SessionCall.{Begin, Ask, Commit}
use Rattle.script_lines.specs.Sessions.SessionAnswer.{Began, Replied, Done, NoSession}
use Rattle.staged_tree.specs.Groups.{refusal_in}
use Rattle.session_core.specs.Machine.{Note, Session, session_at, first_difference, commit_answer, answered}
use Rattle.session_core.specs.Machine.Event.{Acts}
use Rattle.session_core.specs.Traces.{Entry, trace, groups, changes_of, serial_tree, is_live, asked_since, staged_since}
use Rattle.session_core.proofs.AnswerLemmas.{commits, same_answers, begins_free, asks_tree}
use Rattle.session_core.proofs.RunLemmas.{all_acknowledged}
use Rattle.session_core.proofs.HistoryLemmas.{Answers, history_stands, entry_answers, commits_said, told_session}
use Rattle.session_core.proofs.HistoryLemmas.{told_none, group_between}
use Rattle.session_core.proofs.law.every_history_is_serial.Goals as goal

module _ (p : Parameters) (t : Tree) (before : List Entry) where
  -- a session that commits is the one that the trace tells of, and its questions are answered as they were
  live_and_asked : (id : ℕ) → Answers p t before (Commit id) Done
      → (is_live id before ≡ true)
      × All (λ (note : Note). (step (serial_tree p t (groups before)) note.0 p).reply ≡ note.1)
      (asked_since id before)
  live_and_asked id answers =
      let found = commits p answers.world.machine id answers.same in
      let says = told_session id before found.0 (sym (answers.stands.live answers.runs id) ∙ found.1.live) in
      let same : All (λ (note : Note). (step answers.world.machine.tree note.0 p).reply ≡ note.1)
      (asked_since id before) =
      All-from_recursion _ (asked_since id before)
      (same_answers p answers.world.machine.tree (asked_since id before)
      (subst (λ notes. first_difference p answers.world.machine.tree notes ≡ None) (sym says.1) found.1.same)) in (
        says.0,
        subst (λ u. All (λ (note : Note). (step u note.0 p).reply ≡ note.1) (asked_since id before))
            answers.stands.runs.tree same,
      )

  -- a session begins where the trace tells of none
  begins_none : (id : ℕ) → Answers p t before Begin (Began id) → is_live id before ≡ false
  begins_none id answers = told_none id before
      (sym (answers.stands.live answers.runs id) ∙ begins_free p answers.world.machine id answers.same)

  -- a question sees the tree of the groups
  asks_groups : (id : ℕ) (question : Command) (reply : Reply) → Answers p t before (Ask id question) (Replied reply)
      → (step (serial_tree p t (groups before)) question p).reply ≡ reply
  asks_groups id question reply answers = ap (λ u. (step u question p).reply) (sym answers.stands.runs.tree)
      ∙ asks_tree p answers.world.machine id question reply answers.same

  -- a commit is answered as its session's questions and changes say
  commit_says : (id : ℕ) (answer : SessionAnswer) → Answers p t before (Commit id) answer
      → answer ≡ (if is_live id before then commit_answer p (serial_tree p t (groups before))
      (record { asked = asked_since id before; staged = staged_since id before }) else NoSession)
  commit_says id answer answers = sym answers.same ∙ by (is_live id before) (answers.stands.live answers.runs id)
    where
      session : Session
      session = record { asked = asked_since id before; staged = staged_since id before }

      by : (l : Bool) → session_at answers.world.machine.places id ≡ (if l then Some session else None)
          → answered p answers.world.machine (Commit id)
          ≡ (if l then commit_answer p (serial_tree p t (groups before)) session else NoSession)
      by true e = rw e (ap (λ u. commit_answer p u session) answers.stands.runs.tree)
      by false e = rw e

pub returns : goal.returns
returns c =
    record {
      law = λ p t events.
          record {
            tree = (history_stands p t events).runs.tree;
            whole = All-from_recursion (λ reply. refusal_in reply ≡ None) _ (history_stands p t events).runs.whole;
            acknowledged = λ h. All-from_recursion (λ reply. reply ≡ Acknowledged) _
                (all_acknowledged p t (changes_of (groups (trace p t events)))
                (recursion_from_All _ (changes_of (groups (trace p t events))) h)
                (history_stands p t events).runs.whole);
            kept = λ id after before e.
                let between = group_between id (Acts (Commit id), Some Done) after before refl in
                (between.0, ap groups e ∙ between.1);
            asked = λ id entry after before e h.
                (live_and_asked p t before id
                (entry_answers p t events entry after before (Commit id) Done e (commits_said entry id h))).1;
            live = λ id entry after before e h.
                (live_and_asked p t before id
                (entry_answers p t events entry after before (Commit id) Done e (commits_said entry id h))).0;
            begun = λ id after before e. begins_none p t before id
                (entry_answers p t events (Acts Begin, Some (Began id)) after before Begin (Began id) e refl);
            replied = λ id question reply after before e.
                asks_groups p t before id question reply
                (entry_answers p t events (Acts (Ask id question), Some (Replied reply)) after before
                (Ask id question) (Replied reply) e refl);
            answered = λ id answer after before e. commit_says p t before id answer
                (entry_answers p t events (Acts (Commit id), Some answer) after before (Commit id) answer e refl);
          };
    }
