-- What an answer of the machine tells of its sessions and its tree.
use Rattle.std.proofs.Common.{◌≡◌, ℕ, List, [], ◌∷◌, length, Bool, true, false, Option, None, Some, nat_lt, nat_le}
use Rattle.std.proofs.Common.{cond, refl, sym, subst, if◌then◌else◌}
use Rattle.std.specs.List.{AllByRecursion}
use Rattle.std.specs.Option.{unwrap_or}
use Rattle.store_model.specs.declared.refusal.Refusal.{Refusal}
use Rattle.store_model.specs.Parameters.{Parameters}
use Rattle.store_model.specs.Trees.{Tree}
use Rattle.store_model.specs.Commands.{Command, Reply}
use Rattle.store_model.specs.Steps.{step}
use Rattle.script_lines.specs.Sessions.{SessionAnswer, same_reply}
use Rattle.script_lines.specs.Sessions.SessionCall.{Begin, Ask, Commit}
use Rattle.script_lines.specs.Sessions.SessionAnswer.{Began, Replied, Done, Conflicting, RefusedAt, Many}
use Rattle.staged_tree.specs.Groups.{refused_in}
use Rattle.session_core.specs.Machine.{Note, Session, Machine, session_at, free_number, crowded_of, many_of, note_limit}
use Rattle.session_core.specs.Machine.{first_difference, commit_answer, answered}
use Rattle.script_lines.proofs.SameReplies.{same_reply-true}
use Rattle.session_core.proofs.PlacesLemmas.{session_at-free}

-- ---- commits

-- a commit has one of three answers, whatever is to be shown of it
pub commit_answers : (P : SessionAnswer → Type 0) (p : Parameters) (t : Tree) (session : Session) → P Done
    → ((k : ℕ) (was now : Reply) → P (Conflicting k was now)) → ((k : ℕ) (refusal : Refusal) → P (RefusedAt k refusal))
    → P (commit_answer p t session)
commit_answers P p t session done conflicting refused =
    by (first_difference p t session.asked) (refused_in p t session.staged) refl refl
  where
    by : (found : Option (ℕ × Reply × Reply)) (stopped : Option (ℕ × Refusal))
        → first_difference p t session.asked ≡ found → refused_in p t session.staged ≡ stopped
        → P (commit_answer p t session)
    by None None e f = rw (e, f) done
    by None (Some stopped) e f = rw (e, f) (refused stopped.0 stopped.1)
    by (Some found) stopped e f = rw e (conflicting found.0 found.1 found.2)

-- A group is committed: its session is live, each question is answered as it was, and no change is refused.
pub record Commits (p : Parameters) (m : Machine) (id : ℕ) (session : Session) : Type 0 where
  pub live : session_at m.places id ≡ Some session
  pub same : first_difference p m.tree session.asked ≡ None
  pub accepted : refused_in p m.tree session.staged ≡ None

-- where no difference was found and no change was refused
done_only : (p : Parameters) (t : Tree) (session : Session) (found : Option (ℕ × Reply × Reply))
    (stopped : Option (ℕ × Refusal)) → first_difference p t session.asked ≡ found
    → refused_in p t session.staged ≡ stopped
    → commit_answer p t session ≡ Done → (first_difference p t session.asked ≡ None)
    × (refused_in p t session.staged ≡ None)
done_only p t session None None e f h = (e, f)
done_only p t session None (Some stopped) e f h = let other = rw (e, f) at h in absurd (cc)
done_only p t session (Some found) stopped e f h = let other = rw e at h in absurd (cc)

-- what a commit that is answered `Done` tells
pub commits : (p : Parameters) (m : Machine) (id : ℕ) → answered p m (Commit id) ≡ Done
    → (session : Session) × Commits p m id session
commits p m id = by (session_at m.places id) refl
  where
    by : (place : Option Session) → session_at m.places id ≡ place → answered p m (Commit id) ≡ Done
        → (session : Session) × Commits p m id session
    by None e h = let other = rw e at h in absurd (cc)
    by (Some session) e h =
        let both = done_only p m.tree session (first_difference p m.tree session.asked)
        (refused_in p m.tree session.staged) refl refl (rw e at h) in
        (session, record { live = e; same = both.0; accepted = both.1 })

-- where no difference is found, each question has the answer that was noted
pub same_answers : (p : Parameters) (t : Tree) (notes : List Note) → first_difference p t notes ≡ None
    → AllByRecursion (λ (note : Note). (step t note.0 p).reply ≡ note.1) notes
unfolding first_difference
same_answers p t [] h = tt
same_answers p t (note ∷ notes) h =
    by (same_reply note.1 (step t note.0 p).reply) (first_difference p t notes) refl refl (same_answers p t notes)
  where
    by : (alike : Bool) (found : Option (ℕ × Reply × Reply)) → same_reply note.1 (step t note.0 p).reply ≡ alike
        → first_difference p t notes ≡ found
        → (first_difference p t notes ≡ None
        → AllByRecursion (λ (later : Note). (step t later.0 p).reply ≡ later.1) notes)
        → ((step t note.0 p).reply ≡ note.1)
        × AllByRecursion (λ (later : Note). (step t later.0 p).reply ≡ later.1) notes
    by true None e f rest = (sym (same_reply-true note.1 (step t note.0 p).reply e), rest f)
    by true (Some found) e f rest = let other = rw (e, f) at h in absurd (cc)
    by false found e f rest = let other = rw e at h in absurd (cc)

-- ---- the others

-- a session begins where none is live
pub begins_free : (p : Parameters) (m : Machine) (id : ℕ) → answered p m Begin ≡ Began id
    → session_at m.places id ≡ None
begins_free p m id = by (nat_lt (free_number m.places) (length m.places))
  where
    by : (room : Bool) → unwrap_or (crowded_of (cond room (Some (free_number m.places)) None))
        (Began (free_number m.places)) ≡ Began id → session_at m.places id ≡ None
    by true h = let same : free_number m.places ≡ id = cc
        in subst (λ (number : ℕ). session_at m.places number ≡ None) same (session_at-free m.places)
    by false h = absurd (cc)

-- a question is answered by the tree
pub asks_tree : (p : Parameters) (m : Machine) (id : ℕ) (question : Command) (reply : Reply)
    → answered p m (Ask id question) ≡ Replied reply → (step m.tree question p).reply ≡ reply
asks_tree p m id question reply = by (session_at m.places id)
  where
    asked_so : (full : Bool) → unwrap_or (if full then Some Many else None) (Replied (step m.tree question p).reply)
        ≡ Replied reply → (step m.tree question p).reply ≡ reply
    asked_so true h = absurd (cc)
    asked_so false h = cc

    by : (place : Option Session) → unwrap_or (many_of place (λ session. length session.asked))
        (Replied (step m.tree question p).reply) ≡ Replied reply → (step m.tree question p).reply ≡ reply
    by None h = absurd (cc)
    by (Some session) h = asked_so (nat_le note_limit (length session.asked)) h
