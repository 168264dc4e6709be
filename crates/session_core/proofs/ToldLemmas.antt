-- The session that a trace tells of, and that the machine has it.
use Rattle.std.proofs.Common.{◌≡◌, ℕ, List, [], ◌∷◌, ◌++◌, length, slice_set, Bool, true, false, Option, None, Some}
use Rattle.std.proofs.Common.{nat_eq, nat_lt, nat_le, cond, eqb-true, ltb-true, refl, sym, ap, ap₂, ◌∙◌, subst}
use Rattle.std.proofs.Common.{if◌then◌else◌}
use Rattle.std.specs.Option.{option_map, unwrap_or}
use Rattle.std.proofs.lemmas.List.{append-nil}
use Rattle.store_model.specs.Parameters.{Parameters}
use Rattle.store_model.specs.Commands.{Command}
use Rattle.store_model.specs.Steps.{step}
use Rattle.script_lines.specs.Sessions.{SessionCall, SessionAnswer}
use Rattle.script_lines.specs.Sessions.SessionCall.{Begin, Ask, Stage, Commit, Leave}
use Rattle.script_lines.specs.Sessions.SessionAnswer.{Began, Replied, Done, Many}
use Rattle.session_core.specs.Machine.{Note, Session, Machine, new_session, session_at, the_session, free_number}
use Rattle.session_core.specs.Machine.{crowded_of, many_of, unknown_of, note_limit, commit_answer, answered}
use Rattle.session_core.specs.Machine.{places_after}
use Rattle.session_core.specs.Machine.Event.{Acts}
use Rattle.session_core.specs.Traces.{Entry, begins, ends, is_live, asked_by, staged_by, asked_since, staged_since}
use Rattle.session_core.proofs.PlacesLemmas.{session_within, session_at-set, session_at-clear}
use Rattle.session_core.proofs.AnswerLemmas.{commit_answers}

-- ---- what a trace tells of a session

-- a session that asked and staged more
abbrev with_more : List Note → List Command → Session → Session
with_more notes changes session = record { asked = session.asked ++ notes; staged = session.staged ++ changes }

-- the session with a number behind an entry, by the one before it
abbrev pub after_entry : ℕ → Entry → Option Session → Option Session
after_entry id entry place =
    if begins id entry then Some new_session
    else if ends id entry then None
    else option_map (with_more (asked_by id entry) (staged_by id entry)) place

-- the session with a number, as a trace tells of it
abbrev pub told : ℕ → List Entry → Option Session
told id entries = if is_live id entries then Some (record {
  asked = asked_since id entries;
  staged = staged_since id entries;
}) else None

-- one entry more
pub told_more : (id : ℕ) (entry : Entry) (before : List Entry)
    → told id (entry ∷ before) ≡ after_entry id entry (told id before)
unfolding is_live asked_since staged_since
told_more id entry before = by (begins id entry) (ends id entry) (is_live id before)
  where
    by : (b e l : Bool)
        → (if (if b then true else if e then false else l) then Some (record {
          asked = if b then [] else asked_since id before ++ asked_by id entry;
          staged = if b then [] else staged_since id before ++ staged_by id entry;
        }) else None)
        ≡ (if b then Some new_session else if e then None else option_map
        (with_more (asked_by id entry) (staged_by id entry))
        (if l then Some (record { asked = asked_since id before; staged = staged_since id before }) else None))
    by true e l = refl
    by false true l = refl
    by false false true = refl
    by false false false = refl

-- ---- the machine has it

-- nothing more was asked or staged
pub nothing_more : (place : Option Session) → option_map (with_more [] []) place ≡ place
nothing_more None = refl
nothing_more (Some session) = ap₂ (λ notes changes. Some (record { asked = notes; staged = changes }))
    (append-nil session.asked) (append-nil session.staged)

-- nothing, whichever
none_either : {X : Type 0} (none : List X) (b : Bool) → (if b then none else none) ≡ none
none_either none true = refl
none_either none false = refl

module _ (p : Parameters) (m : Machine) where
  -- the sessions behind an answer are those that the entry of it tells of
  abbrev IsTold : SessionCall → SessionAnswer → Type 0
  IsTold call answer = (id : ℕ) → session_at (places_after m.places call answer) id
      ≡ after_entry id (Acts call, Some answer) (session_at m.places id)

  -- a session begins at a number that is free
  begin_told : (room : Bool) → nat_lt (free_number m.places) (length m.places) ≡ room
      → IsTold Begin (unwrap_or (crowded_of (cond room (Some (free_number m.places)) None))
      (Began (free_number m.places)))
  begin_told true h id =
      session_at-set m.places (free_number m.places) id (Some new_session) (ltb-true _ _ h)
      ∙ ap (λ place. if nat_eq (free_number m.places) id then Some new_session else place)
      (sym (nothing_more (session_at m.places id)))
  begin_told false h id = sym (nothing_more (session_at m.places id))

  -- a session with notes and changes is put in its place
  more_told : (number id : ℕ) (session new : Session) (notes : List Note) (changes : List Command)
      → session_at m.places number ≡ Some session → new ≡ with_more notes changes session
      → session_at (slice_set m.places number (Some new)) id
      ≡ option_map (with_more (if nat_eq number id then notes else []) (if nat_eq number id then changes else []))
      (session_at m.places id)
  more_told number id session new notes changes e grown =
      session_at-set m.places number id (Some new) (session_within m.places number session e)
      ∙ by (nat_eq number id) refl
    where
      by : (b : Bool) → nat_eq number id ≡ b → (if b then Some new else session_at m.places id)
          ≡ option_map (with_more (if b then notes else []) (if b then changes else [])) (session_at m.places id)
      by true h =
          let here : session_at m.places id ≡ Some session =
          subst (λ (k : ℕ). session_at m.places k ≡ Some session) (eqb-true number id h) e in
          ap (λ (s : Session). Some s) grown ∙ sym (ap (option_map (with_more notes changes)) here)
      by false h = sym (nothing_more (session_at m.places id))

  -- a question is noted
  ask_told : (number : ℕ) (question : Command) (place : Option Session) → session_at m.places number ≡ place
      → IsTold (Ask number question)
      (unwrap_or (many_of place (λ session. length session.asked)) (Replied (step m.tree question p).reply))
  ask_told number question None e id = sym (nothing_more (session_at m.places id))
  ask_told number question (Some session) e id = by (nat_le note_limit (length session.asked)) id
    where
      by : (full : Bool) → IsTold (Ask number question)
          (unwrap_or (if full then Some Many else None) (Replied (step m.tree question p).reply))
      by true id = sym (nothing_more (session_at m.places id))
      by false id =
          let notes : List Note = (question, (step m.tree question p).reply) ∷ [] in
          let is : the_session m.places number ≡ session = ap (λ place. unwrap_or place new_session) e in
          let grown : record {
            asked = (the_session m.places number).asked ++ notes;
            staged = (the_session m.places number).staged;
          }
          ≡ with_more notes [] session =
          ap (λ (s : Session). record { asked = s.asked ++ notes; staged = s.staged }) is
          ∙ ap (λ changes. record { asked = session.asked ++ notes; staged = changes })
          (sym (append-nil session.staged)) in
          more_told number id session _ notes [] e grown
          ∙ ap (λ changes. option_map (with_more (if nat_eq number id then notes else []) changes)
          (session_at m.places id)) (none_either [] (nat_eq number id))

  -- a change is staged
  stage_told : (number : ℕ) (change : Command) (place : Option Session) → session_at m.places number ≡ place
      → IsTold (Stage number change) (unwrap_or (many_of place (λ session. length session.staged)) Done)
  stage_told number change None e id = sym (nothing_more (session_at m.places id))
  stage_told number change (Some session) e id = by (nat_le note_limit (length session.staged)) id
    where
      by : (full : Bool) → IsTold (Stage number change) (unwrap_or (if full then Some Many else None) Done)
      by true id = sym (nothing_more (session_at m.places id))
      by false id =
          let changes : List Command = change ∷ [] in
          let is : the_session m.places number ≡ session = ap (λ place. unwrap_or place new_session) e in
          let grown : record {
            asked = (the_session m.places number).asked;
            staged = (the_session m.places number).staged ++ changes;
          }
          ≡ with_more [] changes session =
          ap (λ (s : Session). record { asked = s.asked; staged = s.staged ++ changes }) is
          ∙ ap (λ notes. record { asked = notes; staged = session.staged ++ changes })
          (sym (append-nil session.asked)) in
          more_told number id session _ [] changes e grown
          ∙ ap (λ notes. option_map (with_more notes (if nat_eq number id then changes else []))
          (session_at m.places id)) (none_either [] (nat_eq number id))

  -- a session ends
  ended_told : (number id : ℕ) → session_at (slice_set m.places number None) id
      ≡ (if nat_eq number id then None else option_map (with_more [] []) (session_at m.places id))
  ended_told number id = session_at-clear m.places number id
      ∙ ap (λ place. if nat_eq number id then None else place) (sym (nothing_more (session_at m.places id)))

  -- a commit that is answered ends its session
  commit_told : (number : ℕ) (place : Option Session)
      → IsTold (Commit number) (unwrap_or (unknown_of place) (commit_answer p m.tree (the_session m.places number)))
  commit_told number None id = sym (nothing_more (session_at m.places id))
  commit_told number (Some session) id =
      commit_answers (IsTold (Commit number)) p m.tree (the_session m.places number) (ended_told number)
      (λ k was now. ended_told number) (λ k refusal. ended_told number) id

  -- so does a drop
  leave_told : (number : ℕ) (place : Option Session) → IsTold (Leave number) (unwrap_or (unknown_of place) Done)
  leave_told number None id = sym (nothing_more (session_at m.places id))
  leave_told number (Some session) id = ended_told number id

  -- the sessions behind any call
  pub call_told : (call : SessionCall) (id : ℕ)
      → session_at (places_after m.places call (answered p m call)) id
      ≡ after_entry id (Acts call, Some (answered p m call)) (session_at m.places id)
  call_told Begin = begin_told (nat_lt (free_number m.places) (length m.places)) refl
  call_told (Ask number question) = ask_told number question (session_at m.places number) refl
  call_told (Stage number change) = stage_told number change (session_at m.places number) refl
  call_told (Commit number) = commit_told number (session_at m.places number)
  call_told (Leave number) = leave_told number (session_at m.places number)
