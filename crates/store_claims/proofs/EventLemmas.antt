-- The lines of a script as a history of sessions: the world after it is the machine of the lines, and its trace has
-- an entry for each line that spells a call.
use Rattle.std.proofs.Common.{◌≡◌, ℕ, List, [], ◌∷◌, ◌++◌, false, Result, Ok, Err, refl, sym, ap, ◌∙◌, append_assoc}
use Rattle.std.proofs.Common.{append-nil}
use Rattle.store_model.specs.declared.refusal.Refusal.{Refusal}
use Rattle.store_model.specs.Parameters.{Parameters}
use Rattle.store_model.specs.Trees.{Tree}
use Rattle.store_model.specs.Scripts.{state_by}
use Rattle.script_lines.specs.Sessions.{SessionCall}
use Rattle.session_core.specs.Machine.{Machine, World, Event, happens}
use Rattle.session_core.specs.Machine.Event.{Acts}
use Rattle.session_core.specs.Traces.{Entry, world_after, trace}
use Rattle.script_runs.specs.SessionRuns.{no_sessions, session_reading, answer_call, answer_session_line}
use Rattle.store_claims.specs.Groups.{event_of, session_events}

-- ---- worlds

-- a machine that goes on
abbrev pub running : Machine → World
running m = record { machine = m; is_stopped = false }

-- what was read leads it to the next one
reading_acts : (p : Parameters) (t : Tree) (events : List Event) (m : Machine) (reading : Result SessionCall Refusal)
    → world_after p t events ≡ running m
    → world_after p t (event_of reading ++ events) ≡ running (answer_call p m reading).1
unfolding world_after
reading_acts p t events m (Err refusal) e = e
reading_acts p t events m (Ok call) e = ap (λ (w : World). (happens p w (Acts call)).1) e

-- and so do lines
lines_act : (p : Parameters) (t : Tree) (texts : List (List ℕ)) (events : List Event) (m : Machine)
    → world_after p t events ≡ running m
    → world_after p t (session_events texts ++ events) ≡ running (state_by (answer_session_line p) m texts)
unfolding session_events state_by
lines_act p t [] events m e = e
lines_act p t (text ∷ texts) events m e =
    ap (world_after p t) (append_assoc (session_events texts) (event_of (session_reading text)) events)
    ∙ lines_act p t texts (event_of (session_reading text) ++ events)
    (answer_session_line p m text).1 (reading_acts p t events m (session_reading text) e)

pub world_of_lines : (p : Parameters) (t : Tree) (texts : List (List ℕ))
    → world_after p t (session_events texts) ≡ running (state_by (answer_session_line p) (no_sessions t) texts)
unfolding world_after
world_of_lines p t texts = ap (world_after p t) (sym (append-nil (session_events texts)))
    ∙ lines_act p t texts [] (no_sessions t) refl

-- ---- traces

-- an event has its entry in the trace, before that of what came first
pub entry_of : (p : Parameters) (t : Tree) (later : List Event) (event : Event) (before : List Event)
    → (after : List Entry) × (trace p t (later ++ event ∷ before)
    ≡ after ++ (event, (happens p (world_after p t before) event).0) ∷ trace p t before)
unfolding trace
entry_of p t [] event before = ([], refl)
entry_of p t (last ∷ later) event before =
    let found = entry_of p t later event before in
    let entry : Entry = (last, (happens p (world_after p t (later ++ event ∷ before)) last).0) in
    (entry ∷ found.0, ap (λ (entries : List Entry). entry ∷ entries) found.1)

-- what a line does comes behind what those before it did
pub events_split : (before : List (List ℕ)) (text : List ℕ) (behind : List (List ℕ))
    → session_events (before ++ text ∷ behind) ≡ session_events behind
    ++ (event_of (session_reading text) ++ session_events before)
unfolding session_events
events_split [] text behind = ap (λ (events : List Event). session_events behind ++ events)
    (sym (append-nil (event_of (session_reading text))))
events_split (first ∷ before) text behind =
    ap (λ (events : List Event). events ++ event_of (session_reading first)) (events_split before text behind)
    ∙ append_assoc (session_events behind) (event_of (session_reading text) ++ session_events before)
    (event_of (session_reading first))
    ∙ ap (λ (events : List Event). session_events behind ++ events)
    (append_assoc (event_of (session_reading text)) (session_events before) (event_of (session_reading first)))
