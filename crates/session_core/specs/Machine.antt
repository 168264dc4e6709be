-- The machine of sessions: a tree, and the sessions that are live. A call answers, and leads to the next tree and
-- sessions.
use Rattle.std.specs.Prelude.{ℕ, suc, List, [], ◌∷◌, ◌++◌, length, replicate, slice_get, slice_set, Bool, true, false}
use Rattle.std.specs.Prelude.{Option, Some, None, is_none, nat_le, if◌then◌else◌}
use Rattle.std.specs.List.{position, position_or_len}
use Rattle.std.specs.Option.{option_flatten, unwrap_or}
use Rattle.store_model.specs.declared.refusal.Refusal.{Refusal}
use Rattle.store_model.specs.Parameters.{Parameters}
use Rattle.store_model.specs.Trees.{Tree}
use Rattle.store_model.specs.Commands.{Command, Reply}
use Rattle.store_model.specs.Steps.{step}
use Rattle.script_lines.specs.Sessions.{SessionCall, SessionAnswer, same_reply}
use Rattle.script_lines.specs.Sessions.SessionCall.{Begin, Ask, Stage, Commit, Leave}
use Rattle.script_lines.specs.Sessions.SessionAnswer.{Began, Replied, Done, Conflicting, RefusedAt, NoSession, Crowded}
use Rattle.script_lines.specs.Sessions.SessionAnswer.{Many}
use Rattle.staged_tree.specs.Groups.{refused_in, group_tree}

-- how many sessions may be live
abbrev pub live_limit : ℕ
live_limit = 64

-- how many questions a session may have, and how many changes
abbrev pub note_limit : ℕ
note_limit = 64

-- a question, and what it was answered
abbrev pub Note : Type 0
Note = Command × Reply

-- A live session: what it asked and what it is to change, each in the order in which it came.
pub record Session : Type 0 where
  pub asked : List Note
  pub staged : List Command

-- a session of which nothing was asked
abbrev pub new_session : Session
new_session = record { asked = []; staged = [] }

-- the sessions by their numbers: a place for each number, which is empty where no session is live under it
abbrev pub Places : Type 0
Places = List (Option Session)

-- no session is live
abbrev pub no_places : Places
no_places = replicate live_limit None

-- A tree, and the sessions that are live.
pub record Machine : Type 0 where
  pub tree : Tree
  pub places : Places

-- the live session with a number
abbrev pub session_at : Places → ℕ → Option Session
session_at places id = option_flatten (slice_get places id)

-- the same, known to be there
abbrev pub the_session : Places → ℕ → Session
the_session places id = unwrap_or (session_at places id) new_session

-- the least number that no live session has
abbrev pub free_number : Places → ℕ
free_number places = position_or_len is_none places

-- ---- what a call answers

-- why a session takes no more, of a kind of which it has so many
abbrev pub many_of : Option Session → (Session → ℕ) → Option SessionAnswer
many_of None count = Some NoSession
many_of (Some session) count = if nat_le note_limit (count session) then Some Many else None

-- no session has the number
abbrev pub unknown_of : Option Session → Option SessionAnswer
unknown_of None = Some NoSession
unknown_of (Some session) = None

-- no number is free
abbrev pub crowded_of : Option ℕ → Option SessionAnswer
crowded_of None = Some Crowded
crowded_of (Some number) = None

-- why a call is turned away, which the sessions alone tell
abbrev pub turned_away : Places → SessionCall → Option SessionAnswer
turned_away places Begin = crowded_of (position is_none places)
turned_away places (Ask id question) = many_of (session_at places id) (λ session. length session.asked)
turned_away places (Stage id change) = many_of (session_at places id) (λ session. length session.staged)
turned_away places (Commit id) = unknown_of (session_at places id)
turned_away places (Leave id) = unknown_of (session_at places id)

-- the first of these questions that the tree answers otherwise than is noted: its number, the reply noted and the
-- tree's
unfoldable pub first_difference : Parameters → Tree → List Note → Option (ℕ × Reply × Reply)
first_difference p t [] = None
first_difference p t (note ∷ notes) =
    if same_reply note.1 (step t note.0 p).reply
    then later (first_difference p t notes)
    else Some (0, note.1, (step t note.0 p).reply)
  where
    later : Option (ℕ × Reply × Reply) → Option (ℕ × Reply × Reply)
    later None = None
    later (Some found) = Some (suc found.0, found.1, found.2)

-- what a commit answers: `Done` where each question is answered as it was and then each change is acknowledged, and
-- else the first that is not
abbrev pub commit_answer : Parameters → Tree → Session → SessionAnswer
commit_answer p t session = by_questions (first_difference p t session.asked)
  where
    by_changes : Option (ℕ × Refusal) → SessionAnswer
    by_changes None = Done
    by_changes (Some refused) = RefusedAt refused.0 refused.1

    by_questions : Option (ℕ × Reply × Reply) → SessionAnswer
    by_questions None = by_changes (refused_in p t session.staged)
    by_questions (Some found) = Conflicting found.0 found.1 found.2

-- what a call answers that is not turned away
abbrev pub served : Parameters → Machine → SessionCall → SessionAnswer
served p m Begin = Began (free_number m.places)
served p m (Ask id question) = Replied (step m.tree question p).reply
served p m (Stage id change) = Done
served p m (Commit id) = commit_answer p m.tree (the_session m.places id)
served p m (Leave id) = Done

-- what any call answers
abbrev pub answered : Parameters → Machine → SessionCall → SessionAnswer
answered p m call = unwrap_or (turned_away m.places call) (served p m call)

-- ---- what stands then

-- the sessions after a call that was answered so: a note or a change comes last, and a commit and a drop end their
-- session
abbrev pub places_after : Places → SessionCall → SessionAnswer → Places
places_after places Begin (Began id) = slice_set places id (Some new_session)
places_after places (Ask id question) (Replied reply) =
    let session = the_session places id in
    slice_set places id (Some (record { asked = session.asked ++ (question, reply) ∷ []; staged = session.staged }))
places_after places (Stage id change) Done =
    let session = the_session places id in
    slice_set places id (Some (record { asked = session.asked; staged = session.staged ++ change ∷ [] }))
places_after places (Commit id) Done = slice_set places id None
places_after places (Commit id) (Conflicting k was now) = slice_set places id None
places_after places (Commit id) (RefusedAt k refusal) = slice_set places id None
places_after places (Leave id) Done = slice_set places id None
places_after places call answer = places

-- the tree after a call that was answered so: that of the whole group where it was committed
abbrev pub tree_after_call : Parameters → Machine → SessionCall → SessionAnswer → Tree
tree_after_call p m (Commit id) Done = group_tree p m.tree (the_session m.places id).staged
tree_after_call p m call answer = m.tree

-- A call: its answer, and the machine after it.
abbrev pub turn : Parameters → Machine → SessionCall → SessionAnswer × Machine
turn p m call =
    let answer = answered p m call in
    (answer, record { tree = tree_after_call p m call answer; places = places_after m.places call answer })

-- ---- faults and crashes

-- The machine, and whether it is stopped: a crash came, or a fault at a write or a sync, or after one. Then nothing
-- goes on before the image is attached.
pub record World : Type 0 where
  pub machine : Machine
  pub is_stopped : Bool

-- a tree, and no sessions
abbrev pub world_at : Tree → World
world_at t = record { machine = record { tree = t; places = no_places }; is_stopped = false }

-- What may happen.
pub data Event : Type 0 where
  -- a call that answers
  Acts : SessionCall → Event
  -- a call that ends by a fault, with nothing written or synced
  Fails : SessionCall → Event
  -- a crash in a call, or a fault at a write or a sync or after one: what it had to commit landed, or did not, as
  -- the next attachment finds; its sessions can be asked nothing more
  Breaks : SessionCall → Bool → Event
  -- a crash between two calls
  Crashes : Event
  -- the image is attached, and sessions begin anew
  Attaches : Event

-- what is answered, if anything is, and what stands then; of a call that broke and landed, what it would have answered
abbrev pub happens : Parameters → World → Event → Option SessionAnswer × World
happens p w (Acts call) = if w.is_stopped then (None, w) else (
  Some (turn p w.machine call).0,
  record {
    machine = (turn p w.machine call).1;
    is_stopped = false;
  },
)
happens p w (Fails call) = (None, w)
happens p w (Breaks call true) =
    if w.is_stopped then (None, w)
    else (
      Some (turn p w.machine call).0,
      record {
        machine = record { tree = (turn p w.machine call).1.tree; places = w.machine.places };
        is_stopped = true;
      },
    )
happens p w (Breaks call false) = if w.is_stopped then (None, w) else (
  None,
  record {
    machine = w.machine;
    is_stopped = true;
  },
)
happens p w Crashes = (
  None,
  record {
    machine = record { tree = w.machine.tree; places = no_places };
    is_stopped = true;
  },
)
happens p w Attaches = (None, world_at w.machine.tree)
