-- What a trace of sessions tells, and the law that it is the trace of one serial run of the groups committed.
--
-- A history is a list of events, the last of them first. Its trace has with each what was answered, and with a call
-- that broke and landed what it would have answered. What is said of sessions here is read from the trace alone, and
-- not from the machine's lists.
use Rattle.std.specs.Prelude.{◌≡◌, ℕ, List, [], ◌∷◌, ◌++◌, Bool, true, false, Option, Some, None, nat_eq, if◌then◌else◌}
use Rattle.std.specs.List.{All, flat_map}
use Rattle.std.specs.Option.{option_map_or}
use Rattle.store_model.specs.Parameters.{Parameters}
use Rattle.store_model.specs.Trees.{Tree}
use Rattle.store_model.specs.Commands.{Command, Reply}
use Rattle.store_model.specs.Commands.Reply.{Acknowledged}
use Rattle.store_model.specs.Steps.{step}
use Rattle.store_model.specs.Scripts.{replies_by, tree_by}
use Rattle.script_lines.specs.Sessions.{SessionAnswer, is_change}
use Rattle.script_lines.specs.Sessions.SessionCall.{Begin, Ask, Stage, Commit, Leave}
use Rattle.script_lines.specs.Sessions.SessionAnswer.{Began, Replied, Done, Conflicting, RefusedAt, NoSession}
use Rattle.staged_tree.specs.Groups.{step_under, refusal_in}
use Rattle.session_core.specs.Machine.{Note, World, Event, world_at, happens, commit_answer}
use Rattle.session_core.specs.Machine.Event.{Acts, Breaks, Crashes, Attaches}

-- an event, and what was answered
abbrev pub Entry : Type 0
Entry = Event × Option SessionAnswer

-- the world after a history that begins at a tree, with no sessions
unfoldable pub world_after : Parameters → Tree → List Event → World
world_after p t [] = world_at t
world_after p t (event ∷ before) = (happens p (world_after p t before) event).1

-- and its trace, the last entry first
unfoldable pub trace : Parameters → Tree → List Event → List Entry
trace p t [] = []
trace p t (event ∷ before) = (event, (happens p (world_after p t before) event).0) ∷ trace p t before

-- ---- what a trace tells

-- whether a session began here under this number
abbrev pub begins : ℕ → Entry → Bool
begins id (Acts Begin, Some (Began number)) = nat_eq number id
begins id entry = false

-- the change that was staged here in the session with this number, if one was
abbrev pub staged_by : ℕ → Entry → List Command
staged_by id (Acts (Stage number change), Some Done) = if nat_eq number id then change ∷ [] else []
staged_by id entry = []

-- the question that was answered here in that session, with its answer
abbrev pub asked_by : ℕ → Entry → List Note
asked_by id (Acts (Ask number question), Some (Replied reply)) = if nat_eq number id then (question, reply) ∷ [] else []
asked_by id entry = []

-- what was staged in the session since it began, in order
unfoldable pub staged_since : ℕ → List Entry → List Command
staged_since id [] = []
staged_since id (entry ∷ before) = if begins id entry then [] else staged_since id before ++ staged_by id entry

-- what was asked in it since then, in order
unfoldable pub asked_since : ℕ → List Entry → List Note
asked_since id [] = []
asked_since id (entry ∷ before) = if begins id entry then [] else asked_since id before ++ asked_by id entry

-- the session whose group was committed here: the commit was answered so, or it landed when the call broke
abbrev pub committed_by : Entry → Option ℕ
committed_by (Acts (Commit id), Some Done) = Some id
committed_by (Breaks (Commit id) true, Some Done) = Some id
committed_by entry = None

-- the groups that were committed, in their order
unfoldable pub groups : List Entry → List (List Command)
groups [] = []
groups (entry ∷ before) = groups before ++ option_map_or (λ id. staged_since id before ∷ []) (committed_by entry) []

-- the changes of groups, one after another
abbrev pub changes_of : List (List Command) → List Command
changes_of gs = flat_map (λ (g : List Command). g) gs

-- the tree of one serial run of groups from a tree on
abbrev pub serial_tree : Parameters → Tree → List (List Command) → Tree
serial_tree p t gs = tree_by (step_under p) t (changes_of gs)

-- whether a session with this number, if one was live, ended here: its commit was answered, it was dropped, or a call
-- broke, a crash or an attachment came
abbrev pub ends : ℕ → Entry → Bool
ends id (Acts (Commit number), Some Done) = nat_eq number id
ends id (Acts (Commit number), Some (Conflicting k was now)) = nat_eq number id
ends id (Acts (Commit number), Some (RefusedAt k refusal)) = nat_eq number id
ends id (Acts (Leave number), Some Done) = nat_eq number id
ends id (Breaks call landed, answer) = true
ends id (Crashes, answer) = true
ends id (Attaches, answer) = true
ends id entry = false

-- whether a session with this number is live behind a trace
unfoldable pub is_live : ℕ → List Entry → Bool
is_live id [] = false
is_live id (entry ∷ before) = if begins id entry then true else if ends id entry then false else is_live id before

-- ---- the law

-- In every history of calls, faults, crashes and attachments, the tree is that of one serial run of the groups
-- committed.
pub record IsSerial (p : Parameters) (t : Tree) (events : List Event) : Type 0 where
  pub tree : (world_after p t events).machine.tree ≡ serial_tree p t (groups (trace p t events))
  -- none of their changes is refused in that run: each group is in it whole
  pub whole : All (λ reply. refusal_in reply ≡ None)
      (replies_by (step_under p) t (changes_of (groups (trace p t events))))
  -- and where all of them are changes, as no line stages anything else, each is acknowledged
  pub acknowledged : All (λ change. is_change change ≡ true) (changes_of (groups (trace p t events)))
      → All (λ reply. reply ≡ Acknowledged) (replies_by (step_under p) t (changes_of (groups (trace p t events))))
  -- the group of each commit that was answered `Ok` is in it, behind those that were committed before
  pub kept : (id : ℕ) (after before : List Entry) → trace p t events ≡ after ++ (Acts (Commit id), Some Done) ∷ before
      → (later : List (List Command)) × (groups (trace p t events) ≡ groups before ++ staged_since id before ∷ later)
  -- each question of a committed group has on the tree just before the group the answer that it had when it was asked
  pub asked : (id : ℕ) (entry : Entry) (after before : List Entry) → trace p t events ≡ after ++ entry ∷ before
      → committed_by entry ≡ Some id
      → All (λ (note : Note). (step (serial_tree p t (groups before)) note.0 p).reply ≡ note.1) (asked_since id before)
  -- only a session that is live commits, and so once: none outlives its commit, a drop, a crash or an attachment
  pub live : (id : ℕ) (entry : Entry) (after before : List Entry) → trace p t events ≡ after ++ entry ∷ before
      → committed_by entry ≡ Some id → is_live id before ≡ true
  -- a number is given to one live session at a time
  pub begun : (id : ℕ) (after before : List Entry) → trace p t events ≡ after ++ (Acts Begin, Some (Began id)) ∷ before
      → is_live id before ≡ false
  -- each question sees the tree as it was last committed, and nothing that is only staged
  pub replied : (id : ℕ) (question : Command) (reply : Reply) (after before : List Entry)
      → trace p t events ≡ after ++ (Acts (Ask id question), Some (Replied reply)) ∷ before
      → (step (serial_tree p t (groups before)) question p).reply ≡ reply
  -- each commit is answered as its session's questions and changes alone say on that tree, or there was no session
  pub answered : (id : ℕ) (answer : SessionAnswer) (after before : List Entry)
      → trace p t events ≡ after ++ (Acts (Commit id), Some answer) ∷ before
      → answer ≡ (if is_live id before then commit_answer p (serial_tree p t (groups before))
      (record { asked = asked_since id before; staged = staged_since id before }) else NoSession)
