-- What the lines of a script commit: the groups, and the tree of these. All of it is read from the trace of the calls
-- that the lines spell, and not from the sessions that the program keeps.
use Rattle.std.specs.Prelude.{◌≡◌, ◌⊎◌, ◌<◌, ℕ, List, [], ◌∷◌, ◌++◌, length, take, drop, Result, Ok, Err, None, codes}
use Rattle.std.specs.List.{All}
use Rattle.store_model.specs.declared.refusal.Refusal.{Refusal}
use Rattle.store_model.specs.Parameters.{Parameters}
use Rattle.store_model.specs.Trees.{Tree}
use Rattle.store_model.specs.Commands.{Command, line, reply_text}
use Rattle.store_model.specs.Steps.{step}
use Rattle.store_model.specs.Scripts.{lines, replies_by}
use Rattle.script_lines.specs.Sessions.{SessionCall}
use Rattle.script_lines.specs.Sessions.SessionCall.{Ask, Commit}
use Rattle.staged_tree.specs.Groups.{step_under, refusal_in}
use Rattle.session_core.specs.Machine.{Note, Event}
use Rattle.session_core.specs.Machine.Event.{Acts}
use Rattle.session_core.specs.Traces.{Entry, trace, groups, changes_of, serial_tree, staged_since, asked_since}
use Rattle.script_runs.specs.SessionRuns.{session_reading, session_texts}

-- what a line does to sessions: the call that it spells, and else nothing
abbrev pub event_of : Result SessionCall Refusal → List Event
event_of (Ok call) = Acts call ∷ []
event_of (Err refusal) = []

-- what lines do one after another, told as a history is: the last comes first
unfoldable pub session_events : List (List ℕ) → List Event
session_events [] = []
session_events (text ∷ texts) = session_events texts ++ event_of (session_reading text)

-- the trace of lines from a tree on
abbrev pub session_trace : Tree → List (List ℕ) → Parameters → List Entry
session_trace t texts p = trace p t (session_events texts)

-- the groups that they commit, in the order of the commits
abbrev pub session_groups : Tree → List (List ℕ) → Parameters → List (List Command)
session_groups t texts p = groups (session_trace t texts p)

-- the tree that is left where the changes of these groups alone are carried out, one after another
abbrev pub committed_tree : Tree → List (List ℕ) → Parameters → Tree
committed_tree t texts p = serial_tree p t (session_groups t texts p)

-- the tree of the groups that the first lines of a script commit
abbrev pub committed_trees : Tree → List ℕ → Parameters → ℕ → Tree
committed_trees t script p k = committed_tree t (take k (lines script)) p

-- Behind these lines of the script comes one that spells this call, and it is among the first `count`.
pub record IsLine (script : List ℕ) (count : ℕ) (before : List (List ℕ)) (call : SessionCall) : Type 0 where
  pub text : List ℕ
  pub behind : List (List ℕ)
  pub lines_are : lines script ≡ before ++ text ∷ behind
  pub among : length before < count
  pub spells : session_reading text ≡ Ok call

-- the answer to the line behind so many has this text
abbrev pub IsAnswered : Tree → Parameters → List ℕ → ℕ → List ℕ → Type 0
IsAnswered t p script k text = take 1 (drop k (session_texts t script p)) ≡ text ∷ []

-- What the first `count` lines of a script commit, from a tree on.
pub record CommitsWhole (t : Tree) (p : Parameters) (script : List ℕ) (count : ℕ) : Type 0 where
  -- each group is whole in their tree: one after another none of all these changes is refused
  pub whole : All (λ reply. refusal_in reply ≡ None)
      (replies_by (step_under p) t (changes_of (session_groups t (take count (lines script)) p)))
  -- the group of each commit that was answered `ok` is among them, behind those that were committed before: all that
  -- was staged in the session since it began
  pub kept : (id : ℕ) (before : List (List ℕ)) → IsLine script count before (Commit id)
      → IsAnswered t p script (length before) (line (codes "ok"))
      → (later : List (List Command))
      × (session_groups t (take count (lines script)) p ≡ session_groups t before p
      ++ staged_since id (session_trace t before p) ∷ later)
  -- no other line commits anything
  pub only : (before : List (List ℕ)) (text : List ℕ) (behind : List (List ℕ)) → lines script ≡ before ++ text ∷ behind
      → (session_groups t (before ++ text ∷ []) p ≡ session_groups t before p)
      ⊎ ((id : ℕ) × (session_reading text ≡ Ok (Commit id))
      × IsAnswered t p script (length before) (line (codes "ok")))
  -- each question of a session that is committed has on the tree of the groups before the answer that it had when it
  -- was asked
  pub asked : (id : ℕ) (before : List (List ℕ)) → IsLine script count before (Commit id)
      → IsAnswered t p script (length before) (line (codes "ok"))
      → All (λ (note : Note). (step (committed_tree t before p) note.0 p).reply ≡ note.1)
      (asked_since id (session_trace t before p))
  -- and each question is answered by the tree of the groups before it, in which nothing is that was only staged,
  -- unless there is no such session or it has as many questions as it may have
  pub replied : (id : ℕ) (question : Command) (before : List (List ℕ)) → IsLine script count before (Ask id question)
      → IsAnswered t p script (length before) (reply_text (step (committed_tree t before p) question p).reply)
      ⊎ (IsAnswered t p script (length before) (line (codes "no session"))
      ⊎ IsAnswered t p script (length before) (line (codes "no many")))
