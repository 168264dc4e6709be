-- What a session answers to the lines of a script: the texts of its answers, and its trees.
use Rattle.std.specs.Prelude.{ℕ, List, map, length, take, Result, Ok, Err, nat_lt, if◌then◌else◌}
use Rattle.store_model.specs.declared.refusal.Refusal.{Refusal}
use Rattle.store_model.specs.declared.refusal.Refusal.TheVariants as refusals
use Rattle.store_model.specs.Parameters.{Parameters}
use Rattle.store_model.specs.Trees.{Tree}
use Rattle.store_model.specs.Scripts.{lines, line_limit, answers_by, state_by}
use Rattle.script_lines.specs.Sessions.{SessionCall, SessionAnswer, session_text, parse_session}
use Rattle.script_lines.specs.Sessions.SessionAnswer.{NotRead}
use Rattle.session_core.specs.Machine.{Machine, no_places, turn}

-- a tree, and no session
abbrev pub no_sessions : Tree → Machine
no_sessions t = record { tree = t; places = no_places }

-- what a line asks for: `long` refuses one that has over 8,192 bytes
unfoldable pub session_reading : List ℕ → Result SessionCall Refusal
session_reading text = if nat_lt line_limit (length text) then Err refusals.Long else parse_session text

-- the answer to what was read, and the machine after it
abbrev pub answer_call : Parameters → Machine → Result SessionCall Refusal → SessionAnswer × Machine
answer_call p m (Err refusal) = (NotRead refusal, m)
answer_call p m (Ok call) = turn p m call

-- and to a line
abbrev pub answer_session_line : Parameters → Machine → List ℕ → SessionAnswer × Machine
answer_session_line p m text = answer_call p m (session_reading text)

-- the texts of the answers to the lines of a script, one for each line
abbrev pub session_texts : Tree → List ℕ → Parameters → List (List ℕ)
session_texts t script p = map session_text (answers_by (answer_session_line p) (no_sessions t) (lines script))

-- the machine after so many of its lines; after the last of them it stays
abbrev pub session_machines : Tree → List ℕ → Parameters → ℕ → Machine
session_machines t script p k = state_by (answer_session_line p) (no_sessions t) (take k (lines script))

-- the tree after so many of them
abbrev pub session_trees : Tree → List ℕ → Parameters → ℕ → Tree
session_trees t script p k = (session_machines t script p k).tree
