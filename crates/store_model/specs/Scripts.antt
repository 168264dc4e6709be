-- Scripts: the lines of a byte string, and what they answer one after another.
use Rattle.std.specs.Prelude.{ℕ, List, [], ◌∷◌, length, Result, Ok, Err, nat_lt, ◌==◌, if◌then◌else◌}
use Rattle.std.specs.List.{filter, slice_split, flat_map}
use Rattle.store_model.specs.declared.refusal.Refusal.{Refusal}
use Rattle.store_model.specs.declared.refusal.Refusal.TheVariants as refusals
use Rattle.store_model.specs.Parameters.{Parameters}
use Rattle.store_model.specs.Trees.{Tree}
use Rattle.store_model.specs.Commands.{Command, Reply, reply_text}
use Rattle.store_model.specs.Commands.Reply.{Refused}
use Rattle.store_model.specs.Steps.{Step, step}
use Rattle.store_model.specs.Grammar.{parse}

-- the longest line, without its LF
abbrev pub line_limit : ℕ
line_limit = 8192

-- the longest script
abbrev pub script_limit : ℕ
script_limit = 1073741824

-- the lines of a script: it is cut at each LF, bytes after the last LF are a line, and empty lines are left out
unfoldable pub lines : List ℕ → List (List ℕ)
lines script = filter (λ text. nat_lt 0 (length text)) (slice_split (λ c. c == 10) script)

-- what a line asks for: `long` refuses one that has over 8,192 bytes
unfoldable pub reading : List ℕ → Result Command Refusal
reading text = if nat_lt line_limit (length text) then Err refusals.Long else parse text

abbrev pub answer_by : Tree → Result Command Refusal → Parameters → Step
answer_by t (Err refusal) p = record { reply = Refused refusal; tree = t }
answer_by t (Ok c) p = step t c p

-- the reply to a line and the tree after it: `long` before `syntax` and `path`, and then the command's step
unfoldable pub answer : Tree → List ℕ → Parameters → Step
answer t text p = if nat_lt line_limit (length text) then (record {
  reply = Refused refusals.Long;
  tree = t;
}) else answer_by t (parse text) p

-- the answers to questions that are asked one after another, the first in the state s: each is answered in the state
-- that the one before it left. `answered` gives an answer and the state after it
unfoldable pub answers_by : {S Q A : Type 0} → (S → Q → A × S) → S → List Q → List A
answers_by answered s [] = []
answers_by answered s (question ∷ questions) =
    (answered s question).0 ∷ answers_by answered (answered s question).1 questions

-- the state after them
unfoldable pub state_by : {S Q A : Type 0} → (S → Q → A × S) → S → List Q → S
state_by answered s [] = s
state_by answered s (question ∷ questions) = state_by answered (answered s question).1 questions

-- a reply and the tree after it, as an answer and a state
abbrev pub by_step : {Q : Type 0} → (Tree → Q → Step) → Tree → Q → Reply × Tree
by_step answered t question = ((answered t question).reply, (answered t question).tree)

-- the replies to questions that are asked one after another, the first on the tree t
unfoldable pub replies_by : {Q : Type 0} → (Tree → Q → Step) → Tree → List Q → List Reply
unfolding answers_by
replies_by answered t questions = answers_by (by_step answered) t questions

-- the tree after them
unfoldable pub tree_by : {Q : Type 0} → (Tree → Q → Step) → Tree → List Q → Tree
unfolding state_by
tree_by answered t questions = state_by (by_step answered) t questions

-- the replies to the lines of a script, and the tree after them
unfoldable pub replies : Tree → List (List ℕ) → Parameters → List Reply
replies t texts p = replies_by (λ u text. answer u text p) t texts

unfoldable pub tree_after : Tree → List (List ℕ) → Parameters → Tree
tree_after t texts p = tree_by (λ u text. answer u text p) t texts

-- the bytes of replies
unfoldable pub replies_text : List Reply → List ℕ
replies_text rs = flat_map reply_text rs
