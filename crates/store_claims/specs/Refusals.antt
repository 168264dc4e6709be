-- Lines that are refused.
use Rattle.std.specs.Prelude.{◌≡◌, ◌↔◌, ◌≤◌, ◌<◌, ℕ, false, List, [], ◌∷◌, ◌++◌, length, Ok, None, if◌then◌else◌}
use Rattle.store_model.specs.declared.refusal.Refusal.{Refusal}
use Rattle.store_model.specs.declared.refusal.Refusal.TheVariants as refusals
use Rattle.store_model.specs.Parameters.{Parameters}
use Rattle.store_model.specs.Trees.{Tree}
use Rattle.store_model.specs.Pages.{page_count}
use Rattle.store_model.specs.Images.{layout, Represents}
use Rattle.store_model.specs.Commands.{Command, Reply, reply_text}
use Rattle.store_model.specs.Commands.Reply.{Refused}
use Rattle.store_model.specs.Steps.{lacks_version, refusal_of, next_tree}
use Rattle.store_model.specs.Grammar.{parse}
use Rattle.store_model.specs.Scripts.{lines, line_limit, answer}
use Rattle.script_lines.specs.Memory.{SinkMemory}
use Rattle.script_runs.specs.Generations.{is_refused}
use Rattle.store_claims.specs.Machines.{Disk, Ended, bytes_of, meaning}

-- a reply that refuses
abbrev pub IsRefusal : Reply → Type 0
IsRefusal reply = (refusal : Refusal) × (reply ≡ Refused refusal)

-- the lines, one after another, that are not refused
abbrev pub without_refused : Tree → List (List ℕ) → Parameters → List (List ℕ)
without_refused t [] p = []
without_refused t (text ∷ texts) p = if is_refused (answer t text p).reply then without_refused t texts p else text
    ∷ without_refused (answer t text p).tree texts p

-- the bytes are, each of them, those of the image of the tree: there is nothing to be recovered
pub record IsAtRest (bytes : List ℕ) (t : Tree) (p : Parameters) : Type 0 where
  pub represents : Represents bytes t p
  pub layout_is : bytes ≡ layout t p

-- no byte was changed, and no write was made
pub record IsUntouched (before after : Disk) : Type 0 where
  pub bytes : bytes_of after ≡ bytes_of before
  pub writes : (meaning after).writes ≡ (meaning before).writes

-- the script is one line, which asks for this command
pub record IsOneLine (script : List ℕ) (command : Command) : Type 0 where
  pub text : List ℕ
  pub lines_are : lines script ≡ text ∷ []
  pub fits : length text ≤ line_limit
  pub parsed : parse text ≡ Ok command

-- the pages of the tree that the command would make, if nothing else refuses it, are more than the slots
pub record NeedsMoreSlots (command : Command) (t : Tree) (p : Parameters) : Type 0 where
  pub served : lacks_version command p ≡ false
  pub not_refused : refusal_of t command ≡ None
  pub exceeds : p.slots < page_count (next_tree t command) p

-- A run of one command that ended with 0: `full` was its reply exactly where the pages of the new tree exceed the
-- slots.
pub record AnswersFull (command : Command) (t : Tree) (p : Parameters) (sink : SinkMemory)
    (after : Ended) : Type 0 where
  pub reply : Reply
  pub written_is : after.sink.written ≡ sink.written ++ reply_text reply
  pub exact : (reply ≡ Refused (refusals.Full (page_count (next_tree t command) p) p.slots))
      ↔ NeedsMoreSlots command t p
  -- no other numbers are printed with it
  pub numbers : (need slots : ℕ) → reply ≡ Refused (refusals.Full need slots)
      → (need ≡ page_count (next_tree t command) p) × (slots ≡ p.slots)
