-- A number's commands, and a script that asks for them.
use Rattle.std.specs.Prelude.{◌≡◌, ◌≤◌, ℕ, List, [], ◌∷◌, ◌++◌, length, Ok, codes}
use Rattle.std.specs.Fmt.{decimal}
use Rattle.sha2.specs.Sha256.{sha256}
use Rattle.store_model.specs.Parameters.{Parameters}
use Rattle.store_model.specs.Trees.{Tree}
use Rattle.store_model.specs.Pages.{page_count}
use Rattle.store_model.specs.Commands.{Command, Reply, line, reply_text}
use Rattle.store_model.specs.Commands.Reply.{PagesUsed, ImageDigest}
use Rattle.store_model.specs.Grammar.{parse}
use Rattle.store_model.specs.Scripts.{lines, line_limit, replies, tree_after}
use Rattle.script_lines.specs.Memory.{SourceMemory, SinkMemory}
use Rattle.image_subcommands.specs.declared.status.Status.TheVariants as statuses
use Rattle.script_runs.specs.Generations.{count_answered, count_refused}
use Rattle.store_claims.specs.declared.big.TwoRuns.{TwoRuns}
use Rattle.store_claims.specs.Machines.{bytes_of}

-- the lines ask for these commands, one each
abbrev pub AskFor : List (List ℕ) → List Command → Type 0
AskFor [] [] = Unit {0}
AskFor [] (command ∷ commands) = ⊥
AskFor (text ∷ texts) [] = ⊥
AskFor (text ∷ texts) (command ∷ commands) = (length text ≤ line_limit) × (parse text ≡ Ok command)
    × AskFor texts commands

-- the four lines that sum up a run with these replies, which left this tree in an image of these bytes
abbrev pub summary_of : List Reply → Tree → Parameters → List ℕ → List ℕ
summary_of replies t p image =
    line (codes "ok " ++ decimal (count_answered replies)) ++ line (codes "no " ++ decimal (count_refused replies))
    ++ reply_text (PagesUsed (page_count t p) p.slots) ++ reply_text (ImageDigest (sha256 image))

-- The commands of a number and a script that asks for them, each carried out on an image of the tree t. Where both
-- ended with 0 the images are the same, and what the first printed is the summary of the second.
pub record IsRunOfCommands (t : Tree) (p : Parameters) (script : SourceMemory) (sink : SinkMemory)
    (both : TwoRuns) : Type 0 where
  pub image : both.big.status ≡ statuses.Done → both.run.status ≡ statuses.Done
      → bytes_of both.big.disk ≡ bytes_of both.run.disk
  pub count : both.big.status ≡ statuses.Done → both.run.status ≡ statuses.Done → both.big.done ≡ both.run.done
  pub summary : both.big.status ≡ statuses.Done → both.run.status ≡ statuses.Done
      → both.big.sink.written ≡ sink.written ++ summary_of (replies t (lines script.left) p)
      (tree_after t (lines script.left) p) p (bytes_of both.run.disk)
