-- What a call did that answered a script and ended with 0.
use Rattle.std.specs.Prelude.{◌≡◌, ◌⊎◌, ◌≤◌, ℕ, List, [], ◌++◌, length}
use Rattle.store_model.specs.Parameters.{Parameters}
use Rattle.store_model.specs.Trees.{Tree}
use Rattle.store_model.specs.Scripts.{lines, replies, tree_after, replies_text, script_limit}
use Rattle.script_lines.specs.Memory.{SourceMemory, SinkMemory}
use Rattle.image_subcommands.specs.declared.status.Status.TheVariants as statuses
use Rattle.store_claims.specs.Machines.{Disk, Ended, HasImage, NothingFailed}

-- A script was answered over an image. With status 0 this is the text of the replies to all its lines, and the image is
-- that of this tree.
pub record AnswersWhole (text : List ℕ) (tree : Tree) (p : Parameters) (disk : Disk) (source : SourceMemory)
    (sink : SinkMemory) (after : Ended) : Type 0 where
  pub image : after.status ≡ statuses.Done → HasImage after.disk tree p
  pub replied : after.status ≡ statuses.Done → after.sink.written ≡ sink.written ++ text
  pub count : after.status ≡ statuses.Done → after.done ≡ length (lines source.left)
  pub read : after.status ≡ statuses.Done → after.source.left ≡ []
  -- so it ends where the script is no longer than one may be, no call failed and memory was there
  pub complete : length source.left ≤ script_limit → NothingFailed disk source sink after
      → (after.status ≡ statuses.Done) ⊎ (after.status ≡ statuses.NoMemory)

-- so it is of a run over an image of the tree t: each line is answered, in order, and the image is that of the tree
-- that the lines leave
abbrev pub AnswersScript : Tree → Parameters → Disk → SourceMemory → SinkMemory → Ended → Type 0
AnswersScript t p disk source = AnswersWhole (replies_text (replies t (lines source.left) p))
    (tree_after t (lines source.left) p) p disk source
