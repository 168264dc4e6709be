-- What stands of the lines that were carried out, however a call that answers a script ended. The texts of its
-- answers, one for each line, and the trees after so many lines are those of its subcommand.
use Rattle.std.specs.Prelude.{◌≡◌, ◌⊎◌, ◌≤◌, ◌<◌, ◌-◌, ◌+◌, ℕ, List, ◌++◌, length, take}
use Rattle.std.specs.List.{concat}
use Rattle.store_model.specs.Parameters.{Parameters}
use Rattle.store_model.specs.Trees.{Tree}
use Rattle.store_model.specs.Images.{Represents}
use Rattle.store_model.specs.Scripts.{lines, script_limit}
use Rattle.script_lines.specs.Lines.{ended_lines}
use Rattle.script_lines.specs.Memory.{SourceMemory, SinkMemory}
use Rattle.image_subcommands.specs.declared.status.Status.TheVariants as statuses
use Rattle.image_subcommands.specs.Statuses.{Subcommand as words, IsEndOf, IsBetweenLines, IsCutShort}
use Rattle.store_claims.specs.Crashes.{WroteReplies}
use Rattle.store_claims.specs.Machines.{Ended, HasImage, bytes_of}

-- these bytes were taken from the front of the script, and those lines carried out that an LF ended among them
pub record TookLines (before after : List ℕ) (done : ℕ) : Type 0 where
  pub taken : List ℕ
  pub taken_is : before ≡ taken ++ after
  pub done_is : done ≡ length (ended_lines taken)

-- A call over an image of the tree t, which carried out `done` lines.
pub record KeepsAcknowledged (texts : List (List ℕ)) (trees : ℕ → Tree) (t : Tree) (p : Parameters)
    (source : SourceMemory) (sink : SinkMemory) (after : Ended) : Type 0 where
  -- it ends with 0, 3, 4, 5, 6 or 9
  pub ends : IsEndOf words.Run after.status
  -- with 0, 3, 4 and 6 the image is that of the tree after just those lines, and a crash leaves just that
  pub image : IsBetweenLines after.status → HasImage after.disk (trees after.done) p
  -- with 5 the bytes are an image of that tree, or of the one after the next line
  pub disk_fault : after.status ≡ statuses.DiskFault → Represents (bytes_of after.disk) (trees after.done) p
      ⊎ Represents (bytes_of after.disk) (trees (after.done + 1)) p
  -- with 9 it is the image of that tree, or no line was carried out and the bytes represent the tree from before
  pub no_memory : after.status ≡ statuses.NoMemory → HasImage after.disk (trees after.done) p
      ⊎ ((after.done ≡ 0) × Represents (bytes_of after.disk) t p)
  -- with 0 each line was carried out, and each reply written
  pub all_lines : after.status ≡ statuses.Done → after.done ≡ length (lines source.left)
  pub all_replied : after.status ≡ statuses.Done → after.sink.written ≡ sink.written ++ concat texts
  -- how many lines they are: with 3 those that were ended among the bytes taken; with 6 those that were ended among
  -- the first 1,073,741,824, and the script has more bytes than these; with 4 one at least
  pub source_fault : after.status ≡ statuses.SourceFault → TookLines source.left after.source.left after.done
  pub too_long : after.status ≡ statuses.TooLong
      → (script_limit < length source.left) × (after.done ≡ length (ended_lines (take script_limit source.left)))
  -- in every other case no more bytes were taken than a script may have
  pub in_limit : (after.status ≡ statuses.TooLong → ⊥) → length source.left ≤ script_limit + length after.source.left
  pub some_line : after.status ≡ statuses.SinkFault → 1 ≤ after.done
  pub counted : after.done ≤ length (lines source.left)
  -- with 3, 5, 6 and 9 just their replies were written, and with 4 those of all but the last, of which there may be a
  -- part
  pub replied : IsCutShort after.status → after.sink.written ≡ sink.written ++ concat (take after.done texts)
  pub in_part : after.status ≡ statuses.SinkFault → WroteReplies (after.done - 1) texts sink.written after.sink.written
