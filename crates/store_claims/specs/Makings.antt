-- Images that are made by a format and scripts.
use Rattle.std.specs.Prelude.{◌≡◌, ◌≢◌, ◌↔◌, ◌⊎◌, ◌<◌, List, length, slice_index, Contains}
use Rattle.std.specs.List.{flat_map}
use Rattle.store_model.specs.Parameters.{Parameters, image_len}
use Rattle.store_model.specs.Trees.{Tree, empty_tree}
use Rattle.store_model.specs.Images.{first_byte}
use Rattle.store_model.specs.Scripts.{lines, tree_after, script_limit}
use Rattle.store_base.specs.Counts.{raised}
use Rattle.script_lines.specs.Memory.{SourceMemory, SinkMemory}
use Rattle.image_subcommands.specs.declared.status.Status.TheVariants as statuses
use Rattle.image_subcommands.specs.Statuses.{Subcommand as words, IsStopOf}
use Rattle.store_claims.specs.Machines.{Disk, Ended, HasImage, bytes_of, meaning}

-- the tree that the lines of scripts leave of the empty one, one script after another
abbrev pub made_tree : List SourceMemory → Parameters → Tree
made_tree scripts p = tree_after empty_tree (flat_map (λ source. lines source.left) scripts) p

-- Two disks have the images of the trees of their scripts, and read the same bytes exactly where these trees are equal.
pub record EqualContentsEqualBytes (first_scripts second_scripts : List SourceMemory) (p : Parameters)
    (first second : Disk) : Type 0 where
  pub first_image : HasImage first (made_tree first_scripts p) p
  pub second_image : HasImage second (made_tree second_scripts p) p
  pub equal : (bytes_of first ≡ bytes_of second) ↔ (made_tree first_scripts p ≡ made_tree second_scripts p)

-- no call of the disk and the sink failed
pub record SparesCounts (disk : Disk) (sink : SinkMemory) (after : Ended) : Type 0 where
  pub disk_faults : (meaning after.disk).faults ≡ (meaning disk).faults
  pub sink_faults : after.sink.faults ≡ sink.faults

-- Scripts were run on the image of a tree, and this run, of one of these, was the first that did not end with 0: a
-- call failed, the script was too long, or memory ran out.
pub record StopsRuns (disk : Disk) (IsScript : SourceMemory → Type 0) (sink : SinkMemory) (ended : Ended) : Type 0 where
  -- it ended with 3, 4, 5, 6 or 9
  pub ends : IsStopOf words.Run ended.status
  -- with 5 one call of the disk failed since the first run, with 4 one of the sink, and with 3 one of the script
  pub disk_fault : ended.status ≡ statuses.DiskFault → (meaning ended.disk).faults ≡ raised (meaning disk).faults
  pub sink_fault : ended.status ≡ statuses.SinkFault → ended.sink.faults ≡ raised sink.faults
  pub source_fault : ended.status ≡ statuses.SourceFault
      → (script : SourceMemory) × IsScript script × (ended.source.faults ≡ raised script.faults)
  -- with 6 it is longer than one may be
  pub too_long : ended.status ≡ statuses.TooLong
      → (script : SourceMemory) × IsScript script × (script_limit < length script.left)

-- A disk was not formatted: it has another length than the image, or begins as one, a call of it failed, or memory
-- ran out.
pub record StopsFormat (p : Parameters) (disk : Disk) (ended : Ended) : Type 0 where
  -- it ended with 5, 9, 10 or 11
  pub ends : IsStopOf words.Format ended.status
  pub disk_fault : ended.status ≡ statuses.DiskFault → (meaning ended.disk).faults ≡ raised (meaning disk).faults
  pub already_image : ended.status ≡ statuses.AlreadyImage → slice_index (bytes_of disk) 0 ≡ first_byte
  pub wrong_length : ended.status ≡ statuses.WrongLength → (meaning disk).size ≢ image_len p.slots

-- An image was not made: the format was the first call that did not end with 0, or one of the runs after it.
abbrev pub StopsMaking : Parameters → Disk → List SourceMemory → SinkMemory → Ended → Type 0
StopsMaking p disk scripts sink ended = StopsFormat p disk ended
    ⊎ StopsRuns disk (λ script. Contains scripts script) sink ended
