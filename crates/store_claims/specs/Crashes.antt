-- What a crash of a call that answers a script leaves to the next run. The texts of its answers, one for each line,
-- and the trees after so many lines are those of its subcommand.
use Rattle.std.specs.Prelude.{◌≡◌, ◌⊎◌, ◌+◌, ℕ, List, [], ◌++◌, take, drop}
use Rattle.std.specs.List.{concat}
use Rattle.store_model.specs.Parameters.{Parameters}
use Rattle.store_model.specs.Trees.{Tree}
use Rattle.disk_model.specs.Memory.{Memory, memory_state}
use Rattle.script_lines.specs.Memory.{SinkMemory}
use Rattle.image_subcommands.specs.declared.status.Status.TheVariants as statuses
use Rattle.store_claims.specs.declared.crash.Crash.{Crash}
use Rattle.store_claims.specs.Machines.{Disk, Ended, HasImage, MayLeave, MightHaveLeft, RepresentsSomeTree, meaning}

-- So many texts were written whole, and of the next one a part from its front on, which may be none or all of it.
pub record WroteReplies (count : ℕ) (texts : List (List ℕ)) (before after : List ℕ) : Type 0 where
  pub part : List ℕ
  pub rest : List ℕ
  pub next_is : concat (take 1 (drop count texts)) ≡ part ++ rest
  pub written_is : after ≡ before ++ (concat (take count texts) ++ part)

-- An image that was left is of the tree after some lines of the script, at most so many, and the disk of the run behind
-- it has the image of this very tree where the run ended with 0.
pub record LeavesSomeTree (limit : ℕ) (trees : ℕ → Tree) (p : Parameters) (left : List ℕ) (next : Ended) : Type 0 where
  pub before : RepresentsSomeTree limit trees p left
  pub image : next.status ≡ statuses.Done → HasImage next.disk (trees before.count) p

-- The disk has the image of the tree after just the lines whose replies were written, or after one line more; the one
-- of whose reply any byte was written is among them.
pub record HasRepliedLines (texts : List (List ℕ)) (trees : ℕ → Tree) (p : Parameters) (before after : List ℕ)
    (disk : Disk) : Type 0 where
  pub count : ℕ
  pub replied : WroteReplies count texts before after
  pub image : HasImage disk (trees count) p ⊎ HasImage disk (trees (count + 1)) p
  pub in_part : (replied.part ≡ []) ⊎ HasImage disk (trees (count + 1)) p

-- no call of the disk, the source and the sink failed, from the start on
pub record NeverFailed (ended : Ended) : Type 0 where
  pub disk_faults : (meaning ended.disk).faults ≡ 0
  pub source_faults : ended.source.faults ≡ 0
  pub sink_faults : ended.sink.faults ≡ 0

-- A run of no line on an image of the tree: where it ended with 0 the disk has the tree's image, and it does so where
-- no call of it failed and memory was there.
pub record RunsBehind (t : Tree) (p : Parameters) (next : Ended) : Type 0 where
  pub image : next.status ≡ statuses.Done → HasImage next.disk t p
  pub recovers : NeverFailed next → (next.status ≡ statuses.Done) ⊎ (next.status ≡ statuses.NoMemory)

-- A call that answers a script on this disk was cut short, and a run of no line was made on this image, which a crash
-- left. Where the run ended with 0:
pub record LosesNothing (texts : List (List ℕ)) (trees : ℕ → Tree) (p : Parameters) (disk : Memory) (sink : SinkMemory)
    (left : List ℕ) (crash : Crash) : Type 0 where
  -- of an image that a crash after the first call may leave
  pub acknowledged : MayLeave crash.first.disk left → crash.next.status ≡ statuses.Done
      → HasRepliedLines texts trees p sink.written crash.first.sink.written crash.next.disk
  -- it does so where no call of it failed and memory was there
  pub recovers : MightHaveLeft (memory_state disk).clock crash.first.disk left → NeverFailed crash.next
      → (crash.next.status ≡ statuses.Done) ⊎ (crash.next.status ≡ statuses.NoMemory)
  -- of one that a crash at some moment of it may leave: it is of the tree after some lines, at most one more than
  -- were carried out, and the run leaves the image of the same tree
  pub any_moment : MightHaveLeft (memory_state disk).clock crash.first.disk left
      → LeavesSomeTree (crash.first.done + 1) trees p left crash.next
