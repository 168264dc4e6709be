-- What a writer of a tree knows of the steps that came, and what it wrote of their pairs.
use Rattle.std.specs.Prelude.{◌≡◌, ◌⊎◌, ℕ, ◌<◌, List, length, Result, OnOk, IfErr, ⊤}
use Rattle.store_model.specs.Parameters.{Parameters}
use Rattle.store_model.specs.Trees.{Tree}
use Rattle.store_model.specs.Pairs.{Pair, pairs}
use Rattle.store_model.specs.Pages.{IsTreeUnder}
use Rattle.disk_model.specs.DiskState.{DiskState}
use Rattle.gate_journal.specs.Places.{AreCalls}
use Rattle.layout_scratch.specs.Sorting.{sorted_limit}
use Rattle.dump_streams.specs.Dumps.{DumpStep, after_step}
use Rattle.dump_streams.specs.Reading.{GoesOn}
use Rattle.image_writer.specs.Writing.{CountsPairs, StaysNone}
use Rattle.tree_writer.specs.declared.fault.TreeFault.{TreeFault}
use Rattle.tree_writer.specs.declared.fault.TreeFault.TheVariants as faults
use Rattle.tree_writer.specs.declared.writer.TreeWriter.{TreeWriter}
use Rattle.tree_writer.specs.Faults.{tree_answer, WasNone}
use Rattle.tree_writer.specs.Pairs.{HasPairs}
use Rattle.tree_writer.specs.Told.{AreTold, LastDiffers, FirstDiffers, told_after}

-- the pairs of just this tree came to the writer, in the middle of a file with the length that was told of it
pub record HoldsTree (p : Parameters) (t : Tree) (writer : TreeWriter) : Type 0 where
  pub came : List Pair
  pub told_are : AreTold t p writer.got writer.told came
  pub counts : CountsPairs p came writer.pairs.image

-- The writer began at the first moment, and the steps of the dump of this tree came since, and no others. At the second
-- moment it has written of the tree's pairs what no later step changes, and never the first byte.
pub record WritesTree (p : Parameters) (t : Tree) (start now : DiskState) (writer : TreeWriter) : Type 0 where
  pub under : IsTreeUnder t p
  pub holds : HoldsTree p t writer
  pub has : HasPairs p holds.came start now writer.pairs

-- how many bytes the last file was told to have
abbrev pub told_of : TreeWriter → ℕ
told_of writer = writer.told

-- Why a step behind a tree is not taken, with which so many bytes are told, where the last file was told to have so
-- many: the file that ends has other bytes, or the one that begins; or there would be too many pairs.
abbrev pub FailsAt : Parameters → Tree → DumpStep → ℕ → ℕ → TreeFault → Type 0
FailsAt p t s told before faults.Disk = ⊤
FailsAt p t s told before faults.NoMemory = ⊤
FailsAt p t s told before (faults.Full need slots) = ⊥
FailsAt p t s told before faults.Changed = LastDiffers t before ⊎ FirstDiffers s told
FailsAt p t s told before faults.TooMany = sorted_limit < length (pairs (after_step t s) p)

-- why a tree that fits is not finished, where the last file was told to have so many bytes: the disk failed, or the
-- file has other bytes
abbrev pub FailsLast : Tree → ℕ → TreeFault → Type 0
FailsLast t told fault = (fault ≡ faults.Disk) ⊎ ((fault ≡ faults.Changed) × LastDiffers t told)

-- What taking a step does with which so many bytes are told, where it goes on with the dump of the tree that was
-- written: that of the next tree is written. Whatever the answer, the disk stays no image.
pub record TakesStep {D : Type 0} (state : D → DiskState) (step : DumpStep) (told : ℕ) (old_disk new_disk : D)
    (old new : TreeWriter) (result : Result (Unit {0}) TreeFault) : Type 0 where
  pub calls : AreCalls (state old_disk) (state new_disk) (tree_answer result)
  pub writes : (p : Parameters) (start : D) (t : Tree) → WritesTree p t (state start) (state old_disk) old
      → GoesOn t step p → OnOk result (WritesTree p (after_step t step) (state start) (state new_disk) new)
  pub told_is : OnOk result (told_of new ≡ told_after step told (told_of old))
  pub none : (p : Parameters) (start : D) (t : Tree) → WritesTree p t (state start) (state old_disk) old
      → GoesOn t step p → WasNone (state start) → StaysNone (state start) (state new_disk)
  pub faults : (p : Parameters) (start : D) (t : Tree) → WritesTree p t (state start) (state old_disk) old
      → GoesOn t step p → IfErr result (FailsAt p t step told (told_of old))
