-- What a writer of a tree leaves of a disk that was no image.
use Rattle.std.proofs.Common.{sym, subst}
use Rattle.store_model.specs.Parameters.{Parameters}
use Rattle.store_model.specs.Trees.{Tree}
use Rattle.disk_model.specs.DiskState.{DiskState, IsObservable, IsSound}
use Rattle.disk_model.proofs.Crashes.{LeavesOnly-refl}
use Rattle.gate_journal.specs.Formats.{NamesNoParameters}
use Rattle.gate_journal.proofs.Formatting.{no_image}
use Rattle.image_writer.specs.Writing.{StaysNone}
use Rattle.image_writer.proofs.Written.{stays_none}
use Rattle.tree_writer.specs.Faults.{WasNone}
use Rattle.tree_writer.specs.Writing.{WritesTree}
use Rattle.tree_writer.specs.declared.writer.TreeWriter.{TreeWriter}

-- before the tree is finished it is none
pub writes_none : (p : Parameters) (t : Tree) (start now : DiskState) (writer : TreeWriter)
    → WritesTree p t start now writer → WasNone start → StaysNone start now
writes_none p t start now writer writes was = stays_none p.slots start now was.1 (writes.has.writing.keeps was.0)

-- where nothing was done it is none
pub none_yet : (disk : DiskState) → (IsObservable disk → IsSound disk) → WasNone disk → StaysNone disk disk
none_yet disk sound was =
    let none = no_image disk.bytes was.1 in
    record {
      reads = none;
      crash = λ durable. LeavesOnly-refl disk NamesNoParameters (sound was.0)
          (λ image left. subst NamesNoParameters (sym (durable image left)) none);
    }
