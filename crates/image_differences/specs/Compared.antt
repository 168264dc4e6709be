-- The differences of two trees, and why what was to be compared was not read.
use Rattle.std.specs.Prelude.{◌≡◌, ◌↔◌, []}
use Rattle.store_model.specs.Trees.{Tree}
use Rattle.disk_model.specs.DiskState.{DiskState}
use Rattle.dump_diff.specs.declared.differences.Differences.{Differences}
use Rattle.dump_diff.specs.Differences.{AreDifferences, marks_of}
use Rattle.dump_diff.specs.Scripts.{sides_of}
use Rattle.dump_diff.specs.Sides.{AreAttributeDifferences}
use Rattle.image_reads.specs.declared.fault.ReadFault.{ReadFault}
use Rattle.image_reads.specs.declared.fault.ReadFault.TheVariants as reads
use Rattle.image_reads.specs.Reads.{IsUnread}
use Rattle.image_reads.specs.StoreReads.{IsStoreFault}

-- The differences of two trees, in their attributes too. There is no mark exactly where the trees are equal.
pub record TellTrees (one other : Tree) (found : Differences) : Type 0 where
  pub marks : AreDifferences one other (marks_of found.paths.items)
  pub attributes : AreAttributeDifferences one other (marks_of found.paths.items) (sides_of found.attributes.items)
  pub equal : (marks_of found.paths.items ≡ []) ↔ (one ≡ other)

-- the image on a disk was not read to its end, for this reason; nothing was put out
pub record IsBlamed (old new : DiskState) (fault : ReadFault) : Type 0 where
  pub unread : IsUnread old new fault
  pub not_output : fault ≡ reads.Output → ⊥

-- the store on a disk was not read to its end, for this reason
pub record IsStoreBlamed (old new : DiskState) (fault : ReadFault) : Type 0 where
  pub store : IsStoreFault old new fault
  pub not_output : fault ≡ reads.Output → ⊥
