-- What the calls of a store do.
use Rattle.std.specs.Prelude.{◌≡◌, ◌↔◌, ◌⊎◌, true, false, List, Result, Ok, Err, IfOk, IfErr, OnOk, OnErr}
use Rattle.store_model.specs.declared.version.Version.TheVariants.{One, Two}
use Rattle.store_model.specs.Parameters.{Parameters, with_version}
use Rattle.store_model.specs.Trees.{Tree}
use Rattle.store_model.specs.Images.{Represents}
use Rattle.store_model.specs.Commands.{Command}
use Rattle.store_model.specs.Steps.{step}
use Rattle.disk_model.specs.DiskState.{DiskState, IsObservable}
use Rattle.disk_model.specs.DiskCalls.{LeavesOnly}
use Rattle.gate_journal.specs.Phases.{HasEmptyJournal}
use Rattle.gate_journal.specs.Places.{Made}
use Rattle.gate_journal.specs.Disks.{KeepsDisk, IsUnwritten, IsOnlySynced}
use Rattle.gate_journal.specs.Costs.{opening_writes, opening_syncs, MadeAtMost}
use Rattle.gate_journal.specs.Headers.{HasParameters}
use Rattle.image_check.specs.Verdicts.{IsNoImage, IsDamaged}
use Rattle.script_lines.specs.declared.reply.Reply.{Reply}
use Rattle.script_lines.specs.Replies.{reply_of}
use Rattle.image_check.specs.declared.fault.AttachFault.{AttachFault}
use Rattle.image_check.specs.declared.fault.AttachFault.TheVariants as attach
use Rattle.image_check.specs.declared.fault.ApplyFault.{ApplyFault}
use Rattle.image_check.specs.declared.fault.ApplyFault.TheVariants as apply
use Rattle.image_check.specs.Faults.{attach_faults_by, apply_faults_after}
use Rattle.image_check.specs.Standing.{IsFitting, Stands}
use Rattle.staged_tree.specs.declared.group.GroupAnswer.{GroupAnswer}
use Rattle.staged_tree.specs.Groups.{group_tree, IsGroupAnswer}
use Rattle.staged_tree.specs.ImageChanges.{ChangesImage, UpgradesImage}
use Rattle.store_core.specs.StoreState.{StoreState}

-- ---- attach

-- The image represented the tree, and the disk stands at it.
pub record IsOpened (t : Tree) (p : Parameters) (old new : DiskState) : Type 0 where
  pub represents : Represents old.bytes t p
  pub stands : Stands new t p
  -- a crash leaves an image that one before the call might have left, or one that represents the tree
  pub crash : LeavesOnly old new (λ image. old.crash_images image ⊎ Represents image t p)
  -- just the writes and syncs were made that its journal takes, and with an empty journal no write
  pub counts : Made (opening_writes p.slots old.bytes) (opening_syncs p.slots old.bytes) old new
  pub unwritten : HasEmptyJournal p.slots old.bytes → IsUnwritten old new

-- The disk was taken as a store.
pub record IsAttached {D : Type 0} (state : D → DiskState) (old : DiskState) (store : StoreState D) : Type 0 where
  pub kept : KeepsDisk old (state store.disk)
  pub faults : (state store.disk).faults ≡ old.faults
  pub runs : store.is_stopped ≡ false
  -- its parameters are the image's, and its tree is one that fits
  pub has_parameters : HasParameters old store.params
  pub fitting : IsFitting store.tree store.params
  pub observed : IsObservable old → IsOpened store.tree store.params old (state store.disk)

-- The disk of an image that represents a tree was not taken as a store. It represents the tree still, and so does
-- each image that a crash leaves, unless one before the call might have left it. No more writes and syncs were made
-- than opening it takes.
pub record KeepsImage (t : Tree) (p : Parameters) (old : DiskState) (fault : AttachFault)
    (new : DiskState) : Type 0 where
  pub not_image : fault ≡ attach.NotImage → ⊥
  pub damaged : fault ≡ attach.Damaged → ⊥
  pub represents : Represents new.bytes t p
  pub crash : LeavesOnly old new (λ image. old.crash_images image ⊎ Represents image t p)
  pub limit : MadeAtMost (opening_writes p.slots old.bytes) (opening_syncs p.slots old.bytes) old new

-- Nothing was written, and each image that a crash leaves is one that a crash before the call might have left.
pub record LeavesImage (old new : DiskState) : Type 0 where
  pub synced : IsOnlySynced old new
  pub crash : LeavesOnly old new old.crash_images

-- The disk was not taken as a store, for this fault.
pub record IsRefused (old : DiskState) (fault : AttachFault) (new : DiskState) : Type 0 where
  pub kept : KeepsDisk old new
  pub faults : new.faults ≡ attach_faults_by fault old.faults
  pub not_image : fault ≡ attach.NotImage → IsNoImage old
  pub damaged : fault ≡ attach.Damaged → IsDamaged old
  -- nothing was written, unless the disk failed
  pub unwritten : IsObservable old → (fault ≡ attach.Disk → ⊥) → LeavesImage old new
  -- and the image was looked at after just one sync, where that told the reason
  pub looked : IsObservable old → (fault ≡ attach.NotImage) ⊎ (fault ≡ attach.Damaged) → Made 0 1 old new
  -- an image that represents a tree keeps it, and one that represents none is left as it was, whatever the fault
  pub represented : IsObservable old → (t : Tree) (p : Parameters) → Represents old.bytes t p
      → KeepsImage t p old fault new
  pub unrepresented : IsObservable old → ((t : Tree) (p : Parameters) → Represents old.bytes t p → ⊥)
      → LeavesImage old new

-- A disk is taken as a store, or handed back with the reason why not.
pub record Attaches {D : Type 0} (state : D → DiskState) (old : DiskState)
    (result : Result (StoreState D) (AttachFault × D)) : Type 0 where
  pub attached : IfOk result (IsAttached state old)
  pub refused : IfErr result (λ refused. IsRefused old refused.0 (state refused.1))

-- ---- a step

-- A store takes a step: from its tree it goes on to the next one and answers as is meant, or it fails. A command is
-- such a step, and so is a group of changes.
pub record StepsStore {D A : Type 0} (state : D → DiskState) (next : Tree) (IsAnswer : A → Type 0)
    (old new : StoreState D) (result : Result A ApplyFault) : Type 0 where
  pub params : new.params ≡ old.params
  pub kept : KeepsDisk (state old.disk) (state new.disk)
  pub faults : (state new.disk).faults ≡ apply_faults_after (state old.disk).faults result
  -- a stopped store answers so and does nothing, and no other answers so
  pub stopped : (result ≡ Err apply.Stopped) ↔ (old.is_stopped ≡ true)
  pub still : old.is_stopped ≡ true → new ≡ old
  -- over an observable disk the answer and the tree are those meant; a fault leaves the tree of any
  pub answer : IsObservable (state old.disk) → IfOk result IsAnswer
  pub tree : IsObservable (state old.disk) → OnOk result (new.tree ≡ next)
  pub fault : OnErr result (new.tree ≡ old.tree)
  -- of a disk that is not observable nothing is known, and the tree stays
  pub hidden : (IsObservable (state old.disk) → ⊥) → new.tree ≡ old.tree
  -- only a fault of the disk stops it
  pub runs : old.is_stopped ≡ false → (result ≡ Err apply.Disk → ⊥) → new.is_stopped ≡ false
  pub observed : IsObservable (state old.disk) → old.is_stopped ≡ false
      → ChangesImage old.tree next old.params (state old.disk) (state new.disk) new.is_stopped result

-- A store carries out a command, as the definitions' step does.
abbrev pub Applies : {D : Type 0} → (D → DiskState) → Command → StoreState D → StoreState D
    → Result Reply ApplyFault → Type 0
Applies state command old new result =
    StepsStore state (step old.tree command old.params).tree (λ reply. reply_of reply
    ≡ (step old.tree command old.params).reply) old new result

-- A store carries out a group of changes, one after another and together, or none of them.
abbrev pub AppliesAll : {D : Type 0} → (D → DiskState) → List Command → StoreState D → StoreState D
    → Result GroupAnswer ApplyFault → Type 0
AppliesAll state changes old new result =
    StepsStore state (group_tree old.params old.tree changes) (IsGroupAnswer old.params old.tree changes) old new result

-- ---- upgrade

-- A store makes its image one of version 2 that holds the same tree.
pub record Upgrades {D : Type 0} (state : D → DiskState) (old new : StoreState D)
    (result : Result (Unit {0}) ApplyFault) : Type 0 where
  -- after Ok the parameters have version 2, and after a fault they are those of before
  pub params : OnOk result (new.params ≡ with_version old.params Two)
  pub params_stay : OnErr result (new.params ≡ old.params)
  pub tree : new.tree ≡ old.tree
  pub kept : KeepsDisk (state old.disk) (state new.disk)
  pub faults : (state new.disk).faults ≡ apply_faults_after (state old.disk).faults result
  -- a stopped store answers so and does nothing, and no other answers so
  pub stopped : (result ≡ Err apply.Stopped) ↔ (old.is_stopped ≡ true)
  pub still : old.is_stopped ≡ true → new ≡ old
  -- with version 2 nothing is to be done, and nothing is called
  pub idle : old.is_stopped ≡ false → old.params.version ≡ Two → (result ≡ Ok tt) × (new ≡ old)
  -- only a fault of the disk stops it
  pub runs : old.is_stopped ≡ false → (result ≡ Err apply.Disk → ⊥) → new.is_stopped ≡ false
  pub observed : IsObservable (state old.disk) → old.is_stopped ≡ false → old.params.version ≡ One
      → UpgradesImage old.tree old.params (state old.disk) (state new.disk) new.is_stopped result
