-- What a scrub of an image ensures.
use Rattle.std.specs.Prelude.{◌≡◌, List, ℕ, Result, IfOk, IsErrOf}
use Rattle.store_model.specs.Parameters.{Parameters}
use Rattle.store_model.specs.Trees.{Tree, IsTree}
use Rattle.store_model.specs.Pages.{Fits}
use Rattle.store_model.specs.Images.{layout, scrubbed}
use Rattle.store_base.specs.declared.store_fault.Fault.{Fault}
use Rattle.store_base.specs.declared.store_fault.Fault.TheVariants.{NoMemory}
use Rattle.store_base.specs.Faults.{disk_faults_after}
use Rattle.disk_model.specs.DiskState.{DiskState, IsObservable}
use Rattle.gate_journal.specs.Disks.{KeepsDisk}
use Rattle.gate_journal.specs.Places.{ReadsOnly}
use Rattle.gate_journal.specs.ViewState.{viewed}
use Rattle.image_check.specs.declared.verdict.Verdict.{Verdict}
use Rattle.image_check.specs.declared.verdict.Verdict.TheVariants as verdicts
use Rattle.layout_conditions.specs.Conditions.{MeetConditions}
use Rattle.gate_journal.specs.Headers.{IsImageWith, HasParameters}
use Rattle.image_check.specs.Verdicts.{clean_of, IsSlotsVerdict, IsNoImage}
use Rattle.image_check.specs.ImageCalls.{ReadsDisk}
use Rattle.scrub_free.specs.ScrubbedSlots.{scrubbed_slots}
use Rattle.scrub_free.specs.Scrubbing.{ScrubsImage, CountsScrub}

-- scrubbing leaves the layout of the tree, which is one and fits, under the parameters that the header names
pub record ScrubsTo (image : List ℕ) (t : Tree) (p : Parameters) : Type 0 where
  pub image_is : IsImageWith image p
  pub tree : IsTree t
  pub fits : Fits t p
  pub layout_is : scrubbed p.slots image ≡ layout t p

-- scrubbing leaves the layout of a tree, and the verdict is that on it
pub record ScrubsWith (image : List ℕ) (p : Parameters) (verdict : Verdict) : Type 0 where
  pub tree : Tree
  pub scrubs : ScrubsTo image tree p
  pub verdict_is : verdict ≡ clean_of tree p

-- a disk of an image's length; of an observable one scrubbing leaves the layout of a tree, with this verdict
pub record IsScrubbed (disk : DiskState) (verdict : Verdict) : Type 0 where
  pub params : Parameters
  pub has_parameters : HasParameters disk params
  pub scrubs : IsObservable disk → ScrubsWith disk.bytes params verdict

-- a disk of an image's length; of an observable one scrubbing leaves the layout of no tree
pub record IsBeyondScrubbing (disk : DiskState) : Type 0 where
  pub params : Parameters
  pub has_parameters : HasParameters disk params
  pub no_tree : IsObservable disk → (t : Tree) (p : Parameters) → ScrubsTo disk.bytes t p → ⊥

-- the verdict on what scrubbing leaves of a disk
abbrev pub IsScrubVerdict : DiskState → Verdict → Type 0
IsScrubVerdict disk (verdicts.Clean pages dirs files bytes) = IsScrubbed disk (verdicts.Clean pages dirs files bytes)
IsScrubVerdict disk verdicts.NotImage = IsNoImage disk
IsScrubVerdict disk verdicts.Damaged = IsBeyondScrubbing disk

-- the slots that scrubbing would leave of a disk
abbrev pub slots_after : Parameters → DiskState → List (List ℕ)
slots_after p disk = (scrubbed_slots (viewed p.slots disk)).slots

-- a check of the slots that scrubbing would leave
pub record ChecksScrubbed (p : Parameters) (old new : DiskState) (result : Result Verdict Fault) : Type 0 where
  pub reads : ReadsDisk old new result
  -- it takes no memory
  pub memory : IsErrOf result NoMemory → ⊥
  pub never : IfOk result (λ verdict. verdict ≡ verdicts.NotImage → ⊥)
  pub verdict : IsObservable old → IfOk result (IsSlotsVerdict (slots_after p old) p)
  pub clean : IsObservable old → (meets : MeetConditions (slots_after p old) p)
      → IfOk result (λ verdict. verdict ≡ clean_of meets.tree p)

-- A scrub of an image.
pub record Scrubs (old new : DiskState) (result : Result Verdict Fault) : Type 0 where
  pub kept : KeepsDisk old new
  -- each failed call is counted, and no other
  pub faults : new.faults ≡ disk_faults_after old.faults result
  -- it takes no memory
  pub memory : IsErrOf result NoMemory → ⊥
  -- the verdict is that on what scrubbing leaves
  pub verdict : IfOk result (IsScrubVerdict old)
  -- and where that is the layout of a tree it is that on the tree
  pub clean : IsObservable old → (t : Tree) (p : Parameters) → ScrubsTo old.bytes t p
      → IfOk result (λ verdict. verdict ≡ clean_of t p)
  -- where it is the layout of no tree nothing is written or synced
  pub only_read : IsObservable old → ((t : Tree) (p : Parameters) → ScrubsTo old.bytes t p → ⊥) → ReadsOnly old new
  -- and otherwise the image is scrubbed, with just the writes and syncs that this takes, as far as the counts go
  pub scrubs : IsObservable old → (t : Tree) (p : Parameters) → ScrubsTo old.bytes t p
      → ScrubsImage p.slots old new result
  pub counts : IsObservable old → (t : Tree) (p : Parameters) → ScrubsTo old.bytes t p
      → CountsScrub p.slots old new result
