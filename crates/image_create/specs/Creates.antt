-- What making an image of a folder does.
use Rattle.std.specs.Prelude.{◌≡◌, ◌≢◌, ◌⊎◌, ℕ, ◌-◌, ◌^◌, ◌<◌, ◌≤◌, Bool, true, List, length, map}
use Rattle.std.specs.Prelude.{Some, Ok, Err}
use Rattle.std.specs.List.{Contains}
use Rattle.store_base.specs.Counts.{raised}
use Rattle.store_model.specs.declared.version.Version.TheVariants.{Two}
use Rattle.store_model.specs.Parameters.{Parameters, IsParameters}
use Rattle.store_model.specs.Paths.{Path}
use Rattle.store_model.specs.Trees.{Tree, Attributes, IsTree}
use Rattle.store_model.specs.Pairs.{pairs}
use Rattle.store_model.specs.Pages.{page_count}
use Rattle.store_model.specs.Images.{layout}
use Rattle.disk_model.specs.DiskState.{DiskState}
use Rattle.layout_scratch.specs.Sorting.{sorted_limit}
use Rattle.image_writer.specs.Sealing.{Becomes}
use Rattle.image_writer.specs.Writing.{StaysNone}
use Rattle.dump_streams.specs.Dumps.{DumpStep, dump}
use Rattle.dump_streams.specs.Reading.{BreaksOff}
use Rattle.host_folders.specs.FolderState.{FolderState, IsObservable, whole_files}
use Rattle.host_folders.specs.Packed.{HasFiles, ReadsFiles, AsksFor}
use Rattle.host_folders.specs.declared.found.Found.{Found}
use Rattle.tree_writer.specs.Faults.{WasNone}
use Rattle.image_create.specs.Ladder.{ladder_of}
use Rattle.image_create.specs.declared.fault.CreateFault.{CreateFault}
use Rattle.image_create.specs.declared.fault.CreateFault.TheVariants as creates

-- From one moment to a later one the folder told what its files hold in which these entries were found, and where its
-- links lead: they are this tree, and no call failed.
pub record TellsTree (old new : FolderState) (found : List Found) (t : Tree) : Type 0 where
  pub is_tree : IsTree t
  pub files : List (Path × List ℕ)
  pub links : List (Path × List ℕ)
  pub entries : HasFiles found files links t
  pub faults : new.faults ≡ old.faults
  pub told : IsObservable old → ReadsFiles old new (whole_files files) links

-- the slots are those that follow from the pages of the tree, if they are to be
abbrev pub HasItsSlots : Parameters → Bool → Tree → Type 0
HasItsSlots p is_laddered t = is_laddered ≡ true → ladder_of (page_count t p) ≡ Some p.slots

-- The image of a folder was made: the folder told a tree, which fits the slots, and they are those that follow from it
-- where they are to be. Where the disk was no image it is now that of the tree, durably, and each block was written
-- once.
pub record MakesImage (p : Parameters) (is_laddered : Bool) (found : List Found) (folder folder' : FolderState)
    (disk disk' : DiskState) : Type 0 where
  pub valid : IsParameters p
  pub tree : Tree
  pub told : TellsTree folder folder' found tree
  pub fits : page_count tree p ≤ p.slots
  pub slots : HasItsSlots p is_laddered tree
  pub becomes : WasNone disk → Becomes {T = Unit {0}} {E = CreateFault} p (layout tree p) disk disk' (Ok tt)

-- ---- why it was not made

-- the folder told a tree that has so many pages, more than there are slots
pub record IsTooLarge (p : Parameters) (found : List Found) (folder folder' : FolderState) (need slots : ℕ)
    : Type 0 where
  pub tree : Tree
  pub told : TellsTree folder folder' found tree
  pub need_is : need ≡ page_count tree p
  pub slots_is : slots ≡ p.slots
  pub more : slots < need

-- the folder told a tree from which other slots follow, or none
pub record HasOtherSlots (p : Parameters) (found : List Found) (folder folder' : FolderState) : Type 0 where
  pub tree : Tree
  pub told : TellsTree folder folder' found tree
  pub slots : ladder_of (page_count tree p) ≢ Some p.slots

-- what the folder tells at this path asks for a step with which no dump goes on
pub record IsNoEntry (path : Path) : Type 0 where
  pub found : Found
  pub path_is : path ≡ found.path
  pub attributes : Attributes
  pub tree : Tree
  pub step : DumpStep
  pub asks : AsksFor found attributes step
  pub breaks_off : (p : Parameters) → p.version ≡ Two → BreaksOff tree step p

-- something was found at this path
abbrev pub IsFoundAt : List Found → Path → Type 0
IsFoundAt found path = Contains (map (λ f. f.path) found) path

-- a tree has more pairs than are counted, or its dump more steps than are led on
pub record IsTooMany (p : Parameters) : Type 0 where
  pub tree : Tree
  pub is_tree : IsTree tree
  pub many : (sorted_limit < length (pairs tree p)) ⊎ (2 ^ 64 - 1 ≤ length (dump tree))

-- Why: of the folder a call failed exactly where it is blamed.
abbrev pub IsCause : Parameters → Bool → List Found → FolderState → FolderState → CreateFault → Type 0
IsCause p is_laddered found folder folder' creates.Disk = folder'.faults ≡ folder.faults
IsCause p is_laddered found folder folder' creates.NoMemory = folder'.faults ≡ folder.faults
IsCause p is_laddered found folder folder' (creates.Full need slots) = IsTooLarge p found folder folder' need slots
IsCause p is_laddered found folder folder' creates.Unreadable = folder'.faults ≡ raised folder.faults
IsCause p is_laddered found folder folder' (creates.Moving path) =
    (folder'.faults ≡ folder.faults) × (IsNoEntry path ⊎ IsFoundAt found path)
IsCause p is_laddered found folder folder' creates.OtherSlots =
    (is_laddered ≡ true) × HasOtherSlots p found folder folder'
IsCause p is_laddered found folder folder' creates.TooMany = (folder'.faults ≡ folder.faults) × IsTooMany p

-- the folder told a tree whose image was written as far as the disk went, and a crash leaves no image or that one
pub record FailsToBecome (p : Parameters) (found : List Found) (folder folder' : FolderState) (disk disk' : DiskState)
    : Type 0 where
  pub tree : Tree
  pub told : TellsTree folder folder' found tree
  pub becomes : Becomes {T = Unit {0}} {E = CreateFault} p (layout tree p) disk disk' (Err creates.Disk)

-- what is on the disk then: no image, nor is one left by a crash; but where the disk failed at the end, maybe the whole
abbrev pub LeavesNone : Parameters → List Found → FolderState → FolderState → DiskState → DiskState → CreateFault
    → Type 0
LeavesNone p found folder folder' disk disk' creates.Disk =
    StaysNone disk disk' ⊎ FailsToBecome p found folder folder' disk disk'
LeavesNone p found folder folder' disk disk' creates.NoMemory = StaysNone disk disk'
LeavesNone p found folder folder' disk disk' (creates.Full need slots) = StaysNone disk disk'
LeavesNone p found folder folder' disk disk' creates.Unreadable = StaysNone disk disk'
LeavesNone p found folder folder' disk disk' (creates.Moving path) = StaysNone disk disk'
LeavesNone p found folder folder' disk disk' creates.OtherSlots = StaysNone disk disk'
LeavesNone p found folder folder' disk disk' creates.TooMany = StaysNone disk disk'

-- No image was made, for this reason.
pub record IsUnmade (p : Parameters) (is_laddered : Bool) (found : List Found) (folder folder' : FolderState)
    (disk disk' : DiskState) (fault : CreateFault) : Type 0 where
  pub cause : IsCause p is_laddered found folder folder' fault
  pub none : WasNone disk → LeavesNone p found folder folder' disk disk' fault
