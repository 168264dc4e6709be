-- What came of a folder's stream, and was written of it.
use Rattle.std.specs.Prelude.{◌≡◌, ◌≢◌, ◌⊎◌, ℕ, ◌<◌, ◌≤◌, List, [], ◌∷◌, ◌++◌, map, Option, Some}
use Rattle.std.specs.Prelude.{IfSome, Result, Ok, Err, Bool, true, false, None, length, ⊤}
use Rattle.std.specs.Bool.{OnTrue, OnFalse}
use Rattle.std.specs.List.{Contains}
use Rattle.store_base.specs.Counts.{raised}
use Rattle.store_model.specs.Parameters.{Parameters}
use Rattle.store_model.specs.Paths.{Path}
use Rattle.store_model.specs.Trees.{Tree, Entry}
use Rattle.store_model.specs.Pairs.{pairs}
use Rattle.store_model.specs.Pages.{page_count}
use Rattle.store_model.specs.Images.{layout}
use Rattle.disk_model.specs.DiskState.{DiskState}
use Rattle.layout_scratch.specs.Sorting.{sorted_limit}
use Rattle.image_writer.specs.Sealing.{Becomes}
use Rattle.image_writer.specs.Writing.{StaysNone}
use Rattle.dump_streams.specs.Dumps.{DumpStep, after_step, step_path}
use Rattle.dump_streams.specs.Streams.{Extends}
use Rattle.host_folders.specs.FolderState.{FolderState}
use Rattle.host_folders.specs.Packed.{CameOf, IsPacked}
use Rattle.host_folders.specs.declared.stream.FolderStream.{FolderStream}
use Rattle.tree_writer.specs.Faults.{WasNone}
use Rattle.tree_writer.specs.Told.{EndsInFile, FirstDiffers}
use Rattle.tree_writer.specs.Writing.{WritesTree}
use Rattle.tree_writer.specs.declared.writer.TreeWriter.{TreeWriter}
use Rattle.image_create.specs.Creates.{IsNoEntry, IsFoundAt, IsTooMany}
use Rattle.image_create.specs.Ladder.{ladder_of}
use Rattle.image_create.specs.declared.fault.CreateFault.{CreateFault}
use Rattle.image_create.specs.declared.fault.CreateFault.TheVariants as creates

-- the last path of the tree is this one, if the tree has one
abbrev pub IsLastPath : Tree → Path → Type 0
IsLastPath t last = (front : Tree) (path : Path) (e : Entry) → t ≡ front ++ (path, e) ∷ [] → path ≡ last

-- it is a path of the tree
abbrev pub IsPathOf : Tree → Path → Type 0
IsPathOf t path = Contains (map (λ e. e.0) t) path

-- the stream came whole, its tree was written, and this is its last path
pub record IsLed {F : Type 0} (state_of : F → FolderState) (p : Parameters) (stream : FolderStream F)
    (start now : DiskState) (writer : TreeWriter) (last : Path) : Type 0 where
  pub tree : Tree
  pub packed : IsPacked state_of stream tree
  pub writes : WritesTree p tree start now writer
  pub last_is : IsLastPath tree last

-- no call of the folder failed
abbrev pub IsCalm : {F : Type 0} → (F → FolderState) → FolderStream F → Type 0
IsCalm state_of stream = (state_of stream.folder).faults ≡ (state_of stream.first.value).faults

-- why not all of the stream was written
abbrev pub IsStopped : {F : Type 0} → (F → FolderState) → Parameters → FolderStream F → CreateFault → Type 0
IsStopped state_of p stream creates.Disk = IsCalm state_of stream
IsStopped state_of p stream creates.NoMemory = IsCalm state_of stream
IsStopped state_of p stream (creates.Full need slots) = ⊥
IsStopped state_of p stream creates.Unreadable =
    (state_of stream.folder).faults ≡ raised (state_of stream.first.value).faults
IsStopped state_of p stream (creates.Moving path) =
    IsCalm state_of stream × (IsNoEntry path ⊎ IsFoundAt stream.found.items path)
IsStopped state_of p stream creates.OtherSlots = ⊥
IsStopped state_of p stream creates.TooMany = IsCalm state_of stream × IsTooMany p

-- one more step came, or the stream is whole
pub record Comes {F : Type 0} (state_of : F → FolderState) (stream : FolderStream F) (t : Tree) (s : DumpStep)
    (is_there : Bool) : Type 0 where
  pub came : OnTrue is_there (CameOf state_of stream (after_step t s))
  pub extends : OnTrue is_there (Extends t s)
  pub packed : OnFalse is_there (IsPacked state_of stream t)

-- the last path of the tree is this one, a file of other than so many bytes
pub record LastDiffersAt (t : Tree) (told : ℕ) (path : Path) : Type 0 where
  pub front : Tree
  pub bytes : List ℕ
  pub ends : EndsInFile t front path bytes
  pub differs : length bytes ≢ told

-- the step begins a file at this path that has other than so many bytes
pub record FirstDiffersAt (s : DumpStep) (told : ℕ) (path : Path) : Type 0 where
  pub differs : FirstDiffers s told
  pub path_is : path ≡ step_path s

-- why a step behind a tree was not taken with which so many bytes were told, where the last file was told to have so
-- many
abbrev pub IsUntaken : Parameters → Tree → DumpStep → ℕ → ℕ → CreateFault → Type 0
IsUntaken p t s told before creates.Disk = ⊤
IsUntaken p t s told before creates.NoMemory = ⊤
IsUntaken p t s told before (creates.Full need slots) = ⊥
IsUntaken p t s told before creates.Unreadable = ⊥
IsUntaken p t s told before (creates.Moving path) = LastDiffersAt t before path ⊎ FirstDiffersAt s told path
IsUntaken p t s told before creates.OtherSlots = ⊥
IsUntaken p t s told before creates.TooMany = sorted_limit < length (pairs (after_step t s) p)

-- ---- how it ends

-- the slots that are wanted, if the image is to have those that follow from its tree
abbrev pub wanted_of : Bool → ℕ → Option ℕ
wanted_of true slots = Some slots
wanted_of false slots = None

-- these slots follow from the pages of the tree
abbrev pub FollowFrom : Parameters → Tree → ℕ → Type 0
FollowFrom p t slots = ladder_of (page_count t p) ≡ Some slots

-- the tree fits, its slots are those that are wanted, and the disk became its image
pub record IsFinished (p : Parameters) (wanted : Option ℕ) (t : Tree) (start now : DiskState) : Type 0 where
  pub fits : page_count t p ≤ p.slots
  pub slots : IfSome wanted (FollowFrom p t)
  pub becomes : WasNone start → Becomes {T = Unit {0}} {E = CreateFault} p (layout t p) start now (Ok tt)

-- the tree has so many pages, which do not fit
pub record IsOver (p : Parameters) (t : Tree) (need slots : ℕ) : Type 0 where
  pub need_is : need ≡ page_count t p
  pub slots_is : slots ≡ p.slots
  pub more : slots < need

-- other slots are wanted than those that follow from the tree
pub record WantsOthers (p : Parameters) (wanted : Option ℕ) (t : Tree) : Type 0 where
  pub slots : ℕ
  pub wanted_is : wanted ≡ Some slots
  pub others : FollowFrom p t slots → ⊥

-- why it was not finished, and what is on the disk then
abbrev pub EndsBy : Parameters → Option ℕ → Tree → DiskState → DiskState → CreateFault → Type 0
EndsBy p wanted t start now creates.Disk =
    WasNone start → Becomes {T = Unit {0}} {E = CreateFault} p (layout t p) start now (Err creates.Disk)
EndsBy p wanted t start now creates.NoMemory = ⊥
EndsBy p wanted t start now (creates.Full need slots) = IsOver p t need slots × (WasNone start → StaysNone start now)
EndsBy p wanted t start now creates.Unreadable = ⊥
EndsBy p wanted t start now (creates.Moving path) =
    IsPathOf t path × (WasNone start → StaysNone start now)
EndsBy p wanted t start now creates.OtherSlots = WantsOthers p wanted t × (WasNone start → StaysNone start now)
EndsBy p wanted t start now creates.TooMany = ⊥

abbrev pub Ends : Parameters → Option ℕ → Tree → DiskState → DiskState → Result (Unit {0}) CreateFault → Type 0
Ends p wanted t start now (Ok done) = IsFinished p wanted t start now
Ends p wanted t start now (Err fault) = EndsBy p wanted t start now fault
