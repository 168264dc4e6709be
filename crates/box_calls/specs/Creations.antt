-- What `create` promises.
use Rattle.std.specs.Prelude.{◌≡◌, ◌⊎◌, ℕ, Bool, true, false, List, [], Result, Ok, Err, OnOk, IfErr}
use Rattle.store_model.specs.Parameters.{Parameters}
use Rattle.store_model.specs.Trees.{empty_tree}
use Rattle.store_model.specs.Images.{layout}
use Rattle.disk_model.specs.DiskState.{DiskState}
use Rattle.script_lines.specs.SinkState.{SinkState, IsPut}
use Rattle.script_lines.specs.declared.fault.SinkFault.{SinkFault}
use Rattle.host_folders.specs.FolderState.{FolderState}
use Rattle.host_folders.specs.declared.found.Found.{Found}
use Rattle.image_check.specs.declared.contents.Contents.{Contents}
use Rattle.image_writer.specs.declared.fault.WriteFault.{WriteFault}
use Rattle.image_writer.specs.declared.fault.WriteFault.TheVariants as writes
use Rattle.image_writer.specs.Sealing.{Becomes}
use Rattle.image_writer.specs.Writing.{StaysNone}
use Rattle.tree_writer.specs.Faults.{WasNone}
use Rattle.image_create.specs.declared.fault.CreateFault.{CreateFault}
use Rattle.image_create.specs.declared.fault.CreateFault.TheVariants as creates
use Rattle.image_create.specs.Creates.{FailsToBecome, IsUnmade, MakesImage}
use Rattle.box_words.specs.declared.status.Status.{Status}
use Rattle.box_words.specs.declared.status.Status.TheVariants as statuses
use Rattle.box_calls.specs.declared.trouble.Trouble.{Trouble}
use Rattle.box_calls.specs.declared.trouble.Trouble.TheVariants as troubles
use Rattle.box_calls.specs.Checks.{printed}
use Rattle.box_calls.specs.Endings.{Ends}
use Rattle.box_calls.specs.Makings.{EndsMade}
use Rattle.box_calls.specs.Texts.{info_text}

-- ---- what it would be

-- What `info` would print goes to the first sink; the second gets what is said. So much of a folder is left out.
pub record PrintsPlan (contents : Contents) (left_out : ℕ) (old new say say_new : SinkState) (status : Status)
    : Type 0 where
  -- how the text was put, the first sink then, and how its last bytes were put
  pub put : Result (Unit {0}) SinkFault
  pub between : SinkState
  pub flushed : Result (Unit {0}) SinkFault
  pub puts : IsPut old between (info_text contents) put
  pub flushes : IsPut between new [] flushed
  pub ends : EndsMade false (printed (Ok tt) put flushed) left_out status say say_new

-- ---- the image of a folder

-- what the making of an image came to that ended so
abbrev pub create_trouble : Result (Unit {0}) CreateFault → Result (Unit {0}) Trouble
create_trouble (Ok done) = Ok tt
create_trouble (Err creates.Disk) = Err troubles.Unwritten
create_trouble (Err creates.NoMemory) = Err troubles.NoMemory
create_trouble (Err (creates.Full need slots)) = Err troubles.Full
create_trouble (Err creates.Unreadable) = Err troubles.Host
create_trouble (Err (creates.Moving path)) = Err troubles.Moving
create_trouble (Err creates.OtherSlots) = Err troubles.Moving
create_trouble (Err creates.TooMany) = Err troubles.TooMuch

-- An image is made of what was found in a folder, where so much was left out; the sink gets what is said.
pub record CreatesImage (p : Parameters) (is_laddered : Bool) (left_out : ℕ) (found : List Found)
    (folder folder_new : FolderState) (disk disk_new : DiskState) (say say_new : SinkState) (status : Status)
    : Type 0 where
  pub done : Result (Unit {0}) CreateFault
  pub made : OnOk done (MakesImage p is_laddered found folder folder_new disk disk_new)
  pub unmade : IfErr done (IsUnmade p is_laddered found folder folder_new disk disk_new)
  pub ends : EndsMade false (create_trouble done) left_out status say say_new

-- and nothing is where the folder met obstacles that are not skipped
abbrev pub Creates : Bool → Parameters → Bool → ℕ → List Found → FolderState → FolderState → DiskState
    → DiskState → SinkState → SinkState → Status → Type 0
Creates true p is_laddered left_out found folder folder_new disk disk_new say say_new status =
    Ends (Err troubles.Obstacles) status say say_new
Creates false p is_laddered left_out found folder folder_new disk disk_new say say_new status =
    CreatesImage p is_laddered left_out found folder folder_new disk disk_new say say_new status

-- No image was made: the disk is none, and none is left by a crash; but where the disk failed at the end it may be the
-- whole one.
abbrev pub LeavesNone : Parameters → List Found → FolderState → FolderState → DiskState → DiskState → Type 0
LeavesNone p found folder folder_new disk disk_new =
    StaysNone disk disk_new ⊎ FailsToBecome p found folder folder_new disk disk_new

-- ---- the image of an empty tree

-- what the making of the image of an empty tree came to that ended so
abbrev pub empty_trouble : Result (Unit {0}) WriteFault → Result (Unit {0}) Trouble
empty_trouble (Ok done) = Ok tt
empty_trouble (Err writes.Disk) = Err troubles.Unwritten
empty_trouble (Err writes.NoMemory) = Err troubles.NoMemory
empty_trouble (Err (writes.Full need slots)) = Err troubles.Full

-- The image of the empty tree is made; the sink gets what is said.
pub record CreatesEmpty (p : Parameters) (disk disk_new : DiskState) (say say_new : SinkState)
    (status : Status) : Type 0 where
  pub done : Result (Unit {0}) WriteFault
  pub becomes : WasNone disk → Becomes p (layout empty_tree p) disk disk_new done
  pub ends : Ends (empty_trouble done) status say say_new

-- ---- what is said of an image that was made

-- whether something is said of it, where the call ended so that made it: once it has its name
abbrev pub sums_up_stored : Bool → Status → Bool
sums_up_stored sums_up statuses.Done = sums_up
sums_up_stored sums_up statuses.Differs = sums_up
sums_up_stored sums_up status = false
