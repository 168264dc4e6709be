-- What a writer of an image knows of the pairs that came, and what it wrote of them.
use Rattle.std.specs.Prelude.{◌≡◌, ◌⊎◌, ℕ, ◌<◌, ◌≤◌, List, [], ◌∷◌, ◌++◌, length, Bool, Result, Ok, Err}
use Rattle.store_base.specs.declared.fault.DiskFault.{DiskFault}
use Rattle.store_model.specs.Parameters.{Parameters, IsParameters, image_len}
use Rattle.store_model.specs.Draws.{Draw, draw_of}
use Rattle.store_model.specs.Pairs.{Pair, IsPairs}
use Rattle.disk_model.specs.DiskState.{DiskState, IsObservable, IsDurable}
use Rattle.disk_model.specs.DiskCalls.{LeavesOnly}
use Rattle.gate_journal.specs.Places.{AreCalls, Keeps}
use Rattle.gate_journal.specs.Formats.{NamesNoParameters}
use Rattle.layout_scratch.specs.Sorting.{sorted_limit}
use Rattle.rising_pages.specs.declared.kept.KeptPairs.{KeptPairs}
use Rattle.rising_pages.specs.FreePlaces.{AreFree}
use Rattle.rising_pages.specs.OpenPages.{closed_pages}
use Rattle.rising_pages.specs.Kept.{FitSlots, IsKept}
use Rattle.image_writer.specs.declared.fault.WriteFault.{WriteFault}
use Rattle.image_writer.specs.declared.fault.WriteFault.TheVariants.{Disk, NoMemory, Full}
use Rattle.image_writer.specs.declared.writer.ImageWriter.{ImageWriter}
use Rattle.image_writer.specs.Placing.{placed, ArePlaced, FirstByte}

-- all pairs of an image came, and their pages fit
pub record AreComplete (d : Draw) (s : List Pair) (kept : KeptPairs) : Type 0 where
  pub kept_is : IsKept d s kept
  pub pairs : IsPairs s
  pub few : length s ≤ sorted_limit
  pub fits : FitSlots d s

-- the pages of level 0 that no later pair comes onto were placed
pub record HasWritten (d : Draw) (s : List Pair) (start now : DiskState) (free : List Bool) : Type 0 where
  pub free_are : AreFree (placed d (closed_pages d s 0)) free
  pub placed_so : ArePlaced d (closed_pages d s 0) start now

-- the pages of just these pairs are counted
abbrev pub CountsPairs : Parameters → List Pair → ImageWriter → Type 0
CountsPairs p s writer = IsKept (draw_of p) s writer.kept

-- The writer began at the first moment, and just these pairs came since. At the second moment it has written what
-- no later pair changes, as long as the pages fit, and never the first byte; no call of the disk failed.
pub record IsWriting (p : Parameters) (s : List Pair) (start now : DiskState) (writer : ImageWriter) : Type 0 where
  pub params_are : writer.params ≡ p
  pub valid : IsParameters p
  pub pairs : IsPairs s
  pub few : length s ≤ sorted_limit
  pub slots : length writer.free ≡ p.slots
  pub kept_is : IsKept (draw_of p) s writer.kept
  pub size : start.size ≡ image_len p.slots
  pub calls : AreCalls {T = Unit {0}} {E = DiskFault} start now (Ok tt)
  pub keeps : IsObservable start → Keeps (FirstByte p.slots) start now
  pub written : FitSlots (draw_of p) s → HasWritten (draw_of p) s start now writer.free

-- this pair is the next: its key stands behind the others, and is drawn this level
pub record IsNext (p : Parameters) (s : List Pair) (level : ℕ) (pair : Pair) (start now : DiskState)
    (writer : ImageWriter) : Type 0 where
  pub writing : IsWriting p s start now writer
  pub level_is : level ≡ (draw_of p).level pair.0
  pub pairs : IsPairs (s ++ pair ∷ [])
  pub few : length s < sorted_limit

-- what the calls of the disk answered: a fault that is not the disk's is no failed call
abbrev pub disk_answer : {T : Type 0} → Result T WriteFault → Result (Unit {0}) (Unit {0})
disk_answer (Ok value) = Ok tt
disk_answer (Err Disk) = Err tt
disk_answer (Err NoMemory) = Ok tt
disk_answer (Err (Full need slots)) = Ok tt

-- the disk failed, or memory ran out
abbrev pub IsNotFull : WriteFault → Type 0
IsNotFull fault = (fault ≡ Disk) ⊎ (fault ≡ NoMemory)

-- the disk reads no image; and where nothing was pending at first, none is left by a crash at any moment since then
pub record StaysNone (start now : DiskState) : Type 0 where
  pub reads : NamesNoParameters now.bytes
  pub crash : IsDurable start → LeavesOnly start now NamesNoParameters
