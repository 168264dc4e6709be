-- What the steps of a stream do.
use Rattle.std.specs.Prelude.{◌≡◌, ℕ, ◌+◌, ◌^◌, ◌-◌, List, length, min, nat_lt, if◌then◌else◌, Result, IfOk, OnOk}
use Rattle.std.specs.Prelude.{Option, Some, None}
use Rattle.store_model.specs.Paths.{Path}
use Rattle.store_model.specs.Trees.{Tree}
use Rattle.dump_streams.specs.Dumps.{DumpStep}
use Rattle.dump_streams.specs.Dumps.DumpStep.{Write}
use Rattle.dump_streams.specs.Dumps.{after_step}
use Rattle.dump_streams.specs.Dumps.{dump_piece}
use Rattle.dump_streams.specs.Streams.{Extends}
use Rattle.host_folders.specs.FolderState.{FolderState, IsObservable, ReadsFile}
use Rattle.host_folders.specs.Faults.{faults_after}
use Rattle.host_folders.specs.Packed.{found_at}
use Rattle.host_folders.specs.declared.fault.FolderFault.{FolderFault}
use Rattle.host_folders.specs.declared.found.Found.{Found}
use Rattle.host_folders.specs.declared.stream.Place.{Place}
use Rattle.host_folders.specs.declared.stream.Place.TheVariants as places

-- a step came, and the dump goes on with it
pub record Gives {E : Type 0} (old new : Tree → Type 0) (c : DumpStep) (result : Result (Unit {0}) E) : Type 0 where
  pub came : (t : Tree) → old t → OnOk result (new (after_step t c))
  pub extends : (t : Tree) → old t → OnOk result (Extends t c)

-- the step writes the next piece of the file that was opened last, of so many bytes: a full one, or what is left
-- of the file
pub record IsPiece (old new : FolderState) (path : Path) (at : ℕ) (c : DumpStep) (count : ℕ) : Type 0 where
  pub bytes : List ℕ
  pub step_is : c ≡ Write path at bytes
  pub count_is : count ≡ length bytes
  pub told : IsObservable old → ReadsFile old new bytes (nat_lt count dump_piece)

pub record ReadsPiece (old new : FolderState) (path : Path) (at : ℕ) (c : DumpStep)
    (result : Result ℕ FolderFault) : Type 0 where
  pub observable : new.is_observable ≡ old.is_observable
  pub faults : new.faults ≡ faults_after old.faults result
  pub piece : IfOk result (IsPiece old new path at c)

-- what comes behind the piece of a file that begins at an offset: a full one leaves it open whether there is another
abbrev pub place_behind : Found → ℕ → ℕ → Place
place_behind found at count = if nat_lt count dump_piece then places.Attribute found 0 else places.Piece found
    (min (at + dump_piece) (2 ^ 32 - 1))

-- the path of the entry at which a stream is
abbrev pub path_of_found : Option Found → Option Path
path_of_found None = None
path_of_found (Some found) = Some found.path

abbrev pub path_at : Place → ℕ → List Found → Option Path
path_at place at found = path_of_found (found_at place at found)
