-- What a folder of the host has told, and what each of its answers adds.
use Rattle.std.specs.Prelude.{◌≡◌, ℕ, ◌≤◌, Bool, IsTrue, true, false, ◌&&◌, nat_lt, List, [], ◌∷◌, ◌++◌, length, map}
use Rattle.std.specs.Prelude.{take, Result, OnOk, IfOk}
use Rattle.store_model.specs.Paths.{Path}
use Rattle.host_builder.specs.HostAttributes.{is_target}
use Rattle.host_folders.specs.Faults.{faults_after}
use Rattle.host_folders.specs.declared.fault.FolderFault.{FolderFault}
use Rattle.host_folders.specs.declared.found.Found.{Found}

-- A folder at one moment, by its answers so far. Only where it is observable do they mean anything, but for the count.
-- A folder may change between two of its answers.
pub record FolderState : Type 0 where
  -- whether it tells its answers
  pub is_observable : Bool
  -- the folders in it that were listed, each with what was found there
  pub listed : List (Path × List Found)
  -- the files that were opened, each with the bytes that came of it, and whether its last answer was that no more come
  pub read : List (Path × List ℕ × Bool)
  -- the links of which the target was asked, each with the target
  pub targets : List (Path × List ℕ)
  -- how many calls failed, up to the last value of a u64, at which the count stays
  pub faults : ℕ

abbrev pub IsObservable : FolderState → Type 0
IsObservable folder = IsTrue folder.is_observable

-- what stands in a folder is added to what was found
pub record ListsFolder (old new : FolderState) (path : Path) (before after : List Found) : Type 0 where
  pub part : List Found
  pub found : after ≡ before ++ part
  pub listed : new.listed ≡ old.listed ++ (path, part) ∷ []
  pub read : new.read ≡ old.read
  pub targets : new.targets ≡ old.targets

-- a listing of a folder
pub record IsListed (old new : FolderState) (path : Path) (before after : List Found)
    (result : Result (Unit {0}) FolderFault) : Type 0 where
  pub observable : new.is_observable ≡ old.is_observable
  pub faults : new.faults ≡ faults_after old.faults result
  pub listed : IsObservable old → OnOk result (ListsFolder old new path before after)

-- a file is opened: nothing came of it yet
pub record OpensFile (old new : FolderState) (path : Path) : Type 0 where
  pub listed : new.listed ≡ old.listed
  pub read : new.read ≡ old.read ++ (path, [], false) ∷ []
  pub targets : new.targets ≡ old.targets

-- nothing is known of what the answer says beside
pub record IsOpened {T : Type 0} (old new : FolderState) (path : Path) (result : Result T FolderFault) : Type 0 where
  pub observable : new.is_observable ≡ old.is_observable
  pub faults : new.faults ≡ faults_after old.faults result
  pub opened : IsObservable old → IfOk result (λ _. OpensFile old new path)

-- these bytes came of the file that was opened last, and the flag tells whether its end came
pub record ReadsFile (old new : FolderState) (bytes : List ℕ) (is_ended : Bool) : Type 0 where
  pub listed : new.listed ≡ old.listed
  pub read : (before : List (Path × List ℕ × Bool)) (path : Path) (first : List ℕ) (was_ended : Bool)
      → old.read ≡ before ++ (path, first, was_ended) ∷ []
      → new.read ≡ before ++ (path, first ++ bytes, is_ended) ∷ []
  pub targets : new.targets ≡ old.targets

-- whether a read tells the end of the file: no bytes came for a buffer with room
abbrev pub tells_end : ℕ → ℕ → Bool
tells_end count room = nat_lt count 1 && nat_lt 0 room

-- a read into a buffer, which then holds these bytes
pub record IsFileRead (old new : FolderState) (buffer : List ℕ) (result : Result ℕ FolderFault) : Type 0 where
  pub observable : new.is_observable ≡ old.is_observable
  pub faults : new.faults ≡ faults_after old.faults result
  pub within : IfOk result (λ count. count ≤ length buffer)
  pub read : IsObservable old
      → IfOk result (λ count. ReadsFile old new (take count buffer) (tells_end count (length buffer)))

-- The buffer is filled from the file that was opened last, as far as the file goes: where it is not full, the file
-- told its end.
pub record IsFilled (old new : FolderState) (buffer : List ℕ) (result : Result ℕ FolderFault) : Type 0 where
  pub observable : new.is_observable ≡ old.is_observable
  pub faults : new.faults ≡ faults_after old.faults result
  pub within : IfOk result (λ count. count ≤ length buffer)
  pub read : IsObservable old
      → IfOk result (λ count. ReadsFile old new (take count buffer) (nat_lt count (length buffer)))

-- a link told its target
pub record TellsTarget (old new : FolderState) (path : Path) (target : List ℕ) : Type 0 where
  pub listed : new.listed ≡ old.listed
  pub read : new.read ≡ old.read
  pub targets : new.targets ≡ old.targets ++ (path, target) ∷ []

-- a link was asked for its target
pub record IsAsked (old new : FolderState) (path : Path) (result : Result (List ℕ) FolderFault) : Type 0 where
  pub observable : new.is_observable ≡ old.is_observable
  pub faults : new.faults ≡ faults_after old.faults result
  pub valid : IfOk result (λ target. IsTrue (is_target target))
  pub told : IsObservable old → IfOk result (TellsTarget old new path)

-- files of which these bytes came, up to their ends
abbrev pub whole_files : List (Path × List ℕ) → List (Path × List ℕ × Bool)
whole_files files = map (λ file. (file.0, file.1, true)) files
