-- What finding all that stands in a folder does.
use Rattle.std.specs.Prelude.{◌≡◌, ℕ, ◌<◌, Bool, List, ◌∷◌, ◌++◌, length, map, ⊤}
use Rattle.std.specs.List.{flat_map, dedup}
use Rattle.std.specs.List.Sorted.{IsPermutation, IsSortedByKey, IsStrictlySortedBy}
use Rattle.store_model.specs.Paths.{Path, root, path_cmp, same_path}
use Rattle.host_folders.specs.FolderState.{FolderState}
use Rattle.host_folders.specs.FoundEntries.{folder_paths}
use Rattle.host_folders.specs.declared.fault.FindFault.{FindFault}
use Rattle.host_folders.specs.declared.fault.FindFault.TheVariants as faults
use Rattle.host_folders.specs.declared.found.Found.{Found}

-- These folders were listed, one after another, and what they told was added to what was found.
pub record Walks (old new : FolderState) (folders : List Path) (before after : List Found) : Type 0 where
  pub answers : List (Path × List Found)
  pub listed : new.listed ≡ old.listed ++ answers
  pub read : new.read ≡ old.read
  pub targets : new.targets ≡ old.targets
  pub asked : map (λ answer. answer.0) answers ≡ folders
  pub found : after ≡ before ++ flat_map (λ answer. answer.1) answers

-- what was found stands in the order of paths
abbrev pub AreInOrder : List Found → Type 0
AreInOrder found = IsSortedByKey (λ f. f.path) path_cmp found

-- each of them at a path of its own
abbrev pub AreApart : List Found → Type 0
AreApart found = IsStrictlySortedBy (λ f g. path_cmp f.path g.path) found

-- whether two stand at one path
abbrev pub at_one_path : Found → Found → Bool
at_one_path f g = same_path f.path g.path

-- What was told, in the order of paths, and of each path one entry, also where the folder told several.
pub record IsEachOnce (told found : List Found) : Type 0 where
  pub sorted : List Found
  pub told_is : IsPermutation told sorted
  pub in_order : AreInOrder sorted
  pub found_is : found ≡ dedup at_one_path sorted

-- The folder itself was listed, and each folder that was told, as often as it was told; and what was found is what
-- these listings told.
pub record ToldAll (old new : FolderState) (found : List Found) : Type 0 where
  pub answers : List (Path × List Found)
  pub listed : new.listed ≡ old.listed ++ answers
  pub read : new.read ≡ old.read
  pub targets : new.targets ≡ old.targets
  pub told : List Found
  pub told_is : told ≡ flat_map (λ answer. answer.1) answers
  pub asked : map (λ answer. answer.0) answers ≡ root ∷ folder_paths told
  pub found_is : IsEachOnce told found

-- Some folders were listed, and told more entries than that.
pub record ToldMore (old new : FolderState) (most : ℕ) : Type 0 where
  pub answers : List (Path × List Found)
  pub listed : new.listed ≡ old.listed ++ answers
  pub many : most < length (flat_map (λ answer. answer.1) answers)

-- why not all was found
abbrev pub EndsFinding : FolderState → FolderState → ℕ → FindFault → Type 0
EndsFinding old new most faults.NoMemory = ⊤
EndsFinding old new most faults.Unreadable = ⊤
EndsFinding old new most faults.TooMany = ToldMore old new most

-- why a walk over what was found ended before
pub record WalksTooFar (old new : FolderState) (most : ℕ) (before after : List Found) : Type 0 where
  pub folders : List Path
  pub walks : Walks old new folders before after
  pub many : most < length after

abbrev pub EndsWalk : FolderState → FolderState → ℕ → List Found → List Found → FindFault → Type 0
EndsWalk old new most before after faults.NoMemory = ⊤
EndsWalk old new most before after faults.Unreadable = ⊤
EndsWalk old new most before after faults.TooMany = WalksTooFar old new most before after
