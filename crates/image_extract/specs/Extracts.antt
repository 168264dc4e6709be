-- What is made of an image on the host.
use Rattle.std.specs.Prelude.{◌≡◌, ℕ, ◌<◌, true, false, List, [], ◌∷◌, length, take, slice_index_or, IsTrue, ⊤}
use Rattle.std.specs.Prelude.{Result, Ok, Err}
use Rattle.std.specs.List.{AllByRecursion, list_all}
use Rattle.store_model.specs.Paths.{Path, root}
use Rattle.store_model.specs.Trees.{Tree, IsTree, empty_tree, exists}
use Rattle.disk_model.specs.DiskState.{DiskState, IsObservable}
use Rattle.host_names.specs.Reading.{has_host_text}
use Rattle.host_builder.specs.declared.attribute.Wanted.{Wanted}
use Rattle.host_builder.specs.Builders.{BuilderState, risen}
use Rattle.host_builder.specs.Builders as builders
use Rattle.host_builder.specs.Views.{host_view, count_left_out, Unmakes}
use Rattle.store_stream.specs.Parts.{parts_at}
use Rattle.image_reads.specs.Reads.{HasTreeWith, IsUnread, IsUnopened}
use Rattle.image_reads.specs.StoreReads.{IsStoreFault}
use Rattle.image_extract.specs.declared.fault.ExtractFault.{ExtractFault}
use Rattle.image_extract.specs.declared.fault.ExtractFault.TheVariants as extracts
use Rattle.image_extract.specs.Faults.{extract_faults_by}

-- ---- the paths

-- What paths ask for of a tree: what is at them and below them, and the folders that lead there. Where there are no
-- paths they ask for all of it.
abbrev pub asked : Tree → List Path → Tree
asked t [] = t
asked t (q ∷ paths) = parts_at t (q ∷ paths)

-- something stands at each of the paths
abbrev pub AllStand : Tree → List Path → Type 0
AllStand t paths = AllByRecursion (λ q. exists t q ≡ true) paths

-- the path with this number is the first at which nothing stands
pub record IsMissing (t : Tree) (paths : List Path) (number : ℕ) : Type 0 where
  pub first : AllStand t (take number paths)
  pub missing : exists t (slice_index_or paths number root) ≡ false

-- ---- what is made

-- A builder that held nothing holds just what the host can have of a tree, and was told of each entry that is left out.
-- Unless such are skipped, each path of the tree has one on the host.
pub record IsMadeOf (wanted : Wanted) (old new : BuilderState) (t : Tree) : Type 0 where
  pub left_out : new.left_out ≡ risen old.left_out (count_left_out wanted t)
  pub named : wanted.skips ≡ false → IsTrue (list_all (λ e. has_host_text e.0) t)
  pub holds : builders.IsObservable old → old.holds ≡ empty_tree → new.holds ≡ host_view wanted t

-- No call of the builder failed, and all is there that was made.
pub record IsBuilt (old new : BuilderState) (stays : ℕ) : Type 0 where
  pub observable : new.is_observable ≡ old.is_observable
  pub faults : new.faults ≡ old.faults
  pub stays_is : stays ≡ 0

-- the builder was not called
abbrev pub IsUncalled : ExtractFault → Type 0
IsUncalled (extracts.Missing number) = ⊤
IsUncalled (extracts.NoName path) = ⊥
IsUncalled (extracts.Read fault) = IsUnopened fault

-- What was made was taken away again, but for so much, which stays. Before that a call of the builder failed exactly
-- where the builder is blamed.
pub record IsUnbuilt (old new : BuilderState) (stays : ℕ) (fault : ExtractFault) : Type 0 where
  pub unmakes : Unmakes old new (extract_faults_by fault old.faults) stays
  pub uncalled : IsUncalled fault → (new ≡ old) × (stays ≡ 0)

-- Of the tree of the disk's image that was made for which the paths ask, and something stands at each of them.
pub record MakesAsked (wanted : Wanted) (paths : List Path) (disk : DiskState) (old new : BuilderState)
    (stays : ℕ) : Type 0 where
  pub built : IsBuilt old new stays
  pub made : IsObservable disk → HasTreeWith disk (λ t. AllStand t paths × IsMadeOf wanted old new (asked t paths))

abbrev pub Extracts : Wanted → List Path → DiskState → BuilderState → BuilderState → ℕ
    → Result (Unit {0}) ExtractFault → Type 0
Extracts wanted paths disk old new stays (Ok done) = MakesAsked wanted paths disk old new stays
Extracts wanted paths disk old new stays (Err fault) = IsUnbuilt old new stays fault

-- ---- why it was not made

-- a path has none on the host, and such are not skipped
pub record IsObstacle (wanted : Wanted) (path : Path) : Type 0 where
  pub text : has_host_text path ≡ false
  pub skips : wanted.skips ≡ false

-- A path that was asked for is missing; or all were found, and a path of what they ask for is an obstacle; or the disk
-- was not read to its end.
abbrev pub IsUnextracted : Wanted → List Path → DiskState → DiskState → ExtractFault → Type 0
IsUnextracted wanted paths old new (extracts.Missing number) =
    (number < length paths) × (IsObservable old → HasTreeWith old (λ t. IsMissing t paths number))
IsUnextracted wanted paths old new (extracts.NoName path) = IsObstacle wanted path
    × (IsObservable old → HasTreeWith old (λ t. AllStand t paths × (exists (asked t paths) path ≡ true)))
IsUnextracted wanted paths old new (extracts.Read fault) = IsUnread old new fault

-- ---- of an opened store

-- This part of its tree was made.
pub record MakesPart (part : Tree → Tree) (wanted : Wanted) (disk : DiskState) (t : Tree) (old new : BuilderState)
    (stays : ℕ) : Type 0 where
  pub built : IsBuilt old new stays
  pub made : IsTree t → IsObservable disk → IsMadeOf wanted old new (part t)

abbrev pub MakesStore : (Tree → Tree) → Wanted → DiskState → Tree → BuilderState → BuilderState → ℕ
    → Result (Unit {0}) ExtractFault → Type 0
MakesStore part wanted disk t old new stays (Ok done) = MakesPart part wanted disk t old new stays
MakesStore part wanted disk t old new stays (Err fault) = IsUnbuilt old new stays fault

-- or it was not, for this fault
abbrev pub IsStoreUnmade : (Tree → Tree) → Wanted → List Path → Tree → DiskState → DiskState → ExtractFault → Type 0
IsStoreUnmade part wanted paths t old new (extracts.Missing number) =
    (number < length paths) × (IsTree t → IsObservable old → IsMissing t paths number)
IsStoreUnmade part wanted paths t old new (extracts.NoName path) = IsObstacle wanted path
    × (IsTree t → IsObservable old → AllStand t paths × (exists (part t) path ≡ true))
IsStoreUnmade part wanted paths t old new (extracts.Read fault) = IsStoreFault old new fault
