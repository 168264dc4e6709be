-- The tree that a folder's answers give, and how much of its dump came.
use Rattle.std.specs.Prelude.{◌≡◌, ℕ, ◌<◌, ◌≤◌, Bool, List, [], ◌∷◌, ◌++◌, map, take, vec_len, Option, Some, ⊤}
use Rattle.std.specs.List.{slice_get, All, Contains}
use Rattle.std.specs.Bool.{IsTrue}
use Rattle.store_base.specs.Counts.{raised}
use Rattle.store_model.specs.declared.version.Version.TheVariants.{Two}
use Rattle.store_model.specs.Parameters.{Parameters}
use Rattle.store_model.specs.Paths.{Path}
use Rattle.store_model.specs.Trees.{Tree, Node, Attributes, IsTree}
use Rattle.dump_streams.specs.Dumps.{DumpStep}
use Rattle.dump_streams.specs.Dumps.DumpStep.{Make, Write, Set}
use Rattle.host_builder.specs.HostAttributes.{is_target}
use Rattle.dump_streams.specs.Reading.{HasRead, BreaksOff}
use Rattle.dump_streams.specs.declared.fault.StreamFault.{StreamFault}
use Rattle.dump_streams.specs.declared.fault.StreamFault.TheVariants as faults
use Rattle.host_folders.specs.FolderState.{FolderState, IsObservable, whole_files}
use Rattle.host_folders.specs.FoundEntries.{entries_of, file_paths, link_paths, own_attributes, link_attributes}
use Rattle.host_folders.specs.declared.found.Found.{Found}
use Rattle.host_folders.specs.declared.found.FoundKind.{FoundKind}
use Rattle.host_folders.specs.declared.found.FoundKind.TheVariants as kinds
use Rattle.host_folders.specs.declared.stream.FolderStream.{FolderStream}
use Rattle.host_folders.specs.declared.stream.Place.{Place}
use Rattle.host_folders.specs.declared.stream.Place.TheVariants as places

-- The tree has just the entries that were found, in their order, these are its files with their bytes, and these its
-- links with their targets.
pub record HasFiles (found : List Found) (files links : List (Path × List ℕ)) (t : Tree) : Type 0 where
  pub paths : map (λ file. file.0) files ≡ file_paths found
  pub asked : map (λ link. link.0) links ≡ link_paths found
  pub valid : All (λ link. IsTrue (is_target link.1)) links
  pub tree : t ≡ entries_of found (map (λ file. file.1) files) (map (λ link. link.1) links)

-- Since an earlier moment these files were opened one after another, these links were asked for their targets, and
-- nothing else was asked of the folder.
pub record ReadsFiles (old new : FolderState) (answers : List (Path × List ℕ × Bool))
    (links : List (Path × List ℕ)) : Type 0 where
  pub listed : new.listed ≡ old.listed
  pub read : new.read ≡ old.read ++ answers
  pub targets : new.targets ≡ old.targets ++ links

-- What came was the dump of this tree, and it is whole. Each of its files was opened once, in their order, and its
-- bytes are all that came of it up to its end. Each of its links was asked once, in their order. No call failed.
pub record IsPacked {F : Type 0} (state_of : F → FolderState) (stream : FolderStream F) (t : Tree) : Type 0 where
  pub is_tree : IsTree t
  pub files : List (Path × List ℕ)
  pub links : List (Path × List ℕ)
  pub entries : HasFiles stream.found.items files links t
  pub faults : (state_of stream.folder).faults ≡ (state_of stream.first.value).faults
  pub told : IsObservable (state_of stream.first.value)
      → ReadsFiles (state_of stream.first.value) (state_of stream.folder) (whole_files files) links

-- ---- why a stream ends before its dump does

abbrev pub IsFile : FoundKind → Type 0
IsFile kind = (len : ℕ) × (kind ≡ kinds.File len)

-- the entry at which a stream is
abbrev pub found_at : Place → ℕ → List Found → Option Found
found_at places.Start at found = slice_get found at
found_at (places.Piece last offset) at found = Some last
found_at (places.Attribute last index) at found = Some last
found_at (places.Target last target) at found = Some last

-- the attributes of the entry at which a stream is, once it was begun
abbrev pub attributes_there : Place → Attributes
attributes_there places.Start = []
attributes_there (places.Piece last offset) = own_attributes last
attributes_there (places.Attribute last index) = own_attributes last
attributes_there (places.Target last target) = link_attributes target

-- bytes are written for a file, and nothing but none for a link
abbrev pub WritesFor : FoundKind → List ℕ → Type 0
WritesFor kinds.Folder bytes = ⊥
WritesFor (kinds.File len) bytes = ⊤
WritesFor kinds.Link bytes = bytes ≡ []

-- the steps that the entry of what was found asks for, if it has these attributes
abbrev pub AsksFor : Found → Attributes → DumpStep → Type 0
AsksFor found attributes (Make path) = (path ≡ found.path) × (found.kind ≡ kinds.Folder)
AsksFor found attributes (Write path at bytes) = (path ≡ found.path) × WritesFor found.kind bytes
AsksFor found attributes (Set path name bytes) = (path ≡ found.path) × Contains attributes (name, bytes)

-- the entry at which the stream is asks for a step with which no dump goes on
pub record AsksTooMuch {F : Type 0} (stream : FolderStream F) (t : Tree) : Type 0 where
  pub found : Found
  pub here : found_at stream.place stream.at stream.found.items ≡ Some found
  pub step : DumpStep
  pub asks : AsksFor found (attributes_there stream.place) step
  pub breaks_off : (p : Parameters) → p.version ≡ Two → BreaksOff t step p

-- Why the stream ends after the steps of the dump of a tree: a call of the folder failed, and no other did; or the
-- folder is as good as it was.
abbrev pub EndsBy : {F : Type 0} → (F → FolderState) → FolderStream F → Tree → StreamFault → Type 0
EndsBy state_of stream t faults.NoDump =
    AsksTooMuch stream t × ((state_of stream.folder).faults ≡ (state_of stream.first.value).faults)
EndsBy state_of stream t faults.Unreadable =
    (state_of stream.folder).faults ≡ raised (state_of stream.first.value).faults
EndsBy state_of stream t faults.NoMemory = (state_of stream.folder).faults ≡ (state_of stream.first.value).faults
EndsBy state_of stream t faults.TooLong = ⊥

-- the second came of the first by calls of `next`: it is of the same folder, in which the same was found
pub record IsOfSame {F : Type 0} (start now : FolderStream F) : Type 0 where
  pub first : now.first ≡ start.first
  pub found : now.found ≡ start.found

-- ---- how far a stream is

-- Of the attributes of the last entry that was begun, which are these, only the first ones came, this many; the
-- entries before it came whole. `whole` is the tree with all of them.
pub record IsCut (begun : List Found) (last : Found) (attributes : Attributes) (count : ℕ) (whole t : Tree)
    : Type 0 where
  pub before : List Found
  pub begun_is : begun ≡ before ++ last ∷ []
  pub front : Tree
  pub node : Node
  pub whole_is : whole ≡ front ++ (last.path, record { node = node; attributes = attributes }) ∷ []
  pub so_far : t ≡ front ++ (last.path, record { node = node; attributes = take count attributes }) ∷ []

-- this came of the tree of the entries that were begun, as its place tells
abbrev pub IsSoFar : Place → List Found → Tree → Tree → Type 0
IsSoFar places.Start begun whole t = t ≡ whole
IsSoFar (places.Piece found at) begun whole t =
    IsCut begun found (own_attributes found) 0 whole t × (0 < at) × IsFile found.kind
IsSoFar (places.Attribute found index) begun whole t = IsCut begun found (own_attributes found) index whole t
IsSoFar (places.Target found target) begun whole t = IsCut begun found (link_attributes target) 0 whole t

-- so the folder answered of these files: each was read to its end, but for one that still is read
abbrev pub AreAnswers : Place → List (Path × List ℕ) → List (Path × List ℕ × Bool) → Type 0
AreAnswers (places.Piece found at) files answers =
    (before : List (Path × List ℕ)) × (path : Path) × (bytes : List ℕ) × (is_ended : Bool)
    × (files ≡ before ++ (path, bytes) ∷ []) × (answers ≡ whole_files before ++ (path, bytes, is_ended) ∷ [])
AreAnswers places.Start files answers = answers ≡ whole_files files
AreAnswers (places.Attribute found index) files answers = answers ≡ whole_files files
AreAnswers (places.Target found target) files answers = answers ≡ whole_files files

-- what the folder told since an earlier moment of files with these bytes, and of links with these targets
pub record TellsFiles (old new : FolderState) (place : Place) (files links : List (Path × List ℕ)) : Type 0 where
  pub answers : List (Path × List ℕ × Bool)
  pub reads : ReadsFiles old new answers links
  pub are : AreAnswers place files answers

-- What came so far is the dump of this tree, which has the entries that were begun, the last of them as far as it came.
pub record CameOf {F : Type 0} (state_of : F → FolderState) (stream : FolderStream F) (t : Tree) : Type 0 where
  pub read : (p : Parameters) → p.version ≡ Two → HasRead stream.reader t p
  pub version : stream.reader.version ≡ Two
  pub observable : (state_of stream.folder).is_observable ≡ (state_of stream.first.value).is_observable
  pub faults : (state_of stream.folder).faults ≡ (state_of stream.first.value).faults
  pub within : stream.at ≤ vec_len stream.found
  pub files : List (Path × List ℕ)
  pub links : List (Path × List ℕ)
  pub whole : Tree
  pub entries : HasFiles (take stream.at stream.found.items) files links whole
  pub so_far : IsSoFar stream.place (take stream.at stream.found.items) whole t
  pub told : IsObservable (state_of stream.first.value)
      → TellsFiles (state_of stream.first.value) (state_of stream.folder) stream.place files links
