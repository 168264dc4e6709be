-- A folder in memory, as its clauses see it.
use Rattle.std.specs.Prelude.{◌≡◌, ◌⊎◌, ℕ, Bool, true, not, IsTrue, ◌&&◌, List, [], ◌++◌, length, map, take, drop}
use Rattle.std.specs.Prelude.{filter, min, max, ◌-◌, ◌^◌, Contains, Option, Some, None, is_some, option_map}
use Rattle.std.specs.Prelude.{option_to_list, unwrap_or}
use Rattle.std.specs.Prelude.{slice_index_or}
use Rattle.std.specs.List.{find}
use Rattle.store_model.specs.Paths.{Path, is_root, parent, same_path}
use Rattle.host_builder.specs.HostAttributes.{is_target}
use Rattle.host_folders.specs.FolderState.{FolderState}
use Rattle.host_folders.specs.FoundEntries.{is_file, is_link}
use Rattle.host_folders.specs.declared.found.Found.{Found}
use Rattle.host_folders.specs.Targets.{target_fault}
use Rattle.host_folders.specs.declared.memory.Asked.{Asked}
use Rattle.host_folders.specs.declared.memory.MemEntry.{MemEntry}
use Rattle.host_folders.specs.declared.memory.MemFolder.{MemFolder}
use Rattle.host_folders.specs.declared.memory.Reading.{Reading}

-- whether a path lies right below the other
abbrev pub is_child : Path → Path → Bool
is_child p folder = not (is_root p) && same_path (parent p) folder

-- what these entries tell of the folder at a path
abbrev pub told_of : List MemEntry → Path → List Found
told_of entries path = map (λ e. e.found) (filter (λ e. is_child e.found.path path) entries)

-- the bytes of the entry at a place
abbrev pub bytes_at : List MemEntry → ℕ → List ℕ
bytes_at entries place = slice_index_or (map (λ e. e.bytes.items) entries) place []

-- a file that was opened, with the bytes that came of it, and whether its last answer was that no more come
abbrev pub came_of : List MemEntry → Reading → Path × List ℕ × Bool
came_of entries reading = (reading.path, take reading.at (bytes_at entries reading.entry), reading.is_ended)

-- a link that was asked, with its target
abbrev pub target_of : List MemEntry → Asked → Path × List ℕ
target_of entries asked = (asked.path, bytes_at entries asked.entry)

-- what the folder told
abbrev pub folder_state : MemFolder → FolderState
folder_state folder = record {
  is_observable = true;
  listed = map (λ l. (l.path, l.found.items)) folder.listed.items;
  read = map (came_of folder.entries.items) (folder.closed.items ++ option_to_list folder.file);
  targets = map (target_of folder.entries.items) folder.asked.items;
  faults = folder.faults;
}

-- what the folder tells of the folder at a path
abbrev pub children_of : MemFolder → Path → List Found
children_of folder path = told_of folder.entries.items path

-- whether an entry is a file at the path
abbrev pub is_file_at : Path → MemEntry → Bool
is_file_at path entry = same_path entry.found.path path && is_file entry.found.kind

-- whether an entry is a link at the path
abbrev pub is_link_at : Path → MemEntry → Bool
is_link_at path entry = same_path entry.found.path path && is_link entry.found.kind

-- the bytes of the first entry of some, if there is one
abbrev pub bytes_of : (MemEntry → Bool) → List MemEntry → Option (List ℕ)
bytes_of is entries = option_map (λ e. e.bytes.items) (find is entries)

-- the bytes of the first file at a path
abbrev pub file_bytes : List MemEntry → Path → Option (List ℕ)
file_bytes entries path = bytes_of (is_file_at path) entries

-- and those of the first link
abbrev pub link_bytes : List MemEntry → Path → Option (List ℕ)
link_bytes entries path = bytes_of (is_link_at path) entries

-- whether they are no target
abbrev pub lacks_target : Option (List ℕ) → Bool
lacks_target None = true
lacks_target (Some bytes) = is_some (target_fault bytes)

-- of the file that is open, its path and its bytes that did not come yet
abbrev pub left_of : MemFolder → Option (Path × List ℕ)
left_of folder = option_map (λ r. (r.path, drop r.at (bytes_at folder.entries.items r.entry))) folder.file

-- the entry at this place is the first link at the path, and leads there
pub record IsLinkAt (entries : List MemEntry) (path : Path) (place : ℕ) (target : List ℕ) : Type 0 where
  pub is_first : link_bytes entries path ≡ Some target
  pub here : bytes_at entries place ≡ target
  pub valid : IsTrue (is_target target)
  pub whole : target_fault target ≡ None

-- how many bytes a file is told to have that gives these: their number, unless another is to be told
abbrev pub length_told : Option ℕ → List ℕ → ℕ
length_told told bytes = unwrap_or told (min (length bytes) (2 ^ 32 - 1))

-- the first file at the path is open, none of its bytes came yet, and it was told to have so many
pub record IsOpenAt (folder : MemFolder) (path : Path) (told : ℕ) : Type 0 where
  pub bytes : List ℕ
  pub is_first : file_bytes folder.entries.items path ≡ Some bytes
  pub left : left_of folder ≡ Some (path, bytes)
  pub told_is : told ≡ length_told folder.told bytes

-- Of the file that is open so many bytes came into the buffer: as many as it has room for, as the file has left, and
-- as a read gives at most.
pub record ReadsLeft (old new : MemFolder) (buffer : List ℕ) (count : ℕ) : Type 0 where
  pub path : Path
  pub left : List ℕ
  pub before : left_of old ≡ Some (path, left)
  pub count_is : count ≡ min (min (length buffer) (max old.piece 1)) (length left)
  pub bytes : take count buffer ≡ take count left
  pub after : left_of new ≡ Some (path, drop count left)

-- a call that is to fail, or that asks for what is not there
abbrev pub IsRefused : MemFolder → Type 0 → Type 0
IsRefused folder missing = Contains folder.failing.items folder.calls ⊎ missing

-- the entries, the most bytes of a read, what is told of lengths, and the calls that fail stay as they were
pub record HasSameEntries (old new : MemFolder) : Type 0 where
  pub entries : new.entries ≡ old.entries
  pub piece : new.piece ≡ old.piece
  pub told : new.told ≡ old.told
  pub failing : new.failing ≡ old.failing
