-- The keys of the pairs that what was found asks for.
use Rattle.std.specs.Prelude.{◌≡◌, ℕ, false, IsTrue, if◌then◌else◌, List, [], ◌∷◌, ◌++◌, map, length}
use Rattle.std.specs.List.{flat_map, AllByRecursion}
use Rattle.store_model.specs.declared.version.Version.{Version}
use Rattle.store_model.specs.Lists.{numbers_from, run_count}
use Rattle.store_model.specs.Pairs.{file_block, is_inline}
use Rattle.store_model.specs.Paths.{Name, Path, attribute_key, fits_attribute, is_root, key}
use Rattle.host_builder.specs.HostAttributes.{link_name}
use Rattle.host_folders.specs.FoundEntries.{own_attributes}
use Rattle.host_folders.specs.declared.found.Found.{Found}
use Rattle.host_folders.specs.declared.found.FoundKind.{FoundKind}
use Rattle.host_folders.specs.declared.found.FoundKind.TheVariants as kinds

-- the length that what was found had, if it is a file
abbrev pub told_length : FoundKind → List ℕ
told_length kinds.Folder = []
told_length (kinds.File len) = len ∷ []
told_length kinds.Link = []

-- the lengths that the files had when they were found, in the order in which they were found
unfoldable pub told_lengths : List Found → List ℕ
told_lengths found = flat_map (λ f. told_length f.kind) found

-- each file has as many bytes as it had when it was found
abbrev pub HaveLengths : List Found → List (Path × List ℕ) → Type 0
HaveLengths found files = map (λ file. length file.1) files ≡ told_lengths found

-- how many blocks a file of so many bytes has; none where its bytes stand in its first pair
abbrev pub block_count : Version → ℕ → ℕ
block_count version len = if is_inline version len then 0 else run_count file_block len

abbrev pub blocks_of : Version → FoundKind → ℕ
blocks_of version kinds.Folder = 0
blocks_of version (kinds.File len) = block_count version len
blocks_of version kinds.Link = 0

-- the keys of so many blocks
abbrev pub block_keys : Path → ℕ → List (List ℕ)
block_keys path count = map (key path) (numbers_from 1 count)

-- the names of the attributes that what was found gets
abbrev pub own_names : Found → List Name
own_names found = map (λ attribute. attribute.0) (own_attributes found)

abbrev pub names_by : FoundKind → Found → List Name
names_by kinds.Folder found = own_names found
names_by (kinds.File len) found = own_names found
names_by kinds.Link found = link_name ∷ []

abbrev pub name_keys : Path → List Name → List (List ℕ)
name_keys path names = map (attribute_key path) names

-- the keys of what was found: of its first pair, of its blocks, and of its attributes
unfoldable pub found_keys : Version → Found → List (List ℕ)
found_keys version found = (key found.path 0 ∷ block_keys found.path (blocks_of version found.kind))
    ++ name_keys found.path (names_by found.kind found)

-- the keys of all that was found, in the order in which it was found
unfoldable pub keys_found : Version → List Found → List (List ℕ)
keys_found version found = flat_map (found_keys version) found

-- the field of a key has room for each of these names behind a path
abbrev pub HaveFields : Path → List Name → Type 0
HaveFields path names = AllByRecursion (λ name. IsTrue (fits_attribute path name)) names

-- each attribute of what was found has a key
pub record HasKeys (found : Found) : Type 0 where
  pub below_root : is_root found.path ≡ false
  pub names : HaveFields found.path (names_by found.kind found)
