-- What was found in a folder, as the entries of a tree.
use Rattle.std.specs.Prelude.{ℕ, Bool, true, false, List, [], ◌∷◌, Option}
use Rattle.std.specs.List.{flat_map}
use Rattle.store_model.specs.Paths.{Name, Path}
use Rattle.store_model.specs.Trees.{Tree, Node, Entry, Attributes}
use Rattle.store_model.specs.Trees.Node.{Directory, File}
use Rattle.host_builder.specs.HostAttributes.{mode_name, mtime_name, link_name}
use Rattle.host_folders.specs.Facts.{marked, numbered, somes}
use Rattle.host_folders.specs.declared.found.Found.{Found}
use Rattle.host_folders.specs.declared.found.FoundKind.{FoundKind}
use Rattle.host_folders.specs.declared.found.FoundKind.TheVariants as kinds

abbrev pub is_folder : FoundKind → Bool
is_folder kinds.Folder = true
is_folder (kinds.File len) = false
is_folder kinds.Link = false

abbrev pub is_file : FoundKind → Bool
is_file kinds.Folder = false
is_file (kinds.File len) = true
is_file kinds.Link = false

abbrev pub is_link : FoundKind → Bool
is_link kinds.Folder = false
is_link (kinds.File len) = false
is_link kinds.Link = true

-- What attributes are to say of a folder or a file that was found, in the order of their names: the fields of `Found`
-- say what each is.
abbrev pub facts_of : Found → List (Option (Name × List ℕ))
facts_of found = marked mode_name found.is_executable
    ∷ numbered mtime_name found.seconds
    ∷ []

-- the attributes of a folder or a file that was found
abbrev pub own_attributes : Found → Attributes
own_attributes found = somes (facts_of found)

-- the attributes of a link: where it leads, and nothing else
abbrev pub link_attributes : List ℕ → Attributes
link_attributes target = (link_name, target) ∷ []

-- A file is told by its bytes, which come in the order in which the files were found. A link is an empty file.
abbrev pub found_node : FoundKind → List ℕ → Node
found_node kinds.Folder bytes = Directory
found_node (kinds.File len) bytes = File bytes
found_node kinds.Link bytes = File []

abbrev pub attributes_by : FoundKind → Found → List ℕ → Attributes
attributes_by kinds.Folder found target = own_attributes found
attributes_by (kinds.File len) found target = own_attributes found
attributes_by kinds.Link found target = link_attributes target

-- what was found, of which these are the bytes if it is a file, and the target if it is a link
abbrev pub found_entry : Found → List ℕ → List ℕ → Path × Entry
found_entry found bytes target = (
  found.path,
  record {
    node = found_node found.kind bytes;
    attributes = attributes_by found.kind found target;
  },
)

-- what is said of an entry that is one of those of which something is said, in their order, and what is left for the
-- entries behind it
abbrev pub said_here : Bool → List (List ℕ) → List ℕ
said_here false said = []
said_here true [] = []
said_here true (bytes ∷ said) = bytes

abbrev pub said_behind : Bool → List (List ℕ) → List (List ℕ)
said_behind false said = said
said_behind true [] = []
said_behind true (bytes ∷ said) = said

-- The entries of what was found, whose files have these bytes, and whose links lead to these targets, one after
-- another.
unfoldable pub entries_of : List Found → List (List ℕ) → List (List ℕ) → Tree
entries_of [] contents targets = []
entries_of (found ∷ more) contents targets =
    found_entry found (said_here (is_file found.kind) contents) (said_here (is_link found.kind) targets)
    ∷ entries_of more (said_behind (is_file found.kind) contents) (said_behind (is_link found.kind) targets)

-- the paths of what was found that is of some kind
abbrev pub path_if : Bool → Path → List Path
path_if false path = []
path_if true path = path ∷ []

unfoldable pub paths_of : (FoundKind → Bool) → List Found → List Path
paths_of is found = flat_map (λ f. path_if (is f.kind) f.path) found

abbrev pub file_paths : List Found → List Path
file_paths found = paths_of is_file found

abbrev pub link_paths : List Found → List Path
link_paths found = paths_of is_link found

abbrev pub folder_paths : List Found → List Path
folder_paths found = paths_of is_folder found
