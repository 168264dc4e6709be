-- The lines of entries.
use Rattle.std.specs.Prelude.{ℕ, Bool, true, false, List, [], ◌∷◌, ◌++◌, length, drop, Option, Some, None}
use Rattle.std.specs.Prelude.{if◌then◌else◌, codes}
use Rattle.std.specs.List.{flat_map}
use Rattle.std.specs.Fmt.{decimal}
use Rattle.std.specs.Str.{is_utf8}
use Rattle.store_model.specs.Paths.{Path, parent, same_path, is_inside}
use Rattle.store_model.specs.Trees.{Tree}
use Rattle.box_words.specs.Shown.{shown_text, visible_text, visible_byte}
use Rattle.dump_views.specs.Texts.{right_aligned, utc_column}
use Rattle.entry_lines.specs.declared.form.ListForm.{ListForm}
use Rattle.entry_lines.specs.declared.entry.EntryKind.{EntryKind}
use Rattle.entry_lines.specs.declared.entry.EntryKind.TheVariants as kinds
use Rattle.entry_lines.specs.declared.entry.EntryFacts.{EntryFacts}
use Rattle.entry_lines.specs.Entries.{facts_of, link_to}

-- ---- the columns of a long line

-- the letter of a folder, a link, a file that may be executed, another file
abbrev pub letter_by : EntryKind → Option (List ℕ) → Bool → List ℕ
letter_by kinds.Folder link is_executable = codes "d"
letter_by (kinds.File len) (Some target) is_executable = codes "l"
letter_by (kinds.File len) None is_executable = if is_executable then codes "x" else codes "f"

abbrev pub letter_of : EntryFacts → List ℕ
letter_of f = letter_by f.kind (link_to f) f.is_executable

-- the bytes of a file
abbrev pub size_text : EntryKind → List ℕ
size_text kinds.Folder = codes "-"
size_text (kinds.File len) = decimal len

-- kind, size and time
abbrev pub columns : EntryFacts → List ℕ
columns f = letter_of f ++ codes " " ++ right_aligned (size_text f.kind) ++ codes " " ++ utc_column f.seconds
    ++ codes " "

abbrev pub columns_text : ListForm → EntryFacts → List ℕ
columns_text form f = if form.is_long then columns f else []

-- ---- its name

-- what is told of a path: its names below `top`, and of `top` itself its last name
abbrev pub base_of : Path → Path → Path
base_of top path = if is_inside path top then top else parent top

abbrev pub told_path : Path → Path → Path
told_path top path = drop (length (base_of top path)) path

-- bytes as a terminal is shown them
abbrev pub terminal_bytes : List ℕ → List ℕ
terminal_bytes bytes = if is_utf8 bytes then visible_text bytes else flat_map visible_byte bytes

abbrev pub seen : ListForm → List ℕ → List ℕ
seen form bytes = if form.is_visible then terminal_bytes bytes else bytes

-- a path as it is shown, without the `/` in front
abbrev pub path_shown : ListForm → Path → List ℕ
path_shown form path = seen form (drop 1 (shown_text form.spelling path))

-- a folder's has `/` at its end
abbrev pub slash_of : EntryKind → List ℕ
slash_of kinds.Folder = codes "/"
slash_of (kinds.File len) = []

unfoldable pub name_text : ListForm → Path → EntryFacts → List ℕ
name_text form top f = path_shown form (told_path top f.path) ++ slash_of f.kind

-- where a link leads
abbrev pub target_text : ListForm → Option (List ℕ) → List ℕ
target_text form None = []
target_text form (Some target) = codes " -> " ++ seen form target

abbrev pub link_text : ListForm → EntryFacts → List ℕ
link_text form f = if form.is_long then target_text form (link_to f) else []

-- ---- the line

abbrev pub line_end : ListForm → List ℕ
line_end form = if form.is_zero then 0 ∷ [] else 10 ∷ []

-- the line of an entry that stands at `top` or below it
unfoldable pub line_of : ListForm → Path → EntryFacts → List ℕ
line_of form top f = columns_text form f ++ name_text form top f ++ link_text form f ++ line_end form

abbrev pub is_file : EntryKind → Bool
is_file kinds.Folder = false
is_file (kinds.File len) = true

-- whether an entry is listed: a file itself; of a folder its children, or all below it
abbrev pub is_listed : ListForm → Path → EntryFacts → Bool
is_listed form top f = if same_path f.path top then is_file f.kind
    else if form.is_below then is_inside f.path top else same_path (parent f.path) top

abbrev pub entry_text : ListForm → Path → EntryFacts → List ℕ
entry_text form top f = if is_listed form top f then line_of form top f else []

-- what is listed of a tree at a path: the lines of its entries that are listed, in the order of paths
unfoldable pub list_text : ListForm → Path → Tree → List ℕ
list_text form top t = flat_map (λ e. entry_text form top (facts_of e.0 e.1)) t
