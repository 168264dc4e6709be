-- What a tree has at some paths and below them.
use Rattle.std.specs.Prelude.{List, [], map, Bool, ◌&&◌, ◌||◌, Some, if◌then◌else◌}
use Rattle.std.specs.List.{filter, list_any}
use Rattle.store_model.specs.Paths.{Path, is_inside, is_at_or_inside}
use Rattle.store_model.specs.Trees.{Tree, Entry, is_directory_node}
use Rattle.store_model.specs.Trees.Node.{Directory}

-- a directory without attributes
abbrev pub bare_directory : Entry
bare_directory = record { node = Directory; attributes = [] }

-- whether a path is one of these or lies below one of them
abbrev pub is_within : List Path → Path → Bool
is_within paths path = list_any (λ q. is_at_or_inside path q) paths

-- whether it leads to one of them
abbrev pub is_above : List Path → Path → Bool
is_above paths path = list_any (λ q. is_inside q path) paths

-- whether an entry is one of these parts, or a directory that leads to one
abbrev pub is_kept : List Path → Path × Entry → Bool
is_kept paths e = is_within paths e.0 || (is_above paths e.0 && is_directory_node (Some e.1.node))

-- what stands there then: a directory that only leads to a part has no attributes
abbrev pub entry_kept : List Path → Path × Entry → Path × Entry
entry_kept paths e = (e.0, if is_within paths e.0 then e.1 else bare_directory)

-- The tree that holds what another has at some paths and below them, at the same places, and the directories that lead
-- there. These have no attributes. Nothing more stands at a path at which nothing stands, and at the root stands the
-- whole tree.
unfoldable pub parts_at : Tree → List Path → Tree
parts_at t paths = map (entry_kept paths) (filter (is_kept paths) t)
