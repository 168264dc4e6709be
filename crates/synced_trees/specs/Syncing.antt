-- What one tree becomes where another is laid over it, or put in its place.
use Rattle.std.specs.Prelude.{◌≡◌, Bool, true, false, ◌&&◌, ◌||◌, Option, Some, None}
use Rattle.std.specs.List.{list_any}
use Rattle.std.specs.Option.{option_or}
use Rattle.store_model.specs.Paths.{Path, Name, is_inside}
use Rattle.store_model.specs.Trees.{Tree, Node, IsTree, node_at, attribute_at, is_directory, is_file}
use Rattle.store_model.specs.Trees.Node.{Directory, File}

-- what is told, where what is not told goes, and else what is told before what was there
abbrev pub synced : {X : Type 0} → Bool → Option X → Option X → Option X
synced true old told = told
synced false old told = option_or told old

-- whether one is a directory, and the other a file
abbrev pub differ_in_kind : Option Node → Option Node → Bool
differ_in_kind (Some Directory) (Some (File bytes)) = true
differ_in_kind (Some (File bytes)) (Some Directory) = true
differ_in_kind (Some Directory) (Some Directory) = false
differ_in_kind (Some (File bytes)) (Some (File others)) = false
differ_in_kind (Some node) None = false
differ_in_kind None told = false

-- whether an attribute that is not told goes, by what stood at its path, and what is told to: where nothing is told, it
-- goes with the path; where another kind is, it goes; and of a path that stays of its kind those go that are taken
abbrev pub goes : Bool → Bool → Option Node → Option Node → Bool
goes deletes taken old None = deletes
goes deletes taken old (Some node) = taken || differ_in_kind old (Some node)

-- The tree that holds what is told, and of the old one, unless what is not told goes, all else: the paths that were not
-- told, and, of a path that stays of its kind, those attributes that are not taken.
pub record IsSynced (deletes : Bool) (takes : Name → Bool) (old told new : Tree) : Type 0 where
  pub is_tree : IsTree new
  pub nodes : (p : Path) → node_at new p ≡ synced deletes (node_at old p) (node_at told p)
  pub attributes : (p : Path) (a : Name) → attribute_at new p a
      ≡ synced (goes deletes (takes a) (node_at old p) (node_at told p)) (attribute_at old p a) (attribute_at told p a)

-- whether anything stands below a path
abbrev pub has_below : Tree → Path → Bool
has_below t p = list_any (λ e. is_inside e.0 p) t

-- whether a directory with something below it stands where a file is told
abbrev pub hides : Tree → Tree → Path → Bool
hides old told p = is_directory old p && is_file told p && has_below old p

-- a tree may be laid over another where it hides nothing
abbrev pub HidesNone : Tree → Tree → Type 0
HidesNone old told = (p : Path) → hides old told p ≡ false
