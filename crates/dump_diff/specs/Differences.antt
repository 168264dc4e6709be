-- What is different between two trees.
use Rattle.std.specs.Prelude.{◌≡◌, ℕ, List, map, not, Option, Some, None, IsSome, IsNone, IsTrue}
use Rattle.std.specs.FinMap.{find, is_sorted}
use Rattle.store_model.specs.Paths.{Path, path_cmp}
use Rattle.store_model.specs.Trees.{Tree, Entry, is_directory_node}
use Rattle.store_model.specs.Trees.Node.{File}
use Rattle.dump_diff.specs.declared.difference.Mark.{Mark}
use Rattle.dump_diff.specs.declared.difference.Mark.TheVariants.{Removed, Added, Kind, Bytes, Attributes}
use Rattle.dump_diff.specs.declared.difference.Difference.{Difference}

-- both trees have an entry at a path, and the two are related so
abbrev pub AreBoth : (Entry → Entry → Type 0) → Option Entry → Option Entry → Type 0
AreBoth related (Some e) (Some f) = related e f
AreBoth related (Some e) None = ⊥
AreBoth related None f = ⊥

-- one is a directory, and the other a file
abbrev pub AreOfOtherKinds : Entry → Entry → Type 0
AreOfOtherKinds e f = is_directory_node (Some e.node) ≡ not (is_directory_node (Some f.node))

-- both are files, with other bytes
pub record HaveOtherBytes (e f : Entry) : Type 0 where
  pub bytes : List ℕ
  pub others : List ℕ
  pub first : e.node ≡ File bytes
  pub second : f.node ≡ File others
  pub other : bytes ≡ others → ⊥

-- both are directories, or files of the same bytes, and their attributes differ
pub record HaveOtherAttributes (e f : Entry) : Type 0 where
  pub node : e.node ≡ f.node
  pub other : e.attributes ≡ f.attributes → ⊥

-- what two trees have at a path differs so
abbrev pub DifferSo : Mark → Option Entry → Option Entry → Type 0
DifferSo Removed e f = IsSome e × IsNone f
DifferSo Added e f = IsNone e × IsSome f
DifferSo Kind e f = AreBoth AreOfOtherKinds e f
DifferSo Bytes e f = AreBoth HaveOtherBytes e f
DifferSo Attributes e f = AreBoth HaveOtherAttributes e f

-- what two trees have at a path is the same, where there is no mark, and else it differs so
abbrev pub Tells : Option Mark → Option Entry → Option Entry → Type 0
Tells None e f = e ≡ f
Tells (Some mark) e f = DifferSo mark e f

-- The marks are a map from the paths at which two trees differ to how they differ there, as its entries in the order
-- of paths.
pub record AreDifferences (t u : Tree) (marks : List (Path × Mark)) : Type 0 where
  pub rising : IsTrue (is_sorted path_cmp marks)
  pub each : (p : Path) → Tells (find path_cmp p marks) (find path_cmp p t) (find path_cmp p u)

-- the paths and marks of differences
abbrev pub marks_of : List Difference → List (Path × Mark)
marks_of differences = map (λ d. (d.path, d.mark)) differences
