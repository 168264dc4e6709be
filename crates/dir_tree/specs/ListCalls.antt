-- What the inner calls of a listing do.
use Rattle.std.specs.Prelude.{◌≡◌, ◌-◌, ◌<◌, ◌^◌, ℕ, true, false, List, map, length, Option, Some, None, IsTrue, IfSome}
use Rattle.std.specs.Prelude.{MatchOption, Result, IfOk}
use Rattle.std.specs.Ordering.{is_le}
use Rattle.std.specs.declared.cmp.Ordering.TheVariants.{Less}
use Rattle.store_model.specs.Parameters.{Parameters}
use Rattle.store_model.specs.Paths.{Path, Name, is_root, is_path, is_place, is_attribute_name, fits_attribute}
use Rattle.store_model.specs.Paths.{attribute_place, is_at_or_inside, parent, key, key_cmp}
use Rattle.store_model.specs.Trees.{Tree, Node, exists, is_directory, node_at, children}
use Rattle.store_model.specs.Trees.Node.{Directory, File}
use Rattle.store_model.specs.Commands.{Child}
use Rattle.store_model.specs.Steps.{child_of}
use Rattle.store_base.specs.declared.store_fault.Fault.{Fault}
use Rattle.store_base.specs.Faults.{disk_faults_after}
use Rattle.ordered_pairs.specs.PairsState.{PairsState, IsObservable}
use Rattle.tree_pairs.specs.TreeCalls.{HoldsTree, KeepsPairs}

-- the size of a file
abbrev pub size_at : Option Node → Option ℕ
size_at None = None
size_at (Some Directory) = None
size_at (Some (File bytes)) = Some (length bytes)

-- a call that says the size of a file
pub record TellsSize (path : Path) (old new : PairsState) (result : Result (Option ℕ) Fault) : Type 0 where
  pub faults : new.faults ≡ disk_faults_after old.faults result
  pub keeps : KeepsPairs old new
  pub told : IsObservable old → (t : Tree) (p : Parameters) → HoldsTree old t p
      → IfOk result (λ size. size ≡ size_at (node_at t path))

-- the key stands behind a path's own keys: those of its blocks, and of its attributes
pub record IsBehindOwn (path : Path) (from : List ℕ) : Type 0 where
  pub blocks : (block : ℕ) → block < 2 ^ 32 - 1 → key_cmp (key path block) from ≡ Less
  pub attributes : (a : Name) (block : ℕ) → IsTrue (is_attribute_name a)
      → IsTrue (fits_attribute path a) → block < 2 ^ 32
      → key_cmp (key (attribute_place path a) block) from ≡ Less

-- the key stands behind a path's own keys, and in the midst of no child's subtree
pub record IsBetween (path : Path) (from : List ℕ) : Type 0 where
  pub own : IsBehindOwn path from
  pub whole : (child place : Path) (block : ℕ) → IsTrue (is_path child) → is_root child ≡ false → parent child ≡ path
      → key_cmp (key child 0) from ≡ Less
      → IsTrue (is_place place) → block < 2 ^ 32 → is_at_or_inside place child ≡ true
      → key_cmp (key place block) from ≡ Less

-- the path is a child of another, and its first key is from a key on
pub record IsChildFrom (from : List ℕ) (path : Path) (t : Tree) (child : Path) : Type 0 where
  pub below_root : is_root child ≡ false
  pub parent_is : parent child ≡ path
  pub stands : exists t child ≡ true
  pub behind : is_le (key_cmp from (key child 0)) ≡ true

-- there is no child from a key on
abbrev pub LacksChild : List ℕ → Path → Tree → Type 0
LacksChild from path t = (child : Path) → IsChildFrom from path t child → ⊥

-- the path is the first child from a key on
pub record IsFirstChild (from : List ℕ) (path : Path) (t : Tree) (child : Path) : Type 0 where
  pub is_child : IsChildFrom from path t child
  pub first : (other : Path) → IsChildFrom from path t other → is_le (key_cmp (key child 0) (key other 0)) ≡ true

-- a call that finds the first child of a directory from a key between its children on
pub record FindsChild (from : List ℕ) (path : Path) (old new : PairsState)
    (result : Result (Option Path) Fault) : Type 0 where
  pub faults : new.faults ≡ disk_faults_after old.faults result
  pub keeps : KeepsPairs old new
  pub valid : IfOk result (λ found. IfSome found (λ child. IsTrue (is_path child)))
  pub below_root : IfOk result (λ found. IfSome found (λ child. is_root child ≡ false))
  pub found : IsObservable old → (t : Tree) (p : Parameters) → HoldsTree old t p → IsTrue (is_path path)
      → is_directory t path ≡ true → IsBetween path from
      → IfOk result (λ found. MatchOption found (LacksChild from path t) (IsFirstChild from path t))

-- a call that lists the children of a directory
pub record ListsChildren (path : Path) (old new : PairsState) (result : Result (List Child) Fault) : Type 0 where
  pub faults : new.faults ≡ disk_faults_after old.faults result
  pub keeps : KeepsPairs old new
  pub listed : IsObservable old → (t : Tree) (p : Parameters) → HoldsTree old t p → is_directory t path ≡ true
      → IfOk result (λ entries. entries ≡ map child_of (children t path))
