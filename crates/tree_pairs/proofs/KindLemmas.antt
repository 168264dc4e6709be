-- Lemmas on the first pair of a path: it says what stands there.
use Rattle.std.proofs.Common.{◌≡◌, ℕ, ◌<◌, ◌≤◌, List, length, Bool, true, false, IsTrue, Option, Some, None, Ok}
use Rattle.std.proofs.Common.{is_some, refl, sym, ap, subst, ◌∙◌, arith}
use Rattle.std.specs.Prelude.{Result, Err, IfOk}
use Rattle.std.specs.FinMap.{find}
use Rattle.store_model.specs.declared.version.Version.{Version}
use Rattle.store_model.specs.Parameters.{Parameters}
use Rattle.store_model.specs.Paths.{Path, is_root, is_path, is_place, path_cmp, key, key_cmp}
use Rattle.store_model.specs.Pairs.{is_inline}
use Rattle.store_model.specs.Trees.{Tree, Node, node_of, node_at, contents_of, file_limit}
use Rattle.store_model.specs.Trees.Node.{Directory, File}
use Rattle.store_model.proofs.PathsLemmas.{place_of_path}
use Rattle.store_model.proofs.TreesLemmas.{node_at-find, contents_of_tree}
use Rattle.store_base.specs.declared.store_fault.Fault.{Fault}
use Rattle.ordered_pairs.specs.PairsState.{PairsState, IsPairGet}
use Rattle.tree_pairs.specs.declared.kind.Kind.{Kind}
use Rattle.tree_pairs.specs.Kinds.{kind_of, kind_of_node, IsFileValue, IsValueOf, Says, file_first, first_value, IsKind}
use Rattle.tree_pairs.proofs.TreeBlocks.{file_block_value, block_value, tree_blocks}
use Rattle.tree_pairs.proofs.PlaceLemmas.{path_blocks}
use Rattle.tree_pairs.specs.TreeCalls.{HoldsTree, TellsKind, TellsFirst}
use Rattle.tree_pairs.proofs.BlocksLemmas.{pairs_have_blocks}

-- what is found at a key of a list that holds a tree
pub find_in_held : (state : PairsState) (t : Tree) (p : Parameters) (x : Path) (i : ℕ) → HoldsTree state t p
    → IsTrue (is_place x) → i < 4294967296 → find key_cmp (key x i) state.pairs ≡ tree_blocks t p x i
find_in_held state t p x i h place l = ap (find key_cmp (key x i)) h.pairs_are
    ∙ (pairs_have_blocks t p h.tree).each x i place l

-- ---- the first pair of what stands at a path

-- a file has one
some_of_file : (inline : Bool) (bytes : List ℕ) → file_block_value inline bytes 0 ≡ None → ⊥
some_of_file true bytes e = cc
some_of_file false bytes e = cc

-- so has whatever stands there
pub first_of_some : (o : Option Node) (version : Version) → is_some o ≡ true → block_value o version 0 ≡ None → ⊥
first_of_some None version is e = cc
first_of_some (Some Directory) version is e = cc
first_of_some (Some (File bytes)) version is e = some_of_file (is_inline version (length bytes)) bytes e

-- its value is one of its kind's
value_of_file : (inline : Bool) (bytes : List ℕ) → IsFileValue inline (length bytes) (file_first inline bytes)
value_of_file true bytes = (bytes, refl, refl)
value_of_file false bytes = refl

pub value_of_node : (node : Node) (version : Version) (v : List ℕ) → first_value (Some node) version ≡ Some v
    → IsValueOf version (kind_of node) v
value_of_node Directory version v e = cc
value_of_node (File bytes) version v e = let is : file_first (is_inline version (length bytes)) bytes ≡ v = cc
    in subst (IsFileValue (is_inline version (length bytes)) (length bytes)) is
    (value_of_file (is_inline version (length bytes)) bytes)

-- it is block 0
first_of_file : (inline : Bool) (bytes : List ℕ) → file_block_value inline bytes 0 ≡ Some (file_first inline bytes)
first_of_file true bytes = refl
first_of_file false bytes = refl

pub first_is_block : (o : Option Node) (version : Version) → block_value o version 0 ≡ first_value o version
first_is_block None version = refl
first_is_block (Some Directory) version = refl
first_is_block (Some (File bytes)) version = first_of_file (is_inline version (length bytes)) bytes

-- what stands in a tree is a kind
kind_is_kind : (node : Node) → length (contents_of (Some node)) ≤ file_limit → IsKind (kind_of node)
kind_is_kind Directory l = tt
kind_is_kind (File bytes) l = l

-- no first pair: nothing stands there
pub kind_of_none : (o : Option Node) (version : Version) → None ≡ first_value o version → None ≡ kind_of_node o
kind_of_none None version e = refl
kind_of_none (Some Directory) version e = cc
kind_of_none (Some (File bytes)) version e = cc

-- a first pair, read as what its value says
pub kind_of_some : (o : Option Node) (version : Version) (v : List ℕ) (found : Option Kind)
    → length (contents_of o) ≤ file_limit → Some v ≡ first_value o version
    → ((kind : Kind) → IsKind kind → Says v kind → found ≡ Some kind) → found ≡ kind_of_node o
kind_of_some None version v found l e only = cc
kind_of_some (Some node) version v found l e only =
    only (kind_of node) (kind_is_kind node l) (version, value_of_node node version v (sym e))

-- ---- over a list that holds a tree

-- the first pair of a path below the root
pub first_in_held : (state : PairsState) (t : Tree) (p : Parameters) (x : Path) → HoldsTree state t p
    → IsTrue (is_path x) → is_root x ≡ false → find key_cmp (key x 0) state.pairs ≡ first_value (node_at t x) p.version
first_in_held state t p x h path below =
    find_in_held state t p x 0 h (place_of_path x path) (omega arith) ∙ path_blocks t p.version x 0 path
    ∙ first_is_block (node_of (find path_cmp x t)) p.version
    ∙ ap (λ o. first_value o p.version) (sym (node_at-find t x below))

-- what follows from a fact on the value of Ok
if_ok : {T E : Type 0} (P Q : T → Type 0) (result : Result T E) → ((value : T) → P value → Q value)
    → IfOk result P → IfOk result Q
if_ok P Q (Ok value) f h = f value h
if_ok P Q (Err fault) f h = tt

-- a call that looks for another path's
pub tells_found : (x : Path) (k : List ℕ) (old new : PairsState) (result : Result (Option (List ℕ)) Fault)
    → IsTrue (is_path x) → is_root x ≡ false → k ≡ key x 0 → IsPairGet old new k result → TellsFirst x old new result
tells_found x k old new result path below key_is got = record {
  faults = got.faults;
  keeps = record {
    observable = λ seen. (got.observed seen).observable;
    unchanged = λ seen. (got.observed seen).unchanged;
  };
  told = λ seen t p holds. if_ok _ _ result (λ first found. found ∙ ap (λ q. find key_cmp q old.pairs) key_is
      ∙ first_in_held old t p x holds path below) (got.observed seen).found;
}

-- what the first pair says is what stands there
pub tells_kind : (x : Path) (old new : PairsState) (first : Option (List ℕ)) (kind : Option Kind)
    → TellsFirst x old new (Ok first)
    → ((o : Option Node) (version : Version) → length (contents_of o) ≤ file_limit → first ≡ first_value o version
    → kind ≡ kind_of_node o) → TellsKind x old new (Ok kind)
tells_kind x old new first kind tells says = record {
  faults = tells.faults;
  keeps = tells.keeps;
  told = λ seen t p holds. says (node_at t x) p.version (contents_of_tree t x holds.tree).0 (tells.told seen t p holds);
}
