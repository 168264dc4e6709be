-- Lemmas on the two forms of a file: its bytes stand in its first pair, or in the blocks behind it.
use Rattle.std.proofs.Common.{◌≡◌, ℕ, zero, suc, ◌≤◌, List, [], ◌∷◌, length, Bool, true, false, cond, IsTrue, Option}
use Rattle.std.proofs.Common.{Some, None, Ok, refl, sym, ap, subst, ◌∙◌, arith, inl, inr}
use Rattle.std.specs.FinMap.{find}
use Rattle.std.proofs.lemmas.Bool.{false≢true, leb-true, le-leb}
use Rattle.store_model.specs.declared.version.Version.{Version}
use Rattle.store_model.specs.declared.version.Version.TheVariants.{One, Two}
use Rattle.store_model.specs.Lists.{run_at}
use Rattle.store_model.specs.Parameters.{Parameters}
use Rattle.store_model.specs.Paths.{Path, is_path, path_cmp, same_path}
use Rattle.store_model.specs.Pairs.{Pair, file_block, file_value, inline_value, is_inline, pairs}
use Rattle.store_model.specs.Trees.{Tree, Node, IsTree, node_of, node_at, is_directory, is_directory_node, contents_of}
use Rattle.store_model.specs.Trees.{contents}
use Rattle.store_model.specs.Trees.Node.{Directory, File}
use Rattle.store_model.proofs.TreesLemmasBytes.{heads_same}
use Rattle.ordered_pairs.specs.PairsState.{PairsState, IsObservable}
use Rattle.tree_pairs.specs.declared.kind.Kind.TheVariants as kinds
use Rattle.tree_pairs.specs.Blocks.{BlockMap, run_value}
use Rattle.tree_pairs.specs.Kinds.{kind_of_node, file_first, first_value, LacksBytes}
use Rattle.tree_pairs.specs.TreeCalls.{HoldsTree, TellsFirst}
use Rattle.tree_pairs.proofs.TreeBlocks.{file_block_value, block_value, tree_blocks}
use Rattle.tree_pairs.proofs.PlaceLemmas.{path_blocks}
use Rattle.tree_pairs.proofs.BlocksLemmas.{run_value-none, length-run_at, blocks_alike}
use Rattle.tree_pairs.proofs.ChangesLemmas.{blocks_at}
use Rattle.file_blocks.specs.FileCalls.{file_blocks, HasFile, IsFirst, StandsAs}
use Rattle.file_blocks.specs.Refusals.{size_of}

-- ---- the form by the length

-- a version that has a file in one pair has a shorter one so
pub inline_below : (version : Version) (m n : ℕ) → m ≤ n → is_inline version n ≡ true → is_inline version m ≡ true
inline_below One m n l e = absurd (false≢true e)
inline_below Two m n l e = let short = leb-true n 200 e in le-leb m 200 (omega arith)

-- ---- the form by the first pair

-- a first pair that has bytes is that of a file in one pair
inline_first : (inline : Bool) (bytes found : List ℕ) (first : Option (List ℕ)) → IsFirst inline bytes first
    → first ≡ Some (inline_value found) → (inline ≡ true) × (bytes ≡ found)
inline_first inline bytes found first (inl none) e = absurd (let is = none.0 in cc)
inline_first true bytes found first (inr is) e = (refl, cc)
inline_first false bytes found first (inr is) e = let values : file_value (length bytes) ≡ inline_value found = cc
    in let head : ◌≡◌ {A = ℕ} 2 3 = heads_same values in absurd (omega arith)

-- so the file has these bytes and no blocks
pub stands_in_first : (inline : Bool) (x : Path) (bytes found : List ℕ) (first : Option (List ℕ)) (others : BlockMap)
    (s : List Pair) → StandsAs inline x first bytes others s → first ≡ Some (inline_value found)
    → (bytes ≡ found) × HasFile x first [] others s
stands_in_first inline x bytes found first others s stands e =
    let form = inline_first inline bytes found first stands.0 e in
    (form.1, subst (λ b. HasFile x first (cond b [] bytes) others s) form.0 stands.1)

-- where it has none, the bytes stand in blocks
pub stands_in_blocks : (inline : Bool) (x : Path) (bytes : List ℕ) (first : Option (List ℕ)) (others : BlockMap)
    (s : List Pair) → StandsAs inline x first bytes others s → LacksBytes first → HasFile x first bytes others s
stands_in_blocks true x bytes first others s (inl none, has) lacks =
    subst (λ (z : List ℕ). HasFile x first z others s) (sym none.1) has
stands_in_blocks true x bytes first others s (inr is, has) lacks = absurd (lacks bytes is)
stands_in_blocks false x bytes first others s (begun, has) lacks = has

-- ---- what stands at a path of a tree

-- no bytes have no runs
no_run : (i : ℕ) → None ≡ run_value (run_at file_block [] i)
no_run i = sym (run_value-none (run_at file_block [] i) (let l = length-run_at file_block [] i in omega arith))

-- a file's blocks
pub file_blocks_in : (inline : Bool) (bytes : List ℕ) (i : ℕ)
    → file_block_value inline bytes i ≡ file_blocks (Some (file_first inline bytes)) (cond inline [] bytes) i
file_blocks_in true bytes zero = refl
file_blocks_in true bytes (suc i) = no_run i
file_blocks_in false bytes zero = refl
file_blocks_in false bytes (suc i) = refl

-- nothing has no blocks
none_behind : (inline : Bool) (i : ℕ) → None ≡ run_value (run_at file_block (cond inline [] []) i)
none_behind true i = no_run i
none_behind false i = no_run i

-- what stands at a path, as a first pair and bytes behind it
node_blocks : (o : Option Node) (version : Version) → is_directory_node o ≡ false → (i : ℕ)
    → block_value o version i ≡ file_blocks (first_value o version)
    (cond (is_inline version (length (contents_of o))) [] (contents_of o)) i
node_blocks None version h zero = refl
node_blocks None version h (suc i) = none_behind (is_inline version 0) i
node_blocks (Some Directory) version h i = cc
node_blocks (Some (File bytes)) version h i = file_blocks_in (is_inline version (length bytes)) bytes i

-- its first pair is that of a file
node_first : (o : Option Node) (version : Version) → is_directory_node o ≡ false
    → IsFirst (is_inline version (length (contents_of o))) (contents_of o) (first_value o version)
node_first None version h = inl (refl, refl)
node_first (Some Directory) version h = cc
node_first (Some (File bytes)) version h = inr refl

-- so the pairs of a tree have the contents of a path that is no directory
stands_in_tree : (t : Tree) (p : Parameters) (x : Path) → IsTrue (is_path x) → IsTree t → is_directory t x ≡ false
    → StandsAs (is_inline p.version (length (contents t x))) x (first_value (node_at t x) p.version) (contents t x)
    (tree_blocks t p) (pairs t p)
stands_in_tree t p [] path h other = cc
stands_in_tree t p (n ∷ x) path h other =
    let o = node_of (find path_cmp (n ∷ x) t) in (
      node_first o p.version other,
      blocks_alike _ _ (pairs t p)
          (λ y i. ap (λ v. cond (same_path y (n ∷ x)) v (tree_blocks t p y i))
          (path_blocks t p.version (n ∷ x) i path ∙ node_blocks o p.version other i)) (blocks_at t p (n ∷ x) h),
    )

-- and so has a list whose first pair was found
pub stands_found : (x : Path) (first : Option (List ℕ)) (old new : PairsState) (t : Tree) (p : Parameters)
    → IsTrue (is_path x) → TellsFirst x old new (Ok first) → IsObservable old → HoldsTree old t p
    → is_directory t x ≡ false
    → StandsAs (is_inline p.version (length (contents t x))) x first (contents t x) (tree_blocks t p) new.pairs
stands_found x first old new t p path told seen holds other =
    let inline = is_inline p.version (length (contents t x)) in
    subst (λ (f : Option (List ℕ)). StandsAs inline x f (contents t x) (tree_blocks t p) new.pairs)
    (sym (told.told seen t p holds))
    (subst (StandsAs inline x (first_value (node_at t x) p.version) (contents t x) (tree_blocks t p))
    (sym (told.keeps.unchanged seen ∙ holds.pairs_are)) (stands_in_tree t p x path holds.tree other))

-- the first pair of a long file says its length
pub first_of_long : (o : Option Node) (version : Version) (len : ℕ) → kind_of_node o ≡ Some (kinds.File len)
    → is_inline version len ≡ false → first_value o version ≡ Some (file_value len)
first_of_long None version len e long = cc
first_of_long (Some Directory) version len e long = cc
first_of_long (Some (File bytes)) version len e long =
    let same : length bytes ≡ len = ap size_of e in
    ap (λ b. Some (file_first b bytes)) (ap (is_inline version) same ∙ long) ∙ ap (λ n. Some (file_value n)) same
