-- Lemmas on trees and their blocks: what stands below a path, and what is left without a path or a subtree.
use Rattle.std.proofs.Common.{◌≡◌, ℕ, zero, suc, ◌<◌, List, [], ◌∷◌, ◌++◌, length, drop, Bool, true, false, cond, ◌&&◌}
use Rattle.std.proofs.Common.{◌||◌, ◌⊎◌, inl, inr, IsTrue, Option, Some, None, is_some, refl, sym, ap, ap₂, subst, ◌∙◌}
use Rattle.std.proofs.Common.{arith, nat_lt, ltb-false}
use Rattle.std.specs.List.{AllByRecursion}
use Rattle.std.specs.Prelude.{IsSome, MatchOption}
use Rattle.std.specs.Ordering.{is_le}
use Rattle.std.specs.FinMap.{find, put}
use Rattle.std.proofs.lemmas.Bool.{both_ways, and_from, or_right, false_from_ne_true}
use Rattle.std.proofs.lemmas.List.{append_assoc, append-nil}
use Rattle.store_model.specs.Parameters.{Parameters}
use Rattle.store_model.specs.Paths.{Path, Name, is_root, is_path, name_bytes, fits_attribute, attribute_place, path_cmp}
use Rattle.store_model.specs.Paths.{same_path, is_inside, is_at_or_inside, parent, key, key_cmp}
use Rattle.store_model.specs.Pairs.{Pair, pairs, directory_value}
use Rattle.store_model.specs.Trees.{Tree, Node, Entry, IsTree, IsEntry, exists, is_directory, is_directory_node}
use Rattle.store_model.specs.Trees.{node_of, children, without, without_subtree}
use Rattle.store_model.specs.Trees.Node.{Directory, File}
use Rattle.store_model.specs.Commands.Command.{Make, Remove, Prune}
use Rattle.store_model.specs.Steps.{refusal_of, next_tree, has_child, conditions}
use Rattle.store_model.proofs.ListsLemmas.{all_with}
use Rattle.store_model.proofs.PathsLemmas.{place_of_path}
use Rattle.store_model.proofs.TreesLemmasPaths.{inside_from_parent, same_from_test, same_path-from_equal}
use Rattle.store_model.proofs.TreesLemmasPaths.{at_or_inside-append, at_or_inside-split, parent-push, not_root-push}
use Rattle.store_model.proofs.TreesLemmas.{find_from_all, find-root, exists-find, entry_at, all_exist}
use Rattle.store_model.proofs.TreesLemmasMoves.{nothing_below}
use Rattle.store_model.proofs.TreesLemmasSteps.{all_fail, IsTree-next_tree}
use Rattle.ordered_pairs.specs.PairsState.{PairsState}
use Rattle.tree_pairs.specs.TreeCalls.{HoldsTree}
use Rattle.tree_pairs.proofs.TreeBlocks.{block_value, tree_blocks}
use Rattle.tree_pairs.proofs.PlaceLemmas.{path_blocks}
use Rattle.tree_pairs.proofs.BlocksLemmas.{pairs_have_blocks, pairs_from_blocks, blocks_alike}
use Rattle.tree_pairs.proofs.ChangesLemmas.{put_block, blocks_at, pairs-with_node, tree_blocks-without}
use Rattle.tree_pairs.proofs.ChangesLemmas.{tree_blocks-without_subtree}
use Rattle.tree_pairs.proofs.KindLemmas.{first_of_some}
use Rattle.path_keys.proofs.InsideBytes.{inside_split}
use Rattle.dir_tree.specs.ListCalls.{IsBehindOwn}
use Rattle.dir_tree.specs.SubtreeCalls.{HasPathBlocks, LacksFrom, IsFirstFrom, blocks_outside}
use Rattle.dir_tree.proofs.OrderLemmas.{at_itself, le_from_less, less_le, below_and_le}
use Rattle.dir_tree.proofs.NextLemmas.{IsBlockAt, block_within, lacks_block}
use Rattle.dir_tree.proofs.OwnerLemmas.{IsAttributeAt, IsOwned, no_block, owner_of, owner_inside, owner_stands}

-- ---- the blocks of a tree

-- the root is a path
root_is_path : IsTrue (is_path [])
unfolding name_bytes
root_is_path = refl

pub tree_has_blocks : (t : Tree) (p : Parameters) → IsTree t → HasPathBlocks (tree_blocks t p) (pairs t p)
tree_has_blocks t p h = record {
  has = pairs_have_blocks t p h;
  bare = λ j. path_blocks t p.version [] j root_is_path
      ∙ ap (λ o. block_value (node_of o) p.version j) (find-root t h);
}

pub held_blocks : (state : PairsState) (t : Tree) (p : Parameters) → HoldsTree state t p
    → HasPathBlocks (tree_blocks t p) state.pairs
held_blocks state t p h = subst (HasPathBlocks (tree_blocks t p)) (sym h.pairs_are) (tree_has_blocks t p h.tree)

-- ---- what stands below a path

-- a path below another lies at a child of it or below that
pub below_child : (x top : Path) → is_inside x top ≡ true → (n : Name) × (is_at_or_inside x (top ++ n ∷ []) ≡ true)
below_child x top inside = by_rest (drop (length top) x)
    (at_or_inside-split x top (or_right (same_path x top) (is_inside x top) inside))
  where
    by_rest : (rest : Path) → x ≡ top ++ rest → (n : Name) × (is_at_or_inside x (top ++ n ∷ []) ≡ true)
    by_rest [] e = let longer = (inside_split x top inside).1 in absurd (omega (arith, ap length (e ∙ append-nil top)))
    by_rest (n ∷ rest) e = (
      n,
      ap (λ z. is_at_or_inside z (top ++ n ∷ [])) (e ∙ sym (append_assoc top (n ∷ []) rest))
          ∙ at_or_inside-append (top ++ n ∷ []) rest,
    )

-- where something stands at a path of a subtree, something stands at its top
pub top_stands : (t : Tree) (x top : Path) → IsTree t → exists t x ≡ true
    → is_at_or_inside x top ≡ true → exists t top ≡ true
top_stands t x top h is inside = by_test (exists t top) refl
  where
    by_test : (b : Bool) → exists t top ≡ b → exists t top ≡ true
    by_test true e = e
    by_test false e = absurd (both_ways _ (nothing_below t top h e x is) inside)

-- each entry is found
pub found_entries : (t : Tree) → AllByRecursion (λ e. exists t e.0 ≡ true) t
found_entries = all_exist

-- the children of a path, where there are none
all_not_children : (t : Tree) (top : Path) → length (children t top) ≡ 0
    → AllByRecursion (λ e. same_path (parent e.0) top ≡ false) t
unfolding children
all_not_children [] top h = tt
all_not_children (e ∷ t) top h =
    (elim (same_path (parent e.0) top) as (λ b. length (cond b (e ∷ children t top) (children t top)) ≡ 0
    → (b ≡ false) × AllByRecursion (λ e. same_path (parent e.0) top ≡ false) t) [
      | true ↦ λ l. absurd (omega arith)
      | false ↦ λ l. (refl, all_not_children t top l)
    ]) h

-- where nothing stands below a path, it has no child
no_children : (t : Tree) (top : Path) → AllByRecursion (λ e. same_path (parent e.0) top ≡ false) t
    → length (children t top) ≡ 0
unfolding children
no_children [] top h = refl
no_children (e ∷ t) top h = ap (λ b. length (cond b (e ∷ children t top) (children t top))) h.0 ∙ no_children t top h.1

pub childless : (t : Tree) (top : Path) → AllByRecursion (λ e. same_path (parent e.0) top ≡ false) t
    → has_child t top ≡ false
childless t top h = ap (λ n. nat_lt 0 n) (no_children t top h)

-- what is found at a path stands there
pub found_stands : (t : Tree) (x : Path) (entry : Entry) → find path_cmp x t ≡ Some entry → exists t x ≡ true
found_stands t [] entry e = refl
found_stands t (m ∷ x) entry e = ap (λ o. is_some (node_of o)) e

-- something that stands below a path stands at a child or below it
pub child_stands : (t : Tree) (x top : Path) → IsTree t → exists t x ≡ true → is_inside x top ≡ true
    → (is_directory t top ≡ true) × (has_child t top ≡ true)
child_stands t x top h is inside =
    let below = below_child x top inside in
    let child : Path = top ++ below.0 ∷ [] in
    let entry = entry_at t child h (not_root-push top below.0) (top_stands t x child h is below.1) in
    let up : parent child ≡ top = parent-push top below.0 in
    (ap (is_directory t) (sym up) ∙ (entry.2).parent_directory, by_test child entry.0 entry.3 up (has_child t top) refl)
  where
    by_test : (child : Path) (n : Entry) → find path_cmp child t ≡ Some n → parent child ≡ top → (b : Bool)
        → has_child t top ≡ b → has_child t top ≡ true
    by_test child n found up true e = e
    by_test child n found up false e =
        let few = ltb-false 0 (length (children t top)) e in
        absurd (both_ways _ (find_from_all (λ e. same_path (parent e.0) top ≡ false) child n t
        (all_not_children t top (omega arith)) found) (same_path-from_equal (parent child) top up))

-- nothing stands below a path that is no directory with a child
nothing_inside : (t : Tree) (top x : Path) → IsTree t → (is_directory t top && has_child t top) ≡ false
    → is_inside x top ≡ true → exists t x ≡ false
nothing_inside t top x h empty inside =
    false_from_ne_true _ (λ is. let child = child_stands t x top h is inside
    in both_ways _ empty (and_from _ _ child.0 child.1))

-- ---- what is left

-- without a path alone, where nothing stands below it
pub removed : (t : Tree) (p : Parameters) (top : Path) (s : List Pair) → IsTree t → IsTrue (is_path top)
    → refusal_of t (Remove top) ≡ None → HasPathBlocks (blocks_outside top (tree_blocks t p)) s
    → s ≡ pairs (next_tree t (Remove top)) p
unfolding conditions next_tree
removed t p top s h path none has =
    let fails = all_fail (conditions t (Remove top)) none in
    pairs_from_blocks (without t top) p s (IsTree-next_tree t (Remove top) h path none)
    (blocks_alike (blocks_outside top (tree_blocks t p)) (tree_blocks (without t top) p) s
    (λ y j. tree_blocks-without t p top y j path (λ z inside. nothing_inside t top z h fails.1.1.0 inside)) has.has)

-- without a subtree
pub pruned : (t : Tree) (p : Parameters) (top : Path) (s : List Pair) → IsTree t → IsTrue (is_path top)
    → refusal_of t (Prune top) ≡ None → HasPathBlocks (blocks_outside top (tree_blocks t p)) s
    → s ≡ pairs (next_tree t (Prune top)) p
unfolding next_tree
pruned t p top s h path none has =
    pairs_from_blocks (without_subtree t top) p s (IsTree-next_tree t (Prune top) h path none)
    (blocks_alike (blocks_outside top (tree_blocks t p)) (tree_blocks (without_subtree t top) p) s
    (λ y j. tree_blocks-without_subtree t p top y j path) has.has)

-- ---- a new directory

none_stands : (o : Option Entry) → is_some o ≡ false → o ≡ None
none_stands None h = refl
none_stands (Some entry) h = cc

new_blocks : (t : Tree) (p : Parameters) (x : Path) (j : ℕ) → IsTrue (is_path x) → find path_cmp x t ≡ None
    → (j ≡ 0 → ⊥) → block_value (Some Directory) p.version j ≡ tree_blocks t p x j
new_blocks t p x zero path absent apart = absurd (apart refl)
new_blocks t p x (suc j) path absent apart =
    sym (path_blocks t p.version x (suc j) path ∙ ap (λ o. block_value (node_of o) p.version (suc j)) absent)

pub made : (t : Tree) (p : Parameters) (x : Path) (s : List Pair) → IsTree t → IsTrue (is_path x)
    → refusal_of t (Make x) ≡ None → s ≡ pairs t p
    → put key_cmp (key x 0) directory_value s ≡ pairs (next_tree t (Make x)) p
unfolding conditions next_tree
made t p x s h path none is =
    let fails = all_fail (conditions t (Make x)) none in
    let absent : find path_cmp x t ≡ None =
    none_stands (find path_cmp x t) (sym (exists-find t x fails.0) ∙ fails.1.1.0) in
    ap (put key_cmp (key x 0) directory_value) is
    ∙ pairs-with_node t p x Directory (put key_cmp (key x 0) directory_value (pairs t p))
    (IsTree-next_tree t (Make x) h path none)
    (put_block x (λ j. tree_blocks t p x j) (λ j. block_value (Some Directory) p.version j)
    (tree_blocks t p) 0 directory_value (pairs t p) (place_of_path x path) (omega arith) refl
    (λ j apart. new_blocks t p x j path absent apart) (blocks_at t p x h))

-- ---- what a search behind a directory's own keys finds

-- a directory has one pair of its own
no_more_blocks : (t : Tree) (p : Parameters) (x : Path) (j : ℕ) → IsTree t → IsTrue (is_path x)
    → is_directory t x ≡ true → tree_blocks t p x (suc j) ≡ None
no_more_blocks t p [] j h path directory = (tree_has_blocks t p h).bare (suc j)
no_more_blocks t p (n ∷ x) j h path directory =
    path_blocks t p.version (n ∷ x) (suc j) path ∙ of_directory (node_of (find path_cmp (n ∷ x) t)) directory
  where
    of_directory : (o : Option Node) → is_directory_node o ≡ true → block_value o p.version (suc j) ≡ None
    of_directory None e = refl
    of_directory (Some Directory) e = refl
    of_directory (Some (File bytes)) e = cc

-- what stands at a path other than the root has a first block
pub first_block_there : (t : Tree) (p : Parameters) (y : Path) → IsTree t → is_root y ≡ false → exists t y ≡ true
    → tree_blocks t p y 0 ≡ None → ⊥
first_block_there t p y h below is none =
    let entry = entry_at t y h below is in
    first_of_some (node_of (find path_cmp y t)) p.version (ap (λ o. is_some (node_of o)) entry.3)
    (sym (path_blocks t p.version y 0 (entry.2).path) ∙ none)

pub child_inside : (c x : Path) → is_root c ≡ false → parent c ≡ x → is_inside c x ≡ true
child_inside c x below up = inside_from_parent c x below (ap (λ z. is_at_or_inside z x) up ∙ at_itself x)

-- the owner of a block that a directory's stretch has behind the directory's own keys lies strictly below it
owner_below : (t : Tree) (p : Parameters) (x y : Path) (i : ℕ) (from : List ℕ) → IsTree t → IsTrue (is_path x)
    → is_directory t x ≡ true → IsBehindOwn x from → i < 4294967296 → is_at_or_inside y x ≡ true
    → is_le (key_cmp from (key y i)) ≡ true → IsSome (tree_blocks t p y i) → (own : IsOwned t y i)
    → is_inside own.owner x ≡ true
owner_below t p x y i from h path directory behind_own l inside behind there own =
    by_tests (same_path own.owner x) (is_inside own.owner x) refl refl (sym (owner_inside t y i own x path) ∙ inside)
  where
    not_block : y ≡ x → (j : ℕ) → i ≡ j → ⊥
    not_block is zero e = below_and_le (key x 0) from (behind_own.blocks 0 (omega arith))
        (ap₂ (λ z k. is_le (key_cmp from (key z k))) (sym is) (sym e) ∙ behind)
    not_block is (suc j) e = no_block (tree_blocks t p y i) there
        (ap₂ (tree_blocks t p) is e ∙ no_more_blocks t p x j h path directory)

    not_itself : own.owner ≡ x → (y ≡ own.owner) ⊎ IsAttributeAt t own.owner y i → ⊥
    not_itself same (inl e) = not_block (e ∙ same) i refl
    not_itself same (inr at) =
        let is : y ≡ attribute_place x at.name = at.place_is ∙ ap (λ z. attribute_place z at.name) same in
        below_and_le (key y i) from (ap (λ z. key_cmp (key z i) from) is
        ∙ behind_own.attributes at.name i at.named (ap (λ z. fits_attribute z at.name) (sym same) ∙ at.fits) l)
        behind

    by_tests : (a b : Bool) → same_path own.owner x ≡ a → is_inside own.owner x ≡ b → (a || b) ≡ true
        → is_inside own.owner x ≡ true
    by_tests true b e f g = absurd (not_itself (same_from_test own.owner x e) own.of)
    by_tests false true e f g = f
    by_tests false false e f g = cc

-- the key is that of a block at a child of a path, or below that
pub record IsOfChild (t : Tree) (p : Parameters) (x : Path) (k : List ℕ) : Type 0 where
  pub child : Path
  pub below_root : is_root child ≡ false
  pub parent_is : parent child ≡ x
  pub stands : exists t child ≡ true
  pub at : IsBlockAt (tree_blocks t p) k
  pub within : is_at_or_inside at.place child ≡ true

-- such is what is found behind a directory's own keys
pub of_child : (t : Tree) (p : Parameters) (x : Path) (from k : List ℕ) (s : List Pair) → IsTree t
    → HasPathBlocks (tree_blocks t p) s → IsTrue (is_path x) → is_directory t x ≡ true → IsBehindOwn x from
    → IsFirstFrom from x s k → IsOfChild t p x k
of_child t p x from k s h has path directory behind_own first =
    let within = block_within x (tree_blocks t p) s k has path
    (le_from_less (key x 0) k (less_le (key x 0) from k (behind_own.blocks 0 (omega arith)) first.behind))
    first.before first.there in
    let at = within.at in
    let own = owner_of t p at.place at.block h at.there in
    let inside = owner_below t p x at.place at.block from h path directory behind_own
    at.in_range within.within (ap (λ q. is_le (key_cmp from q)) (sym at.key_is) ∙ first.behind) at.there own in
    let below = below_child own.owner x inside in
    let stands = top_stands t own.owner (x ++ below.0 ∷ []) h (owner_stands t at.place at.block own) below.1 in
    let valid = ((entry_at t (x ++ below.0 ∷ []) h (not_root-push x below.0) stands).2).path in
    record {
      child = x ++ below.0 ∷ [];
      below_root = not_root-push x below.0;
      parent_is = parent-push x below.0;
      stands = stands;
      at = at;
      within = owner_inside t at.place at.block own (x ++ below.0 ∷ []) valid ∙ below.1;
    }

-- the key stands behind a path's own keys, and before all of paths below it
pub record IsBelow (x : Path) (from : List ℕ) : Type 0 where
  pub own : IsBehindOwn x from
  pub below : (q : Path) (block : ℕ) → IsTrue (is_path q) → IsTrue (is_inside q x) → block < 4294967296
      → is_le (key_cmp from (key q block)) ≡ true

pub child_answer : (t : Tree) (p : Parameters) (x : Path) (from : List ℕ) (s : List Pair) (found : Option (List ℕ))
    → IsTree t → HasPathBlocks (tree_blocks t p) s → IsTrue (is_path x) → is_directory t x ≡ true → IsBelow x from
    → MatchOption found (LacksFrom from x s) (IsFirstFrom from x s) → is_some found ≡ has_child t x
child_answer t p x from s None h has path directory at lacks =
    sym (childless t x (all_with (IsEntry t) (λ e. exists t e.0 ≡ true) _ no_child t h.entries (all_exist t)))
  where
    no_child : (e : Path × Entry) → IsEntry t e → exists t e.0 ≡ true → same_path (parent e.0) x ≡ false
    no_child e of is =
        false_from_ne_true _ (λ same.
        let inside = child_inside e.0 x of.below_root (same_from_test (parent e.0) x same) in
        first_block_there t p e.0 h of.below_root is
        (lacks_block from x (tree_blocks t p) s e.0 0 has.has lacks (place_of_path e.0 of.path) (omega arith)
        (or_right (same_path e.0 x) (is_inside e.0 x) inside) (at.below e.0 0 of.path inside (omega arith))))
child_answer t p x from s (Some k) h has path directory at first =
    let of = of_child t p x from k s h has path directory at.own first in
    sym (child_stands t of.child x h of.stands (child_inside of.child x of.below_root of.parent_is)).1
