-- Lemmas on changes of a list of pairs: putting and taking the pair of a block, and what trees they lead to.
use Rattle.std.proofs.Common.{◌≡◌, ℕ, ◌<◌, List, [], ◌∷◌, Bool, true, false, not, cond, ◌&&◌, ◌||◌, ◌⊎◌, inl, inr}
use Rattle.std.proofs.Common.{IsTrue, T, Option, Some, None, refl, sym, ap, ap₂, subst, ◌∙◌, Less, Equal, Greater}
use Rattle.std.proofs.Common.{nat_cmp}
use Rattle.std.specs.Ordering.{eq_by_cmp}
use Rattle.std.specs.Option.{option_or}
use Rattle.std.specs.Cmp.Lexicographic.{nat_list_cmp_total}
use Rattle.std.specs.List.{AllByRecursion, filter}
use Rattle.std.specs.FinMap.{find, put, slice_cmp-IsAntisymmetric, nat_cmp-IsAntisymmetric}
use Rattle.std.specs.FinMap.Entries.{by_order, is_sorted-put, is_sorted-where_key, find-put, find-where_key}
use Rattle.std.proofs.lemmas.Bool.{both_ways, false_from_ne_true}
use Rattle.store_model.specs.Parameters.{Parameters}
use Rattle.store_model.specs.Paths.{Path, Name, is_path, is_place, attribute_mark, attribute_place, path_cmp, same_path}
use Rattle.store_model.specs.Paths.{is_inside, is_at_or_inside, parent, last_name, key, key_cmp}
use Rattle.store_model.specs.Pairs.{Pair, pairs}
use Rattle.store_model.specs.Trees.{Tree, Node, Entry, IsEntry, IsTree, node_of, attributes_at, exists, with_node}
use Rattle.store_model.specs.Trees.{without, without_subtree}
use Rattle.store_model.proofs.ListsLemmas.{all_filter, all_weaker}
use Rattle.store_model.proofs.TreesLemmas.{all_exist, find_from_all}
use Rattle.store_model.proofs.TreesLemmasAttributes.{find-with_node, attributes_at-with_node, find-without_subtree}
use Rattle.store_model.proofs.TreesLemmasAttributes.{attributes_at-without_subtree}
use Rattle.store_model.proofs.TreesLemmasPaths.{same_from_test, same_path-itself, parent-push}
use Rattle.tree_pairs.specs.Blocks.{BlockMap, with_blocks, IsBlockPair, HasBlocks}
use Rattle.tree_pairs.proofs.TreeBlocks.{block_value, attribute_block, version_blocks, tree_blocks}
use Rattle.tree_pairs.proofs.PlaceLemmas.{IsAttributePlace, IsPlain, form_of, attribute_inside, no_attributes}
use Rattle.tree_pairs.proofs.PlaceLemmas.{plain_blocks, path_blocks}
use Rattle.tree_pairs.proofs.BlocksLemmas.{tie_of_keys, same_numbers, tied_number, blocks_alike, pairs_have_blocks}
use Rattle.tree_pairs.proofs.BlocksLemmas.{pairs_from_blocks}

-- a test that holds
holds : (b : Bool) → T b → IsTrue b
holds true h = refl
holds false h = absurd h

-- ---- the pair of a block is put

all_put : (P : Pair → Type 0) (k v : List ℕ) (s : List Pair) → ((old : List ℕ) → P (k, old)) → AllByRecursion P s
    → AllByRecursion P (put key_cmp k v s)
all_put P k v [] h g = (h v, tt)
all_put P k v (e ∷ s) h g =
    elim (key_cmp k e.0) as (λ r. key_cmp k e.0 ≡ r
    → AllByRecursion P (by_order r ((k, v) ∷ e ∷ s) ((e.0, v) ∷ s) (e ∷ put key_cmp k v s))) [
      | Less ↦ λ p. (h v, g)
      | Equal ↦ λ p. (
        subst (λ (x : List ℕ). P (x, v))
            (slice_cmp-IsAntisymmetric nat_cmp-IsAntisymmetric k e.0 p) (h v),
        g.1,
      )
      | Greater ↦ λ p. (g.0, all_put P k v s h g.1)
    ] refl

-- the blocks with one that is put
blocks_put : (x : Path) (old new : ℕ → Option (List ℕ)) (rest : BlockMap) (i : ℕ) (v : List ℕ) → new i ≡ Some v
    → ((j : ℕ) → (j ≡ i → ⊥) → new j ≡ old j)
    → (y : Path) (j : ℕ) → cond (same_path y x && eq_by_cmp nat_cmp j i) (Some v) (with_blocks x old rest y j)
    ≡ with_blocks x new rest y j
blocks_put x old new rest i v is others y j = by_tests (same_path y x) (eq_by_cmp nat_cmp j i) refl
  where
    by_tests : (a b : Bool) → eq_by_cmp nat_cmp j i ≡ b
        → cond (a && b) (Some v) (cond a (old j) (rest y j)) ≡ cond a (new j) (rest y j)
    by_tests true true e = sym is ∙ ap new (sym (same_numbers j i e))
    by_tests true false e =
        sym (others j (λ s. absurd (both_ways _ e (ap (λ k. eq_by_cmp nat_cmp k i) s ∙ tied_number i))))
    by_tests false b e = refl

-- a list in which the pair of any block is put
pub put_any : (old new : BlockMap) (x : Path) (i : ℕ) (v : List ℕ) (s : List Pair) → IsTrue (is_place x)
    → i < 4294967296 → ((y : Path) (j : ℕ) → cond (same_path y x && eq_by_cmp nat_cmp j i) (Some v) (old y j) ≡ new y j)
    → HasBlocks old s → HasBlocks new (put key_cmp (key x i) v s)
put_any old new x i v s path l changed h = record {
  sorted = holds _ (is_sorted-put key_cmp nat_list_cmp_total (key x i) v s (subst T (sym h.sorted) tt));
  each = λ y j g m.
      find-put key_cmp nat_list_cmp_total (key y j) (key x i) v s
      ∙ ap₂ (λ b o. cond b (Some v) o) (tie_of_keys y x j i g path m l) (h.each y j g m)
      ∙ changed y j;
  only = all_put IsBlockPair (key x i) v s (λ w. record {
    path = x;
    block = i;
    valid = path;
    in_range = l;
    key_is = refl;
  }) h.only;
}

-- the same where it is one of a place whose blocks are known
pub put_block : (x : Path) (old new : ℕ → Option (List ℕ)) (rest : BlockMap) (i : ℕ) (v : List ℕ) (s : List Pair)
    → IsTrue (is_place x) → i < 4294967296 → new i ≡ Some v → ((j : ℕ) → (j ≡ i → ⊥) → new j ≡ old j)
    → HasBlocks (with_blocks x old rest) s → HasBlocks (with_blocks x new rest) (put key_cmp (key x i) v s)
put_block x old new rest i v s path l is others h =
    put_any (with_blocks x old rest) (with_blocks x new rest) x i v s path l
    (λ y j. blocks_put x old new rest i v is others y j) h

-- ---- the pair of a block is taken

-- a path is the same as another where that is the same as it
pub same_path-sym : (x y : Path) → same_path x y ≡ same_path y x
same_path-sym x y = by_tests (same_path x y) (same_path y x) refl refl
  where
    by_tests : (a b : Bool) → same_path x y ≡ a → same_path y x ≡ b → same_path x y ≡ same_path y x
    by_tests true b e f = ap (λ z. same_path z y) (same_from_test x y e) ∙ ap (same_path y) (sym (same_from_test x y e))
    by_tests false true e f = ap (λ z. same_path x z) (same_from_test y x f)
        ∙ ap (λ z. same_path z x) (sym (same_from_test y x f))
    by_tests false false e f = e ∙ sym f

blocks_taken : (x : Path) (old new : ℕ → Option (List ℕ)) (rest : BlockMap) (i : ℕ) → new i ≡ None
    → ((j : ℕ) → (j ≡ i → ⊥) → new j ≡ old j)
    → (y : Path) (j : ℕ) → cond (not (same_path x y && eq_by_cmp nat_cmp i j)) (with_blocks x old rest y j) None
    ≡ with_blocks x new rest y j
blocks_taken x old new rest i is others y j =
    ap (λ b. cond (not (b && eq_by_cmp nat_cmp i j)) (with_blocks x old rest y j) None) (same_path-sym x y)
    ∙ by_tests (same_path y x) (eq_by_cmp nat_cmp i j) refl
  where
    by_tests : (a b : Bool) → eq_by_cmp nat_cmp i j ≡ b
        → cond (not (a && b)) (cond a (old j) (rest y j)) None ≡ cond a (new j) (rest y j)
    by_tests true true e = sym is ∙ ap new (same_numbers i j e)
    by_tests true false e = sym (others j (λ s. absurd (both_ways _ e (ap (eq_by_cmp nat_cmp i) s ∙ tied_number i))))
    by_tests false b e = refl

-- a list without the pair of any block
pub take_any : (old new : BlockMap) (x : Path) (i : ℕ) (s : List Pair) → IsTrue (is_place x) → i < 4294967296
    → ((y : Path) (j : ℕ) → cond (not (same_path x y && eq_by_cmp nat_cmp i j)) (old y j) None ≡ new y j)
    → HasBlocks old s → HasBlocks new (filter (λ pair. not (eq_by_cmp key_cmp (key x i) pair.0)) s)
take_any old new x i s path l changed h =
    let keep : List ℕ → Bool = λ k. not (eq_by_cmp key_cmp (key x i) k) in
    record {
      sorted = holds _ (is_sorted-where_key key_cmp keep s (subst T (sym h.sorted) tt));
      each = λ y j g m.
          find-where_key key_cmp keep (key y j)
          (λ k t. ap keep (sym (slice_cmp-IsAntisymmetric nat_cmp-IsAntisymmetric (key y j) k t))) s
          ∙ ap₂ (λ b o. cond (not b) o None) (tie_of_keys x y i j path g l m) (h.each y j g m)
          ∙ changed y j;
      only = all_filter IsBlockPair (λ pair. keep pair.0) s h.only;
    }

-- the same where it is one of a place whose blocks are known
pub take_block : (x : Path) (old new : ℕ → Option (List ℕ)) (rest : BlockMap) (i : ℕ) (s : List Pair)
    → IsTrue (is_place x) → i < 4294967296 → new i ≡ None → ((j : ℕ) → (j ≡ i → ⊥) → new j ≡ old j)
    → HasBlocks (with_blocks x old rest) s
    → HasBlocks (with_blocks x new rest) (filter (λ pair. not (eq_by_cmp key_cmp (key x i) pair.0)) s)
take_block x old new rest i s path l is others h =
    take_any (with_blocks x old rest) (with_blocks x new rest) x i s path l
    (λ y j. blocks_taken x old new rest i is others y j) h

-- ---- the blocks of changed trees

-- the blocks of a tree, said with those at one path apart
pub tree_blocks-split : (t : Tree) (p : Parameters) (x y : Path) (i : ℕ)
    → tree_blocks t p y i ≡ with_blocks x (λ j. tree_blocks t p x j) (tree_blocks t p) y i
tree_blocks-split t p x y i = by_test (same_path y x) refl
  where
    by_test : (b : Bool) → same_path y x ≡ b → tree_blocks t p y i ≡ cond b (tree_blocks t p x i) (tree_blocks t p y i)
    by_test true e = ap (λ z. tree_blocks t p z i) (same_from_test y x e)
    by_test false e = refl

-- a node at a path gives the path its blocks, and changes no other
pub tree_blocks-with_node : (t : Tree) (p : Parameters) (x : Path) (node : Node) (y : Path) (i : ℕ) → IsTrue (is_path x)
    → with_blocks x (λ j. block_value (Some node) p.version j) (tree_blocks t p) y i
    ≡ tree_blocks (with_node t x node) p y i
tree_blocks-with_node t p x node y i path = by_same (same_path y x) refl
  where
    found : (z : Path) (b : Bool) → same_path z x ≡ b
        → find path_cmp z (with_node t x node)
        ≡ cond b (Some (record { node = node; attributes = attributes_at t x })) (find path_cmp z t)
    found z b e = find-with_node t x z node
        ∙ ap (λ b. cond b (Some (record { node = node; attributes = attributes_at t x })) (find path_cmp z t)) e

    by_same : (b : Bool) → same_path y x ≡ b → cond b (block_value (Some node) p.version i) (tree_blocks t p y i)
        ≡ tree_blocks (with_node t x node) p y i
    by_same true e =
        sym (ap (λ z. tree_blocks (with_node t x node) p z i) (same_from_test y x e)
        ∙ path_blocks (with_node t x node) p.version x i path
        ∙ ap (λ o. block_value (node_of o) p.version i) (found x true (same_path-itself x)))
    by_same false e =
        sym (ap₂ (λ o attributes. option_or (block_value (node_of o) p.version i)
        (attribute_block attributes (last_name y) i)) (found y false e)
        (attributes_at-with_node t x (parent y) node))

-- without a subtree the places in it have no blocks, and others have theirs
pub tree_blocks-without_subtree : (t : Tree) (p : Parameters) (x y : Path) (i : ℕ) → IsTrue (is_path x)
    → cond (is_at_or_inside y x) None (tree_blocks t p y i) ≡ tree_blocks (without_subtree t x) p y i
tree_blocks-without_subtree t p x y i path = by_form (form_of y)
  where
    plain_kept : (b : Bool) → cond b None (block_value (node_of (find path_cmp y t)) p.version i)
        ≡ block_value (node_of (cond b None (find path_cmp y t))) p.version i
    plain_kept true = refl
    plain_kept false = refl

    attribute_kept : (q : Path) (a : Name) (b : Bool)
        → cond b None (version_blocks t p.version (attribute_place q a) i)
        ≡ option_or (block_value (node_of (cond b None (find path_cmp (attribute_place q a) t))) p.version i)
        (attribute_block (cond b [] (attributes_at t (parent (attribute_place q a))))
        (last_name (attribute_place q a)) i)
    attribute_kept q a true = sym (no_attributes (last_name (attribute_place q a)) i)
    attribute_kept q a false = refl

    by_form : IsAttributePlace y ⊎ IsPlain y → cond (is_at_or_inside y x) None (tree_blocks t p y i)
        ≡ tree_blocks (without_subtree t x) p y i
    by_form (inl at) =
        let place = attribute_place at.path at.name in
        let inside : is_at_or_inside (parent place) x ≡ is_at_or_inside place x =
        ap (λ z. is_at_or_inside z x) (parent-push at.path (attribute_mark ∷ at.name))
        ∙ sym (attribute_inside at.path at.name x path) in
        ap (λ z. cond (is_at_or_inside z x) None (tree_blocks t p z i)) at.place_is
        ∙ attribute_kept at.path at.name (is_at_or_inside place x)
        ∙ sym (ap₂ (λ o attributes. option_or (block_value (node_of o) p.version i)
        (attribute_block attributes (last_name place) i)) (find-without_subtree t x place)
        (attributes_at-without_subtree t x (parent place)
        ∙ ap (λ b. cond b [] (attributes_at t (parent place))) inside))
        ∙ ap (λ z. tree_blocks (without_subtree t x) p z i) (sym at.place_is)
    by_form (inr plain) =
        ap (cond (is_at_or_inside y x) None) (plain_blocks t p.version y i plain) ∙ plain_kept (is_at_or_inside y x)
        ∙ ap (λ o. block_value (node_of o) p.version i) (sym (find-without_subtree t x y))
        ∙ sym (plain_blocks (without_subtree t x) p.version y i plain)

-- without a path below which nothing stands it is as without the subtree
same_without : (x : Path) (t : Tree) → AllByRecursion (λ e. is_inside e.0 x ≡ false) t
    → without t x ≡ without_subtree t x
unfolding without without_subtree
same_without x [] h = refl
same_without x (e ∷ t) h = ap₂ (λ b rest. cond (not b) (e ∷ rest) rest)
    (sym (or_false (same_path e.0 x) _ h.0)) (same_without x t h.1)
  where
    or_false : (a b : Bool) → b ≡ false → (a || b) ≡ a
    or_false true b e = refl
    or_false false b e = e

pub tree_blocks-without : (t : Tree) (p : Parameters) (x y : Path) (i : ℕ) → IsTrue (is_path x)
    → ((z : Path) → is_inside z x ≡ true → exists t z ≡ false)
    → cond (is_at_or_inside y x) None (tree_blocks t p y i) ≡ tree_blocks (without t x) p y i
tree_blocks-without t p x y i path empty =
    tree_blocks-without_subtree t p x y i path
    ∙ ap (λ u. tree_blocks u p y i)
    (sym (same_without x t (all_weaker (λ e. exists t e.0 ≡ true) _
    (λ e is. false_from_ne_true _ (λ inside. both_ways _ (empty e.0 inside) is)) t (all_exist t))))

-- ---- from a list of blocks to the pairs of a changed tree

-- the pairs of a tree have the blocks of what stands at a path there, and those of the other paths
pub blocks_at : (t : Tree) (p : Parameters) (x : Path) → IsTree t
    → HasBlocks (with_blocks x (λ i. tree_blocks t p x i) (tree_blocks t p)) (pairs t p)
blocks_at t p x h = blocks_alike (tree_blocks t p) _ (pairs t p) (λ y i. tree_blocks-split t p x y i)
    (pairs_have_blocks t p h)

-- a path at which a node is put in a tree
path_of_node : (t : Tree) (x : Path) (node : Node) → IsTree (with_node t x node) → IsTrue (is_path x)
path_of_node t x node h =
    let entry : Entry = record { node = node; attributes = attributes_at t x } in
    (find_from_all (IsEntry (with_node t x node)) x entry (with_node t x node) h.entries
    (find-with_node t x x node ∙ ap (λ b. cond b (Some entry) (find path_cmp x t)) (same_path-itself x))).path

-- a list with a node's blocks at a path is that of the tree with the node
pub pairs-with_node : (t : Tree) (p : Parameters) (x : Path) (node : Node) (s : List Pair) → IsTree (with_node t x node)
    → HasBlocks (with_blocks x (λ i. block_value (Some node) p.version i) (tree_blocks t p)) s
    → s ≡ pairs (with_node t x node) p
pairs-with_node t p x node s h g =
    pairs_from_blocks (with_node t x node) p s h
    (blocks_alike _ (tree_blocks (with_node t x node) p) s
    (λ y i. tree_blocks-with_node t p x node y i (path_of_node t x node h)) g)

-- a list with no block in a subtree is that of the tree without it
pub pairs-without_subtree : (t : Tree) (p : Parameters) (x : Path) (s : List Pair) → IsTrue (is_path x)
    → IsTree (without_subtree t x)
    → HasBlocks (λ y i. cond (is_at_or_inside y x) None (tree_blocks t p y i)) s → s ≡ pairs (without_subtree t x) p
pairs-without_subtree t p x s path h g =
    pairs_from_blocks (without_subtree t x) p s h
    (blocks_alike _ (tree_blocks (without_subtree t x) p) s (λ y i. tree_blocks-without_subtree t p x y i path) g)

-- and of the tree without the path alone, where nothing stands below it
pub pairs-without : (t : Tree) (p : Parameters) (x : Path) (s : List Pair) → IsTrue (is_path x)
    → ((z : Path) → is_inside z x ≡ true → exists t z ≡ false) → IsTree (without t x)
    → HasBlocks (λ y i. cond (is_at_or_inside y x) None (tree_blocks t p y i)) s → s ≡ pairs (without t x) p
pairs-without t p x s path empty h g =
    pairs_from_blocks (without t x) p s h
    (blocks_alike _ (tree_blocks (without t x) p) s (λ y i. tree_blocks-without t p x y i path empty) g)
