-- Lemmas on trees: what stands at a path after a change, and which changes keep a tree.
use Rattle.std.proofs.Common.{◌≡◌, ◌≤◌, List, [], ◌∷◌, length, Bool, true, false, not, ◌&&◌, ◌⊎◌, inl, inr, cond}
use Rattle.std.proofs.Common.{IsTrue, T, Option, Some, None, is_some, refl, sym, ap, subst, ◌∙◌, arith, ltb-false}
use Rattle.std.proofs.Common.{Ordering, Less, Equal, Greater}
use Rattle.std.specs.List.{AllByRecursion}
use Rattle.std.specs.Cmp.{IsTotalOrder}
use Rattle.std.specs.FinMap.{find, put, is_sorted, IsAntisymmetric}
use Rattle.std.specs.FinMap.Entries.{by_order, is_sorted-put, find-put, where_key, is_sorted-where_key, find-where_key}
use Rattle.std.proofs.lemmas.Bool.{and_cases, not_from_false, not-true, false_from_ne_true, both_ways, cond-true}
use Rattle.store_model.specs.Lists.{IsBytes}
use Rattle.store_model.specs.Paths.{Path, is_root, is_path, path_cmp, same_path, parent, is_at_or_inside}
use Rattle.store_model.specs.Trees.{Tree, Node, Entry, IsNode, AreAttributes, IsEntry, IsTree, file_limit, node_of}
use Rattle.store_model.specs.Trees.{attributes_of, node_at, attributes_at, is_directory, is_directory_node, exists}
use Rattle.store_model.specs.Trees.{contents, contents_of, children, with_node, without, without_subtree}
use Rattle.store_model.specs.Trees.Node.{Directory, File}
use Rattle.store_model.specs.Commands.Command.{Make}
use Rattle.store_model.specs.Steps.{next_tree, has_child}
use Rattle.store_model.proofs.ListsLemmas.{all_weaker, all_with, all_none}
use Rattle.store_model.proofs.TreesLemmasPaths.{path_cmp_total, same_from_tie, same_from_test, same_path-itself}
use Rattle.store_model.proofs.TreesLemmasPaths.{at_or_inside_from_parent}

-- ---- an entry put at a path

-- each entry of a finite map with one entry more, or with another value at a key
pub all_put_at : {K X : Type 0} (cmp : K → K → Ordering) → IsAntisymmetric cmp
    → (P : K × X → Type 0) (k : K) (v : X) (es : List (K × X)) → P (k, v) → AllByRecursion P es
    → AllByRecursion P (put cmp k v es)
all_put_at cmp same P k v [] h g = (h, tt)
all_put_at {K} cmp same P k v (e ∷ es) h g =
    elim (cmp k e.0) as (λ r. cmp k e.0 ≡ r
    → AllByRecursion P (by_order r ((k, v) ∷ e ∷ es) ((e.0, v) ∷ es) (e ∷ put cmp k v es))) [
      | Less ↦ λ p. (h, g)
      | Equal ↦ λ p. (subst (λ (x : K). P (x, v)) (same k e.0 p) h, g.1)
      | Greater ↦ λ p. (g.0, all_put_at cmp same P k v es h g.1)
    ] refl

-- each entry of the tree with one at a path
pub all_put : (P : Path × Entry → Type 0) (k : Path) (v : Entry) (t : Tree) → P (k, v) → AllByRecursion P t
    → AllByRecursion P (put path_cmp k v t)
all_put P k v t h g = all_put_at path_cmp same_from_tie P k v t h g

-- a test that holds
true_from_holds : (b : Bool) → T b → IsTrue b
true_from_holds true h = refl
true_from_holds false h = absurd h

-- entries stay in order
pub sorted-put_at : {K X : Type 0} (cmp : K → K → Ordering) → IsTotalOrder cmp → (k : K) (v : X) (es : List (K × X))
    → IsTrue (is_sorted cmp es) → IsTrue (is_sorted cmp (put cmp k v es))
sorted-put_at cmp total k v es h = true_from_holds _ (is_sorted-put cmp total k v es (subst T (sym h) tt))

-- entries of a tree stay in order
pub sorted-put : (k : Path) (v : Entry) (t : Tree) → IsTrue (is_sorted path_cmp t)
    → IsTrue (is_sorted path_cmp (put path_cmp k v t))
sorted-put k v t h = sorted-put_at path_cmp path_cmp_total k v t h

-- entries that a test of their keys keeps stay in order
pub sorted-where_key : {K X : Type 0} (cmp : K → K → Ordering) (keep : K → Bool) (es : List (K × X))
    → IsTrue (is_sorted cmp es) → IsTrue (is_sorted cmp (where_key cmp keep es))
sorted-where_key cmp keep es h = true_from_holds _ (is_sorted-where_key cmp keep es (subst T (sym h) tt))

-- a directory stays one where the node is a directory too
pub is_directory-put : (p q : Path) (entry : Entry) (t : Tree) → (is_directory t p ≡ true → entry.node ≡ Directory)
    → is_directory t q ≡ true → is_directory (put path_cmp p entry t) q ≡ true
is_directory-put p [] entry t h g = refl
is_directory-put p (n ∷ q) entry t h g =
    ap (λ o. is_directory_node (node_of o)) (find-put path_cmp path_cmp_total (n ∷ q) p entry t)
    ∙ elim (same_path (n ∷ q) p) as (λ b. same_path (n ∷ q) p ≡ b
    → is_directory_node (node_of (cond b (Some entry) (find path_cmp (n ∷ q) t))) ≡ true) [
      | true ↦ λ e. ap (λ x. is_directory_node (Some x))
          (h (ap (is_directory t) (sym (same_from_test (n ∷ q) p e)) ∙ g))
      | false ↦ λ e. g
    ] refl

-- a tree stays one where an entry is put at a path in a directory, if no directory is lost by it
pub IsTree-put : (t : Tree) (p : Path) (entry : Entry) → IsTree t → IsTrue (is_path p) → is_root p ≡ false
    → is_directory t (parent p) ≡ true → IsNode entry.node → AreAttributes p entry.attributes
    → (is_directory t p ≡ true → entry.node ≡ Directory)
    → IsTree (put path_cmp p entry t)
IsTree-put t p entry h path below up is are keeps = record {
  sorted = sorted-put p entry t h.sorted;
  entries = all_put (IsEntry (put path_cmp p entry t)) p entry t
      (record {
        path = path;
        below_root = below;
        parent_directory = is_directory-put p (parent p) entry t keeps up;
        node = is;
        attributes = are;
      })
      (all_weaker (IsEntry t) (IsEntry (put path_cmp p entry t))
      (λ e g. record {
        path = g.path;
        below_root = g.below_root;
        parent_directory = is_directory-put p (parent e.0) entry t keeps g.parent_directory;
        node = g.node;
        attributes = g.attributes;
      }) t h.entries);
}

-- ---- what stands at a path

-- what is known of each entry, at what a search finds
pub find_from_all : (P : Path × Entry → Type 0) (q : Path) (n : Entry) (t : Tree) → AllByRecursion P t
    → find path_cmp q t ≡ Some n → P (q, n)
find_from_all P q n [] h e = cc
find_from_all P q n (f ∷ t) h e =
    (elim (same_path q f.0) as (λ b. same_path q f.0 ≡ b → cond b (Some f.1) (find path_cmp q t) ≡ Some n → P (q, n)) [
      | true ↦ λ s e. let key : f.0 ≡ q = sym (same_from_test q f.0 s) in let value : f.1 ≡ n = cc
          in subst P (λ i. (key i, value i)) h.0
      | false ↦ λ s e. find_from_all P q n t h.1 e
    ]) refl e

-- each entry's path is found
all_found : (t : Tree) → AllByRecursion (λ e. is_some (find path_cmp e.0 t) ≡ true) t
all_found [] = tt
all_found (e ∷ t) = (
  ap (λ b. is_some (cond b (Some e.1) (find path_cmp e.0 t))) (same_path-itself e.0),
  all_weaker _ _ (λ f h. later (same_path f.0 e.0) e.1 (find path_cmp f.0 t) h) t (all_found t),
)
  where
    later : (b : Bool) (n : Entry) (o : Option Entry) → is_some o ≡ true → is_some (cond b (Some n) o) ≡ true
    later true n o h = refl
    later false n o h = h

-- what stands at a path other than the root is found
pub node_at-find : (t : Tree) (x : Path) → is_root x ≡ false → node_at t x ≡ node_of (find path_cmp x t)
node_at-find t [] h = cc
node_at-find t (n ∷ x) h = refl

-- an entry has a node
pub is_some-node_of : (o : Option Entry) → is_some (node_of o) ≡ is_some o
is_some-node_of None = refl
is_some-node_of (Some entry) = refl

-- what is found stands there
exists-from_find : (t : Tree) (x : Path) → is_some (find path_cmp x t) ≡ true → exists t x ≡ true
exists-from_find t [] h = refl
exists-from_find t (n ∷ x) h = is_some-node_of (find path_cmp (n ∷ x) t) ∙ h

-- and what stands at a path other than the root is found
pub exists-find : (t : Tree) (x : Path) → is_root x ≡ false → exists t x ≡ is_some (find path_cmp x t)
exists-find t x below = ap is_some (node_at-find t x below) ∙ is_some-node_of (find path_cmp x t)

-- each entry's path has something at it
pub all_exist : (t : Tree) → AllByRecursion (λ e. exists t e.0 ≡ true) t
all_exist t = all_weaker _ _ (λ e h. exists-from_find t e.0 h) t (all_found t)

-- the entry, where there is one
pub some_entry : (o : Option Entry) → is_some o ≡ true → (e : Entry) × (o ≡ Some e)
some_entry None h = cc
some_entry (Some e) h = (e, refl)

-- a directory is there
pub exists_from_directory : (o : Option Node) → is_directory_node o ≡ true → is_some o ≡ true
exists_from_directory None h = cc
exists_from_directory (Some n) h = refl

-- the entry of what stands at a path
pub entry_at : (t : Tree) (x : Path) → IsTree t → is_root x ≡ false → exists t x ≡ true
    → (e : Entry) × (node_at t x ≡ Some e.node) × IsEntry t (x, e) × (find path_cmp x t ≡ Some e)
entry_at t x h below is =
    let some = some_entry (find path_cmp x t) (sym (exists-find t x below) ∙ is) in
    (some.0, node_at-find t x below ∙ ap node_of some.1, find_from_all (IsEntry t) x some.0 t h.entries some.1, some.1)

-- what a node has, if it is a file
contents_of_node : (n : Node) → IsNode n → (length (contents_of (Some n)) ≤ file_limit) × IsBytes (contents_of (Some n))
contents_of_node Directory h = (omega arith, λ i. omega arith)
contents_of_node (File bytes) h = h

-- what a file has, where one is found
contents_of_found : (o : Option Entry) → ((e : Entry) → o ≡ Some e → IsNode e.node)
    → (length (contents_of (node_of o)) ≤ file_limit) × IsBytes (contents_of (node_of o))
contents_of_found None h = (omega arith, λ i. omega arith)
contents_of_found (Some e) h = contents_of_node e.node (h e refl)

-- the contents at a path of a tree
pub contents_of_tree : (t : Tree) (x : Path) → IsTree t → (length (contents t x) ≤ file_limit) × IsBytes (contents t x)
contents_of_tree t [] h = contents_of_node Directory tt
contents_of_tree t (m ∷ x) h = contents_of_found (find path_cmp (m ∷ x) t)
    (λ e found. (find_from_all (IsEntry t) (m ∷ x) e t h.entries found).node)

-- the attributes at a path of a tree
pub AreAttributes-attributes_at : (t : Tree) (x : Path) → IsTree t → AreAttributes x (attributes_at t x)
AreAttributes-attributes_at t x h =
    of_found (find path_cmp x t) (λ e found. (find_from_all (IsEntry t) x e t h.entries found).attributes)
  where
    of_found : (o : Option Entry) → ((e : Entry) → o ≡ Some e → AreAttributes x e.attributes)
        → AreAttributes x (attributes_of o)
    of_found None f = record { sorted = refl; each = tt }
    of_found (Some e) f = f e refl

-- nothing is found at the root
pub find-root : (t : Tree) → IsTree t → find path_cmp [] t ≡ None
find-root t h = none_found (find path_cmp [] t) refl
  where
    none_found : (o : Option Entry) → find path_cmp [] t ≡ o → o ≡ None
    none_found None found = refl
    none_found (Some e) found = let below : is_root [] ≡ false =
        (find_from_all (IsEntry t) [] e t h.entries found).below_root in cc

-- ---- a node put at a path

-- a tree stays one where a node is put at a path in a directory, if no directory is lost by it
pub IsTree-with_node : (t : Tree) (p : Path) (node : Node) → IsTree t → IsTrue (is_path p) → is_root p ≡ false
    → is_directory t (parent p) ≡ true → IsNode node → (is_directory t p ≡ true → node ≡ Directory)
    → IsTree (with_node t p node)
IsTree-with_node t p node h path below up is keeps =
    IsTree-put t p (record { node = node; attributes = attributes_at t p }) h path below up is
    (AreAttributes-attributes_at t p h) keeps

-- so does a made directory
pub IsTree-make : (t : Tree) (p : Path) → IsTree t → IsTrue (is_path p) → is_root p ≡ false
    → is_directory t (parent p) ≡ true → exists t p ≡ false → IsTree (next_tree t (Make p))
unfolding next_tree
IsTree-make t p h path below up none = IsTree-with_node t p Directory h path below up tt (λ is. refl)

-- ---- entries that are kept by a test of their paths

-- each entry that a test keeps
pub all_kept : (P Q : Path × Entry → Type 0) (keep : Path → Bool) → ((e : Path × Entry) → P e → keep e.0 ≡ true → Q e)
    → (t : Tree) → AllByRecursion P t → AllByRecursion Q (where_key path_cmp keep t)
all_kept P Q keep f [] h = tt
all_kept P Q keep f (e ∷ t) h =
    let rest = all_kept P Q keep f t h.1 in
    (elim (keep e.0) as (λ b. keep e.0 ≡ b
    → AllByRecursion Q (cond b (e ∷ where_key path_cmp keep t) (where_key path_cmp keep t)))
    [ true ↦ λ k. (f e h.0 k, rest) | false ↦ λ k. rest ]) refl

-- a directory that is kept stays one
is_directory-where : (keep : Path → Bool) (t : Tree) (q : Path) → keep q ≡ true → is_directory t q ≡ true
    → is_directory (where_key path_cmp keep t) q ≡ true
is_directory-where keep t [] k h = refl
is_directory-where keep t (n ∷ q) k h =
    ap (λ o. is_directory_node (node_of o))
    (find-where_key path_cmp keep (n ∷ q) (λ x e. ap keep (sym (same_from_tie (n ∷ q) x e))) t
    ∙ cond-true _ _ None k) ∙ h

-- a tree stays one where with each entry its parent is kept
pub IsTree-where : (keep : Path → Bool) (t : Tree) → IsTree t
    → AllByRecursion (λ e. keep e.0 ≡ true → keep (parent e.0) ≡ true) t → IsTree (where_key path_cmp keep t)
IsTree-where keep t h closed = record {
  sorted = sorted-where_key path_cmp keep t h.sorted;
  entries = all_kept (λ e. IsEntry t e × (keep e.0 ≡ true → keep (parent e.0) ≡ true))
      (IsEntry (where_key path_cmp keep t)) keep
      (λ e g k. record {
        path = (g.0).path;
        below_root = (g.0).below_root;
        parent_directory = is_directory-where keep t (parent e.0) (g.1 k) (g.0).parent_directory;
        node = (g.0).node;
        attributes = (g.0).attributes;
      })
      t (all_with (IsEntry t) _ _ (λ e p q. (p, q)) t h.entries closed);
}

-- the children of a path are found among the entries
all_not_children : (t : Tree) (p : Path) → length (children t p) ≡ 0
    → AllByRecursion (λ e. same_path (parent e.0) p ≡ false) t
unfolding children
all_not_children [] p h = tt
all_not_children (e ∷ t) p h =
    (elim (same_path (parent e.0) p) as (λ b. length (cond b (e ∷ children t p) (children t p)) ≡ 0
    → (b ≡ false) × AllByRecursion (λ e. same_path (parent e.0) p ≡ false) t) [
      | true ↦ λ l. absurd (omega arith)
      | false ↦ λ l. (refl, all_not_children t p l)
    ]) h

-- a tree stays one without a path that is no directory with a child
pub IsTree-without : (t : Tree) (p : Path) → IsTree t
    → (is_directory t p && has_child t p) ≡ false → IsTree (without t p)
unfolding without
IsTree-without t p h empty = IsTree-where (λ x. not (same_path x p)) t h (by_case (and_cases _ _ empty))
  where
    by_case : (is_directory t p ≡ false) ⊎ (has_child t p ≡ false)
        → AllByRecursion (λ e. not (same_path e.0 p) ≡ true → not (same_path (parent e.0) p) ≡ true) t
    by_case (inl other) = all_weaker (IsEntry t) _
        (λ e g k. not_from_false _
        (false_from_ne_true _ (λ s. both_ways _ other
        (ap (is_directory t) (sym (same_from_test (parent e.0) p s)) ∙ g.parent_directory)))) t h.entries
    by_case (inr childless) = let none = ltb-false 0 (length (children t p)) childless
        in all_weaker _ _ (λ e g k. not_from_false _ g) t (all_not_children t p (omega arith))

-- and without a path and all below it
pub IsTree-without_subtree : (t : Tree) (p : Path) → IsTree t → IsTree (without_subtree t p)
unfolding without_subtree
IsTree-without_subtree t p h =
    IsTree-where (λ x. not (is_at_or_inside x p)) t h
    (all_none _ (λ e k. not_from_false _
    (false_from_ne_true _ (λ s. both_ways _ (not-true _ k) (at_or_inside_from_parent e.0 p s)))) t)
