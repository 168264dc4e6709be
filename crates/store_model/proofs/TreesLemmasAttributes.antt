-- Lemmas on attributes: which changes keep them, and what stands and is found at paths after a change.
use Rattle.std.proofs.Common.{◌≡◌, ℕ, List, [], ◌∷◌, Bool, true, false, not, ◌&&◌, cond, Option, Some, None, is_some}
use Rattle.std.proofs.Common.{refl, sym, ap, ◌∙◌}
use Rattle.std.specs.Ordering.{eq_by_cmp}
use Rattle.std.specs.FinMap.{find}
use Rattle.std.specs.FinMap.Entries.{find-put, find-where_key}
use Rattle.store_model.specs.Paths.{Path, Name, is_root, name_cmp, path_cmp, same_path, is_at_or_inside}
use Rattle.store_model.specs.Trees.{Tree, Node, Entry, Attributes, IsAttribute, AreAttributes, IsEntry, IsTree, node_of}
use Rattle.store_model.specs.Trees.{attributes_of, node_at, attributes_at, attribute_at, is_directory_node, exists}
use Rattle.store_model.specs.Trees.{with_node, attributed, with_attributes, with_attribute, without_attribute, without}
use Rattle.store_model.specs.Trees.{without_subtree, moved_path, moved}
use Rattle.store_model.specs.Trees.Node.{Directory, File}
use Rattle.store_model.proofs.ListsLemmas.{all_filter}
use Rattle.store_model.proofs.PathsLemmasPlaces.{name_cmp_total, same_name_from_tie}
use Rattle.store_model.proofs.TreesLemmasPaths.{path_cmp_total, same_from_tie, same_from_test, moved_not_root}
use Rattle.store_model.proofs.TreesLemmas.{all_put_at, sorted-put_at, sorted-where_key, find_from_all, node_at-find}
use Rattle.store_model.proofs.TreesLemmas.{exists-find, IsTree-put}
use Rattle.store_model.proofs.TreesLemmasMoves.{find-moved, find-moved_away}

-- ---- the attributes of one path

-- attributes stay so with one more
pub AreAttributes-with_attribute : (p : Path) (attributes : Attributes) (a : Name) (bytes : List ℕ)
    → AreAttributes p attributes → IsAttribute p (a, bytes) → AreAttributes p (with_attribute attributes a bytes)
AreAttributes-with_attribute p attributes a bytes are is = record {
  sorted = sorted-put_at name_cmp name_cmp_total a bytes attributes are.sorted;
  each = all_put_at name_cmp same_name_from_tie (IsAttribute p) a bytes attributes is are.each;
}

-- and without one
pub AreAttributes-without_attribute : (p : Path) (attributes : Attributes) (a : Name) → AreAttributes p attributes
    → AreAttributes p (without_attribute attributes a)
unfolding without_attribute
AreAttributes-without_attribute p attributes a are = record {
  sorted = sorted-where_key name_cmp (λ b. not (eq_by_cmp name_cmp b a)) attributes are.sorted;
  each = all_filter (IsAttribute p) (λ b. not (eq_by_cmp name_cmp b.0 a)) attributes are.each;
}

-- what is found in attributes with one more
pub find-with_attribute : (attributes : Attributes) (a b : Name) (bytes : List ℕ)
    → find name_cmp b (with_attribute attributes a bytes)
    ≡ cond (eq_by_cmp name_cmp b a) (Some bytes) (find name_cmp b attributes)
find-with_attribute attributes a b bytes = find-put name_cmp name_cmp_total b a bytes attributes

-- what a test keeps by the negation of another
not_kept : {A : Type 0} (b : Bool) (x y : A) → cond (not b) x y ≡ cond b y x
not_kept true x y = refl
not_kept false x y = refl

-- and without one
pub find-without_attribute : (attributes : Attributes) (a b : Name)
    → find name_cmp b (without_attribute attributes a) ≡ cond (eq_by_cmp name_cmp b a) None (find name_cmp b attributes)
unfolding without_attribute
find-without_attribute attributes a b =
    find-where_key name_cmp (λ x. not (eq_by_cmp name_cmp x a)) b
    (λ x e. ap (λ (y : Name). not (eq_by_cmp name_cmp y a)) (sym (same_name_from_tie b x e))) attributes
    ∙ not_kept (eq_by_cmp name_cmp b a) (find name_cmp b attributes) None

-- ---- the tree with a node at a path

-- what is found
pub find-with_node : (t : Tree) (p x : Path) (node : Node)
    → find path_cmp x (with_node t p node)
    ≡ cond (same_path x p) (Some (record { node = node; attributes = attributes_at t p })) (find path_cmp x t)
find-with_node t p x node = find-put path_cmp path_cmp_total x p (record {
  node = node;
  attributes = attributes_at t p;
}) t

-- what stands at a path
pub node_at-with_node : (t : Tree) (p x : Path) (node : Node) → is_root p ≡ false
    → node_at (with_node t p node) x ≡ cond (same_path x p) (Some node) (node_at t x)
node_at-with_node t [] x node below = cc
node_at-with_node t (m ∷ p) [] node below = refl
node_at-with_node t (m ∷ p) (n ∷ x) node below =
    ap node_of (find-with_node t (m ∷ p) (n ∷ x) node) ∙ picked (same_path (n ∷ x) (m ∷ p))
  where
    picked : (b : Bool)
        → node_of (cond b (Some (record { node = node; attributes = attributes_at t (m ∷ p) }))
        (find path_cmp (n ∷ x) t)) ≡ cond b (Some node) (node_of (find path_cmp (n ∷ x) t))
    picked true = refl
    picked false = refl

-- the attributes of each path stay
pub attributes_at-with_node : (t : Tree) (p x : Path) (node : Node)
    → attributes_at (with_node t p node) x ≡ attributes_at t x
attributes_at-with_node t p x node = ap attributes_of (find-with_node t p x node) ∙ picked (same_path x p) refl
  where
    picked : (b : Bool) → same_path x p ≡ b
        → attributes_of (cond b (Some (record { node = node; attributes = attributes_at t p })) (find path_cmp x t))
        ≡ attributes_at t x
    picked true e = ap (attributes_at t) (sym (same_from_test x p e))
    picked false e = refl

-- ---- the tree with attributes for what stands at a path

-- a node that is a directory
directory_from_test : (n : Node) → is_directory_node (Some n) ≡ true → n ≡ Directory
directory_from_test Directory e = refl
directory_from_test (File bytes) e = cc

-- a tree stays one where what stands at a path gets attributes of it
pub IsTree-with_attributes : (t : Tree) (p : Path) (attributes : Attributes) → IsTree t → AreAttributes p attributes
    → IsTree (with_attributes t p attributes)
IsTree-with_attributes t p attributes h are = of_found (find path_cmp p t) refl
  where
    of_found : (o : Option Entry) → find path_cmp p t ≡ o → IsTree (attributed t p attributes o)
    of_found None found = h
    of_found (Some entry) found =
        let is = find_from_all (IsEntry t) p entry t h.entries found in
        IsTree-put t p (record {
          node = entry.node;
          attributes = attributes;
        }) h is.path is.below_root is.parent_directory is.node are
        (λ directory. directory_from_test entry.node
        (ap is_directory_node (sym (node_at-find t p is.below_root ∙ ap node_of found)) ∙ directory))

-- the entry with these attributes, where there is one
abbrev pub with_these : Attributes → Option Entry → Option Entry
with_these attributes None = None
with_these attributes (Some entry) = Some (record { node = entry.node; attributes = attributes })

-- what is found
find-attributed : (t : Tree) (p x : Path) (attributes : Attributes) (o : Option Entry) → find path_cmp p t ≡ o
    → find path_cmp x (attributed t p attributes o) ≡ cond (same_path x p) (with_these attributes o) (find path_cmp x t)
find-attributed t p x attributes None found = picked (same_path x p) refl
  where
    picked : (b : Bool) → same_path x p ≡ b → find path_cmp x t ≡ cond b None (find path_cmp x t)
    picked true e = ap (λ (y : Path). find path_cmp y t) (same_from_test x p e) ∙ found
    picked false e = refl
find-attributed t p x attributes (Some entry) found =
    find-put path_cmp path_cmp_total x p (record { node = entry.node; attributes = attributes }) t

-- at each path
pub find-with_attributes : (t : Tree) (p x : Path) (attributes : Attributes)
    → find path_cmp x (with_attributes t p attributes)
    ≡ cond (same_path x p) (with_these attributes (find path_cmp x t)) (find path_cmp x t)
find-with_attributes t p x attributes = find-attributed t p x attributes (find path_cmp p t) refl
    ∙ picked (same_path x p) refl
  where
    picked : (b : Bool) → same_path x p ≡ b → cond b (with_these attributes (find path_cmp p t)) (find path_cmp x t)
        ≡ cond b (with_these attributes (find path_cmp x t)) (find path_cmp x t)
    picked true e = ap (λ (y : Path). with_these attributes (find path_cmp y t)) (sym (same_from_test x p e))
    picked false e = refl

-- what stands at each path stays
pub node_at-with_attributes : (t : Tree) (p x : Path) (attributes : Attributes)
    → node_at (with_attributes t p attributes) x ≡ node_at t x
node_at-with_attributes t p [] attributes = refl
node_at-with_attributes t p (n ∷ x) attributes =
    ap node_of (find-with_attributes t p (n ∷ x) attributes) ∙ picked (same_path (n ∷ x) p) (find path_cmp (n ∷ x) t)
  where
    picked : (b : Bool) (o : Option Entry) → node_of (cond b (with_these attributes o) o) ≡ node_of o
    picked true None = refl
    picked true (Some entry) = refl
    picked false o = refl

-- the attributes at each path, where something stands at the one that gets them
pub attributes_at-with_attributes : (t : Tree) (p x : Path) (attributes : Attributes) → is_root p ≡ false
    → exists t p ≡ true → attributes_at (with_attributes t p attributes) x
    ≡ cond (same_path x p) attributes (attributes_at t x)
attributes_at-with_attributes t p x attributes below is =
    ap attributes_of (find-attributed t p x attributes (find path_cmp p t) refl)
    ∙ picked (same_path x p) (find path_cmp p t) (sym (exists-find t p below) ∙ is)
  where
    picked : (b : Bool) (o : Option Entry) → is_some o ≡ true
        → attributes_of (cond b (with_these attributes o) (find path_cmp x t)) ≡ cond b attributes (attributes_at t x)
    picked true None some = cc
    picked true (Some entry) some = refl
    picked false o some = refl

-- the bytes of each attribute, where one is set
pub attribute_at-set : (t : Tree) (p x : Path) (a b : Name) (bytes : List ℕ) → is_root p ≡ false → exists t p ≡ true
    → attribute_at (with_attributes t p (with_attribute (attributes_at t p) a bytes)) x b
    ≡ cond (same_path x p && eq_by_cmp name_cmp b a) (Some bytes) (attribute_at t x b)
attribute_at-set t p x a b bytes below is =
    ap (find name_cmp b) (attributes_at-with_attributes t p x (with_attribute (attributes_at t p) a bytes) below is)
    ∙ picked (same_path x p) refl
  where
    picked : (c : Bool) → same_path x p ≡ c
        → find name_cmp b (cond c (with_attribute (attributes_at t p) a bytes) (attributes_at t x))
        ≡ cond (c && eq_by_cmp name_cmp b a) (Some bytes) (attribute_at t x b)
    picked true e = find-with_attribute (attributes_at t p) a b bytes
        ∙ ap (λ (y : Path). cond (eq_by_cmp name_cmp b a) (Some bytes) (attribute_at t y b))
        (sym (same_from_test x p e))
    picked false e = refl

-- and where one is unset
pub attribute_at-unset : (t : Tree) (p x : Path) (a b : Name) → is_root p ≡ false → exists t p ≡ true
    → attribute_at (with_attributes t p (without_attribute (attributes_at t p) a)) x b
    ≡ cond (same_path x p && eq_by_cmp name_cmp b a) None (attribute_at t x b)
attribute_at-unset t p x a b below is =
    ap (find name_cmp b) (attributes_at-with_attributes t p x (without_attribute (attributes_at t p) a) below is)
    ∙ picked (same_path x p) refl
  where
    picked : (c : Bool) → same_path x p ≡ c
        → find name_cmp b (cond c (without_attribute (attributes_at t p) a) (attributes_at t x))
        ≡ cond (c && eq_by_cmp name_cmp b a) None (attribute_at t x b)
    picked true e = find-without_attribute (attributes_at t p) a b
        ∙ ap (λ (y : Path). cond (eq_by_cmp name_cmp b a) None (attribute_at t y b)) (sym (same_from_test x p e))
    picked false e = refl

-- ---- trees without some entries

-- what is found without a path
pub find-without : (t : Tree) (p x : Path) → find path_cmp x (without t p)
    ≡ cond (same_path x p) None (find path_cmp x t)
unfolding without
find-without t p x =
    find-where_key path_cmp (λ y. not (same_path y p)) x
    (λ y e. ap (λ (z : Path). not (same_path z p)) (sym (same_from_tie x y e))) t
    ∙ not_kept (same_path x p) (find path_cmp x t) None

-- and without a path and all below it
pub find-without_subtree : (t : Tree) (p x : Path)
    → find path_cmp x (without_subtree t p) ≡ cond (is_at_or_inside x p) None (find path_cmp x t)
unfolding without_subtree
find-without_subtree t p x =
    find-where_key path_cmp (λ y. not (is_at_or_inside y p)) x
    (λ y e. ap (λ (z : Path). not (is_at_or_inside z p)) (sym (same_from_tie x y e))) t
    ∙ not_kept (is_at_or_inside x p) (find path_cmp x t) None

-- an answer on what is left
of_left : {A : Type 0} (f : Option Entry → A) (b : Bool) (o : Option Entry) → f (cond b None o) ≡ cond b (f None) (f o)
of_left f true o = refl
of_left f false o = refl

-- the attributes that are left
pub attributes_at-without : (t : Tree) (p x : Path)
    → attributes_at (without t p) x ≡ cond (same_path x p) [] (attributes_at t x)
attributes_at-without t p x = ap attributes_of (find-without t p x)
    ∙ of_left attributes_of (same_path x p) (find path_cmp x t)

-- and those that are left without all below a path
pub attributes_at-without_subtree : (t : Tree) (p x : Path)
    → attributes_at (without_subtree t p) x ≡ cond (is_at_or_inside x p) [] (attributes_at t x)
attributes_at-without_subtree t p x = ap attributes_of (find-without_subtree t p x)
    ∙ of_left attributes_of (is_at_or_inside x p) (find path_cmp x t)

-- what still stands at a path other than the root
pub node_at-without : (t : Tree) (p x : Path) → is_root x ≡ false
    → node_at (without t p) x ≡ cond (same_path x p) None (node_at t x)
node_at-without t p x below =
    node_at-find (without t p) x below ∙ ap node_of (find-without t p x)
    ∙ of_left node_of (same_path x p) (find path_cmp x t)
    ∙ ap (cond (same_path x p) None) (sym (node_at-find t x below))

-- and without all below a path
pub node_at-without_subtree : (t : Tree) (p x : Path) → is_root x ≡ false
    → node_at (without_subtree t p) x ≡ cond (is_at_or_inside x p) None (node_at t x)
node_at-without_subtree t p x below =
    node_at-find (without_subtree t p) x below ∙ ap node_of (find-without_subtree t p x)
    ∙ of_left node_of (is_at_or_inside x p) (find path_cmp x t)
    ∙ ap (cond (is_at_or_inside x p) None) (sym (node_at-find t x below))

-- ---- moved trees

-- attributes move with their path
pub attributes_at-moved : (t : Tree) (from to x : Path) → IsTree t → exists t to ≡ false → is_at_or_inside x to ≡ false
    → attributes_at (moved t from to) (moved_path from to x) ≡ attributes_at t x
attributes_at-moved t from to x h none away = ap attributes_of (find-moved t from to x h none away)

-- and none are left where it was
pub attributes_at-moved_away : (t : Tree) (from to x : Path) → IsTree t → exists t to ≡ false
    → is_at_or_inside x from ≡ true → is_at_or_inside x to ≡ false → attributes_at (moved t from to) x ≡ []
attributes_at-moved_away t from to x h none inside away =
    ap attributes_of (find-moved_away t from to x h none inside away)

-- what stands at a path other than the root moves with it
pub node_at-moved : (t : Tree) (from to x : Path) → IsTree t → is_root to ≡ false → is_root x ≡ false
    → exists t to ≡ false → is_at_or_inside x to ≡ false
    → node_at (moved t from to) (moved_path from to x) ≡ node_at t x
node_at-moved t from to x h tr below none away =
    node_at-find (moved t from to) (moved_path from to x) (moved_not_root from to x tr below)
    ∙ ap node_of (find-moved t from to x h none away) ∙ sym (node_at-find t x below)
