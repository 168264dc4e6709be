-- The last entry of a tree, and which attributes may stand behind those that it has.
use Rattle.std.proofs.Common.{◌≡◌, ℕ, List, [], ◌∷◌, ◌++◌, Option, Some, None, true, false, IsTrue, refl, sym, ap}
use Rattle.std.proofs.Common.{subst, ◌∙◌, Ordering, Less, Equal, Greater}
use Rattle.std.specs.Ordering.{is_le}
use Rattle.std.specs.List.{AllByRecursion}
use Rattle.std.specs.List.Sorted.{IsStrictlySortedBy}
use Rattle.std.specs.FinMap.{is_sorted}
use Rattle.store_model.specs.Paths.{Path, Name, is_root, name_cmp, path_cmp}
use Rattle.store_model.specs.Trees.{Tree, Entry, Attributes, IsAttribute, AreAttributes, IsTree, node_of}
use Rattle.store_model.proofs.ListsLemmas.{all_weaker, all_append, all_back, rising_from_is_sorted}
use Rattle.store_model.proofs.ListsLemmas.{is_sorted_from_rising, rising_append, rising_one}
use Rattle.store_model.proofs.PathsLemmasPlaces.{name_cmp_total}
use Rattle.store_model.proofs.TreesLemmasPaths.{path_cmp_total, same_from_tie}
use Rattle.tree_pairs.specs.declared.kind.Kind.{Kind}
use Rattle.tree_pairs.specs.Kinds.{kind_of_node}
use Rattle.tree_pairs.specs.Seen.{IsLast, IsLastName, IsAbove}
use Rattle.tree_pairs.proofs.ReaderNextLemmas.{find_last, all_below, stands_next}

-- ---- the last entry

-- what stands behind no path but the root
none_above_root : (x : Path) → path_cmp x [] ≡ Less → ⊥
none_above_root [] less = cc
none_above_root (n ∷ x) less = cc

-- nothing stands at a path behind all entries
nothing_behind : (t : Tree) (path : Path) (x : Path) (kind : Kind) → path_cmp x path ≡ Less
    → AllByRecursion (λ e. path_cmp e.0 path ≡ Less) t → IsLast path kind t → ⊥
nothing_behind t [] x kind less all is = none_above_root x less
nothing_behind t (m ∷ q) x kind less all is = let none : None ≡ Some kind =
    sym (ap (λ (o : Option Entry). kind_of_node (node_of o)) (find_last (m ∷ q) t all)) ∙ is.stands in cc

-- the last entry of a tree stands at its last path
pub last_is : (t before : Tree) (x : Path) (entry : Entry) (path : Path) (kind : Kind) → IsTree t
    → t ≡ before ++ (x, entry) ∷ [] → IsLast path kind t → x ≡ path
last_is t before x entry path kind tree split is =
    by_order (path_cmp x path) refl
    (all_back (λ e. is_le (path_cmp e.0 path) ≡ true) before ((x, entry) ∷ []) last.none_behind).0
  where
    whole : Tree
    whole = before ++ (x, entry) ∷ []

    last : IsLast path kind (before ++ (x, entry) ∷ [])
    last = subst (IsLast path kind) split is

    by_order : (o : Ordering) → path_cmp x path ≡ o → is_le o ≡ true → x ≡ path
    by_order Less e le =
        let behind = (stands_next before [] x entry (subst IsTree split tree)).behind in
        absurd (nothing_behind (before ++ (x, entry) ∷ []) path x kind e
        (all_append (λ f. path_cmp f.0 path ≡ Less) before ((x, entry) ∷ [])
        (all_weaker (λ f. path_cmp f.0 x ≡ Less) (λ f. path_cmp f.0 path ≡ Less)
        (λ f less. path_cmp_total.trans f.0 x path less e) before behind) (e, tt)) last)
    by_order Equal e le = same_from_tie x path e
    by_order Greater e le = cc

-- entries of which one is the last
last_of : (e : Path × Entry) (t : Tree) → (before : Tree) × (last : Path × Entry) × (e ∷ t ≡ before ++ last ∷ [])
last_of e [] = ([], e, refl)
last_of e (f ∷ t) = let rest = last_of f t in (e ∷ rest.0, rest.1, ap (λ (u : Tree). e ∷ u) rest.2)

-- the last entry, and those before it
pub record HasLast (t : Tree) (path : Path) : Type 0 where
  pub before : Tree
  pub entry : Entry
  pub entries_are : t ≡ before ++ (path, entry) ∷ []

pub last_entry : (t : Tree) (path : Path) (kind : Kind) → IsTree t → IsLast path kind t
    → is_root path ≡ false → HasLast t path
last_entry [] [] kind tree is below = cc
last_entry [] (n ∷ path) kind tree is below = let none = is.stands in cc
last_entry (e ∷ t) path kind tree is below =
    let split = last_of e t in
    let same = last_is (e ∷ t) split.0 (split.1).0 (split.1).1 path kind tree split.2 is in
    record {
      before = split.0;
      entry = (split.1).1;
      entries_are = split.2 ∙ ap (λ (x : Path). split.0 ++ (x, (split.1).1) ∷ []) same;
    }

-- ---- names

-- attributes are compared by their names
abbrev attribute_cmp : Name × List ℕ → Name × List ℕ → Ordering
attribute_cmp a b = name_cmp a.0 b.0

-- the names so far stand before one that is above the last of them
names_before : (last : Option Name) (attributes : Attributes) (name : Name) → IsTrue (is_sorted name_cmp attributes)
    → IsLastName last attributes → IsAbove last name → AllByRecursion (λ a. name_cmp a.0 name ≡ Less) attributes
names_before None attributes name sorted is above = subst (AllByRecursion (λ a. name_cmp a.0 name ≡ Less)) (sym is) tt
names_before (Some last) attributes name sorted is above =
    let rising = subst (IsStrictlySortedBy attribute_cmp) is.2 (rising_from_is_sorted name_cmp attributes sorted) in
    let front = all_below attribute_cmp is.0 (last, is.1) [] rising in
    subst (AllByRecursion (λ a. name_cmp a.0 name ≡ Less)) (sym is.2)
    (all_append (λ a. name_cmp a.0 name ≡ Less) is.0 ((last, is.1) ∷ [])
    (all_weaker (λ a. name_cmp a.0 last ≡ Less) (λ a. name_cmp a.0 name ≡ Less)
    (λ a less. name_cmp_total.trans a.0 last name less above) is.0 front) (above, tt))

-- with such a one they are a path's attributes
pub attributes_more : (path : Path) (last : Option Name) (attributes : Attributes) (attribute : Name × List ℕ)
    → AreAttributes path attributes → IsLastName last attributes → IsAbove last attribute.0 → IsAttribute path attribute
    → AreAttributes path (attributes ++ attribute ∷ [])
attributes_more path last attributes attribute are is above is_one = record {
  sorted = is_sorted_from_rising name_cmp (attributes ++ attribute ∷ [])
      (rising_append attribute_cmp attributes (attribute ∷ []) (rising_from_is_sorted name_cmp attributes are.sorted)
      (rising_one attribute_cmp attribute)
      (all_weaker (λ a. name_cmp a.0 attribute.0 ≡ Less)
      (λ a. AllByRecursion (λ b. attribute_cmp a b ≡ Less) (attribute ∷ [])) (λ a less. (less, tt)) attributes
      (names_before last attributes attribute.0 are.sorted is above)));
  each = all_append (IsAttribute path) attributes (attribute ∷ []) are.each (is_one, tt);
}

-- and the next one of a path's attributes is above the last of those before it
pub above_last : (last : Option Name) (attributes : Attributes) (attribute : Name × List ℕ) (more : Attributes)
    → IsTrue (is_sorted name_cmp (attributes ++ attribute ∷ more)) → IsLastName last attributes
    → IsAbove last attribute.0
above_last None attributes attribute more sorted is = tt
above_last (Some last) attributes attribute more sorted is =
    let before = all_below attribute_cmp attributes attribute more
    (rising_from_is_sorted name_cmp (attributes ++ attribute ∷ more) sorted) in
    (all_back (λ a. name_cmp a.0 attribute.0 ≡ Less) is.0 ((last, is.1) ∷ [])
    (subst (AllByRecursion (λ a. name_cmp a.0 attribute.0 ≡ Less)) is.2 before)).0
