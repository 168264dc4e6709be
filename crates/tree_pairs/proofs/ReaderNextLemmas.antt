-- Where an entry may stand behind those of a tree, and that the path of the last one tells it.
use Rattle.std.proofs.Common.{◌≡◌, ◌≤◌, List, [], ◌∷◌, ◌++◌, length, drop, Bool, true, false, ◌⊎◌, inl, inr, cond}
use Rattle.std.proofs.Common.{IsTrue, Option, Some, None, is_some, refl, sym, ap, subst, ◌∙◌, arith, Ordering, Less}
use Rattle.std.proofs.Common.{Equal, Greater}
use Rattle.std.specs.Ordering.{ordering_then, ordering_reverse, is_eq, is_le, eq_by_cmp}
use Rattle.std.specs.Cmp.{tied_itself}
use Rattle.std.specs.Cmp.Lexicographic.{nat_list_cmp_total}
use Rattle.std.specs.FinMap.{find, put, slice_cmp-IsAntisymmetric, nat_cmp-IsAntisymmetric}
use Rattle.std.specs.FinMap.Entries.{by_order, find-put}
use Rattle.std.specs.List.{AllByRecursion}
use Rattle.std.specs.List.Sorted.{IsStrictlySortedBy}
use Rattle.std.proofs.lemmas.Bool.{false≢true, both_ways}
use Rattle.std.proofs.lemmas.List.{append_assoc, length-drop}
use Rattle.std.proofs.lemmas.Option.{same_Some}
use Rattle.store_model.specs.Paths.{Path, Name, is_root, is_path, is_inside, is_at_or_inside, parent, name_cmp}
use Rattle.store_model.specs.Paths.{path_cmp}
use Rattle.store_model.specs.Trees.{Tree, Node, Entry, Attributes, IsNode, AreAttributes, IsEntry, IsTree, node_of}
use Rattle.store_model.specs.Trees.{node_at, exists, is_directory, is_directory_node, attributed}
use Rattle.store_model.specs.Trees.Node.{Directory, File}
use Rattle.store_model.proofs.ListsLemmas.{all_weaker, all_append, all_back, rising_from_is_sorted, rising_head}
use Rattle.store_model.proofs.ListsLemmas.{rising_tail, rising_back}
use Rattle.store_model.proofs.TreesLemmas.{IsTree-put, node_at-find, exists-find, some_entry, entry_at}
use Rattle.store_model.proofs.TreesLemmas.{exists_from_directory, find_from_all}
use Rattle.store_model.proofs.TreesLemmasAttributes.{IsTree-with_attributes}
use Rattle.store_model.proofs.TreesLemmasMoves.{nothing_below}
use Rattle.store_model.proofs.TreesLemmasPaths.{path_cmp_total, same_from_tie, same_path-itself, last_step}
use Rattle.store_model.proofs.TreesLemmasPaths.{inside-append, at_or_inside-append, not_root-push, parent-push}
use Rattle.path_keys.proofs.InsideBytes.{inside_split}
use Rattle.tree_pairs.specs.declared.kind.Kind.{Kind}
use Rattle.tree_pairs.specs.declared.kind.Kind.TheVariants as kinds
use Rattle.tree_pairs.specs.Kinds.{kind_of, kind_of_node}
use Rattle.tree_pairs.specs.Seen.{IsLast, MayStandNext, MayFollow, bare_entry}

-- ---- the order of paths

-- the order of two paths, the other way round
above : (x y : Path) → path_cmp y x ≡ Less → path_cmp x y ≡ Greater
above x y less = path_cmp_total.antisymm x y ∙ ap ordering_reverse less

-- a path at or before one that stands before a third
before_less : (x y z : Path) → is_le (path_cmp x y) ≡ true → path_cmp y z ≡ Less → path_cmp x z ≡ Less
before_less x y z le less = by_order (path_cmp x y) refl le
  where
    by_order : (o : Ordering) → path_cmp x y ≡ o → is_le o ≡ true → path_cmp x z ≡ Less
    by_order Less e le = path_cmp_total.trans x y z e less
    by_order Equal e le = ap (λ (w : Path). path_cmp w z) (same_from_tie x y e) ∙ less
    by_order Greater e le = cc

-- a path stands before those below it
before_below : (x : Path) (rest : Path) (n : Name) → path_cmp x (x ++ n ∷ rest) ≡ Less
before_below [] rest n = refl
before_below (m ∷ x) rest n = ap (λ o. ordering_then o (path_cmp x (x ++ n ∷ rest))) (tied_itself nat_list_cmp_total m)
    ∙ before_below x rest n

parent_before : (x : Path) → is_root x ≡ false → path_cmp (parent x) x ≡ Less
parent_before x below_root =
    let step = last_step x below_root in
    ap (path_cmp (parent x)) step.1 ∙ before_below (parent x) [] step.0

-- what stands behind a path and before one of its children lies below the path
between : (q last : Path) (n : Name) → path_cmp q last ≡ Less → path_cmp last (q ++ n ∷ []) ≡ Less
    → (m : Name) × (rest : Path) × (last ≡ q ++ m ∷ rest)
between [] [] n behind before = cc
between [] (m ∷ rest) n behind before = (m, rest, refl)
between (a ∷ q) [] n behind before = cc
between (a ∷ q) (b ∷ last) n behind before = by_order (between q last n) (name_cmp a b) refl behind
  where
    by_order : (path_cmp q last ≡ Less → path_cmp last (q ++ n ∷ []) ≡ Less
        → (m : Name) × (rest : Path) × (last ≡ q ++ m ∷ rest)) → (o : Ordering) → name_cmp a b ≡ o
        → ordering_then o (path_cmp q last) ≡ Less
        → (m : Name) × (rest : Path) × (b ∷ last ≡ (a ∷ q) ++ m ∷ rest)
    by_order rest Less e behind =
        let other : name_cmp b a ≡ Greater = nat_list_cmp_total.antisymm b a ∙ ap ordering_reverse e in
        let no : Greater ≡ Less = sym (ap (λ o. ordering_then o (path_cmp last (q ++ n ∷ []))) other) ∙ before in
        cc
    by_order rest Equal e behind =
        let other : name_cmp b a ≡ Equal = nat_list_cmp_total.antisymm b a ∙ ap ordering_reverse e in
        let same : a ≡ b = slice_cmp-IsAntisymmetric nat_cmp-IsAntisymmetric a b e in
        let found = rest behind (sym (ap (λ o. ordering_then o (path_cmp last (q ++ n ∷ []))) other) ∙ before) in
        (found.0, found.1, λ i. sym same i ∷ found.2 i)
    by_order rest Greater e behind = cc

-- ---- an entry behind all others

-- put at a path behind all others it stands at the end
put_last : (x : Path) (entry : Entry) (t : Tree) → AllByRecursion (λ e. path_cmp e.0 x ≡ Less) t
    → put path_cmp x entry t ≡ t ++ (x, entry) ∷ []
put_last x entry [] below = refl
put_last x entry (e ∷ t) below =
    ap (λ o. by_order o ((x, entry) ∷ e ∷ t) ((e.0, entry) ∷ t) (e ∷ put path_cmp x entry t)) (above x e.0 below.0)
    ∙ ap (λ rest. e ∷ rest) (put_last x entry t below.1)

-- so does what is put in its place
put_again : (x : Path) (old new : Entry) (t : Tree) → AllByRecursion (λ e. path_cmp e.0 x ≡ Less) t
    → put path_cmp x new (t ++ (x, old) ∷ []) ≡ t ++ (x, new) ∷ []
put_again x old new [] below =
    ap (λ o. by_order o ((x, new) ∷ (x, old) ∷ []) ((x, new) ∷ []) ((x, old) ∷ put path_cmp x new []))
    (tied_itself path_cmp_total x)
put_again x old new (e ∷ t) below =
    ap (λ o. by_order o ((x, new) ∷ e ∷ (t ++ (x, old) ∷ [])) ((e.0, new) ∷ (t ++ (x, old) ∷ []))
    (e ∷ put path_cmp x new (t ++ (x, old) ∷ []))) (above x e.0 below.0)
    ∙ ap (λ rest. e ∷ rest) (put_again x old new t below.1)

-- and nothing stood there before
pub find_last : (x : Path) (t : Tree) → AllByRecursion (λ e. path_cmp e.0 x ≡ Less) t → find path_cmp x t ≡ None
find_last x [] below = refl
find_last x (e ∷ t) below = ap (λ o. cond (is_eq o) (Some e.1) (find path_cmp x t)) (above x e.0 below.0)
    ∙ find_last x t below.1

-- it is found there
pub find_at_last : (x : Path) (entry : Entry) (t : Tree) → AllByRecursion (λ e. path_cmp e.0 x ≡ Less) t
    → find path_cmp x (t ++ (x, entry) ∷ []) ≡ Some entry
find_at_last x entry t below =
    ap (find path_cmp x) (sym (put_last x entry t below)) ∙ find-put path_cmp path_cmp_total x x entry t
    ∙ ap (λ b. cond b (Some entry) (find path_cmp x t)) (same_path-itself x)

-- so a tree with it is a tree
pub tree_more : (t : Tree) (x : Path) (entry : Entry) → IsTree t → MayStandNext t x → IsNode entry.node
    → AreAttributes x entry.attributes → IsTree (t ++ (x, entry) ∷ [])
tree_more t x entry tree next is are =
    let free : is_directory t x ≡ false =
    ap is_directory_node (node_at-find t x next.below_root ∙ ap node_of (find_last x t next.behind)) in
    subst IsTree (put_last x entry t next.behind)
    (IsTree-put t x entry tree next.valid next.below_root next.parent_directory is are
    (λ there. absurd (false≢true (sym free ∙ there))))

-- also without attributes
pub bare_tree_more : (t : Tree) (x : Path) (node : Node) → IsTree t → MayStandNext t x → IsNode node
    → IsTree (t ++ (x, bare_entry node) ∷ [])
bare_tree_more t x node tree next is =
    tree_more t x (bare_entry node) tree next is (record { sorted = refl; each = tt })

-- and it is the last entry
pub last_more : (t : Tree) (x : Path) (entry : Entry) → MayStandNext t x
    → IsLast x (kind_of entry.node) (t ++ (x, entry) ∷ [])
last_more t x entry next = record {
  none_behind = all_append (λ e. is_le (path_cmp e.0 x) ≡ true) t ((x, entry) ∷ [])
      (all_weaker (λ e. path_cmp e.0 x ≡ Less) (λ e. is_le (path_cmp e.0 x) ≡ true)
      (λ e less. ap is_le less) t next.behind)
      (ap is_le (tied_itself path_cmp_total x), tt);
  stands = ap kind_of_node (node_at-find (t ++ (x, entry) ∷ []) x next.below_root
      ∙ ap node_of (find_at_last x entry t next.behind));
}

-- with other attributes for it a tree stays one
pub tree_again : (t : Tree) (x : Path) (node : Node) (old new : Attributes)
    → IsTree (t ++ (x, record { node = node; attributes = old }) ∷ []) → AllByRecursion (λ e. path_cmp e.0 x ≡ Less) t
    → AreAttributes x new → IsTree (t ++ (x, record { node = node; attributes = new }) ∷ [])
tree_again t x node old new tree below are =
    let entry : Entry = record { node = node; attributes = old } in
    subst IsTree (ap (attributed (t ++ (x, entry) ∷ []) x new) (find_at_last x entry t below)
    ∙ put_again x entry (record { node = node; attributes = new }) t below)
    (IsTree-with_attributes (t ++ (x, entry) ∷ []) x new tree are)

-- ---- an entry of a tree behind the first ones

-- elements before another one are below it
pub all_below : {K : Type 0} (c : K → K → Ordering) (xs : List K) (y : K) (ys : List K)
    → IsStrictlySortedBy c (xs ++ y ∷ ys) → AllByRecursion (λ x. c x y ≡ Less) xs
all_below c [] y ys rising = tt
all_below c (x ∷ xs) y ys rising = (
  (all_back (λ z. c x z ≡ Less) xs (y ∷ ys) (rising_head c x (xs ++ y ∷ ys) rising)).0,
  all_below c xs y ys
      (rising_tail c x (xs ++ y ∷ ys) rising),
)

-- a path that ties with none is not found
not_found : (q : Path) (t : Tree) → AllByRecursion (λ e. path_cmp q e.0 ≡ Less) t → find path_cmp q t ≡ None
not_found q [] later = refl
not_found q (e ∷ t) later = ap (λ o. cond (is_eq o) (Some e.1) (find path_cmp q t)) later.0 ∙ not_found q t later.1

-- so it is found among the first ones
find_front : (q : Path) (t u : Tree) → AllByRecursion (λ e. path_cmp q e.0 ≡ Less) u
    → find path_cmp q (t ++ u) ≡ find path_cmp q t
find_front q [] u later = not_found q u later
find_front q (e ∷ t) u later = ap (cond (eq_by_cmp path_cmp q e.0) (Some e.1)) (find_front q t u later)

-- each entry of a tree may stand behind those before it
pub stands_next : (t others : Tree) (x : Path) (entry : Entry) → IsTree (t ++ (x, entry) ∷ others) → MayStandNext t x
stands_next t others x entry tree =
    let whole : Tree = t ++ (x, entry) ∷ others in
    let is : IsEntry whole (x, entry) = (all_back (IsEntry whole) t ((x, entry) ∷ others) tree.entries).0 in
    let rising = rising_from_is_sorted path_cmp whole tree.sorted in
    let behind = rising_head (λ (a b : Path × Entry). path_cmp a.0 b.0) (x, entry) others
    (rising_back (λ (a b : Path × Entry). path_cmp a.0 b.0) t ((x, entry) ∷ others) rising) in
    let before = parent_before x is.below_root in
    let later : AllByRecursion (λ (e : Path × Entry). path_cmp (parent x) e.0 ≡ Less) ((x, entry) ∷ others) = (
      before,
      all_weaker (λ (e : Path × Entry). path_cmp x e.0 ≡ Less)
          (λ (e : Path × Entry). path_cmp (parent x) e.0 ≡ Less)
          (λ e less. path_cmp_total.trans (parent x) x e.0 before less) others behind,
    ) in
    record {
      valid = is.path;
      below_root = is.below_root;
      parent_directory = by_parent (parent x) later is.parent_directory;
      behind = all_below (λ (a b : Path × Entry). path_cmp a.0 b.0) t (x, entry) others rising;
    }
  where
    by_parent : (q : Path) → AllByRecursion (λ e. path_cmp q e.0 ≡ Less) ((x, entry) ∷ others)
        → is_directory (t ++ (x, entry) ∷ others) q ≡ true → is_directory t q ≡ true
    by_parent [] later is = refl
    by_parent (m ∷ q) later is = ap is_directory_node
        (ap node_of (sym (find_front (m ∷ q) t ((x, entry) ∷ others) later))) ∙ is

-- the same of the first entry of those that are left
pub next_stands : (u t others later : Tree) (x : Path) (entry : Entry) → IsTree u → u ≡ t ++ others
    → others ≡ (x, entry) ∷ later → MayStandNext t x
next_stands u t others later x entry tree split first =
    stands_next t later x entry (subst IsTree (split ∙ ap (λ (xs : Tree). t ++ xs) first) tree)

-- ---- the last path tells it

-- what the kind of a node says
kind_stands : (o : Option Node) (kind : Kind) → kind_of_node o ≡ Some kind → is_some o ≡ true
kind_stands None kind e = cc
kind_stands (Some node) kind e = refl

directory_from_kind : (o : Option Node) → kind_of_node o ≡ Some kinds.Directory → is_directory_node o ≡ true
directory_from_kind None e = cc
directory_from_kind (Some Directory) e = refl
directory_from_kind (Some (File bytes)) e = cc

kind_from_directory : (o : Option Node) (kind : Kind) → is_directory_node o ≡ true → kind_of_node o ≡ Some kind
    → kind ≡ kinds.Directory
kind_from_directory None kind is e = cc
kind_from_directory (Some Directory) kind is e = sym (same_Some kinds.Directory kind e)
kind_from_directory (Some (File bytes)) kind is e = cc

-- what lies strictly below a path has more names
more_names : (q x : Path) → is_inside x q ≡ true → (m : Name) × (rest : Path) × (x ≡ q ++ m ∷ rest)
more_names q x inside =
    let parts = inside_split x q inside in
    by_rest (drop (length q) x) parts.0 (omega (arith, length-drop (length q) x, parts.1))
  where
    by_rest : (rest : Path) → x ≡ q ++ rest → 1 ≤ length rest → (m : Name) × (rest : Path) × (x ≡ q ++ m ∷ rest)
    by_rest [] e some = absurd (omega arith)
    by_rest (m ∷ rest) e some = (m, rest, e)

-- each path above one at which something stands is a directory
directory_above : (t : Tree) (x q : Path) → IsTree t → exists t x ≡ true → is_inside x q ≡ true
    → is_directory t q ≡ true
directory_above t x q tree is inside =
    let names = more_names q x inside in
    let child : Path = q ++ names.0 ∷ [] in
    let split : x ≡ child ++ names.1 = names.2 ∙ sym (append_assoc q (names.0 ∷ []) names.1) in
    by_test names.0 names.1 split (exists t child) refl
  where
    by_test : (m : Name) (rest : Path) → x ≡ (q ++ m ∷ []) ++ rest → (b : Bool) → exists t (q ++ m ∷ []) ≡ b
        → is_directory t q ≡ true
    by_test m rest split true e = ap (is_directory t) (sym (parent-push q m))
        ∙ (entry_at t (q ++ m ∷ []) tree (not_root-push q m) e).2.parent_directory
    by_test m rest split false e =
        absurd (both_ways _ (nothing_below t (q ++ m ∷ []) tree e x is)
        (ap (λ (y : Path). is_at_or_inside y (q ++ m ∷ [])) split ∙ at_or_inside-append (q ++ m ∷ []) rest))

-- where the test by the last path holds, an entry may stand next
pub next_from_last : (t : Tree) (last : Path) (kind : Kind) (x : Path) → IsTree t → IsLast last kind t
    → IsTrue (is_path x) → is_root x ≡ false → MayFollow last kind x → MayStandNext t x
next_from_last t last kind x tree is valid below_root follows = record {
  valid = valid;
  below_root = below_root;
  parent_directory = by_parent follows.1;
  behind = all_weaker (λ (e : Path × Entry). is_le (path_cmp e.0 last) ≡ true)
      (λ (e : Path × Entry). path_cmp e.0 x ≡ Less) (λ e le. before_less e.0 last x le follows.0) t is.none_behind;
}
  where
    by_parent : (parent x ≡ []) ⊎ ((parent x ≡ last) × (kind ≡ kinds.Directory)) ⊎ IsTrue (is_inside last (parent x))
        → is_directory t (parent x) ≡ true
    by_parent (inl root) = ap (is_directory t) root
    by_parent (inr (inl same)) = ap (is_directory t) same.0
        ∙ directory_from_kind (node_at t last) (is.stands ∙ ap Some same.1)
    by_parent (inr (inr inside)) = directory_above t last (parent x) tree
        (kind_stands (node_at t last) kind is.stands) inside

-- and the other way round
pub last_from_next : (t : Tree) (last : Path) (kind : Kind) (x : Path) → IsLast last kind t → MayStandNext t x
    → MayFollow last kind x
last_from_next t last kind x is next =
    (before last (kind_stands (node_at t last) kind is.stands), by_parent (parent x) refl next.parent_directory)
  where
    root_before : (y : Path) → is_root y ≡ false → path_cmp [] y ≡ Less
    root_before [] h = cc
    root_before (n ∷ y) h = refl

    before : (last : Path) → exists t last ≡ true → path_cmp last x ≡ Less
    before [] there = root_before x next.below_root
    before (n ∷ y) there = let entry = some_entry (find path_cmp (n ∷ y) t) (sym (exists-find t (n ∷ y) refl) ∙ there)
        in find_from_all (λ e. path_cmp e.0 x ≡ Less) (n ∷ y) entry.0 t next.behind entry.1

    at_parent : (q : Path) → parent x ≡ q → is_directory t q ≡ true → (o : Ordering) → path_cmp q last ≡ o
        → is_le o ≡ true → ((q ≡ last) × (kind ≡ kinds.Directory)) ⊎ IsTrue (is_inside last q)
    at_parent q up directory Less e le =
        let step = last_step x next.below_root in
        let before_child : path_cmp last (q ++ step.0 ∷ []) ≡ Less =
        ap (path_cmp last) (ap (λ (y : Path). y ++ step.0 ∷ []) (sym up) ∙ sym step.1)
        ∙ before last (kind_stands (node_at t last) kind is.stands) in
        let below = between q last step.0 e before_child in
        inr (ap (λ (y : Path). is_inside y q) below.2 ∙ inside-append q below.0 below.1)
    at_parent q up directory Equal e le =
        let same : q ≡ last = same_from_tie q last e in
        inl (same, kind_from_directory (node_at t last) kind (ap (is_directory t) (sym same) ∙ directory) is.stands)
    at_parent q up directory Greater e le = cc

    by_parent : (q : Path) → parent x ≡ q → is_directory t q ≡ true
        → (parent x ≡ []) ⊎ ((parent x ≡ last) × (kind ≡ kinds.Directory)) ⊎ IsTrue (is_inside last (parent x))
    by_parent [] up directory = inl up
    by_parent (m ∷ q) up directory =
        let entry = some_entry (find path_cmp (m ∷ q) t)
        (sym (exists-find t (m ∷ q) refl) ∙ exists_from_directory (node_at t (m ∷ q)) directory) in
        let le = find_from_all (λ e. is_le (path_cmp e.0 last) ≡ true) (m ∷ q) entry.0 t is.none_behind entry.1 in
        inr (subst (λ (y : Path). ((y ≡ last) × (kind ≡ kinds.Directory)) ⊎ IsTrue (is_inside last y)) (sym up)
        (at_parent (m ∷ q) up directory (path_cmp (m ∷ q) last) refl le))
