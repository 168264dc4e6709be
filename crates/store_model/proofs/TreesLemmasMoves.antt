-- Lemmas on moved trees: a rename keeps a tree.
use Rattle.std.proofs.Common.{◌≡◌, ℕ, zero, suc, ◌≤◌, List, [], ◌∷◌, ◌++◌, map, length, drop, Bool, true, false, not}
use Rattle.std.proofs.Common.{◌&&◌, ◌⊎◌, inl, inr, cond, IsTrue, Some, None, refl, sym, ap, ap₂, ◌∙◌, arith}
use Rattle.std.specs.List.{AllByRecursion, list_all, list_any}
use Rattle.std.specs.FinMap.{find, is_sorted}
use Rattle.std.specs.FinMap.Entries.{find-put}
use Rattle.std.specs.Cmp as cmp
use Rattle.std.proofs.lemmas.Bool.{and_parts, and_from, and_cases, or_parts, not-false, false_from_ne_true, both_ways}
use Rattle.std.proofs.lemmas.Bool.{cond_both}
use Rattle.std.proofs.lemmas.List.{append-nil, append_assoc, length-append}
use Rattle.std.proofs.lemmas.List.Folds.{list_all-append}
use Rattle.store_model.specs.Paths.{Path, is_root, is_name, is_path, path_cmp, same_path, parent, is_inside}
use Rattle.store_model.specs.Paths.{is_at_or_inside, replanted, fits_field, fits_attribute}
use Rattle.store_model.specs.Trees.{Tree, Entry, Attributes, IsAttribute, AreAttributes, IsEntry, IsTree, node_of}
use Rattle.store_model.specs.Trees.{is_directory, is_directory_node, exists, tree_of, moved_path, moved}
use Rattle.store_model.specs.Steps.{is_too_long, outgrows}
use Rattle.store_model.proofs.ListsLemmas.{all_none, all_weaker, all_with, all_map}
use Rattle.store_model.proofs.TreesLemmasPaths.{path_cmp_total, same_from_test, same_path-from_equal}
use Rattle.store_model.proofs.TreesLemmasPaths.{at_or_inside-append, at_or_inside-split, last_step, parent-push}
use Rattle.store_model.proofs.TreesLemmasPaths.{not_root-push, inside_from_parent, moved_path_there}
use Rattle.store_model.proofs.TreesLemmasPaths.{moved_path_elsewhere, moved_path-itself, root_elsewhere, moved_not_root}
use Rattle.store_model.proofs.TreesLemmasPaths.{parent-moved_path, moved_path_once}
use Rattle.store_model.proofs.TreesLemmas.{all_put, sorted-put, node_at-find, all_exist, exists_from_directory}
use Rattle.store_model.proofs.TreesLemmas.{entry_at}

-- ---- the tree of a list of entries

-- each entry of the tree
pub all_tree_of : (P : Path × Entry → Type 0) (es : List (Path × Entry)) → AllByRecursion P es
    → AllByRecursion P (tree_of es)
unfolding tree_of
all_tree_of P [] h = tt
all_tree_of P (e ∷ es) h = all_put P e.0 e.1 (tree_of es) h.0 (all_tree_of P es h.1)

-- the entries are in order
pub sorted-tree_of : (es : List (Path × Entry)) → IsTrue (is_sorted path_cmp (tree_of es))
unfolding tree_of
sorted-tree_of [] = refl
sorted-tree_of (e ∷ es) = sorted-put e.0 e.1 (tree_of es) (sorted-tree_of es)

-- the first of the entries at a path is found
pub find-tree_of : (q : Path) (es : List (Path × Entry)) → find path_cmp q (tree_of es) ≡ find path_cmp q es
unfolding tree_of
find-tree_of q [] = refl
find-tree_of q (e ∷ es) = find-put path_cmp path_cmp_total q e.0 e.1 (tree_of es)
    ∙ ap (cond (same_path q e.0) (Some e.1)) (find-tree_of q es)

-- ---- nothing stands below a path at which nothing stands

-- nothing stands beneath, by the number of names
nothing_beneath : (t : Tree) (p : Path) → IsTree t → exists t p ≡ false → (k : ℕ) (s : Path) → length s ≤ k
    → exists t (p ++ s) ≡ true → ⊥
nothing_beneath t p h none k [] l is = both_ways _ none (ap (exists t) (sym (append-nil p)) ∙ is)
nothing_beneath t p h none zero (n ∷ s) l is = absurd (omega arith)
nothing_beneath t p h none (suc k) (n ∷ s) l is =
    let step = last_step (n ∷ s) refl in
    let at : p ++ (n ∷ s) ≡ (p ++ parent (n ∷ s)) ++ step.0 ∷ [] =
    ap (λ y. p ++ y) step.1 ∙ sym (append_assoc p (parent (n ∷ s)) (step.0 ∷ [])) in
    let entry = entry_at t (p ++ (n ∷ s)) h (ap is_root at ∙ not_root-push (p ++ parent (n ∷ s)) step.0) is in
    let up : is_directory t (p ++ parent (n ∷ s)) ≡ true =
    ap (is_directory t) (sym (ap parent at ∙ parent-push (p ++ parent (n ∷ s)) step.0))
    ∙ (entry.2).parent_directory in
    nothing_beneath t p h none k (parent (n ∷ s))
    (omega (arith, ap length step.1, length-append (parent (n ∷ s)) (step.0 ∷ []))) (exists_from_directory _ up)

-- what stands in a tree does not lie there
pub nothing_below : (t : Tree) (p : Path) → IsTree t → exists t p ≡ false → (x : Path) → exists t x ≡ true
    → is_at_or_inside x p ≡ false
nothing_below t p h none x is =
    false_from_ne_true _ (λ e. nothing_beneath t p h none (length (drop (length p) x)) (drop (length p) x) (omega arith)
    (ap (exists t) (sym (at_or_inside-split x p e)) ∙ is))

-- ---- what stands in a moved tree

-- what is found at a path is found at what a map makes of the path, if that is so of no other entry
pub find_mapped : (f : Path → Path) (q : Path) (t : Tree) → AllByRecursion (λ e. f e.0 ≡ f q → e.0 ≡ q) t
    → find path_cmp (f q) (map (λ e. (f e.0, e.1)) t) ≡ find path_cmp q t
find_mapped f q [] h = refl
find_mapped f q (e ∷ t) h =
    ap₂ (λ b o. cond b (Some e.1) o)
    (cmp.both_ways _ _
    (λ s. same_path-from_equal q e.0 (sym (h.0 (sym (same_from_test (f q) (f e.0) s)))))
    (λ s. same_path-from_equal (f q) (f e.0) (ap f (same_from_test q e.0 s))))
    (find_mapped f q t h.1)

-- nothing is found at a path that a map makes of no entry's
pub find_unmapped : (f : Path → Path) (q : Path) (t : Tree) → AllByRecursion (λ e. f e.0 ≡ q → ⊥) t
    → find path_cmp q (map (λ e. (f e.0, e.1)) t) ≡ None
find_unmapped f q [] h = refl
find_unmapped f q (e ∷ t) h = ap (λ b. cond b (Some e.1) (find path_cmp q (map (λ e. (f e.0, e.1)) t)))
    (false_from_ne_true (same_path q (f e.0)) (λ same. h.0 (sym (same_from_test q (f e.0) same))))
    ∙ find_unmapped f q t h.1

-- no entry lies at the path that is moved to, or below it, where nothing stands there
all_elsewhere : (t : Tree) (to : Path) → IsTree t → exists t to ≡ false
    → AllByRecursion (λ e. is_at_or_inside e.0 to ≡ false) t
all_elsewhere t to h none = all_weaker _ _ (λ e x. nothing_below t to h none e.0 x) t (all_exist t)

-- what was found away from the path that is moved to is found where it has moved to
pub find-moved : (t : Tree) (from to x : Path) → IsTree t → exists t to ≡ false → is_at_or_inside x to ≡ false
    → find path_cmp (moved_path from to x) (moved t from to) ≡ find path_cmp x t
unfolding moved
find-moved t from to x h none away =
    find-tree_of (moved_path from to x) (map (λ e. (moved_path from to e.0, e.1)) t)
    ∙ find_mapped (moved_path from to) x t
    (all_weaker (λ e. is_at_or_inside e.0 to ≡ false) _ (λ e other. moved_path_once from to e.0 x other away) t
    (all_elsewhere t to h none))

-- and nothing is found where it was, unless the path that is moved to lies there
pub find-moved_away : (t : Tree) (from to x : Path) → IsTree t → exists t to ≡ false → is_at_or_inside x from ≡ true
    → is_at_or_inside x to ≡ false → find path_cmp x (moved t from to) ≡ None
unfolding moved
find-moved_away t from to x h none inside away =
    find-tree_of x (map (λ e. (moved_path from to e.0, e.1)) t)
    ∙ find_unmapped (moved_path from to) x t
    (all_none _ (λ e same. no_image e.0 (is_at_or_inside e.0 from) refl same) t)
  where
    no_image : (z : Path) (b : Bool) → is_at_or_inside z from ≡ b → moved_path from to z ≡ x → ⊥
    no_image z true at same = both_ways _ (ap (λ w. is_at_or_inside w to) (sym (moved_path_there from to z at) ∙ same)
        ∙ away) (at_or_inside-append to (drop (length from) z))
    no_image z false at same =
        both_ways _ at (ap (λ w. is_at_or_inside w from) (sym (moved_path_elsewhere from to z at) ∙ same) ∙ inside)

-- a directory of the tree is one of the moved tree, where it has moved to
pub is_directory-moved : (t : Tree) (from to q : Path) → IsTree t → is_root from ≡ false → is_root to ≡ false
    → exists t to ≡ false → is_directory t q ≡ true → is_directory (moved t from to) (moved_path from to q) ≡ true
is_directory-moved t from to [] h fr tr none is =
    ap (is_directory (moved t from to)) (moved_path_elsewhere from to [] (root_elsewhere from fr))
is_directory-moved t from to (n ∷ q) h fr tr none is =
    ap is_directory_node
    (node_at-find (moved t from to) (moved_path from to (n ∷ q)) (moved_not_root from to (n ∷ q) tr refl)
    ∙ ap node_of (find-moved t from to (n ∷ q) h none (nothing_below t to h none (n ∷ q) (exists_from_directory _ is))))
    ∙ is

-- ---- the entries of a moved tree

-- no entry passes a test that none passes
all_from_none : {X : Type 0} (test : X → Bool) (xs : List X) → list_any test xs ≡ false
    → AllByRecursion (λ x. test x ≡ false) xs
all_from_none test [] h = tt
all_from_none test (x ∷ xs) h = let parts = or_parts (test x) _ h in (parts.0, all_from_none test xs parts.1)

-- a path that is replanted is a path, if its field does not outgrow its bytes
is_path-replanted : (from to x : Path) → IsTrue (is_path to) → IsTrue (is_path x) → is_at_or_inside x from ≡ true
    → fits_field (replanted from to x) ≡ true → IsTrue (is_path (replanted from to x))
unfolding replanted
is_path-replanted from to x ht hx e fits =
    and_from _ _
    (list_all-append is_name to (drop (length from) x) ∙ and_from _ _ (and_parts (list_all is_name to) _ ht).0
    (and_parts (list_all is_name from) _ (sym (list_all-append is_name from (drop (length from) x))
    ∙ ap (list_all is_name) (sym (at_or_inside-split x from e)) ∙ (and_parts (list_all is_name x) _ hx).0)).1)
    fits

-- attributes of a path are those of another in whose field they have room
AreAttributes-elsewhere : (x y : Path) (attributes : Attributes) → AreAttributes x attributes
    → AllByRecursion (λ a. not (fits_attribute y a.0) ≡ false) attributes → AreAttributes y attributes
AreAttributes-elsewhere x y attributes are fit = record {
  sorted = are.sorted;
  each = all_with (IsAttribute x) _ (IsAttribute y) (λ a is fits. record {
    name = is.name;
    fits = not-false _ fits;
    short = is.short;
    bytes = is.bytes;
  }) attributes are.each fit;
}

-- a moved path is a path with its attributes, if no field outgrows its bytes
is_path-moved : (from to x : Path) (attributes : Attributes) → IsTrue (is_path to) → IsTrue (is_path x)
    → AreAttributes x attributes → (is_at_or_inside x from && is_too_long (replanted from to x) attributes) ≡ false
    → IsTrue (is_path (moved_path from to x)) × AreAttributes (moved_path from to x) attributes
is_path-moved from to x attributes ht hx are fits =
    cond_both (is_at_or_inside x from) (replanted from to x) x (λ y. IsTrue (is_path y) × AreAttributes y attributes)
    (λ e. by_room e (short (and_cases _ _ fits) e)) (λ e. (hx, are))
  where
    short : {a b : Bool} → (a ≡ false) ⊎ (b ≡ false) → a ≡ true → b ≡ false
    short (inl other) e = absurd (both_ways _ other e)
    short (inr fits) e = fits

    by_room : is_at_or_inside x from ≡ true → is_too_long (replanted from to x) attributes ≡ false
        → IsTrue (is_path (replanted from to x)) × AreAttributes (replanted from to x) attributes
    by_room e room =
        let rooms = or_parts (not (fits_field (replanted from to x))) _ room in (
          is_path-replanted from to x ht hx e (not-false _ rooms.0),
          AreAttributes-elsewhere x
              (replanted from to x) attributes are (all_from_none _ attributes rooms.1),
        )

-- the parent of a moved entry is a directory of the moved tree
parent_directory-moved : (t : Tree) (from to x : Path) → IsTree t → is_root from ≡ false → is_root to ≡ false
    → is_inside to from ≡ false → is_directory t (parent to) ≡ true → exists t to ≡ false → is_root x ≡ false
    → is_directory t (parent x) ≡ true
    → is_directory (moved t from to) (parent (moved_path from to x)) ≡ true
parent_directory-moved t from to x h fr tr inside up none below is = by_test (same_path x from) refl
  where
    by_test : (b : Bool) → same_path x from ≡ b → is_directory (moved t from to) (parent (moved_path from to x)) ≡ true
    by_test true s =
        let stays : moved_path from to (parent to) ≡ parent to =
        moved_path_elsewhere from to (parent to)
        (false_from_ne_true _ (λ e. both_ways _ inside (inside_from_parent to from tr e))) in
        ap (λ y. is_directory (moved t from to) (parent y))
        (ap (moved_path from to) (same_from_test x from s) ∙ moved_path-itself from to)
        ∙ ap (is_directory (moved t from to)) (sym stays) ∙ is_directory-moved t from to (parent to) h fr tr none up
    by_test false s =
        ap (is_directory (moved t from to))
        (parent-moved_path from to x below (λ e. both_ways _ s (same_path-from_equal x from e)))
        ∙ is_directory-moved t from to (parent x) h fr tr none is

-- a tree stays one where what stands at a path and below it moves to a path at which nothing stands, in a
-- directory that does not move, if no path and no attribute grows too long
pub IsTree-moved : (t : Tree) (from to : Path) → IsTree t → IsTrue (is_path to) → is_root from ≡ false
    → is_root to ≡ false → is_inside to from ≡ false → is_directory t (parent to) ≡ true → exists t to ≡ false
    → outgrows t from to ≡ false → IsTree (moved t from to)
unfolding moved outgrows
IsTree-moved t from to h path fr tr inside up none fits = record {
  sorted = sorted-tree_of (map (λ e. (moved_path from to e.0, e.1)) t);
  entries = all_tree_of (IsEntry (moved t from to)) (map (λ e. (moved_path from to e.0, e.1)) t)
      (all_map (λ e. IsEntry t e
      × ((is_at_or_inside e.0 from && is_too_long (replanted from to e.0) e.1.attributes) ≡ false))
      (IsEntry (moved t from to)) (λ e. (moved_path from to e.0, e.1))
      (λ e g.
      let valid = is_path-moved from to e.0 e.1.attributes path (g.0).path (g.0).attributes g.1 in
      record {
        path = valid.0;
        below_root = moved_not_root from to e.0 tr (g.0).below_root;
        parent_directory = parent_directory-moved t from to e.0 h fr tr inside up none
            (g.0).below_root (g.0).parent_directory;
        node = (g.0).node;
        attributes = valid.1;
      })
      t (all_with (IsEntry t) _ _ (λ e p q. (p, q)) t h.entries (all_from_none _ t fits)));
}
