-- What a tree has below a path is a tree with that path for the root, and its dump is that of the steps below the path.
use Rattle.std.proofs.Common.{◌≡◌, ◌+◌, ◌*◌, List, [], ◌∷◌, ◌++◌, length, drop, map}
use Rattle.std.proofs.Common.{Bool, true, false, cond, IsTrue, Some, refl, sym, ap, ap₂, subst, ◌∙◌, arith}
use Rattle.std.specs.List.{AllByRecursion, list_all, filter, enumerate_from}
use Rattle.std.specs.FinMap.{find}
use Rattle.std.specs.Ordering.{ordering_then}
use Rattle.std.specs.Cmp as cmp
use Rattle.std.proofs.lemmas.Bool.{and_parts, and_from, both_ways, false_from_ne_true, le-leb, leb-true, or_right}
use Rattle.std.proofs.lemmas.Bool.{ltb-true}
use Rattle.std.proofs.lemmas.List.{append_assoc, length-append, length-drop}
use Rattle.std.proofs.lemmas.List.{map-append, drop_at}
use Rattle.std.proofs.lemmas.List.Concat.{flat_map-append}
use Rattle.std.proofs.lemmas.List.Elements.{filter-append}
use Rattle.std.proofs.lemmas.List.Folds.{list_all-append}
use Rattle.std.proofs.lemmas.Simd.{map-map}
use Rattle.store_model.specs.Lists.{runs}
use Rattle.store_model.specs.Paths.{Path, Name, is_root, is_name, is_path, path_cmp, same_path, parent, is_inside}
use Rattle.store_model.specs.Paths.{name_bytes, field_len, fits_field, attribute_place}
use Rattle.store_model.specs.Paths.{attribute_mark}
use Rattle.store_model.specs.Trees.{Tree, Node, Entry, Attributes, IsAttribute, AreAttributes, IsTree, IsEntry}
use Rattle.store_model.specs.Trees.{is_directory, is_directory_node, node_of}
use Rattle.store_model.specs.Trees.Node.{Directory, File}
use Rattle.store_model.proofs.ListsLemmas.{all_weaker, all_map, all_append, all_none, rising_map}
use Rattle.store_model.proofs.ListsLemmas.{rising_from_is_sorted, is_sorted_from_rising, slice_cmp-append}
use Rattle.store_model.proofs.PairsLemmas.{entry_cmp}
use Rattle.store_model.proofs.TreesLemmas.{all_kept, sorted-where_key, node_at-find}
use Rattle.store_model.proofs.TreesLemmasPaths.{same_from_test, same_path-from_equal, inside-append}
use Rattle.store_model.proofs.TreesLemmasPaths.{at_or_inside-split, last_step, parent-push, path_cmp_total}
use Rattle.dir_tree.proofs.FilterLemmas.{filter_none, filter_all}
use Rattle.dump_streams.specs.Dumps.{DumpStep, step_path, file_steps, node_steps, attribute_steps, entry_steps, dump}
use Rattle.dump_streams.specs.Dumps.{dump_piece}
use Rattle.dump_streams.specs.Dumps.DumpStep.{Write, Set}
use Rattle.store_stream.specs.Rooted.{tree_below, rooted_step, rooted_steps}

-- ---- paths without their first names

-- what lies below a path has more names
pub below_path : (x q : Path) → is_inside x q ≡ true → (n : Name) × ((s : Path) × (x ≡ q ++ n ∷ s)
    × (drop (length q) x ≡ n ∷ s))
unfolding is_inside
below_path x q h = by_rest (drop (length q) x) refl
  where
    by_rest : (r : Path) → drop (length q) x ≡ r
        → (n : Name) × ((s : Path) × (x ≡ q ++ n ∷ s) × (drop (length q) x ≡ n ∷ s))
    by_rest [] e =
        let more = ltb-true (length q) (length x) (and_parts _ _ h).0 in
        let none = ap length e in
        let all = length-drop (length q) x in
        absurd (omega (arith, more, none, all))
    by_rest (n ∷ s) e = (n, (s, at_or_inside-split x q (or_right (same_path x q) _ h) ∙ ap (λ r. q ++ r) e, e))

-- a field that holds names holds the last of them
pub fits-back : (q s : Path) → fits_field (q ++ s) ≡ true → fits_field s ≡ true
unfolding name_bytes
fits-back q s h =
    let len : field_len (q ++ s) ≡ field_len q + field_len s =
    ap length (flat_map-append (λ m. m ++ 0 ∷ []) q s) ∙ length-append (name_bytes q) (name_bytes s) in
    le-leb (field_len s) 120 (omega (arith, len, leb-true (field_len (q ++ s)) 120 h))

is_path-back : (q s : Path) → IsTrue (is_path (q ++ s)) → IsTrue (is_path s)
is_path-back q s h =
    let parts = and_parts (list_all is_name (q ++ s)) (fits_field (q ++ s)) h in
    let names = and_parts (list_all is_name q) (list_all is_name s) (sym (list_all-append is_name q s) ∙ parts.0) in
    and_from _ _ names.1 (fits-back q s parts.1)

attributes-back : (q s : Path) (attributes : Attributes) → AreAttributes (q ++ s) attributes
    → AreAttributes s attributes
attributes-back q s attributes are = record {
  sorted = are.sorted;
  each = all_weaker (IsAttribute (q ++ s)) (IsAttribute s) (λ a is. record {
    name = is.name;
    fits = fits-back q (attribute_place s a.0)
        (ap fits_field (sym (append_assoc q s ((attribute_mark ∷ a.0) ∷ []))) ∙ is.fits);
    short = is.short;
    bytes = is.bytes;
  }) attributes are.each;
}

same_front : (q a b : Path) → path_cmp (q ++ a) (q ++ b) ≡ path_cmp a b
same_front q a b = slice_cmp-append _ q q a b refl
    ∙ ap (λ o. ordering_then o (path_cmp a b)) (cmp.tied_itself path_cmp_total q)

not_root_behind : (q : Path) (n : Name) (s : Path) → is_root (q ++ n ∷ s) ≡ false
not_root_behind [] n s = refl
not_root_behind (m ∷ q) n s = refl

-- ---- the tree

module _ (t : Tree) (q : Path) where
  abbrev Inside : Path × Entry → Type 0
  Inside e = is_inside e.0 q ≡ true

  abbrev root_entry : Path × Entry → Path × Entry
  root_entry e = (drop (length q) e.0, e.1)

  -- what is found below the path is found there without its names
  find_below : (n : Name) (s : Path) (es : Tree)
      → find path_cmp (n ∷ s) (map root_entry (filter (λ e. is_inside e.0 q) es)) ≡ find path_cmp (q ++ n ∷ s) es
  find_below n s [] = refl
  find_below n s (e ∷ es) = by_test (find_below n s es) (is_inside e.0 q) refl
    where
      by_test : find path_cmp (n ∷ s) (map root_entry (filter (λ e. is_inside e.0 q) es))
          ≡ find path_cmp (q ++ n ∷ s) es → (b : Bool) → is_inside e.0 q ≡ b
          → find path_cmp (n ∷ s) (map root_entry (cond b (e ∷ filter (λ e. is_inside e.0 q) es)
          (filter (λ e. is_inside e.0 q) es))) ≡ find path_cmp (q ++ n ∷ s) (e ∷ es)
      by_test rest true h =
          let below = below_path e.0 q h in
          ap₂ (λ b o. cond b (Some e.1) o)
          (cmp.both_ways _ _
          (λ same. same_path-from_equal (q ++ n ∷ s) e.0
          (ap (λ r. q ++ r) (same_from_test (n ∷ s) (drop (length q) e.0) same ∙ (below.1).2) ∙ sym (below.1).1))
          (λ same. same_path-from_equal (n ∷ s) (drop (length q) e.0)
          (sym (drop_at q (n ∷ s) (length q) refl)
          ∙ ap (drop (length q)) (same_from_test (q ++ n ∷ s) e.0 same))))
          rest
      by_test rest false h =
          rest ∙ ap (λ b. cond b (Some e.1) (find path_cmp (q ++ n ∷ s) es))
          (sym (false_from_ne_true _ (λ same. both_ways _ h
          (ap (λ x. is_inside x q) (sym (same_from_test (q ++ n ∷ s) e.0 same)) ∙ inside-append q n s))))

  abbrev B : Tree
  B = map root_entry (filter (λ e. is_inside e.0 q) t)

  directory_below : (s : Path) → is_directory t (q ++ s) ≡ true → is_directory B s ≡ true
  directory_below [] h = refl
  directory_below (n ∷ s) h =
      ap (λ o. is_directory_node (node_of o)) (find_below n s t)
      ∙ ap is_directory_node (sym (node_at-find t (q ++ n ∷ s) (not_root_behind q n s))) ∙ h

  pub IsTree-below : IsTree t → IsTree (tree_below t q)
  unfolding tree_below
  IsTree-below h = record {
    sorted = is_sorted_from_rising path_cmp B
        (rising_map entry_cmp entry_cmp root_entry Inside (λ e f a b less.
        let one = below_path e.0 q a in
        let two = below_path f.0 q b in
        ap₂ path_cmp (one.1).2 (two.1).2 ∙ sym (same_front q _ _)
        ∙ ap₂ path_cmp (sym (one.1).1) (sym (two.1).1) ∙ less)
        (filter (λ e. is_inside e.0 q) t)
        (all_kept (λ e. IsEntry t e) Inside (λ x. is_inside x q) (λ e g at. at) t h.entries)
        (rising_from_is_sorted path_cmp _ (sorted-where_key path_cmp (λ x. is_inside x q) t h.sorted)));
    entries = all_map (λ e. IsEntry t e × (is_inside e.0 q ≡ true)) (IsEntry B) root_entry (λ e g.
        let below = below_path e.0 q g.1 in
        let n = below.0 in
        let s = (below.1).0 in
        let back = (below.1).2 in
        let is = (below.1).1 in
        let step = last_step (n ∷ s) refl in
        let up : parent e.0 ≡ q ++ parent (n ∷ s) =
        ap parent (is ∙ ap (λ r. q ++ r) step.1 ∙ sym (append_assoc q (parent (n ∷ s)) (step.0 ∷ [])))
        ∙ parent-push (q ++ parent (n ∷ s)) step.0 in
        record {
          path = subst (λ x. IsTrue (is_path x)) (sym back)
              (is_path-back q (n ∷ s) (subst (λ x. IsTrue (is_path x)) is (g.0).path));
          below_root = ap is_root back;
          parent_directory = ap (λ x. is_directory B (parent x)) back ∙ directory_below (parent (n ∷ s))
              (ap (is_directory t) (sym up) ∙ (g.0).parent_directory);
          node = (g.0).node;
          attributes = subst (λ x. AreAttributes x e.1.attributes) (sym back)
              (attributes-back q (n ∷ s) e.1.attributes
              (subst (λ x. AreAttributes x e.1.attributes) is (g.0).attributes));
        }) (filter (λ e. is_inside e.0 q) t)
        (all_kept (λ e. IsEntry t e) _ (λ x. is_inside x q) (λ e g at. (g, at)) t h.entries);
  }

-- ---- its dump

-- the steps of what stands at a path are on it
steps_at : (x : Path) (entry : Entry) → AllByRecursion (λ s. step_path s ≡ x) (entry_steps x entry)
unfolding attribute_steps file_steps
steps_at x entry = all_append (λ s. step_path s ≡ x) (node_steps x entry.node) (attribute_steps x entry.attributes)
    (at_node entry.node) (all_map (λ a. Unit {0}) (λ s. step_path s ≡ x) (λ a. Set x a.0 a.1) (λ a u. refl)
    entry.attributes (all_none (λ a. Unit {0}) (λ a. tt) entry.attributes))
  where
    at_node : (node : Node) → AllByRecursion (λ s. step_path s ≡ x) (node_steps x node)
    at_node Directory = (refl, tt)
    at_node (File []) = (refl, tt)
    at_node (File (b ∷ bytes)) = all_map (λ a. Unit {0}) (λ s. step_path s ≡ x)
        (λ piece. Write x (dump_piece * piece.0) piece.1) (λ a u. refl) (enumerate_from 0 (runs dump_piece (b ∷ bytes)))
        (all_none (λ a. Unit {0}) (λ a. tt) (enumerate_from 0 (runs dump_piece (b ∷ bytes))))

-- without the first names of the path they are those of the rest of it
steps_rooted : (q x : Path) (entry : Entry)
    → entry_steps (drop (length q) x) entry ≡ map (rooted_step q) (entry_steps x entry)
unfolding attribute_steps file_steps
steps_rooted q x entry =
    ap₂ (λ a b. a ++ b) (at_node entry.node) (sym (map-map (rooted_step q) (λ a. Set x a.0 a.1) entry.attributes))
    ∙ sym (map-append (rooted_step q) (node_steps x entry.node) (attribute_steps x entry.attributes))
  where
    at_node : (node : Node) → node_steps (drop (length q) x) node ≡ map (rooted_step q) (node_steps x node)
    at_node Directory = refl
    at_node (File []) = refl
    at_node (File (b ∷ bytes)) = sym (map-map (rooted_step q) (λ piece. Write x (dump_piece * piece.0) piece.1)
        (enumerate_from 0 (runs dump_piece (b ∷ bytes))))

pub rooted-append : (q : Path) (xs ys : List DumpStep)
    → rooted_steps q (xs ++ ys) ≡ rooted_steps q xs ++ rooted_steps q ys
rooted-append q xs ys = ap (map (rooted_step q)) (filter-append (λ s. is_inside (step_path s) q) xs ys)
    ∙ map-append (rooted_step q) (filter (λ s. is_inside (step_path s) q) xs) _

pub dump-below : (t : Tree) (q : Path) → dump (tree_below t q) ≡ rooted_steps q (dump t)
unfolding dump tree_below
dump-below [] q = refl
dump-below (e ∷ t) q =
    by_test (dump-below t q) (is_inside e.0 q) refl ∙ sym (rooted-append q (entry_steps e.0 e.1) (dump t))
  where
    by_test : dump (tree_below t q) ≡ rooted_steps q (dump t) → (b : Bool) → is_inside e.0 q ≡ b
        → dump (map (λ e. (drop (length q) e.0, e.1)) (cond b (e ∷ filter (λ e. is_inside e.0 q) t)
        (filter (λ e. is_inside e.0 q) t)))
        ≡ rooted_steps q (entry_steps e.0 e.1) ++ rooted_steps q (dump t)
    by_test rest true h =
        ap₂ (λ a b. a ++ b) (steps_rooted q e.0 e.1
        ∙ ap (map (rooted_step q)) (sym (filter_all (λ s. is_inside (step_path s) q) (entry_steps e.0 e.1)
        (all_weaker _ _ (λ s is. ap (λ x. is_inside x q) is ∙ h) (entry_steps e.0 e.1) (steps_at e.0 e.1))))) rest
    by_test rest false h =
        rest ∙ ap (λ xs. map (rooted_step q) xs ++ rooted_steps q (dump t))
        (sym (filter_none (λ s. is_inside (step_path s) q) (entry_steps e.0 e.1)
        (all_weaker _ _ (λ s is. ap (λ x. is_inside x q) is ∙ h) (entry_steps e.0 e.1) (steps_at e.0 e.1))))
