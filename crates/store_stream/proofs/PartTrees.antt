-- The parts of a tree at some paths are a tree.
use Rattle.std.proofs.Common.{◌≡◌, [], ◌∷◌, ◌++◌, List, length, drop, map, Bool, true, false, cond, ◌&&◌, ◌||◌}
use Rattle.std.proofs.Common.{◌⊎◌, inl, inr, Option, Some, None, refl, sym, ap, ap₂, ◌∙◌}
use Rattle.std.specs.List.{AllByRecursion, filter}
use Rattle.std.specs.List.Sorted.{IsPermutation}
use Rattle.std.specs.FinMap.{find}
use Rattle.std.specs.Ordering.{eq_by_cmp}
use Rattle.std.proofs.lemmas.Bool.{and_from, and_parts, or_left, or_right, false≢true}
use Rattle.std.proofs.lemmas.List.{append-nil, append_assoc}
use Rattle.std.proofs.lemmas.List.Kept.{IsStrictlySortedBy-filter}
use Rattle.std.proofs.lemmas.List.Sorted.{list_any-IsPermutation}
use Rattle.std.proofs.lemmas.Option.{none-some, same_Some}
use Rattle.store_model.specs.Parameters.{Parameters}
use Rattle.store_model.specs.Paths.{Path, root, is_root, path_cmp, same_path, parent, is_inside, is_at_or_inside}
use Rattle.store_model.specs.Trees.{Tree, Entry, IsNode, IsTree, IsEntry, AreAttributes, is_directory, node_at, node_of}
use Rattle.store_model.specs.Trees.{is_directory_node}
use Rattle.store_model.specs.Pages.{IsTreeUnder}
use Rattle.store_model.proofs.ListsLemmas.{all_map, all_filter, rising_to_map, rising_from_is_sorted}
use Rattle.store_model.proofs.ListsLemmas.{is_sorted_from_rising}
use Rattle.store_model.proofs.PairsLemmas.{entry_cmp}
use Rattle.store_model.proofs.TreesLemmasPaths.{same_from_test, same_path-itself, inside-append, at_or_inside-append}
use Rattle.store_model.proofs.TreesLemmasPaths.{at_or_inside-split, last_step, parent-push}
use Rattle.dir_tree.proofs.OrderLemmas.{at_or_inside_root}
use Rattle.store_stream.specs.Parts.{bare_directory, is_within, is_above, is_kept, entry_kept, parts_at}
use Rattle.store_stream.specs.Rooted.{tree_below}

-- ---- the paths above

-- the parent of what is at a path or below it is there too, or leads there
parent_within : (x q : Path) → is_root x ≡ false → is_at_or_inside x q ≡ true
    → (is_at_or_inside (parent x) q ≡ true) ⊎ (is_inside q (parent x) ≡ true)
parent_within x q below at = by_rest (drop (length q) x) (at_or_inside-split x q at)
  where
    by_rest : (s : Path) → x ≡ q ++ s → (is_at_or_inside (parent x) q ≡ true) ⊎ (is_inside q (parent x) ≡ true)
    by_rest [] is =
        let step = last_step x below in
        let same : q ≡ parent x ++ step.0 ∷ [] = sym (is ∙ append-nil q) ∙ step.1 in
        inr (ap (λ y. is_inside y (parent x)) same ∙ inside-append (parent x) step.0 [])
    by_rest (n ∷ s) is =
        let step = last_step (n ∷ s) refl in
        let above : parent x ≡ q ++ parent (n ∷ s) =
        ap parent (is ∙ ap (λ r. q ++ r) step.1 ∙ sym (append_assoc q (parent (n ∷ s)) (step.0 ∷ [])))
        ∙ parent-push (q ++ parent (n ∷ s)) step.0 in
        inl (ap (λ y. is_at_or_inside y q) above ∙ at_or_inside-append q (parent (n ∷ s)))

-- and what leads to what leads there does so itself
parent_above : (x q : Path) → is_root x ≡ false → is_inside q x ≡ true → is_inside q (parent x) ≡ true
parent_above x q below inside =
    let step = last_step x below in
    let split : q ≡ x ++ drop (length x) q =
    at_or_inside-split q x (or_right (same_path q x) (is_inside q x) inside) in
    let same : q ≡ parent x ++ step.0 ∷ drop (length x) q =
    split ∙ ap (λ y. y ++ drop (length x) q) step.1 ∙ append_assoc (parent x) (step.0 ∷ []) (drop (length x) q) in
    ap (λ y. is_inside y (parent x)) same ∙ inside-append (parent x) step.0 (drop (length x) q)

either : (a b : Bool) → (a ≡ true) ⊎ (b ≡ true) → (a || b) ≡ true
either a b (inl e) = or_left a b e
either a b (inr e) = or_right a b e

or_parts : (a b : Bool) → (a || b) ≡ true → (a ≡ true) ⊎ (b ≡ true)
or_parts true b e = inl refl
or_parts false b e = inr e

-- one of the tests passes an element
parent_of_within : (paths : List Path) (x : Path) → is_root x ≡ false → is_within paths x ≡ true
    → (is_within paths (parent x) ≡ true) ⊎ (is_above paths (parent x) ≡ true)
parent_of_within [] x below h = absurd (false≢true h)
parent_of_within (q ∷ paths) x below h =
    by_first (or_parts (is_at_or_inside x q) (is_within paths x) h) (parent_of_within paths x below)
  where
    by_first : (is_at_or_inside x q ≡ true) ⊎ (is_within paths x ≡ true)
        → (is_within paths x ≡ true → (is_within paths (parent x) ≡ true) ⊎ (is_above paths (parent x) ≡ true))
        → (is_within (q ∷ paths) (parent x) ≡ true) ⊎ (is_above (q ∷ paths) (parent x) ≡ true)
    by_first (inl at) rest = here (parent_within x q below at)
      where
        here : (is_at_or_inside (parent x) q ≡ true) ⊎ (is_inside q (parent x) ≡ true)
            → (is_within (q ∷ paths) (parent x) ≡ true) ⊎ (is_above (q ∷ paths) (parent x) ≡ true)
        here (inl e) = inl (or_left (is_at_or_inside (parent x) q) (is_within paths (parent x)) e)
        here (inr e) = inr (or_left (is_inside q (parent x)) (is_above paths (parent x)) e)
    by_first (inr more) rest = there (rest more)
      where
        there : (is_within paths (parent x) ≡ true) ⊎ (is_above paths (parent x) ≡ true)
            → (is_within (q ∷ paths) (parent x) ≡ true) ⊎ (is_above (q ∷ paths) (parent x) ≡ true)
        there (inl e) = inl (or_right (is_at_or_inside (parent x) q) (is_within paths (parent x)) e)
        there (inr e) = inr (or_right (is_inside q (parent x)) (is_above paths (parent x)) e)

parent_of_above : (paths : List Path) (x : Path) → is_root x ≡ false → is_above paths x ≡ true
    → is_above paths (parent x) ≡ true
parent_of_above [] x below h = absurd (false≢true h)
parent_of_above (q ∷ paths) x below h =
    by_first (or_parts (is_inside q x) (is_above paths x) h) (parent_of_above paths x below)
  where
    by_first : (is_inside q x ≡ true) ⊎ (is_above paths x ≡ true)
        → (is_above paths x ≡ true → is_above paths (parent x) ≡ true)
        → is_above (q ∷ paths) (parent x) ≡ true
    by_first (inl inside) rest =
        or_left (is_inside q (parent x)) (is_above paths (parent x)) (parent_above x q below inside)
    by_first (inr more) rest = or_right (is_inside q (parent x)) (is_above paths (parent x)) (rest more)

-- ---- what stands in the parts

module _ (paths : List Path) where
  -- what is kept of a path is found there
  pub found_kept : (t : Tree) (x : Path) (entry : Entry) → find path_cmp x t ≡ Some entry
      → is_kept paths (x, entry) ≡ true
      → find path_cmp x (map (entry_kept paths) (filter (is_kept paths) t)) ≡ Some (entry_kept paths (x, entry)).1
  found_kept [] x entry found kept = absurd (none-some entry found)
  found_kept (e ∷ es) x entry found kept = by_same (found_kept es x entry) (eq_by_cmp path_cmp x e.0) refl found
    where
      rest : Tree
      rest = map (entry_kept paths) (filter (is_kept paths) es)

      by_same : (find path_cmp x es ≡ Some entry → is_kept paths (x, entry) ≡ true
          → find path_cmp x rest ≡ Some (entry_kept paths (x, entry)).1)
          → (b : Bool) → eq_by_cmp path_cmp x e.0 ≡ b → cond b (Some e.1) (find path_cmp x es) ≡ Some entry
          → find path_cmp x (map (entry_kept paths) (cond (is_kept paths e) (e ∷ filter (is_kept paths) es)
          (filter (is_kept paths) es))) ≡ Some (entry_kept paths (x, entry)).1
      by_same more true same is =
          let path : e.0 ≡ x = sym (same_from_test x e.0 same) in
          let value : e.1 ≡ entry = same_Some e.1 entry is in
          let whole : e ≡ (x, entry) = λ i. (path i, value i) in
          ap (λ b. find path_cmp x (map (entry_kept paths) (cond b (e ∷ filter (is_kept paths) es)
          (filter (is_kept paths) es)))) (ap (is_kept paths) whole ∙ kept)
          ∙ ap (λ b. cond b (Some (entry_kept paths e).1) (find path_cmp x rest)) same
          ∙ ap (λ (f : Path × Entry). Some (entry_kept paths f).1) whole
      by_same more false other is = by_kept (is_kept paths e)
        where
          by_kept : (b : Bool) → find path_cmp x (map (entry_kept paths) (cond b (e ∷ filter (is_kept paths) es)
              (filter (is_kept paths) es))) ≡ Some (entry_kept paths (x, entry)).1
          by_kept true = ap (λ b. cond b (Some (entry_kept paths e).1) (find path_cmp x rest)) other ∙ more is kept
          by_kept false = more is kept

  -- and where nothing stands nothing does
  pub none_kept : (t : Tree) (x : Path) → find path_cmp x t ≡ None
      → find path_cmp x (map (entry_kept paths) (filter (is_kept paths) t)) ≡ None
  none_kept [] x none = refl
  none_kept (e ∷ es) x none = by_same (none_kept es x) (eq_by_cmp path_cmp x e.0) refl none
    where
      rest : Tree
      rest = map (entry_kept paths) (filter (is_kept paths) es)

      by_same : (find path_cmp x es ≡ None → find path_cmp x rest ≡ None)
          → (b : Bool) → eq_by_cmp path_cmp x e.0 ≡ b → cond b (Some e.1) (find path_cmp x es) ≡ None
          → find path_cmp x (map (entry_kept paths) (cond (is_kept paths e) (e ∷ filter (is_kept paths) es)
          (filter (is_kept paths) es))) ≡ None
      by_same more true same is = absurd (none-some e.1 (sym is))
      by_same more false other is = by_kept (is_kept paths e)
        where
          by_kept : (b : Bool) → find path_cmp x (map (entry_kept paths) (cond b (e ∷ filter (is_kept paths) es)
              (filter (is_kept paths) es))) ≡ None
          by_kept true = ap (λ b. cond b (Some (entry_kept paths e).1) (find path_cmp x rest)) other ∙ more is
          by_kept false = more is

  -- a directory that is kept stays one
  kept_directory : (t : Tree) (x : Path) → (is_within paths x ≡ true) ⊎ (is_above paths x ≡ true)
      → is_directory t x ≡ true → is_directory (map (entry_kept paths) (filter (is_kept paths) t)) x ≡ true
  kept_directory t [] at is = refl
  kept_directory t (n ∷ x) at is = by_found (find path_cmp (n ∷ x) t) refl is
    where
      by_found : (o : Option Entry) → find path_cmp (n ∷ x) t ≡ o → is_directory_node (node_of o) ≡ true
          → is_directory (map (entry_kept paths) (filter (is_kept paths) t)) (n ∷ x) ≡ true
      by_found None found dir = absurd (false≢true dir)
      by_found (Some entry) found dir =
          ap (λ o. is_directory_node (node_of o)) (found_kept t (n ∷ x) entry found (keeps at))
          ∙ by_within (is_within paths (n ∷ x))
        where
          keeps : (is_within paths (n ∷ x) ≡ true) ⊎ (is_above paths (n ∷ x) ≡ true)
              → is_kept paths (n ∷ x, entry) ≡ true
          keeps (inl e) = or_left (is_within paths (n ∷ x)) _ e
          keeps (inr e) = or_right (is_within paths (n ∷ x)) _ (and_from _ _ e dir)

          by_within : (b : Bool) → is_directory_node (node_of (Some (cond b entry bare_directory))) ≡ true
          by_within true = dir
          by_within false = refl

  all_filter_with : (P Q : Path × Entry → Type 0) (T : Path × Entry → Bool)
      → ((e : Path × Entry) → P e → T e ≡ true → Q e) → (es : Tree) → AllByRecursion P es
      → AllByRecursion Q (filter T es)
  all_filter_with P Q T f [] h = tt
  all_filter_with P Q T f (e ∷ es) h = by_test (all_filter_with P Q T f es h.1) (T e) refl
    where
      by_test : AllByRecursion Q (filter T es) → (b : Bool) → T e ≡ b
          → AllByRecursion Q (cond b (e ∷ filter T es) (filter T es))
      by_test rest true is = (f e h.0 is, rest)
      by_test rest false is = rest

  module _ (t : Tree) (h : IsTree t) where
    abbrev parts : Tree
    parts = map (entry_kept paths) (filter (is_kept paths) t)

    is_entry : (e : Path × Entry) → IsEntry t e → is_kept paths e ≡ true → IsEntry parts (entry_kept paths e)
    is_entry e g kept = record {
      path = g.path;
      below_root = g.below_root;
      parent_directory = kept_directory t (parent e.0) (above (or_parts _ _ kept)) g.parent_directory;
      node = by_node (is_within paths e.0);
      attributes = by_attributes (is_within paths e.0);
    }
      where
        above : (is_within paths e.0 ≡ true) ⊎ ((is_above paths e.0 && is_directory_node (Some e.1.node)) ≡ true)
            → (is_within paths (parent e.0) ≡ true) ⊎ (is_above paths (parent e.0) ≡ true)
        above (inl within) = parent_of_within paths e.0 g.below_root within
        above (inr leads) = inr (parent_of_above paths e.0 g.below_root (and_parts _ _ leads).0)

        by_node : (b : Bool) → IsNode (cond b e.1 bare_directory).node
        by_node true = g.node
        by_node false = tt

        by_attributes : (b : Bool) → AreAttributes e.0 (cond b e.1 bare_directory).attributes
        by_attributes true = g.attributes
        by_attributes false = record { sorted = refl; each = tt }

    pub IsTree-parts : IsTree parts
    IsTree-parts = record {
      sorted = is_sorted_from_rising path_cmp parts
          (rising_to_map entry_cmp (entry_kept paths) (filter (is_kept paths) t)
          (IsStrictlySortedBy-filter entry_cmp (is_kept paths) t (rising_from_is_sorted path_cmp t h.sorted)));
      entries = all_map (λ e. IsEntry t e × (is_kept paths e ≡ true)) (IsEntry parts) (entry_kept paths)
          (λ e g. is_entry e g.0 g.1) (filter (is_kept paths) t)
          (all_filter_with (IsEntry t) (λ e. IsEntry t e × (is_kept paths e ≡ true)) (is_kept paths)
          (λ e g kept. (g, kept)) t h.entries);
    }

  pub under-parts_at : (t : Tree) (p : Parameters) → IsTreeUnder t p → IsTreeUnder (parts_at t paths) p
  unfolding parts_at
  under-parts_at t p h = record {
    is_tree = IsTree-parts t h.is_tree;
    bare = λ e. all_map (λ f. f.1.attributes ≡ []) (λ f. f.1.attributes ≡ []) (entry_kept paths)
        (λ f none. by_bare f (is_within paths f.0) none) (filter (is_kept paths) t)
        (all_filter (λ f. f.1.attributes ≡ []) (is_kept paths) t (h.bare e));
  }
    where
      by_bare : (f : Path × Entry) (b : Bool) → f.1.attributes ≡ [] → (cond b f.1 bare_directory).attributes ≡ []
      by_bare f true none = none
      by_bare f false none = refl

  pub IsTree-parts_at : (t : Tree) → IsTree t → IsTree (parts_at t paths)
  unfolding parts_at
  IsTree-parts_at t h = IsTree-parts t h

-- ---- laws

-- what stands at a path is what stands there in the part at that path
pub node_in_part : (t : Tree) (q : Path) → node_at (parts_at t (q ∷ [])) q ≡ node_at t q
unfolding parts_at
node_in_part t [] = refl
node_in_part t (n ∷ q) = by_found (find path_cmp (n ∷ q) t) refl
  where
    within : is_within ((n ∷ q) ∷ []) (n ∷ q) ≡ true
    within = or_left (is_at_or_inside (n ∷ q) (n ∷ q)) false
        (or_left (same_path (n ∷ q) (n ∷ q)) (is_inside (n ∷ q) (n ∷ q)) (same_path-itself (n ∷ q)))

    by_found : (o : Option Entry) → find path_cmp (n ∷ q) t ≡ o
        → node_of (find path_cmp (n ∷ q) (map (entry_kept ((n ∷ q) ∷ [])) (filter (is_kept ((n ∷ q) ∷ [])) t)))
        ≡ node_of (find path_cmp (n ∷ q) t)
    by_found None found = ap node_of (none_kept ((n ∷ q) ∷ []) t (n ∷ q) found) ∙ ap node_of (sym found)
    by_found (Some entry) found =
        ap node_of (found_kept ((n ∷ q) ∷ []) t (n ∷ q) entry found (or_left _ _ within))
        ∙ ap (λ b. node_of (Some (cond b entry bare_directory))) within ∙ ap node_of (sym found)

pub part_at_root : (t : Tree) → parts_at t (root ∷ []) ≡ t
unfolding parts_at
part_at_root [] = refl
part_at_root (e ∷ es) =
    let within : is_within (root ∷ []) e.0 ≡ true =
    or_left (is_at_or_inside e.0 root) false (at_or_inside_root root e.0 refl) in
    ap (λ b. map (entry_kept (root ∷ [])) (cond b (e ∷ filter (is_kept (root ∷ [])) es)
    (filter (is_kept (root ∷ [])) es))) (or_left _ _ within)
    ∙ ap₂ (λ b rest. (e.0, cond b e.1 bare_directory) ∷ rest) within (part_at_root es)

abbrev cut_at : Path → Path × Entry → Path × Entry
cut_at q f = (drop (length q) f.0, f.1)

pub below_part : (t : Tree) (q : Path) → tree_below (parts_at t (q ∷ [])) q ≡ tree_below t q
unfolding parts_at tree_below
below_part [] q = refl
below_part (e ∷ es) q = by_inside (below_part es q) (is_inside e.0 q) refl
  where
    by_inside : map (cut_at q) (filter (λ f. is_inside f.0 q) (map (entry_kept (q ∷ []))
        (filter (is_kept (q ∷ [])) es)))
        ≡ map (cut_at q) (filter (λ f. is_inside f.0 q) es)
        → (b : Bool) → is_inside e.0 q ≡ b
        → map (cut_at q) (filter (λ f. is_inside f.0 q) (map (entry_kept (q ∷ []))
        (cond (is_kept (q ∷ []) e) (e ∷ filter (is_kept (q ∷ [])) es) (filter (is_kept (q ∷ [])) es))))
        ≡ map (cut_at q) (cond (is_inside e.0 q) (e ∷ filter (λ f. is_inside f.0 q) es)
        (filter (λ f. is_inside f.0 q) es))
    by_inside same true inside =
        let within : is_within (q ∷ []) e.0 ≡ true =
        or_left (is_at_or_inside e.0 q) false (or_right (same_path e.0 q) (is_inside e.0 q) inside) in
        ap (λ b. map (cut_at q) (filter (λ f. is_inside f.0 q) (map (entry_kept (q ∷ []))
        (cond b (e ∷ filter (is_kept (q ∷ [])) es) (filter (is_kept (q ∷ [])) es))))) (or_left _ _ within)
        ∙ ap (λ b. map (cut_at q) (cond b (entry_kept (q ∷ []) e
        ∷ filter (λ f. is_inside f.0 q) (map (entry_kept (q ∷ [])) (filter (is_kept (q ∷ [])) es)))
        (filter (λ f. is_inside f.0 q) (map (entry_kept (q ∷ [])) (filter (is_kept (q ∷ [])) es))))) inside
        ∙ ap₂ (λ b more. (drop (length q) e.0, cond b e.1 bare_directory) ∷ more) within same
        ∙ ap (λ b. map (cut_at q) (cond b (e ∷ filter (λ f. is_inside f.0 q) es)
        (filter (λ f. is_inside f.0 q) es))) (sym inside)
    by_inside same false outside = by_kept (is_kept (q ∷ []) e)
        ∙ same ∙ ap (λ b. map (cut_at q) (cond b (e ∷ filter (λ f. is_inside f.0 q) es)
        (filter (λ f. is_inside f.0 q) es))) (sym outside)
      where
        by_kept : (b : Bool) → map (cut_at q) (filter (λ f. is_inside f.0 q)
            (map (entry_kept (q ∷ [])) (cond b (e ∷ filter (is_kept (q ∷ [])) es) (filter (is_kept (q ∷ [])) es))))
            ≡ map (cut_at q) (filter (λ f. is_inside f.0 q) (map (entry_kept (q ∷ []))
            (filter (is_kept (q ∷ [])) es)))
        by_kept true = ap (λ b. map (cut_at q) (cond b (entry_kept (q ∷ []) e
            ∷ filter (λ f. is_inside f.0 q) (map (entry_kept (q ∷ [])) (filter (is_kept (q ∷ [])) es)))
            (filter (λ f. is_inside f.0 q) (map (entry_kept (q ∷ [])) (filter (is_kept (q ∷ [])) es))))) outside
        by_kept false = refl

-- the order of the paths makes no difference
kept_by : (Path → Bool) → (Path → Bool) → Tree → Tree
kept_by within above t =
    map (λ e. (e.0, cond (within e.0) e.1 bare_directory))
    (filter (λ e. within e.0 || (above e.0 && is_directory_node (Some e.1.node))) t)

pub parts_permuted : (t : Tree) (paths other : List Path) → IsPermutation paths other
    → parts_at t paths ≡ parts_at t other
unfolding parts_at kept_by
parts_permuted t paths other moved =
    ap₂ (λ within above. kept_by within above t)
    (λ i x. list_any-IsPermutation (λ q. is_at_or_inside x q) paths other moved i)
    (λ i x. list_any-IsPermutation (λ q. is_inside q x) paths other moved i)
