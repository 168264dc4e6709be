-- Lemmas on trees that fit: each command keeps a tree that fits.
use Rattle.std.proofs.Common.{◌≡◌, ℕ, ◌+◌, ◌≤◌, List, [], ◌∷◌, ◌++◌, map, length, take, Bool, true, false, ◌&&◌, ◌⊎◌}
use Rattle.std.proofs.Common.{inl, inr, cond, not, nat_lt, Option, Some, None, is_some, Result, Ok, Err, Less, Equal}
use Rattle.std.proofs.Common.{Greater, refl, sym, ap, subst, ◌∙◌, arith, ltb-false}
use Rattle.std.specs.Ordering.{is_eq, eq_by_cmp}
use Rattle.std.specs.List.{filter, flat_map, enumerate_from}
use Rattle.std.specs.List.Sorted.{IsStrictlySortedBy}
use Rattle.std.specs.FinMap.{find, put}
use Rattle.std.specs.FinMap.Entries.{by_order}
use Rattle.std.proofs.lemmas.Bool.{false≢true, and_cases, not-false, both_ways, cond_both}
use Rattle.std.proofs.lemmas.List.{map-append, length-take}
use Rattle.store_model.specs.declared.refusal.Refusal.{Refusal}
use Rattle.store_model.specs.Lists.{runs, cut_before, numbers_below}
use Rattle.store_model.specs.Parameters.{Parameters}
use Rattle.store_model.specs.Paths.{Path, Name, name_cmp, path_cmp, same_path, is_at_or_inside, key}
use Rattle.store_model.specs.Trees.{Tree, empty_tree, Node, Entry, Attributes, node_of, attributes_of, attributes_at}
use Rattle.store_model.specs.Trees.{IsTree, is_directory, is_directory_node, exists, contents, contents_of, with_node}
use Rattle.store_model.specs.Trees.{attributed, with_attributes, without_attribute, without, without_subtree}
use Rattle.store_model.specs.Trees.{moved_path, moved}
use Rattle.store_model.specs.Trees.Node.{Directory, File}
use Rattle.store_model.specs.Pairs.{Pair, file_block, is_inline, has_attributes, file_pairs, node_pairs}
use Rattle.store_model.specs.Pairs.{attribute_pairs, entry_pairs, pairs}
use Rattle.store_model.specs.Draws.{Draw, draw_of}
use Rattle.store_model.specs.Pages.{level_list, groups, level_pages, pages_of_pairs, page_count, IsBare, Fits, pages}
use Rattle.store_model.specs.Commands.{Command}
use Rattle.store_model.specs.Commands.Command.{Make, Write, Cut, Rename, Remove, Prune, ListChildren, Read, Space}
use Rattle.store_model.specs.Commands.Command.{Digest, SetAttribute, UnsetAttribute, GetAttribute, ListAttributes}
use Rattle.store_model.specs.Steps.{Step, conditions, refusal_of, next_tree, may_fill, is_on_attributes, lacks_version}
use Rattle.store_model.specs.Steps.{step, step_by}
use Rattle.store_model.specs.Grammar.{parse}
use Rattle.store_model.specs.Scripts.{line_limit, answer, answer_by, tree_after}
use Rattle.store_model.proofs.ListsLemmas.{all_filter, all_map, length-runs, rising_head, rising_tail}
use Rattle.store_model.proofs.ListsLemmas.{rising_from_is_sorted}
use Rattle.store_model.proofs.PairsLemmas.{entry_cmp, inline_when_cut}
use Rattle.store_model.proofs.TreesLemmasPaths.{path_cmp_total, same_from_tie}
use Rattle.store_model.proofs.TreesLemmas.{all_put, is_some-node_of}
use Rattle.store_model.proofs.TreesLemmasMoves.{all_tree_of}
use Rattle.store_model.proofs.TreesLemmasFewer.{IsThinned, thinned_self, thinned_nil, thinned_append, keys_of}
use Rattle.store_model.proofs.TreesLemmasFewer.{pages_of_thinned, not_below_first}
use Rattle.store_model.proofs.TreesLemmasSteps.{AllFail, all_fail, IsTree-answer, tree_by_keeps}

-- ---- the pairs of a tree with something left out

-- the keys of two lists of pairs in a row
pub thinned_pairs : (r s u v : List Pair) → IsThinned (keys_of r) (keys_of s) → IsThinned (keys_of u) (keys_of v)
    → IsThinned (keys_of (r ++ u)) (keys_of (s ++ v))
thinned_pairs r s u v h g =
    subst (λ ks. IsThinned ks (keys_of (s ++ v))) (sym (map-append (λ pair. pair.0) r u))
    (subst (IsThinned (keys_of r ++ keys_of u)) (sym (map-append (λ pair. pair.0) s v))
    (thinned_append (keys_of r) (keys_of u) (keys_of s) (keys_of v) h g))

-- entries that a test does not keep
thinned_entries : (keep : Path × Entry → Bool) (t : Tree) (p : Parameters)
    → IsThinned (keys_of (pairs (filter keep t) p)) (keys_of (pairs t p))
unfolding pairs
thinned_entries keep [] p = refl
thinned_entries keep (e ∷ t) p =
    let entry = entry_pairs e.0 e.1 p in
    let kept = pairs (filter keep t) p in
    let rest = thinned_entries keep t p in
    elim (keep e) as (λ b. IsThinned (keys_of (pairs (cond b (e ∷ filter keep t) (filter keep t)) p))
    (keys_of (entry ++ pairs t p))) [
      | true ↦ thinned_pairs entry entry kept (pairs t p) (thinned_self (keys_of entry)) rest
      | false ↦ thinned_pairs [] entry kept (pairs t p) (thinned_nil (keys_of entry)) rest
    ]

-- an entry whose pairs have fewer keys, in the place of the one that is there
thinned_put : (k : Path) (v : Entry) (t : Tree) (p : Parameters) → IsStrictlySortedBy entry_cmp t
    → ((n : Entry) → find path_cmp k t ≡ Some n → IsThinned (keys_of (entry_pairs k v p)) (keys_of (entry_pairs k n p)))
    → is_some (find path_cmp k t) ≡ true
    → IsThinned (keys_of (pairs (put path_cmp k v t) p)) (keys_of (pairs t p))
unfolding pairs
thinned_put k v [] p h fewer is = cc
thinned_put k v (e ∷ t) p h fewer is =
    (elim (path_cmp k e.0) as (λ o. path_cmp k e.0 ≡ o
    → IsThinned (keys_of (pairs (by_order o ((k, v) ∷ e ∷ t) ((e.0, v) ∷ t) (e ∷ put path_cmp k v t)) p))
    (keys_of (entry_pairs e.0 e.1 p ++ pairs t p))) [
      | Less ↦ λ l. absurd (not_below_first path_cmp_total k e t (rising_head entry_cmp e t h) l is)
      | Equal ↦ λ l.
          thinned_pairs (entry_pairs e.0 v p) (entry_pairs e.0 e.1 p) (pairs t p) (pairs t p)
          (subst (λ x. IsThinned (keys_of (entry_pairs x v p)) (keys_of (entry_pairs x e.1 p))) (same_from_tie k e.0 l)
          (fewer e.1 (ap (λ o. cond (is_eq o) (Some e.1) (find path_cmp k t)) l)))
          (thinned_self (keys_of (pairs t p)))
      | Greater ↦ λ l.
          let later : find path_cmp k (e ∷ t) ≡ find path_cmp k t =
          ap (λ o. cond (is_eq o) (Some e.1) (find path_cmp k t)) l in
          thinned_pairs (entry_pairs e.0 e.1 p) (entry_pairs e.0 e.1 p) (pairs (put path_cmp k v t) p) (pairs t p)
          (thinned_self (keys_of (entry_pairs e.0 e.1 p)))
          (thinned_put k v t p (rising_tail entry_cmp e t h) (λ n found. fewer n (later ∙ found))
          (ap is_some (sym later) ∙ is))
    ]) refl

-- fewer blocks of a path
thinned_blocks : (path : Path) (n : ℕ) (xs ys : List (List ℕ)) → length xs ≤ length ys
    → IsThinned (keys_of (map (λ b. (key path b.0, b.1)) (enumerate_from n xs)))
    (keys_of (map (λ b. (key path b.0, b.1)) (enumerate_from n ys)))
thinned_blocks path n [] ys l = thinned_nil (keys_of (map (λ b. (key path b.0, b.1)) (enumerate_from n ys)))
thinned_blocks path n (x ∷ xs) [] l = absurd (omega arith)
thinned_blocks path n (x ∷ xs) (y ∷ ys) l =
    inr (
      keys_of (map (λ b. (key path b.0, b.1)) (enumerate_from (n + 1) xs)),
      refl,
      thinned_blocks path
          (n + 1) xs ys (omega arith),
    )

-- a file that is cut short has no more blocks
fewer_blocks : (len : ℕ) (bytes : List ℕ) → length (runs file_block (take len bytes)) ≤ length (runs file_block bytes)
fewer_blocks len bytes =
    omega (arith, length-runs file_block (take len bytes), length-runs file_block bytes, length-take len bytes)

-- so the keys of its pairs are fewer: it stands in its first pair alone where the longer one did
thinned_file : (c d : Bool) (path : Path) (len : ℕ) (bytes : List ℕ) → (d ≡ true → c ≡ true)
    → IsThinned (keys_of (file_pairs c path (take len bytes))) (keys_of (file_pairs d path bytes))
thinned_file true true path len bytes shorter = inr ([], refl, refl)
thinned_file true false path len bytes shorter =
    inr ([], refl, thinned_nil (keys_of (map (λ b. (key path b.0, b.1)) (enumerate_from 1 (runs file_block bytes)))))
thinned_file false true path len bytes shorter = absurd (false≢true (shorter refl))
thinned_file false false path len bytes shorter =
    inr (
      keys_of (map (λ b. (key path b.0, b.1)) (enumerate_from 1 (runs file_block (take len bytes)))),
      refl,
      thinned_blocks path 1 (runs file_block (take len bytes)) (runs file_block bytes) (fewer_blocks len bytes),
    )

-- under each version
thinned_cut : (path : Path) (len : ℕ) (bytes : List ℕ) (p : Parameters)
    → IsThinned (keys_of (node_pairs path (File (take len bytes)) p)) (keys_of (node_pairs path (File bytes) p))
unfolding node_pairs
thinned_cut path len bytes p =
    thinned_file (is_inline p.version (length (take len bytes))) (is_inline p.version (length bytes)) path len bytes
    (inline_when_cut p.version len bytes)

-- ---- the commands that need no new pages

-- a tree whose pairs have fewer keys has no more pages
page_count_of_thinned : (t u : Tree) (p : Parameters) → IsThinned (keys_of (pairs u p)) (keys_of (pairs t p))
    → page_count u p ≤ page_count t p
unfolding pages
page_count_of_thinned t u p h = pages_of_thinned (draw_of p) (pairs u p) (pairs t p) h

-- a tree without some entries
pub page_count-filter : (keep : Path × Entry → Bool) (t : Tree) (p : Parameters)
    → page_count (filter keep t) p ≤ page_count t p
page_count-filter keep t p = page_count_of_thinned t (filter keep t) p (thinned_entries keep t p)

-- the file that stands at a path, where no directory does
thinned_node : (path : Path) (len : ℕ) (p : Parameters) (node : Node) → is_directory_node (Some node) ≡ false
    → IsThinned (keys_of (node_pairs path (File (take len (contents_of (Some node)))) p))
    (keys_of (node_pairs path node p))
thinned_node path len p Directory other = cc
thinned_node path len p (File bytes) other = thinned_cut path len bytes p

-- and with its attributes
thinned_at : (path : Path) (len : ℕ) (p : Parameters) (o : Option Entry) (n : Entry)
    → is_directory_node (node_of o) ≡ false → o ≡ Some n
    → IsThinned (keys_of (entry_pairs path (record {
      node = File (take len (contents_of (node_of o)));
      attributes = attributes_of o;
    }) p))
    (keys_of (entry_pairs path n p))
thinned_at path len p None n other e = cc
thinned_at path len p (Some entry) n other e =
    let same : entry ≡ n = cc in
    let attributes = attribute_pairs path entry.attributes in
    subst (λ (x : Entry).
    IsThinned (keys_of (entry_pairs path (record {
      node = File (take len (contents_of (Some entry.node)));
      attributes = entry.attributes;
    }) p))
    (keys_of (entry_pairs path x p))) same
    (thinned_pairs (node_pairs path (File (take len (contents_of (Some entry.node)))) p)
    (node_pairs path entry.node p) attributes attributes (thinned_node path len p entry.node other)
    (thinned_self (keys_of attributes)))

-- a file cut short
pub page_count-cut : (t : Tree) (path : Path) (len : ℕ) (p : Parameters) → IsTree t → is_directory t path ≡ false
    → exists t path ≡ true → page_count (with_node t path (File (take len (contents t path)))) p ≤ page_count t p
page_count-cut t [] len p h other is = cc
page_count-cut t (m ∷ path) len p h other is =
    page_count_of_thinned t (with_node t (m ∷ path) (File (take len (contents t (m ∷ path))))) p
    (thinned_put (m ∷ path) (record {
      node = File (take len (contents t (m ∷ path)));
      attributes = attributes_at t (m ∷ path);
    }) t p
    (rising_from_is_sorted path_cmp t h.sorted)
    (λ n found. thinned_at (m ∷ path) len p (find path_cmp (m ∷ path) t) n other found)
    (sym (is_some-node_of (find path_cmp (m ∷ path) t)) ∙ is))

-- attributes that a test does not keep
thinned_attributes : (keep : Name × List ℕ → Bool) (path : Path) (attributes : Attributes)
    → IsThinned (keys_of (attribute_pairs path (filter keep attributes))) (keys_of (attribute_pairs path attributes))
unfolding attribute_pairs
thinned_attributes keep path [] = refl
thinned_attributes keep path (a ∷ attributes) =
    let kept = filter keep attributes in
    let rest = thinned_attributes keep path attributes in
    elim (keep a) as (λ b. IsThinned (keys_of (attribute_pairs path (cond b (a ∷ kept) kept)))
    (keys_of (attribute_pairs path (a ∷ attributes))))
    [ true ↦ inr (keys_of (attribute_pairs path kept), refl, rest) | false ↦ inl rest ]

-- what stands at a path, without some of its attributes
thinned_entry : (keep : Name × List ℕ → Bool) (path : Path) (entry : Entry) (p : Parameters)
    → IsThinned (keys_of (entry_pairs path (record { node = entry.node; attributes = filter keep entry.attributes }) p))
    (keys_of (entry_pairs path entry p))
thinned_entry keep path entry p =
    let node = node_pairs path entry.node p in
    thinned_pairs node node (attribute_pairs path (filter keep entry.attributes))
    (attribute_pairs path entry.attributes) (thinned_self (keys_of node))
    (thinned_attributes keep path entry.attributes)

-- a path without some of its attributes
page_count-kept_attributes : (t : Tree) (path : Path) (keep : Name × List ℕ → Bool) (p : Parameters) → IsTree t
    → page_count (with_attributes t path (filter keep (attributes_at t path))) p ≤ page_count t p
page_count-kept_attributes t path keep p h = by_find (find path_cmp path t) refl
  where
    by_find : (o : Option Entry) → find path_cmp path t ≡ o
        → page_count (attributed t path (filter keep (attributes_of o)) o) p ≤ page_count t p
    by_find None e = omega arith
    by_find (Some entry) e =
        let v : Entry = record { node = entry.node; attributes = filter keep entry.attributes } in
        page_count_of_thinned t (put path_cmp path v t) p
        (thinned_put path v t p (rising_from_is_sorted path_cmp t h.sorted)
        (λ n found. let same : entry ≡ n = inner n (sym e ∙ found)
        in subst (λ (x : Entry). IsThinned (keys_of (entry_pairs path v p)) (keys_of (entry_pairs path x p))) same
        (thinned_entry keep path entry p))
        (ap is_some e))
      where
        inner : (n : Entry) → Some entry ≡ Some n → entry ≡ n
        inner n s = cc

-- a path without one of its attributes
pub page_count-unset : (t : Tree) (path : Path) (a : Name) (p : Parameters) → IsTree t
    → page_count (with_attributes t path (without_attribute (attributes_at t path) a)) p ≤ page_count t p
unfolding without_attribute
page_count-unset t path a p h = page_count-kept_attributes t path (λ b. not (eq_by_cmp name_cmp b.0 a)) p h

-- `cut`
cut_fits : (t : Tree) (path : Path) (len : ℕ) (p : Parameters) → IsTree t → AllFail (conditions t (Cut path len))
    → page_count (next_tree t (Cut path len)) p ≤ page_count t p
unfolding conditions next_tree
cut_fits t path len p h fail = page_count-cut t path len p h (fail.1).0 (not-false _ fail.0)

-- a command at which no table fills needs no more pages
pub needs_no_more : (t : Tree) (c : Command) (p : Parameters) → IsTree t → may_fill c ≡ false → refusal_of t c ≡ None
    → page_count (next_tree t c) p ≤ page_count t p
unfolding next_tree may_fill without without_subtree
needs_no_more t (Make path) p h fills e = cc
needs_no_more t (Write path at bytes) p h fills e = cc
needs_no_more t (Cut path len) p h fills e = cut_fits t path len p h (all_fail (conditions t (Cut path len)) e)
needs_no_more t (Rename from to) p h fills e = cc
needs_no_more t (Remove path) p h fills e = page_count-filter (λ x. not (same_path x.0 path)) t p
needs_no_more t (Prune path) p h fills e = page_count-filter (λ x. not (is_at_or_inside x.0 path)) t p
needs_no_more t (ListChildren path) p h fills e = omega arith
needs_no_more t (Read path at len) p h fills e = omega arith
needs_no_more t Space p h fills e = omega arith
needs_no_more t Digest p h fills e = omega arith
needs_no_more t (SetAttribute path a bytes) p h fills e = cc
needs_no_more t (UnsetAttribute path a) p h fills e = page_count-unset t path a p h
needs_no_more t (GetAttribute path a) p h fills e = omega arith
needs_no_more t (ListAttributes path) p h fills e = omega arith

-- ---- trees without attributes

-- no path of such a tree has attributes
attributes_of_bare : (t : Tree) (path : Path) → IsBare t → attributes_at t path ≡ []
attributes_of_bare [] path h = refl
attributes_of_bare (e ∷ t) path h =
    elim (same_path path e.0) as (λ b. attributes_of (cond b (Some e.1) (find path_cmp path t)) ≡ [])
    [ true ↦ h.0 | false ↦ attributes_of_bare t path h.1 ]

-- a node that is put at a path brings none
bare_with_node : (t : Tree) (path : Path) (node : Node) → IsBare t → IsBare (with_node t path node)
bare_with_node t path node h = all_put (λ e. e.1.attributes ≡ []) path
    (record { node = node; attributes = attributes_at t path }) t (attributes_of_bare t path h) h

-- nor does a move
bare_moved : (t : Tree) (from to : Path) → IsBare t → IsBare (moved t from to)
unfolding moved
bare_moved t from to h =
    all_tree_of (λ e. e.1.attributes ≡ []) (map (λ e. (moved_path from to e.0, e.1)) t)
    (all_map (λ e. e.1.attributes ≡ []) (λ e. e.1.attributes ≡ []) (λ e. (moved_path from to e.0, e.1)) (λ e g. g) t h)

-- nor any command but those on attributes
bare_next_tree : (t : Tree) (c : Command) → is_on_attributes c ≡ false → IsBare t → IsBare (next_tree t c)
unfolding next_tree is_on_attributes without without_subtree
bare_next_tree t (Make path) other h = bare_with_node t path _ h
bare_next_tree t (Write path at bytes) other h = bare_with_node t path _ h
bare_next_tree t (Cut path len) other h = bare_with_node t path _ h
bare_next_tree t (Rename from to) other h = bare_moved t from to h
bare_next_tree t (Remove path) other h = all_filter (λ e. e.1.attributes ≡ []) (λ e. not (same_path e.0 path)) t h
bare_next_tree t (Prune path) other h = all_filter (λ e. e.1.attributes ≡ []) (λ e. not (is_at_or_inside e.0 path)) t h
bare_next_tree t (ListChildren path) other h = h
bare_next_tree t (Read path at len) other h = h
bare_next_tree t Space other h = h
bare_next_tree t Digest other h = h
bare_next_tree t (SetAttribute path a bytes) other h = cc
bare_next_tree t (UnsetAttribute path a) other h = cc
bare_next_tree t (GetAttribute path a) other h = h
bare_next_tree t (ListAttributes path) other h = h

-- under version 1, a command that this version does not lack is none of those
not_on_attributes : (c : Command) (p : Parameters) → lacks_version c p ≡ false → has_attributes p.version ≡ false
    → is_on_attributes c ≡ false
not_on_attributes c p has one = by_case (and_cases (is_on_attributes c) _ has)
  where
    by_case : (is_on_attributes c ≡ false) ⊎ (not (has_attributes p.version) ≡ false) → is_on_attributes c ≡ false
    by_case (inl other) = other
    by_case (inr two) = absurd (both_ways _ two (ap not one))

-- ---- steps and answers

-- where a command may not fill the table, or its tree has no more pages than slots, its tree fits
next_fits : (t : Tree) (c : Command) (p : Parameters) → IsTree t → Fits t p → lacks_version c p ≡ false
    → refusal_of t c ≡ None → (may_fill c ≡ false) ⊎ (nat_lt p.slots (page_count (next_tree t c) p) ≡ false)
    → Fits (next_tree t c) p
next_fits t c p h fits has e room = record {
  room = in_room room;
  bare = λ one. bare_next_tree t c (not_on_attributes c p has one) (fits.bare one);
}
  where
    in_room : (may_fill c ≡ false) ⊎ (nat_lt p.slots (page_count (next_tree t c) p) ≡ false)
        → page_count (next_tree t c) p ≤ p.slots
    in_room (inl fills) = let fewer = needs_no_more t c p h fills e in let held = fits.room in omega arith
    in_room (inr few) = ltb-false p.slots (page_count (next_tree t c) p) few

-- the tree after a step fits, whichever refusal holds
stepped_fits : (t : Tree) (c : Command) (p : Parameters) (o : Option Refusal) → IsTree t → Fits t p
    → lacks_version c p ≡ false → refusal_of t c ≡ o → Fits (step_by t c p o).tree p
stepped_fits t c p (Some refusal) h fits has e = fits
stepped_fits t c p None h fits has e =
    cond_both (may_fill c && nat_lt p.slots (page_count (next_tree t c) p)) _ _ (λ (s : Step). Fits s.tree p)
    (λ full. fits) (λ room. next_fits t c p h fits has e (and_cases _ _ room))

-- a step keeps a tree that fits
pub Fits-step : (t : Tree) (c : Command) (p : Parameters) → IsTree t → Fits t p → Fits (step t c p).tree p
unfolding step
Fits-step t c p h fits = cond_both (lacks_version c p) _ _ (λ (s : Step). Fits s.tree p) (λ lacks. fits)
    (λ has. stepped_fits t c p (refusal_of t c) h fits has refl)

-- so does the answer to a line that was parsed
answered_fits : (t : Tree) (parsed : Result Command Refusal) (p : Parameters) → IsTree t → Fits t p
    → Fits (answer_by t parsed p).tree p
answered_fits t (Err refusal) p h fits = fits
answered_fits t (Ok c) p h fits = Fits-step t c p h fits

-- and the answer to any line
pub Fits-answer : (t : Tree) (text : List ℕ) (p : Parameters) → IsTree t → Fits t p → Fits (answer t text p).tree p
unfolding answer
Fits-answer t text p h fits = cond_both (nat_lt line_limit (length text)) _ _ (λ (s : Step). Fits s.tree p)
    (λ long. fits) (λ short. answered_fits t (parse text) p h fits)

-- the answers to lines keep a tree that fits
pub Fits-tree_after : (t : Tree) (texts : List (List ℕ)) (p : Parameters) → IsTree t → Fits t p
    → Fits (tree_after t texts p) p
unfolding tree_after
Fits-tree_after t texts p h fits =
    (tree_by_keeps (λ u. IsTree u × Fits u p) (λ u text. answer u text p)
    (λ u text g. (IsTree-answer u text p g.0, Fits-answer u text p g.0 g.1)) t texts (h, fits)).1

-- ---- the empty tree

-- no pairs have no pages
no_pages : (d : Draw) (levels : List ℕ) → flat_map (level_pages d []) levels ≡ []
unfolding level_pages groups level_list cut_before
no_pages d [] = refl
no_pages d (level ∷ levels) = no_pages d levels

-- the empty tree fits
pub Fits-empty : (p : Parameters) → Fits empty_tree p
unfolding pages pages_of_pairs pairs
Fits-empty p = record {
  room = omega (arith, ap length (no_pages (draw_of p) (numbers_below (draw_of p).height)));
  bare = λ one. tt;
}

-- and is a tree
pub IsTree-empty : IsTree empty_tree
IsTree-empty = record { sorted = refl; entries = tt }
