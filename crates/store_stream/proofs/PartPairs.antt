-- The pairs of the parts of a tree at some paths are those pairs of the tree that have keys of the parts.
use Rattle.std.proofs.Common.{◌≡◌, ℕ, ◌+◌, ◌<◌, ◌≤◌, List, [], ◌∷◌, ◌++◌, length, take, drop, map}
use Rattle.std.proofs.Common.{Bool, true, false, ◌&&◌, ◌||◌, cond, inl, inr, IsTrue, Some, refl, sym, ap, ap₂, subst}
use Rattle.std.proofs.Common.{◌∙◌, arith}
use Rattle.std.specs.List.{AllByRecursion, filter, flat_map, enumerate_from}
use Rattle.std.proofs.lemmas.Bool.{both_ways, false_from_ne_true, and_parts, or_right, ltb-true}
use Rattle.std.proofs.lemmas.List.{length-drop, take-append-drop, take_at}
use Rattle.std.proofs.lemmas.List.Elements.{filter-append}
use Rattle.store_model.specs.Lists.{same_bytes, runs}
use Rattle.store_model.specs.Parameters.{Parameters}
use Rattle.store_model.specs.Paths.{Path, is_root, is_path, is_place, same_path, is_inside, is_at_or_inside}
use Rattle.store_model.specs.Paths.{attribute_place, key}
use Rattle.store_model.specs.Pairs.{Pair, pairs, entry_pairs, node_pairs, attribute_pairs, directory_value, file_pairs}
use Rattle.store_model.specs.Pairs.{is_inline, inline_value, file_value, file_block}
use Rattle.store_model.specs.Trees.{Tree, Entry, Node, Attributes, IsTree, IsEntry, IsNode, is_directory_node}
use Rattle.store_model.specs.Trees.Node.{Directory, File}
use Rattle.store_model.proofs.ListsLemmas.{all_weaker, all_append, all_front, all_back, numbers_in_range}
use Rattle.store_model.proofs.ListsLemmas.{length-runs}
use Rattle.store_model.proofs.PathsLemmas.{place_of_path}
use Rattle.store_model.proofs.PairsLemmas.{IsOfPath, pairs_of_entry}
use Rattle.store_model.proofs.TreesLemmasPaths.{at_or_inside-split, inside-append}
use Rattle.tree_pairs.proofs.PlaceLemmas.{attribute_inside}
use Rattle.dir_tree.proofs.FilterLemmas.{filter_none, filter_all}
use Rattle.dir_tree.proofs.OrderLemmas.{at_or_inside_root, top_is_lowest, before_end, within_stretch, same_place}
use Rattle.store_stream.specs.PartKeys.{is_in, leads, is_in_some, leads_to_some, is_part}
use Rattle.store_stream.specs.Parts.{bare_directory, is_within, is_above, is_kept, entry_kept, parts_at}
use Rattle.store_stream.proofs.FirstNames.{is_path-take}
use Rattle.store_stream.proofs.KeyPlaces.{in_root, in_from, in_parts, leads_where, leads_from}

-- ---- the keys of places

module _ (q : Path) (path : IsTrue (is_path q)) where
  -- the keys of a place are of the path where the place is at it or below it
  place_is_in : (x : Path) (i : ℕ) → IsTrue (is_place x) → i < 4294967296 → is_in q (key x i) ≡ is_at_or_inside x q
  place_is_in x i place l = by_root (is_root q) refl
    where
      by_test : is_root q ≡ false → (b : Bool) → is_at_or_inside x q ≡ b → is_in q (key x i) ≡ b
      by_test below true at =
          in_from q (key x i) (top_is_lowest q x i (place_of_path q path) place l at) (before_end q x i at)
      by_test below false out =
          false_from_ne_true _ (λ yes.
          let parts = in_parts q (key x i) below yes in
          both_ways _ out (within_stretch q x i path place l parts.0 parts.1))

      by_root : (b : Bool) → is_root q ≡ b → is_in q (key x i) ≡ is_at_or_inside x q
      by_root true is = in_root q (key x i) is ∙ sym (at_or_inside_root q x is)
      by_root false is = by_test is (is_at_or_inside x q) refl

  pair_is_in : (x : Path) → IsTrue (is_path x) → (pair : Pair) → IsOfPath x pair
      → is_in q pair.0 ≡ is_at_or_inside x q
  pair_is_in x valid pair (inl of) =
      ap (is_in q) of.2 ∙ place_is_in x of.0 (place_of_path x valid) of.1
  pair_is_in x valid pair (inr of) =
      ap (is_in q) of.2 ∙ place_is_in (attribute_place x of.0) 0 of.1 (omega arith)
      ∙ attribute_inside x of.0 q path

  -- the first key of a path leads where the path does
  leads_first : (x : Path) → IsTrue (is_path x) → leads q (key x 0) ≡ is_inside q x
  unfolding is_inside
  leads_first x valid = by_test (is_inside q x) refl
    where
      on : is_inside q x ≡ true → leads q (key x 0) ≡ true
      on inside =
          let split = at_or_inside-split q x (or_right (same_path q x) (is_inside q x) inside) in
          leads_from q (length x) (key x 0) (inside_longer inside)
          (ap (λ y. key y 0) (sym (take_at x (drop (length x) q) (length x) refl) ∙ ap (take (length x)) (sym split)))
        where
          inside_longer : is_inside q x ≡ true → length x < length q
          inside_longer h = ltb-true (length x) (length q) (and_parts _ _ h).0

      back : leads q (key x 0) ≡ true → is_inside q x ≡ true
      back h =
          let there = leads_where q (key x 0) h in
          let same = (same_place x (take there.0 q) 0 0 (place_of_path x valid)
          (place_of_path (take there.0 q) (is_path-take there.0 q path)) (omega arith) (omega arith) there.2).0 in
          by_rest there.0 there.1 same (drop there.0 q) refl
        where
          by_rest : (n : ℕ) → n < length q → x ≡ take n q → (rest : Path) → drop n q ≡ rest → is_inside q x ≡ true
          by_rest n l same [] is = absurd (omega (arith, l, length-drop n q, ap (λ (y : Path). length y) is))
          by_rest n l same (m ∷ rest) is =
              let whole : q ≡ x ++ m ∷ rest = sym (take-append-drop n q) ∙ ap₂ (λ a b. a ++ b) (sym same) is in
              ap (λ y. is_inside y x) whole ∙ inside-append x m rest

      by_test : (b : Bool) → is_inside q x ≡ b → leads q (key x 0) ≡ b
      by_test true inside = on inside
      by_test false out = false_from_ne_true _ (λ yes. both_ways _ out (back yes))

  -- its other keys lead nowhere
  leads_no_more : (x : Path) → IsTrue (is_path x) → (i : ℕ) → 1 ≤ i → i < 4294967296 → leads q (key x i) ≡ false
  leads_no_more x valid i some l = false_from_ne_true _ (λ h.
      let there = leads_where q (key x i) h in
      let same = (same_place x (take there.0 q) i 0 (place_of_path x valid)
      (place_of_path (take there.0 q) (is_path-take there.0 q path)) l (omega arith) there.2).1 in
      absurd (omega (arith, same, some)))

-- ---- of some paths

some_is_in : (paths : List Path) → AllByRecursion (λ q. IsTrue (is_path q)) paths → (x : Path) → IsTrue (is_path x)
    → (pair : Pair) → IsOfPath x pair → is_in_some paths pair.0 ≡ is_within paths x
some_is_in [] valid x path pair of = refl
some_is_in (q ∷ paths) valid x path pair of =
    ap₂ (λ a b. a || b) (pair_is_in q valid.0 x path pair of) (some_is_in paths valid.1 x path pair of)

some_leads : (paths : List Path) → AllByRecursion (λ q. IsTrue (is_path q)) paths → (x : Path) → IsTrue (is_path x)
    → leads_to_some paths (key x 0) ≡ is_above paths x
some_leads [] valid x path = refl
some_leads (q ∷ paths) valid x path =
    ap₂ (λ a b. a || b) (leads_first q valid.0 x path) (some_leads paths valid.1 x path)

none_leads : (paths : List Path) → AllByRecursion (λ q. IsTrue (is_path q)) paths → (x : Path) → IsTrue (is_path x)
    → (i : ℕ) → 1 ≤ i → i < 4294967296 → leads_to_some paths (key x i) ≡ false
none_leads [] valid x path i some l = refl
none_leads (q ∷ paths) valid x path i some l =
    ap₂ (λ a b. a || b) (leads_no_more q valid.0 x path i some l) (none_leads paths valid.1 x path i some l)

and_false : (a : Bool) → (a && false) ≡ false
and_false true = refl
and_false false = refl

and_true : (a : Bool) → (a && true) ≡ a
and_true true = refl
and_true false = refl

-- ---- the pairs of an entry

module _ (paths : List Path) (valid : AllByRecursion (λ q. IsTrue (is_path q)) paths) (t : Tree) (p : Parameters)
    (e : Path × Entry) (h : IsEntry t e) where
  each_in : AllByRecursion (λ (pair : Pair). is_in_some paths pair.0 ≡ is_within paths e.0) (entry_pairs e.0 e.1 p)
  each_in = all_weaker (IsOfPath e.0) _ (λ pair of. some_is_in paths valid e.0 h.path pair of)
      (entry_pairs e.0 e.1 p) (pairs_of_entry t e p h)

  -- all of them are of the parts
  all_within : is_within paths e.0 ≡ true → filter (is_part paths) (entry_pairs e.0 e.1 p) ≡ entry_pairs e.0 e.1 p
  all_within within = filter_all (is_part paths) (entry_pairs e.0 e.1 p)
      (all_weaker _ _ (λ pair is.
      ap (λ b. b || (leads_to_some paths pair.0 && same_bytes pair.1 directory_value)) (is ∙ within))
      (entry_pairs e.0 e.1 p) each_in)

  module _ (outside : is_within paths e.0 ≡ false) where
    -- a pair that leads nowhere, or that is of no directory
    is_out : (pair : Pair) → is_in_some paths pair.0 ≡ is_within paths e.0
        → (leads_to_some paths pair.0 && same_bytes pair.1 directory_value) ≡ false → is_part paths pair ≡ false
    is_out pair is none = ap₂ (λ a b. a || b) (is ∙ outside) none

    attributes_out : AllByRecursion (λ (pair : Pair). is_part paths pair ≡ false) (attribute_pairs e.0 e.1.attributes)
    unfolding attribute_pairs
    attributes_out =
        all_out (attribute_pairs e.0 e.1.attributes)
        (all_back (λ (pair : Pair). is_in_some paths pair.0 ≡ is_within paths e.0) (node_pairs e.0 e.1.node p)
        (attribute_pairs e.0 e.1.attributes) each_in) (no_directory e.1.attributes)
      where
        all_out : (xs : List Pair) → AllByRecursion (λ (pair : Pair). is_in_some paths pair.0 ≡ is_within paths e.0) xs
            → AllByRecursion (λ (pair : Pair). same_bytes pair.1 directory_value ≡ false) xs
            → AllByRecursion (λ (pair : Pair). is_part paths pair ≡ false) xs
        all_out [] a b = tt
        all_out (x ∷ xs) a b = (
          is_out x a.0 (ap (λ c. leads_to_some paths x.0 && c) b.0 ∙ and_false (leads_to_some paths x.0)),
          all_out xs a.1 b.1,
        )

        no_directory : (attributes : Attributes)
            → AllByRecursion (λ (pair : Pair). same_bytes pair.1 directory_value ≡ false)
            (attribute_pairs e.0 attributes)
        no_directory [] = tt
        no_directory (a ∷ attributes) = (refl, no_directory attributes)

    -- those of a directory
    directory_cut : (attributes : List Pair)
        → AllByRecursion (λ (pair : Pair). is_part paths pair ≡ false) attributes
        → is_in_some paths (key e.0 0) ≡ is_within paths e.0
        → filter (is_part paths) ((key e.0 0, directory_value) ∷ attributes)
        ≡ cond (is_above paths e.0) ((key e.0 0, directory_value) ∷ []) []
    directory_cut attributes out is =
        ap₂ (λ b rest. cond b ((key e.0 0, directory_value) ∷ rest) rest)
        (ap₂ (λ a b. a || b) (is ∙ outside) (and_true (leads_to_some paths (key e.0 0))
        ∙ some_leads paths valid e.0 h.path))
        (filter_none (is_part paths) attributes out)

    -- those of a file
    file_out : (bytes : List ℕ) → IsNode (File bytes) → (inline : Bool)
        → AllByRecursion (λ (pair : Pair). is_in_some paths pair.0 ≡ is_within paths e.0) (file_pairs inline e.0 bytes)
        → AllByRecursion (λ (pair : Pair). is_part paths pair ≡ false) (file_pairs inline e.0 bytes)
    file_out bytes node true is =
        (is_out (key e.0 0, inline_value bytes) is.0 (and_false (leads_to_some paths (key e.0 0))), tt)
    file_out bytes node false is = (
      is_out (key e.0 0, file_value (length bytes)) is.0 (and_false (leads_to_some paths (key e.0 0))),
      all_blocks (enumerate_from 1 (runs file_block bytes)) (numbers_in_range 1 (runs file_block bytes)) is.1,
    )
      where
        few : length (runs file_block bytes) < 4294967295
        few = let e = length-runs file_block bytes in let l = node.0 in omega arith

        all_blocks : (bs : List (ℕ × List ℕ))
            → AllByRecursion (λ (b : ℕ × List ℕ). (1 ≤ b.0) × (b.0 < 1 + length (runs file_block bytes))) bs
            → AllByRecursion (λ (pair : Pair). is_in_some paths pair.0 ≡ is_within paths e.0)
            (map (λ (b : ℕ × List ℕ). (key e.0 b.0, b.1)) bs)
            → AllByRecursion (λ (pair : Pair). is_part paths pair ≡ false)
            (map (λ (b : ℕ × List ℕ). (key e.0 b.0, b.1)) bs)
        all_blocks [] range in_them = tt
        all_blocks (b ∷ bs) range in_them = (
          is_out (key e.0 b.0, b.1) in_them.0
              (ap (λ c. c && same_bytes b.1 directory_value)
              (none_leads paths valid e.0 h.path b.0 range.0.0 (omega (arith, range.0.1, few)))),
          all_blocks bs range.1 in_them.1,
        )

  -- what is kept of an entry has just those of its pairs that are of the parts
  kept_of : (rest : Tree) → filter (is_part paths) (entry_pairs e.0 e.1 p) ++ pairs (map (entry_kept paths) rest) p
      ≡ pairs (map (entry_kept paths) (cond (is_kept paths e) (e ∷ rest) rest)) p
  unfolding pairs node_pairs attribute_pairs
  kept_of rest = by_within (is_within paths e.0) refl
    where
      by_node : (node : Node) (attributes : Attributes) → e.1.node ≡ node → e.1.attributes ≡ attributes
          → is_within paths e.0 ≡ false
          → filter (is_part paths) (entry_pairs e.0 e.1 p) ++ flat_map (λ f. entry_pairs f.0 f.1 p)
          (map (entry_kept paths) rest)
          ≡ flat_map (λ f. entry_pairs f.0 f.1 p)
          (map (entry_kept paths) (cond (is_kept paths e) (e ∷ rest) rest))
      by_node Directory attributes is are outside =
          ap (λ b. b ++ flat_map (λ f. entry_pairs f.0 f.1 p) (map (entry_kept paths) rest))
          (ap (λ n. filter (is_part paths) (node_pairs e.0 n p ++ attribute_pairs e.0 e.1.attributes)) is
          ∙ directory_cut outside (attribute_pairs e.0 e.1.attributes) (attributes_out outside)
          (some_is_in paths valid e.0 h.path (key e.0 0, directory_value) (inl (0, omega arith, refl))))
          ∙ by_above (is_above paths e.0)
          ∙ ap (λ b. flat_map (λ f. entry_pairs f.0 f.1 p) (map (entry_kept paths) (cond b (e ∷ rest) rest)))
          (sym (ap₂ (λ a b. a || b) outside (ap (λ n. is_above paths e.0 && is_directory_node (Some n)) is
          ∙ and_true (is_above paths e.0))))
        where
          by_above : (b : Bool) → cond b ((key e.0 0, directory_value) ∷ []) []
              ++ flat_map (λ f. entry_pairs f.0 f.1 p) (map (entry_kept paths) rest)
              ≡ flat_map (λ f. entry_pairs f.0 f.1 p) (map (entry_kept paths) (cond b (e ∷ rest) rest))
          by_above true = ap (λ b. entry_pairs e.0 (cond b e.1 bare_directory) p
              ++ flat_map (λ f. entry_pairs f.0 f.1 p) (map (entry_kept paths) rest)) (sym outside)
          by_above false = refl
      by_node (File bytes) attributes is are outside =
          let node : IsNode (File bytes) = subst IsNode is h.node in
          let in_them = all_front (λ (pair : Pair). is_in_some paths pair.0 ≡ is_within paths e.0)
          (node_pairs e.0 e.1.node p)
          (attribute_pairs e.0 e.1.attributes) each_in in
          let out : AllByRecursion (λ (pair : Pair). is_part paths pair ≡ false) (node_pairs e.0 e.1.node p) =
          subst (λ n. AllByRecursion (λ (pair : Pair). is_part paths pair ≡ false) (node_pairs e.0 n p)) (sym is)
          (file_out outside bytes node (is_inline p.version (length bytes))
          (subst (λ n. AllByRecursion (λ (pair : Pair). is_in_some paths pair.0 ≡ is_within paths e.0)
          (node_pairs e.0 n p))
          is in_them)) in
          ap (λ front. front ++ flat_map (λ f. entry_pairs f.0 f.1 p) (map (entry_kept paths) rest))
          (filter_none (is_part paths) (entry_pairs e.0 e.1 p)
          (all_append _ (node_pairs e.0 e.1.node p) (attribute_pairs e.0 e.1.attributes) out
          (attributes_out outside)))
          ∙ ap (λ b. flat_map (λ f. entry_pairs f.0 f.1 p) (map (entry_kept paths) (cond b (e ∷ rest) rest)))
          (sym (ap₂ (λ a b. a || b) outside (ap (λ n. is_above paths e.0 && is_directory_node (Some n)) is
          ∙ and_false (is_above paths e.0))))

      by_within : (b : Bool) → is_within paths e.0 ≡ b
          → filter (is_part paths) (entry_pairs e.0 e.1 p) ++ flat_map (λ f. entry_pairs f.0 f.1 p)
          (map (entry_kept paths) rest)
          ≡ flat_map (λ f. entry_pairs f.0 f.1 p)
          (map (entry_kept paths) (cond (is_kept paths e) (e ∷ rest) rest))
      by_within true within =
          ap (λ front. front ++ flat_map (λ f. entry_pairs f.0 f.1 p) (map (entry_kept paths) rest)) (all_within within)
          ∙ ap (λ b. entry_pairs e.0 (cond b e.1 bare_directory) p
          ++ flat_map (λ f. entry_pairs f.0 f.1 p) (map (entry_kept paths) rest)) (sym within)
          ∙ ap (λ b. flat_map (λ f. entry_pairs f.0 f.1 p)
          (map (entry_kept paths) (cond b (e ∷ rest) rest)))
          (sym (ap (λ b. b || (is_above paths e.0 && is_directory_node (Some e.1.node))) within))
      by_within false outside = by_node e.1.node e.1.attributes refl refl outside

-- ---- the pairs of the parts

module _ (paths : List Path) (valid : AllByRecursion (λ q. IsTrue (is_path q)) paths) (t : Tree) (p : Parameters) where
  pairs_kept : (es : Tree) → AllByRecursion (IsEntry t) es
      → filter (is_part paths) (pairs es p) ≡ pairs (map (entry_kept paths) (filter (is_kept paths) es)) p
  unfolding pairs
  pairs_kept [] h = refl
  pairs_kept (e ∷ es) h =
      filter-append (is_part paths) (entry_pairs e.0 e.1 p) (flat_map (λ f. entry_pairs f.0 f.1 p) es)
      ∙ ap (λ rest. filter (is_part paths) (entry_pairs e.0 e.1 p) ++ rest) (pairs_kept es h.1)
      ∙ kept_of paths valid t p e h.0 (filter (is_kept paths) es)

  pub pairs-parts_at : IsTree t → pairs (parts_at t paths) p ≡ filter (is_part paths) (pairs t p)
  unfolding parts_at
  pairs-parts_at h = sym (pairs_kept t h.entries)
