-- Lemmas on lists of pairs as functions of place and block: which list has the blocks of a tree, and what changes them.
use Rattle.std.proofs.Common.{◌≡◌, ℕ, zero, suc, ◌+◌, ◌-◌, ◌*◌, ◌<◌, ◌≤◌, List, [], ◌∷◌, ◌++◌, map, length, Bool, true}
use Rattle.std.proofs.Common.{false, cond, ◌&&◌, ◌⊎◌, inl, inr, IsTrue, T, Option, Some, None, refl, sym, ap, ap₂}
use Rattle.std.proofs.Common.{subst, ◌∙◌, arith, Ordering, Less, Equal, Greater, nat_cmp, nat_lt, min, ltb-true}
use Rattle.std.proofs.Common.{ltb-false}
use Rattle.std.specs.List.Sorted.{IsStrictlySortedBy}
use Rattle.std.proofs.lemmas.List.{length-take, length-drop}
use Rattle.std.specs.Ordering.{is_eq, eq_by_cmp, ordering_then}
use Rattle.std.specs.Option.{option_map, option_or}
use Rattle.std.specs.Cmp.Lexicographic.{nat_list_cmp_total}
use Rattle.std.specs.List.{AllByRecursion, enumerate_from}
use Rattle.std.specs.FinMap.{find, slice_cmp-IsAntisymmetric, nat_cmp-IsAntisymmetric}
use Rattle.std.specs.FinMap.Entries.{same_entries}
use Rattle.std.proofs.lemmas.Bool.{both_ways}
use Rattle.store_model.specs.Lists.{runs, run_at, run_count, numbers_from}
use Rattle.store_model.specs.Parameters.{Parameters}
use Rattle.store_model.specs.Paths.{Path, Name, is_path, is_place, attribute_mark, attribute_place, name_cmp, path_cmp}
use Rattle.store_model.specs.Paths.{same_path, key, key_cmp}
use Rattle.store_model.specs.Pairs.{Pair, file_block, directory_value, file_value, inline_value, attribute_value}
use Rattle.store_model.specs.Pairs.{is_inline, file_pairs, node_pairs, attribute_pairs, entry_pairs, pairs}
use Rattle.store_model.specs.Trees.{Tree, Node, Attributes, IsNode, IsAttribute, IsEntry, IsTree, node_of}
use Rattle.store_model.specs.Trees.{attributes_of, attributes_at, file_limit}
use Rattle.store_model.specs.Trees.Node.{Directory, File}
use Rattle.store_model.proofs.ListsLemmas.{all_weaker, all_flat_map, nat_cmp-eq, rising_from_is_sorted, rising_head}
use Rattle.store_model.proofs.ListsLemmas.{rising_tail}
use Rattle.store_model.proofs.PathsLemmas.{place_of_path, place_of_attribute, order_of_keys}
use Rattle.store_model.proofs.PathsLemmasPlaces.{order_of_attributes}
use Rattle.store_model.proofs.PairsLemmas.{IsOfNode, IsOfAttribute, IsOfPath, node_pairs_of_node}
use Rattle.store_model.proofs.PairsLemmas.{attribute_pairs_of_attributes, pairs_of_entry, is_sorted-pairs}
use Rattle.store_model.proofs.TreesLemmasPaths.{same_from_test, same_path-itself, tie_from_test}
use Rattle.tree_pairs.specs.Blocks.{BlockMap, run_value, IsBlockPair, HasBlocks}
use Rattle.tree_pairs.proofs.TreeBlocks.{file_block_value, block_value, attribute_block, tree_blocks}
use Rattle.tree_pairs.proofs.PlaceLemmas.{IsAttributePlace, IsPlain, form_of, attribute_apart, attributes_apart}
use Rattle.tree_pairs.proofs.PlaceLemmas.{no_attributes, or_none, plain_blocks, attribute_blocks}

-- ---- keys that tie

-- whether two compared by one thing and then by another tie
tie_of_both : (a b : Ordering) → is_eq (ordering_then a b) ≡ (is_eq a && is_eq b)
tie_of_both Less b = refl
tie_of_both Equal b = refl
tie_of_both Greater b = refl

-- keys tie where place and block do
pub tie_of_keys : (x y : Path) (i j : ℕ) → IsTrue (is_place x) → IsTrue (is_place y) → i < 4294967296 → j < 4294967296
    → eq_by_cmp key_cmp (key x i) (key y j) ≡ (same_path x y && eq_by_cmp nat_cmp i j)
tie_of_keys x y i j hx hy hi hj = ap is_eq (order_of_keys x y i j hx hy hi hj)
    ∙ tie_of_both (path_cmp x y) (nat_cmp i j)

-- keys of other places are others
pub no_tie_of_places : (x y : Path) (i j : ℕ) → IsTrue (is_place x) → IsTrue (is_place y) → i < 4294967296
    → j < 4294967296 → same_path x y ≡ false
    → eq_by_cmp key_cmp (key x i) (key y j) ≡ false
no_tie_of_places x y i j hx hy hi hj e = tie_of_keys x y i j hx hy hi hj ∙ ap (λ b. b && eq_by_cmp nat_cmp i j) e

-- at one place the blocks decide
pub tie_of_blocks : (x : Path) (i j : ℕ) → IsTrue (is_place x) → i < 4294967296 → j < 4294967296
    → eq_by_cmp key_cmp (key x i) (key x j) ≡ eq_by_cmp nat_cmp i j
tie_of_blocks x i j h hi hj = tie_of_keys x x i j h h hi hj ∙ ap (λ b. b && eq_by_cmp nat_cmp i j) (same_path-itself x)

-- numbers that tie are the same
pub same_numbers : (i j : ℕ) → eq_by_cmp nat_cmp i j ≡ true → i ≡ j
same_numbers i j e = nat_cmp-IsAntisymmetric i j (tie_from_test (nat_cmp i j) e)

-- numbers that differ do not tie
pub other_numbers : (i j : ℕ) → (i ≡ j → ⊥) → eq_by_cmp nat_cmp i j ≡ false
other_numbers i j ne = (elim (eq_by_cmp nat_cmp i j) as (λ b. eq_by_cmp nat_cmp i j ≡ b → b ≡ false) [
  | true ↦ λ e. absurd (ne (same_numbers i j e))
  | false ↦ λ e. refl
]) refl

-- a number ties with itself
pub tied_number : (i : ℕ) → eq_by_cmp nat_cmp i i ≡ true
tied_number i = ap is_eq (nat_cmp-eq i)

-- ---- what is found in lists one behind the other

pub find-append : (q : List ℕ) (xs ys : List Pair)
    → find key_cmp q (xs ++ ys) ≡ option_or (find key_cmp q xs) (find key_cmp q ys)
find-append q [] ys = refl
find-append q (e ∷ xs) ys = picked (eq_by_cmp key_cmp q e.0) (find-append q xs ys)
  where
    picked : (b : Bool) → find key_cmp q (xs ++ ys) ≡ option_or (find key_cmp q xs) (find key_cmp q ys)
        → cond b (Some e.1) (find key_cmp q (xs ++ ys))
        ≡ option_or (cond b (Some e.1) (find key_cmp q xs)) (find key_cmp q ys)
    picked true rest = refl
    picked false rest = rest

-- what ties with no key is not found
pub find_missing : (q : List ℕ) (xs : List Pair) → AllByRecursion (λ pair. eq_by_cmp key_cmp q pair.0 ≡ false) xs
    → find key_cmp q xs ≡ None
find_missing q [] h = refl
find_missing q (e ∷ xs) h = ap (λ b. cond b (Some e.1) (find key_cmp q xs)) h.0 ∙ find_missing q xs h.1

-- ---- the pairs of what stands at a path

-- a run that has bytes is a value
pub run_value-some : (run : List ℕ) → 1 ≤ length run → run_value run ≡ Some run
run_value-some [] h = absurd (omega arith)
run_value-some (c ∷ run) h = refl

-- a run without bytes is none
pub run_value-none : (run : List ℕ) → length run ≡ 0 → run_value run ≡ None
run_value-none [] h = refl
run_value-none (c ∷ run) h = absurd (omega arith)

-- a run has bytes where it begins before the end
pub length-run_at : (n : ℕ) (xs : List ℕ) (i : ℕ) → length (run_at n xs i) ≡ min n (length xs - n * i)
length-run_at n xs i = simp (length-take, length-drop) refl

-- the pair of a run
abbrev run_pair : Path → ℕ × List ℕ → Pair
run_pair x b = (key x b.0, b.1)

-- the pairs of count runs of a file from the first on, numbered from there
abbrev run_pairs : Path → List ℕ → ℕ → ℕ → ℕ → List Pair
run_pairs x bytes number first count =
    map (run_pair x) (enumerate_from number (map (run_at file_block bytes) (numbers_from first count)))

-- a run is found by its number
find_run : (x : Path) (bytes : List ℕ) (i number first count : ℕ) → IsTrue (is_place x) → number ≡ suc first
    → first + count < 4294967295 → first ≤ i → i < first + count
    → find key_cmp (key x (suc i)) (run_pairs x bytes number first count) ≡ Some (run_at file_block bytes i)
unfolding numbers_from
find_run x bytes i number first zero h e few l g = absurd (omega arith)
find_run x bytes i number first (suc count) h e few l g =
    let rest = run_pairs x bytes (number + 1) (suc first) count in
    (elim (eq_by_cmp nat_cmp (suc i) number) as (λ b. eq_by_cmp nat_cmp (suc i) number ≡ b
    → find key_cmp (key x (suc i)) (run_pairs x bytes number first (suc count)) ≡ Some (run_at file_block bytes i)) [
      | true ↦ λ t.
          let same : suc i ≡ number = same_numbers (suc i) number t in
          let is : first ≡ i = omega arith in
          ap (λ b. cond b (Some (run_at file_block bytes first)) (find key_cmp (key x (suc i)) rest))
          (tie_of_blocks x (suc i) number h (omega arith) (omega arith) ∙ t)
          ∙ ap (λ k. Some (run_at file_block bytes k)) is
      | false ↦ λ t.
          let ne : i ≡ first → ⊥ = λ is. both_ways _ t
          (ap (eq_by_cmp nat_cmp (suc i)) (e ∙ ap suc (sym is)) ∙ tied_number (suc i)) in
          let later : suc first ≤ i = omega arith in
          ap (λ b. cond b (Some (run_at file_block bytes first)) (find key_cmp (key x (suc i)) rest))
          (tie_of_blocks x (suc i) number h (omega arith) (omega arith) ∙ t)
          ∙ find_run x bytes i (number + 1) (suc first) count h (omega arith) (omega arith) later (omega arith)
    ]) refl

-- a number behind them all is not
find_no_run : (x : Path) (bytes : List ℕ) (i number first count : ℕ) → IsTrue (is_place x) → number ≡ suc first
    → first + count < 4294967295 → i < 4294967295 → first + count ≤ i
    → find key_cmp (key x (suc i)) (run_pairs x bytes number first count) ≡ None
unfolding numbers_from
find_no_run x bytes i number first zero h e few hi l = refl
find_no_run x bytes i number first (suc count) h e few hi l =
    ap (λ b. cond b (Some (run_at file_block bytes first))
    (find key_cmp (key x (suc i)) (run_pairs x bytes (number + 1) (suc first) count)))
    (tie_of_blocks x (suc i) number h (omega arith) (omega arith)
    ∙ other_numbers (suc i) number (λ is. absurd (omega arith)))
    ∙ find_no_run x bytes i (number + 1) (suc first) count h (omega arith) (omega arith) hi (omega arith)

-- nor is block 0 among them
find_no_first : (x : Path) (bytes : List ℕ) (number first count : ℕ) → IsTrue (is_place x) → number ≡ suc first
    → first + count < 4294967295
    → find key_cmp (key x 0) (run_pairs x bytes number first count) ≡ None
unfolding numbers_from
find_no_first x bytes number first zero h e few = refl
find_no_first x bytes number first (suc count) h e few =
    ap (λ b. cond b (Some (run_at file_block bytes first))
    (find key_cmp (key x 0) (run_pairs x bytes (number + 1) (suc first) count)))
    (tie_of_blocks x 0 number h (omega arith) (omega arith) ∙ other_numbers 0 number (λ is. absurd (omega arith)))
    ∙ find_no_first x bytes (number + 1) (suc first) count h (omega arith) (omega arith)

-- the blocks of a file, found by their numbers
find_block : (x : Path) (bytes : List ℕ) (i : ℕ) → IsTrue (is_place x) → i < 4294967295 → length bytes ≤ file_limit
    → find key_cmp (key x (suc i)) (run_pairs x bytes 1 0 (run_count file_block (length bytes)))
    ≡ run_value (run_at file_block bytes i)
find_block x bytes i h hi few =
    let long = length-run_at file_block bytes i in
    (elim (nat_lt i (run_count file_block (length bytes))) as (λ b. nat_lt i (run_count file_block (length bytes)) ≡ b
    → find key_cmp (key x (suc i)) (run_pairs x bytes 1 0 (run_count file_block (length bytes)))
    ≡ run_value (run_at file_block bytes i)) [
      | true ↦ λ t. let l = ltb-true i _ t
          in find_run x bytes i 1 0 (run_count file_block (length bytes)) h refl (omega arith) (omega arith)
          (omega arith) ∙ sym (run_value-some _ (omega arith))
      | false ↦ λ t. let l = ltb-false i _ t
          in find_no_run x bytes i 1 0 (run_count file_block (length bytes)) h refl (omega arith) hi (omega arith)
          ∙ sym (run_value-none _ (omega arith))
    ]) refl

-- ---- the pairs of what stands at a path have its blocks

-- those of a file have the blocks of the file
find-file_pairs : (inline : Bool) (x : Path) (bytes : List ℕ) (i : ℕ) → IsTrue (is_place x)
    → length bytes ≤ file_limit → i < 4294967296
    → find key_cmp (key x i) (file_pairs inline x bytes) ≡ file_block_value inline bytes i
unfolding runs
find-file_pairs true x bytes zero h few l =
    ap (λ b. cond b (Some (inline_value bytes)) None) (tie_of_blocks x 0 0 h (omega arith) (omega arith))
find-file_pairs true x bytes (suc i) h few l =
    ap (λ b. cond b (Some (inline_value bytes)) None)
    (tie_of_blocks x (suc i) 0 h l (omega arith) ∙ other_numbers (suc i) 0 (λ is. absurd (omega arith)))
find-file_pairs false x bytes zero h few l =
    ap (λ b. cond b (Some (file_value (length bytes)))
    (find key_cmp (key x 0) (run_pairs x bytes 1 0 (run_count file_block (length bytes)))))
    (tie_of_blocks x 0 0 h (omega arith) (omega arith))
find-file_pairs false x bytes (suc i) h few l =
    ap (λ b. cond b (Some (file_value (length bytes)))
    (find key_cmp (key x (suc i)) (run_pairs x bytes 1 0 (run_count file_block (length bytes)))))
    (tie_of_blocks x (suc i) 0 h l (omega arith) ∙ other_numbers (suc i) 0 (λ is. absurd (omega arith)))
    ∙ find_block x bytes i h (omega arith) few

pub find-node_pairs : (x : Path) (node : Node) (p : Parameters) (i : ℕ) → IsTrue (is_place x)
    → IsNode node → i < 4294967296
    → find key_cmp (key x i) (node_pairs x node p) ≡ block_value (Some node) p.version i
unfolding node_pairs
find-node_pairs x Directory p zero h g l =
    ap (λ b. cond b (Some directory_value) None) (tie_of_blocks x 0 0 h (omega arith) (omega arith))
find-node_pairs x Directory p (suc i) h g l =
    ap (λ b. cond b (Some directory_value) None)
    (tie_of_blocks x (suc i) 0 h l (omega arith) ∙ other_numbers (suc i) 0 (λ is. absurd (omega arith)))
find-node_pairs x (File bytes) p i h g l = find-file_pairs (is_inline p.version (length bytes)) x bytes i h g.0 l

-- at another place nothing of it is found
pub find-other_pairs : (x y : Path) (node : Node) (p : Parameters) (i : ℕ) → IsTrue (is_place x) → IsTrue (is_path y)
    → IsNode node → i < 4294967296 → same_path x y ≡ false
    → find key_cmp (key x i) (node_pairs y node p) ≡ None
find-other_pairs x y node p i hx hy g l e =
    find_missing (key x i) (node_pairs y node p)
    (all_weaker (IsOfNode y) _ (λ pair of. ap (eq_by_cmp key_cmp (key x i)) of.2
    ∙ no_tie_of_places x y i of.0 hx (place_of_path y hy) l of.1 e) (node_pairs y node p)
    (node_pairs_of_node y node p g))

-- ---- the pairs of attributes

-- at another place none of them is found
find-other_attributes : (x q : Path) (attributes : Attributes) (i : ℕ) → IsTrue (is_place x) → IsTrue (is_path q)
    → AllByRecursion (IsAttribute q) attributes → i < 4294967296
    → ((a : Name) → same_path x (attribute_place q a) ≡ false)
    → find key_cmp (key x i) (attribute_pairs q attributes) ≡ None
find-other_attributes x q attributes i hx hq each l other =
    find_missing (key x i) (attribute_pairs q attributes)
    (all_weaker (IsOfAttribute q) _ (λ pair of. ap (eq_by_cmp key_cmp (key x i)) of.2
    ∙ no_tie_of_places x (attribute_place q of.0) i 0 hx of.1 l (omega arith) (other of.0))
    (attribute_pairs q attributes) (attribute_pairs_of_attributes q attributes hq each))

-- at its own place an attribute is found by its name
find-own_attribute : (q : Path) (a : Name) (attributes : Attributes) (i : ℕ) → IsTrue (is_place (attribute_place q a))
    → IsTrue (is_path q) → AllByRecursion (IsAttribute q) attributes → i < 4294967296
    → find key_cmp (key (attribute_place q a) i) (attribute_pairs q attributes)
    ≡ attribute_block attributes (attribute_mark ∷ a) i
unfolding attribute_pairs
find-own_attribute q a [] i place h each l = sym (no_attributes (attribute_mark ∷ a) i)
find-own_attribute q a (b ∷ attributes) zero place h each l =
    let there = place_of_attribute q b.0 h (each.0).name (each.0).fits in
    let tie = tie_of_keys (attribute_place q a) (attribute_place q b.0) 0 0 place there (omega arith) (omega arith)
    ∙ ap₂ (λ o c. is_eq o && c) (order_of_attributes q a b.0) (tied_number 0) in
    ap (λ c. cond c (Some (attribute_value b.1))
    (find key_cmp (key (attribute_place q a) 0) (attribute_pairs q attributes))) tie
    ∙ picked (eq_by_cmp name_cmp a b.0) (find-own_attribute q a attributes zero place h each.1 l)
  where
    picked : (c : Bool) → find key_cmp (key (attribute_place q a) 0) (attribute_pairs q attributes)
        ≡ option_map attribute_value (find name_cmp a attributes)
        → cond (c && true) (Some (attribute_value b.1))
        (find key_cmp (key (attribute_place q a) 0) (attribute_pairs q attributes))
        ≡ option_map attribute_value (cond c (Some b.1) (find name_cmp a attributes))
    picked true rest = refl
    picked false rest = rest
find-own_attribute q a (b ∷ attributes) (suc i) place h each l =
    let there = place_of_attribute q b.0 h (each.0).name (each.0).fits in
    let tie = tie_of_keys (attribute_place q a) (attribute_place q b.0) (suc i) 0 place there l (omega arith)
    ∙ ap (λ c. same_path (attribute_place q a) (attribute_place q b.0) && c)
    (other_numbers (suc i) 0 (λ is. absurd (omega arith))) in
    ap (λ c. cond c (Some (attribute_value b.1))
    (find key_cmp (key (attribute_place q a) (suc i)) (attribute_pairs q attributes)))
    (tie ∙ and_none (same_path (attribute_place q a) (attribute_place q b.0)))
    ∙ find-own_attribute q a attributes (suc i) place h each.1 l
  where
    and_none : (c : Bool) → (c && false) ≡ false
    and_none true = refl
    and_none false = refl

-- ---- the pairs of a tree have its blocks

-- a path that stands before all entries is not found
not_found_before : (x : Path) (t : Tree) → AllByRecursion (λ e. path_cmp x e.0 ≡ Less) t → find path_cmp x t ≡ None
not_found_before x [] h = refl
not_found_before x (e ∷ t) h = ap (λ o. cond (is_eq o) (Some e.1) (find path_cmp x t)) h.0 ∙ not_found_before x t h.1

-- at a plain place what stands there is found
find-plain : (x : Path) (i : ℕ) (t u : Tree) (p : Parameters) → IsPlain x → IsTrue (is_place x) → i < 4294967296
    → AllByRecursion (IsEntry u) t → IsStrictlySortedBy (λ a b. path_cmp a.0 b.0) t
    → find key_cmp (key x i) (pairs t p) ≡ block_value (node_of (find path_cmp x t)) p.version i
unfolding pairs
find-plain x i [] u p plain h l es rise = refl
find-plain x i (e ∷ t) u p plain h l es rise =
    let first = es.0 in
    let rest = find-plain x i t u p plain h l es.1 (rising_tail _ e t rise) in
    let bare = find-other_attributes x e.0 e.1.attributes i h first.path first.attributes.each l (plain.other e.0) in
    let entry : find key_cmp (key x i) (entry_pairs e.0 e.1 p) ≡ find key_cmp (key x i) (node_pairs e.0 e.1.node p) =
    find-append (key x i) (node_pairs e.0 e.1.node p) (attribute_pairs e.0 e.1.attributes)
    ∙ ap (option_or (find key_cmp (key x i) (node_pairs e.0 e.1.node p))) bare ∙ or_none _ in
    find-append (key x i) (entry_pairs e.0 e.1 p) (pairs t p)
    ∙ ap (λ o. option_or o (find key_cmp (key x i) (pairs t p))) entry
    ∙ (elim (same_path x e.0) as (λ b. same_path x e.0 ≡ b
    → option_or (find key_cmp (key x i) (node_pairs e.0 e.1.node p)) (find key_cmp (key x i) (pairs t p))
    ≡ block_value (node_of (cond b (Some e.1) (find path_cmp x t))) p.version i) [
      | true ↦ λ s.
          let same : x ≡ e.0 = same_from_test x e.0 s in
          let here : find key_cmp (key x i) (node_pairs e.0 e.1.node p) ≡ block_value (Some e.1.node) p.version i =
          ap (λ y. find key_cmp (key y i) (node_pairs e.0 e.1.node p)) same
          ∙ find-node_pairs e.0 e.1.node p i (place_of_path e.0 first.path) first.node l in
          let none : find key_cmp (key x i) (pairs t p) ≡ None =
          rest ∙ ap (λ o. block_value (node_of o) p.version i)
          (not_found_before x t (subst (λ (y : Path). AllByRecursion (λ f. path_cmp y f.0 ≡ Less) t) (sym same)
          (rising_head _ e t rise))) in
          ap₂ option_or here none ∙ or_none (block_value (Some e.1.node) p.version i)
      | false ↦ λ s. ap (λ o. option_or o (find key_cmp (key x i) (pairs t p)))
          (find-other_pairs x e.0 e.1.node p i h first.path first.node l s) ∙ rest
    ]) refl

-- at an attribute's place the attribute is
find-attribute : (q : Path) (a : Name) (i : ℕ) (t u : Tree) (p : Parameters) → IsTrue (is_place (attribute_place q a))
    → i < 4294967296 → AllByRecursion (IsEntry u) t → IsStrictlySortedBy (λ a b. path_cmp a.0 b.0) t
    → find key_cmp (key (attribute_place q a) i) (pairs t p)
    ≡ attribute_block (attributes_at t q) (attribute_mark ∷ a) i
unfolding pairs
find-attribute q a i [] u p h l es rise = sym (no_attributes (attribute_mark ∷ a) i)
find-attribute q a i (e ∷ t) u p h l es rise =
    let first = es.0 in
    let k = key (attribute_place q a) i in
    let rest = find-attribute q a i t u p h l es.1 (rising_tail _ e t rise) in
    let node = find-other_pairs (attribute_place q a) e.0 e.1.node p i h first.path first.node l
    (attribute_apart q a e.0 first.path) in
    let entry : find key_cmp k (entry_pairs e.0 e.1 p) ≡ find key_cmp k (attribute_pairs e.0 e.1.attributes) =
    find-append k (node_pairs e.0 e.1.node p) (attribute_pairs e.0 e.1.attributes)
    ∙ ap (λ o. option_or o (find key_cmp k (attribute_pairs e.0 e.1.attributes))) node in
    find-append k (entry_pairs e.0 e.1 p) (pairs t p) ∙ ap (λ o. option_or o (find key_cmp k (pairs t p))) entry
    ∙ (elim (same_path q e.0) as (λ b. same_path q e.0 ≡ b
    → option_or (find key_cmp k (attribute_pairs e.0 e.1.attributes)) (find key_cmp k (pairs t p))
    ≡ attribute_block (attributes_of (cond b (Some e.1) (find path_cmp q t))) (attribute_mark ∷ a) i) [
      | true ↦ λ s.
          let same : q ≡ e.0 = same_from_test q e.0 s in
          let here : find key_cmp k (attribute_pairs e.0 e.1.attributes)
          ≡ attribute_block e.1.attributes (attribute_mark ∷ a) i =
          ap (λ y. find key_cmp (key (attribute_place y a) i) (attribute_pairs e.0 e.1.attributes)) same
          ∙ find-own_attribute e.0 a e.1.attributes i
          (subst (λ (y : Path). IsTrue (is_place (attribute_place y a))) same h) first.path first.attributes.each l
          in
          let none : find key_cmp k (pairs t p) ≡ None =
          rest ∙ ap (λ o. attribute_block (attributes_of o) (attribute_mark ∷ a) i)
          (not_found_before q t (subst (λ (y : Path). AllByRecursion (λ f. path_cmp y f.0 ≡ Less) t) (sym same)
          (rising_head _ e t rise))) ∙ no_attributes (attribute_mark ∷ a) i in
          ap₂ option_or here none ∙ or_none (attribute_block e.1.attributes (attribute_mark ∷ a) i)
      | false ↦ λ s.
          ap (λ o. option_or o (find key_cmp k (pairs t p)))
          (find-other_attributes (attribute_place q a) e.0 e.1.attributes i h first.path first.attributes.each l
          (λ b. attributes_apart q e.0 a b s)) ∙ rest
    ]) refl

-- each pair is of a block
block_pair_of_path : (y : Path) (pair : Pair) → IsTrue (is_path y) → IsOfPath y pair → IsBlockPair pair
block_pair_of_path y pair h (inl of) = record {
  path = y;
  block = of.0;
  valid = place_of_path y h;
  in_range = of.1;
  key_is = of.2;
}
block_pair_of_path y pair h (inr of) = record {
  path = attribute_place y of.0;
  block = 0;
  valid = of.1;
  in_range = omega arith;
  key_is = of.2;
}

block_pairs_of_tree : (t u : Tree) (p : Parameters) → AllByRecursion (IsEntry u) t
    → AllByRecursion IsBlockPair (pairs t p)
unfolding pairs
block_pairs_of_tree t u p h =
    all_flat_map (IsEntry u) IsBlockPair (λ e. entry_pairs e.0 e.1 p)
    (λ e g. all_weaker (IsOfPath e.0) IsBlockPair (λ pair of. block_pair_of_path e.0 pair g.path of)
    (entry_pairs e.0 e.1 p) (pairs_of_entry u e p g)) t h

-- the pairs of a tree have its blocks
pub pairs_have_blocks : (t : Tree) (p : Parameters) → IsTree t → HasBlocks (tree_blocks t p) (pairs t p)
pairs_have_blocks t p h = record {
  sorted = is_sorted-pairs t p h;
  each = λ x i place l. by_form x i place l (form_of x);
  only = block_pairs_of_tree t t p h.entries;
}
  where
    by_form : (x : Path) (i : ℕ) → IsTrue (is_place x) → i < 4294967296 → IsAttributePlace x ⊎ IsPlain x
        → find key_cmp (key x i) (pairs t p) ≡ tree_blocks t p x i
    by_form x i place l (inl at) =
        ap (λ y. find key_cmp (key y i) (pairs t p)) at.place_is
        ∙ find-attribute at.path at.name i t t p (subst (λ (y : Path). IsTrue (is_place y)) at.place_is place) l
        h.entries (rising_from_is_sorted path_cmp t h.sorted)
        ∙ sym (attribute_blocks t p.version at.path at.name i h) ∙ ap (λ y. tree_blocks t p y i) (sym at.place_is)
    by_form x i place l (inr plain) =
        find-plain x i t t p plain place l h.entries (rising_from_is_sorted path_cmp t h.sorted)
        ∙ sym (plain_blocks t p.version x i plain)

-- ---- lists with the same blocks are the same

-- what is found has a key that ties
found_key : (P : Pair → Type 0) (q v : List ℕ) (s : List Pair) → find key_cmp q s ≡ Some v → AllByRecursion P s
    → (pair : Pair) × P pair × (q ≡ pair.0)
found_key P q v [] e h = cc
found_key P q v (f ∷ s) e h =
    (elim (eq_by_cmp key_cmp q f.0) as (λ b. eq_by_cmp key_cmp q f.0 ≡ b → cond b (Some f.1) (find key_cmp q s) ≡ Some v
    → (pair : Pair) × P pair × (q ≡ pair.0)) [
      | true ↦ λ t e. (
        f,
        h.0,
        slice_cmp-IsAntisymmetric nat_cmp-IsAntisymmetric q
            f.0 (tie_from_test (key_cmp q f.0) t),
      )
      | false ↦ λ t e. found_key P q v s e h.1
    ]) refl e

-- a list has no more than its blocks
found_is_block : (blocks : BlockMap) (q v : List ℕ) (s r : List Pair) → HasBlocks blocks s → HasBlocks blocks r
    → find key_cmp q s ≡ Some v → find key_cmp q s ≡ find key_cmp q r
found_is_block blocks q v s r h g e =
    let found = found_key IsBlockPair q v s e h.only in
    let of = found.1 in
    let is : q ≡ key of.path of.block = found.2 ∙ of.key_is in
    ap (λ k. find key_cmp k s) is ∙ h.each of.path of.block of.valid of.in_range
    ∙ sym (g.each of.path of.block of.valid of.in_range) ∙ ap (λ k. find key_cmp k r) (sym is)

pub same_blocks : (blocks : BlockMap) (s r : List Pair) → HasBlocks blocks s → HasBlocks blocks r → s ≡ r
same_blocks blocks s r h g =
    same_entries key_cmp nat_list_cmp_total (slice_cmp-IsAntisymmetric nat_cmp-IsAntisymmetric) s r
    (subst T (sym h.sorted) tt) (subst T (sym g.sorted) tt)
    (λ q. by_found q (find key_cmp q s) (find key_cmp q r) refl refl)
  where
    by_found : (q : List ℕ) (a b : Option (List ℕ)) → find key_cmp q s ≡ a → find key_cmp q r ≡ b
        → find key_cmp q s ≡ find key_cmp q r
    by_found q None None e f = e ∙ sym f
    by_found q (Some v) b e f = found_is_block blocks q v s r h g e
    by_found q None (Some v) e f = sym (found_is_block blocks q v r s g h f)

-- blocks may be said in other words
pub blocks_alike : (f g : BlockMap) (s : List Pair) → ((x : Path) (i : ℕ) → f x i ≡ g x i)
    → HasBlocks f s → HasBlocks g s
blocks_alike f g s alike h = record {
  sorted = h.sorted;
  each = λ x i path l. h.each x i path l ∙ alike x i;
  only = h.only;
}

-- so a list with the blocks of a tree is its list of pairs
pub pairs_from_blocks : (t : Tree) (p : Parameters) (s : List Pair) → IsTree t
    → HasBlocks (tree_blocks t p) s → s ≡ pairs t p
pairs_from_blocks t p s h g = same_blocks (tree_blocks t p) s (pairs t p) g (pairs_have_blocks t p h)
