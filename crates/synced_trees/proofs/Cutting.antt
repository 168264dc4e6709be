-- What is taken away and cut of a tree, by the marks of its differences from another.
use Rattle.std.proofs.Common.{◌≡◌, ℕ, zero, suc, ◌≤◌, ◌<◌, List, [], ◌∷◌, ◌++◌, drop, length, Bool, true, false, not}
use Rattle.std.proofs.Common.{◌&&◌, ◌||◌, ◌⊎◌, inl, inr, cond, IsTrue, Option, Some, None, is_some, nat_lt, refl, sym}
use Rattle.std.proofs.Common.{ap}
use Rattle.std.proofs.Common.{subst, ◌∙◌, arith, append_assoc, Less, Equal, ltb-true}
use Rattle.std.specs.List.{list_any, flat_map, AllByRecursion}
use Rattle.std.specs.List.Sorted.{IsStrictlySortedBy}
use Rattle.std.specs.Cmp.{tied_itself}
use Rattle.std.specs.FinMap.{find, is_sorted}
use Rattle.std.proofs.lemmas.Bool.{false≢true, and_parts, or_cases, le-ltb, and_from}
use Rattle.std.proofs.lemmas.List.{length-append}
use Rattle.store_model.specs.Paths.{Path, Name, is_root, path_cmp, name_cmp, same_path, parent, is_inside}
use Rattle.store_model.specs.Paths.{is_at_or_inside}
use Rattle.store_model.specs.Trees.{Tree, Node, Entry, IsTree, node_of, attributes_of, node_at, attribute_at}
use Rattle.store_model.specs.Trees.{is_directory, is_file, exists}
use Rattle.store_model.specs.Trees.{is_directory_node, is_file_node, attributes_at, contents, without_subtree}
use Rattle.store_model.specs.Trees.Node.{Directory, File}
use Rattle.store_model.specs.Commands.{Command, IsCommand}
use Rattle.store_model.specs.Commands.Command.{Cut, Prune}
use Rattle.store_model.specs.Steps.{conditions, refusal_of, next_tree}
use Rattle.store_model.proofs.ListsLemmas.{all_weaker, rising_head, rising_tail, rising_from_is_sorted}
use Rattle.store_model.proofs.TreesLemmas.{entry_at, exists_from_directory}
use Rattle.store_model.proofs.TreesLemmasPaths.{path_cmp_total, same_from_test, same_path-itself}
use Rattle.store_model.proofs.TreesLemmasPaths.{at_or_inside_from_parent}
use Rattle.store_model.proofs.TreesLemmasPaths.{same_from_tie}
use Rattle.store_model.proofs.TreesLemmasPaths.{last_step, parent-push, at_or_inside-append, at_or_inside-split}
use Rattle.store_model.proofs.TreesLemmasPaths.{root_elsewhere}
use Rattle.store_model.proofs.TreesLemmasSteps.{IsTree-next_tree}
use Rattle.store_model.proofs.TreesLemmasAttributes.{node_at-with_node, attributes_at-with_node}
use Rattle.store_model.proofs.TreesLemmasAttributes.{node_at-without_subtree, attributes_at-without_subtree}
use Rattle.dump_diff.specs.declared.difference.Mark.{Mark}
use Rattle.dump_diff.specs.declared.difference.Mark.TheVariants.{Removed, Added, Kind, Bytes, Attributes}
use Rattle.dump_diff.specs.Scripts.{is_pruned, cut_of}
use Rattle.synced_trees.specs.Leading.{AreAllowed, led_by}
use Rattle.synced_trees.proofs.Laying.{none_refuses}
use Rattle.synced_trees.proofs.Leads.{allowed_append, led_append, found_all, piled, all_piled, none_with}
use Rattle.synced_trees.proofs.Leads.{any_weaker, find_any}

-- ---- a path below another

-- the parent of what lies below a path lies at it or below it
pub parent_inside : (x q : Path) → is_inside x q ≡ true → is_at_or_inside (parent x) q ≡ true
unfolding is_inside
parent_inside x q h =
    let longer : length q < length x = ltb-true (length q) (length x) (and_parts (nat_lt (length q) (length x)) _ h).0
    in
    let split : x ≡ q ++ drop (length q) x = at_or_inside-split x q (or_second (same_path x q) _ h) in
    by_rest (drop (length q) x) split longer
  where
    or_second : (a b : Bool) → b ≡ true → (a || b) ≡ true
    or_second true b e = refl
    or_second false b e = e

    by_rest : (rest : Path) → x ≡ q ++ rest → length q < length x → is_at_or_inside (parent x) q ≡ true
    by_rest [] split longer =
        absurd (omega (arith, ap length split, length-append q []))
    by_rest (n ∷ s) split longer =
        let last = last_step (n ∷ s) refl in
        let whole : x ≡ (q ++ parent (n ∷ s)) ++ last.0 ∷ [] =
        split ∙ ap (λ (back : Path). q ++ back) last.1 ∙ sym (append_assoc q (parent (n ∷ s)) (last.0 ∷ [])) in
        ap (λ (y : Path). is_at_or_inside y q) (ap parent whole ∙ parent-push (q ++ parent (n ∷ s)) last.0)
        ∙ at_or_inside-append q (parent (n ∷ s))

-- what lies at a path or below it lies so of each above that
at_or_inside_through : (x y q : Path) → is_at_or_inside x y ≡ true → is_at_or_inside y q ≡ true
    → is_at_or_inside x q ≡ true
at_or_inside_through x y q h g =
    ap (λ (z : Path). is_at_or_inside z q) (at_or_inside-split x y h
    ∙ ap (λ (front : Path). front ++ drop (length y) x) (at_or_inside-split y q g)
    ∙ append_assoc q (drop (length q) y) (drop (length y) x))
    ∙ at_or_inside-append q (drop (length q) y ++ drop (length y) x)

-- a path is not before itself
never_before_itself : (p q : Path) → path_cmp q p ≡ Less → same_path p q ≡ true → ⊥
never_before_itself p q less same =
    let tied : path_cmp q p ≡ Equal = ap (path_cmp q) (same_from_test p q same) ∙ tied_itself path_cmp_total q in
    cc

-- ---- what may be taken away and cut

-- The paths that are pruned stand in the tree, with all that stands below them, and those that are cut are files.
pub record MayCut (a : Tree) (marks : List (Path × Mark)) : Type 0 where
  pub is_tree : IsTree a
  pub rising : IsTrue (is_sorted path_cmp marks)
  pub below_root : (x : Path) → is_pruned (find path_cmp x marks) ≡ true → is_root x ≡ false
  pub there : (x : Path) → is_pruned (find path_cmp x marks) ≡ true → exists a x ≡ true
  pub below : (x y : Path) → is_pruned (find path_cmp x marks) ≡ true → is_inside y x ≡ true → exists a y ≡ true
      → is_pruned (find path_cmp y marks) ≡ true
  pub file : (x : Path) → find path_cmp x marks ≡ Some Bytes → is_file a x ≡ true
  pub valid : (x : Path) (m : Mark) → find path_cmp x marks ≡ Some m → IsCommand (Prune x)

abbrev is_bytes : Mark → Bool
is_bytes Bytes = true
is_bytes Removed = false
is_bytes Added = false
is_bytes Kind = false
is_bytes Attributes = false

-- what stands at a path behind that, and an attribute
abbrev pub cut_node : Option Mark → Option Node → Option Node
cut_node None n = n
cut_node (Some Removed) n = None
cut_node (Some Kind) n = None
cut_node (Some Bytes) n = Some (File [])
cut_node (Some Added) n = n
cut_node (Some Attributes) n = n

file_exists : (o : Option Node) → is_file_node o ≡ true → (is_some o ≡ true) × (is_directory_node o ≡ false)
file_exists None h = cc
file_exists (Some Directory) h = cc
file_exists (Some (File bytes)) h = (refl, refl)

cond_twice : {X : Type 0} (b s : Bool) (y : Option X) → cond b None (cond s None y) ≡ cond (b || s) None y
cond_twice true s y = refl
cond_twice false s y = refl

module _ (a : Tree) (marks : List (Path × Mark)) where
  -- whether a path is pruned by a command of its own
  abbrev issued : Path × Mark → Bool
  issued e = is_pruned (Some e.1) && not (is_pruned (find path_cmp (parent e.0) marks))

  abbrev hides : Path → Path × Mark → Bool
  hides x e = issued e && is_at_or_inside x e.0

  abbrev empties : Path → Path × Mark → Bool
  empties x e = is_bytes e.1 && same_path x e.0

  -- what is left once these were carried out
  record IsCut (done : List (Path × Mark)) (r : Tree) : Type 0 where
    is_tree : IsTree r
    nodes : (x : Path) → node_at r x
        ≡ cond (list_any (hides x) done) None (cond (list_any (empties x) done) (Some (File [])) (node_at a x))
    names : (x : Path) (n : Name) → attribute_at r x n ≡ cond (list_any (hides x) done) None (attribute_at a x n)

  -- one that came before a path
  abbrev Before : Path → Path × Mark → Type 0
  Before p e = (find path_cmp e.0 marks ≡ Some e.1) × (path_cmp e.0 p ≡ Less)

  parent_there : IsTree a → (p : Path) → is_root p ≡ false → exists a p ≡ true → exists a (parent p) ≡ true
  parent_there is p below some =
      let entry = entry_at a p is below some in
      exists_from_directory (node_at a (parent p)) (entry.2).parent_directory

  -- what stands below a path that is pruned by a command is pruned, too, or its parent is
  hidden_by : (p : Path) (m : Mark) (e : Path × Mark) → MayCut a marks → find path_cmp p marks ≡ Some m
      → is_root p ≡ false → exists a p ≡ true → Before p e → hides p e ≡ true
      → (is_pruned (Some m) ≡ true) × (is_pruned (find path_cmp (parent p) marks) ≡ true)
  hidden_by p m e may found below_root some before hidden =
      let parts = and_parts (issued e) _ hidden in
      let pruned : is_pruned (find path_cmp e.0 marks) ≡ true =
      ap is_pruned before.0 ∙ (and_parts (is_pruned (Some e.1)) _ parts.0).0 in
      by_place pruned (or_cases (same_path p e.0) _ parts.1)
    where
      by_parent : is_pruned (find path_cmp e.0 marks) ≡ true
          → (same_path (parent p) e.0 ≡ true) ⊎ (is_inside (parent p) e.0 ≡ true)
          → is_pruned (find path_cmp (parent p) marks) ≡ true
      by_parent pruned (inl same) =
          ap (λ (y : Path). is_pruned (find path_cmp y marks)) (same_from_test (parent p) e.0 same) ∙ pruned
      by_parent pruned (inr inside) =
          may.below e.0 (parent p) pruned inside (parent_there may.is_tree p below_root some)

      by_place : is_pruned (find path_cmp e.0 marks) ≡ true
          → (same_path p e.0 ≡ true) ⊎ (is_inside p e.0 ≡ true)
          → (is_pruned (Some m) ≡ true) × (is_pruned (find path_cmp (parent p) marks) ≡ true)
      by_place pruned (inl same) = absurd (never_before_itself p e.0 before.1 same)
      by_place pruned (inr inside) = (
        ap is_pruned (sym found) ∙ may.below e.0 p pruned inside some,
        by_parent pruned (or_cases (same_path (parent p) e.0) _ (parent_inside p e.0 inside)),
      )

  -- so nothing hides a path that is pruned by a command, or that is not pruned
  not_hidden : (p : Path) (m : Mark) (done : List (Path × Mark)) → MayCut a marks → find path_cmp p marks ≡ Some m
      → is_root p ≡ false → exists a p ≡ true → AllByRecursion (Before p) done
      → (is_pruned (Some m) ≡ true → is_pruned (find path_cmp (parent p) marks) ≡ true → ⊥)
      → list_any (hides p) done ≡ false
  not_hidden p m done may found below_root some before clear = none_with (Before p) (hides p) done before
      (λ e is hidden. let never = hidden_by p m e may found below_root some is hidden in clear never.0 never.1)

  not_emptied : (p : Path) (done : List (Path × Mark)) → AllByRecursion (Before p) done
      → list_any (empties p) done ≡ false
  not_emptied p done before = none_with (Before p) (empties p) done before
      (λ e is full. never_before_itself p e.0 is.1 (and_parts (is_bytes e.1) _ full).1)

  -- ---- one mark more

  -- a mark by which nothing is done
  idle : (p : Path) (m : Mark) (done : List (Path × Mark)) (r : Tree) → issued (p, m) ≡ false → is_bytes m ≡ false
      → IsCut done r → IsCut ((p, m) ∷ done) r
  idle p m done r none other cut = record {
    is_tree = cut.is_tree;
    nodes = λ x. cut.nodes x
        ∙ (λ i. cond ((sym none i && is_at_or_inside x p) || list_any (hides x) done) None
        (cond ((sym other i && same_path x p) || list_any (empties x) done) (Some (File [])) (node_at a x)));
    names = λ x n. cut.names x n
        ∙ (λ i. cond ((sym none i && is_at_or_inside x p) || list_any (hides x) done) None (attribute_at a x n));
  }

  abbrev Advances : Path → Mark → Bool → List (Path × Mark) → Tree → Type 0
  Advances p m b done r = AreAllowed r (cut_of b m p) × IsCut ((p, m) ∷ done) (led_by r (cut_of b m p))

  pruning : (p : Path) (m : Mark) (done : List (Path × Mark)) (r : Tree) → MayCut a marks
      → find path_cmp p marks ≡ Some m → is_pruned (Some m) ≡ true → is_bytes m ≡ false
      → is_pruned (find path_cmp (parent p) marks) ≡ false → AllByRecursion (Before p) done → IsCut done r
      → (refusal_of r (Prune p) ≡ None) × IsCut ((p, m) ∷ done) (next_tree r (Prune p))
  unfolding conditions next_tree
  pruning p m done r may found pruned other clear before cut =
      let is : is_pruned (find path_cmp p marks) ≡ true = ap is_pruned found ∙ pruned in
      let below = may.below_root p is in
      let some = may.there p is in
      let seen = not_hidden p m done may found below some before (λ h g. false≢true (sym clear ∙ g)) in
      let full = not_emptied p done before in
      let here : exists r p ≡ true = ap is_some (cut.nodes p
      ∙ (λ i. cond (seen i) None (cond (full i) (Some (File [])) (node_at a p)))) ∙ some in
      let mine : issued (p, m) ≡ true = λ i. pruned i && not (clear i) in
      let free : refusal_of r (Prune p) ≡ None =
      none_refuses (conditions r (Prune p)) (below, (ap not here, tt)) in (
        free,
        record {
          is_tree = IsTree-next_tree r (Prune p) cut.is_tree (may.valid p m found) free;
          nodes = λ x. by_path x below
              ∙ ap (cond (is_at_or_inside x p) None) (cut.nodes x)
              ∙ cond_twice (is_at_or_inside x p) (list_any (hides x) done)
              (cond (list_any (empties x) done) (Some (File [])) (node_at a x))
              ∙ (λ i. cond ((sym mine i && is_at_or_inside x p) || list_any (hides x) done) None
              (cond ((sym other i && same_path x p) || list_any (empties x) done) (Some (File [])) (node_at a x)));
          names = λ x n. ap (find name_cmp n) (attributes_at-without_subtree r p x)
              ∙ of_none n (is_at_or_inside x p) x
              ∙ ap (cond (is_at_or_inside x p) None) (cut.names x n)
              ∙ cond_twice (is_at_or_inside x p) (list_any (hides x) done) (attribute_at a x n)
              ∙ (λ i. cond ((sym mine i && is_at_or_inside x p) || list_any (hides x) done) None (attribute_at a x n));
        },
      )
    where
      by_path : (x : Path) → is_root p ≡ false
          → node_at (without_subtree r p) x ≡ cond (is_at_or_inside x p) None (node_at r x)
      by_path [] below = ap (λ b. cond b None (Some Directory)) (sym (root_elsewhere p below))
      by_path (k ∷ x) below = node_at-without_subtree r p (k ∷ x) refl

      of_none : (n : Name) (b : Bool) (x : Path) → find name_cmp n (cond b [] (attributes_at r x))
          ≡ cond b None (attribute_at r x n)
      of_none n true x = refl
      of_none n false x = refl

  emptying : (p : Path) (done : List (Path × Mark)) (r : Tree) → MayCut a marks
      → find path_cmp p marks ≡ Some Bytes → AllByRecursion (Before p) done → IsCut done r
      → (refusal_of r (Cut p 0) ≡ None) × IsCut ((p, Bytes) ∷ done) (next_tree r (Cut p 0))
  unfolding conditions next_tree
  emptying p done r may found before cut =
      let file = file_exists (node_at a p) (may.file p found) in
      let below = not_root_of p file.1 in
      let seen = not_hidden p Bytes done may found below file.0 before (λ h g. false≢true h) in
      let full = not_emptied p done before in
      let here : node_at r p ≡ node_at a p = cut.nodes p
      ∙ (λ i. cond (seen i) None (cond (full i) (Some (File [])) (node_at a p))) in
      let free : refusal_of r (Cut p 0) ≡ None =
      none_refuses (conditions r (Cut p 0)) (
        ap not (ap is_some here ∙ file.0),
        (ap is_directory_node here ∙ file.1, (none_below (contents r p), tt)),
      ) in (
        free,
        record {
          is_tree = IsTree-next_tree r (Cut p 0) cut.is_tree (may.valid p Bytes found, omega arith) free;
          nodes = λ x. node_at-with_node r p x (File []) below
              ∙ ap (cond (same_path x p) (Some (File []))) (cut.nodes x)
              ∙ by_same x (same_path x p) refl seen;
          names = λ x n. ap (find name_cmp n) (attributes_at-with_node r p x (File [])) ∙ cut.names x n;
        },
      )
    where
      not_root_of : (x : Path) → is_directory a x ≡ false → is_root x ≡ false
      not_root_of [] h = cc
      not_root_of (n ∷ x) h = refl

      none_below : (bytes : List ℕ) → nat_lt (length bytes) 0 ≡ false
      none_below bytes = le-ltb (length bytes) 0 (omega arith)

      by_same : (x : Path) (b : Bool) → same_path x p ≡ b → list_any (hides p) done ≡ false
          → cond b (Some (File [])) (cond (list_any (hides x) done) None
          (cond (list_any (empties x) done) (Some (File [])) (node_at a x)))
          ≡ cond (list_any (hides x) done) None
          (cond (b || list_any (empties x) done) (Some (File [])) (node_at a x))
      by_same x true same seen =
          ap (λ c. cond c None (Some (File []))) (sym seen
          ∙ ap (λ (y : Path). list_any (hides y) done) (sym (same_from_test x p same)))
      by_same x false same seen = refl

  advance : (p : Path) (m : Mark) (b : Bool) (done : List (Path × Mark)) (r : Tree) → MayCut a marks
      → find path_cmp p marks ≡ Some m → is_pruned (find path_cmp (parent p) marks) ≡ b
      → AllByRecursion (Before p) done → IsCut done r → Advances p m b done r
  advance p Removed true done r may found above before cut = (tt, idle p Removed done r (ap not above) refl cut)
  advance p Removed false done r may found above before cut =
      let one = pruning p Removed done r may found refl refl above before cut in ((one.0, tt), one.1)
  advance p Kind true done r may found above before cut = (tt, idle p Kind done r (ap not above) refl cut)
  advance p Kind false done r may found above before cut =
      let one = pruning p Kind done r may found refl refl above before cut in ((one.0, tt), one.1)
  advance p Bytes b done r may found above before cut =
      let one = emptying p done r may found before cut in ((one.0, tt), one.1)
  advance p Added b done r may found above before cut = (tt, idle p Added done r refl refl cut)
  advance p Attributes b done r may found above before cut = (tt, idle p Attributes done r refl refl cut)

  -- ---- all marks

  abbrev commands_of : Path × Mark → List Command
  commands_of e = cut_of (is_pruned (find path_cmp (parent e.0) marks)) e.1 e.0

  abbrev Passed : List (Path × Mark) → Path × Mark → Type 0
  Passed rest e = (find path_cmp e.0 marks ≡ Some e.1) × AllByRecursion (λ f. path_cmp e.0 f.0 ≡ Less) rest

  cutting : (done rest : List (Path × Mark)) (r : Tree) → MayCut a marks
      → AllByRecursion (λ e. find path_cmp e.0 marks ≡ Some e.1) rest
      → IsStrictlySortedBy (λ (x y : Path × Mark). path_cmp x.0 y.0) rest
      → AllByRecursion (Passed rest) done → IsCut done r
      → AreAllowed r (flat_map commands_of rest) × IsCut (piled done rest) (led_by r (flat_map commands_of rest))
  cutting done [] r may found rising passed cut = (tt, cut)
  cutting done (e ∷ rest) r may found rising passed cut =
      let one = advance e.0 e.1 (is_pruned (find path_cmp (parent e.0) marks)) done r may found.0 refl
      (all_weaker (Passed (e ∷ rest)) (Before e.0) (λ f is. (is.0, (is.1).0)) done passed) cut in
      let others = cutting (e ∷ done) rest (led_by r (commands_of e)) may found.1
      (rising_tail (λ (x y : Path × Mark). path_cmp x.0 y.0) e rest rising) (
        (found.0, rising_head (λ (x y : Path × Mark). path_cmp x.0 y.0) e rest rising),
        all_weaker (Passed (e ∷ rest)) (Passed rest) (λ f is. (is.0, (is.1).1)) done passed,
      ) one.1 in (
        allowed_append (commands_of e) (flat_map commands_of rest) r one.0 others.0,
        subst (IsCut (piled (e ∷ done) rest)) (sym (led_append (commands_of e) (flat_map commands_of rest) r)) others.1,
      )

  -- ---- what is left

  -- a pruned path is hidden: by its own command, or by one of a path above it
  pruned_hidden : (n : ℕ) (x : Path) → length x ≤ n → MayCut a marks → is_pruned (find path_cmp x marks) ≡ true
      → list_any (hides x) (piled [] marks) ≡ true
  pruned_hidden zero x short may is =
      let last = last_step x (may.below_root x is) in
      absurd (omega (arith, ap length last.1, length-append (parent x) (last.0 ∷ []), short))
  pruned_hidden (suc n) x short may is =
      let last = last_step x (may.below_root x is) in
      let shorter : length (parent x) ≤ n =
      omega (arith, ap length last.1, length-append (parent x) (last.0 ∷ []), short) in
      by_parent (pruned_hidden n (parent x) shorter may) (is_pruned (find path_cmp (parent x) marks)) refl
      (find path_cmp x marks) refl is
    where
      by_parent : (is_pruned (find path_cmp (parent x) marks) ≡ true
          → list_any (hides (parent x)) (piled [] marks) ≡ true)
          → (b : Bool) → is_pruned (find path_cmp (parent x) marks) ≡ b
          → (o : Option Mark) → find path_cmp x marks ≡ o → is_pruned o ≡ true
          → list_any (hides x) (piled [] marks) ≡ true
      by_parent above true up o found pruned =
          any_weaker (hides (parent x)) (hides x)
          (λ e h. let parts = and_parts (issued e) (is_at_or_inside (parent x) e.0) h in
          and_from (issued e) (is_at_or_inside x e.0) parts.0 (at_or_inside_from_parent x e.0 parts.1))
          (piled [] marks) (above up)
      by_parent above false up None found pruned = cc
      by_parent above false up (Some m) found pruned =
          find_any path_cmp same_from_tie (hides x) x m [] marks found
          (and_from (is_pruned (Some m) && not (is_pruned (find path_cmp (parent x) marks))) (is_at_or_inside x x)
          (and_from (is_pruned (Some m)) (not (is_pruned (find path_cmp (parent x) marks))) pruned (ap not up))
          (ap (λ b. b || is_inside x x) (same_path-itself x)))

  abbrev Found : Path × Mark → Type 0
  Found e = find path_cmp e.0 marks ≡ Some e.1

  all_found : MayCut a marks → AllByRecursion Found (piled [] marks)
  all_found may = all_piled Found [] marks tt
      (found_all path_cmp path_cmp_total marks (rising_from_is_sorted path_cmp marks may.rising))

  -- what stands in the tree and is not pruned is not hidden
  not_shadowed : (x : Path) → MayCut a marks → is_pruned (find path_cmp x marks) ≡ false → exists a x ≡ true
      → list_any (hides x) (piled [] marks) ≡ false
  not_shadowed x may other some = none_with Found (hides x) (piled [] marks) (all_found may) never
    where
      never : (e : Path × Mark) → Found e → hides x e ≡ true → ⊥
      never e found hidden =
          let parts = and_parts (issued e) (is_at_or_inside x e.0) hidden in
          let pruned : is_pruned (find path_cmp e.0 marks) ≡ true =
          ap is_pruned found ∙ (and_parts (is_pruned (Some e.1)) _ parts.0).0 in
          by_place e pruned (or_cases (same_path x e.0) (is_inside x e.0) parts.1)
        where
          by_place : (e : Path × Mark) → is_pruned (find path_cmp e.0 marks) ≡ true
              → (same_path x e.0 ≡ true) ⊎ (is_inside x e.0 ≡ true) → ⊥
          by_place e pruned (inl same) = false≢true (sym other
              ∙ ap (λ (y : Path). is_pruned (find path_cmp y marks)) (same_from_test x e.0 same) ∙ pruned)
          by_place e pruned (inr inside) = false≢true (sym other ∙ may.below e.0 x pruned inside some)

  -- only a file that is cut is empty
  abbrev bytes_found : Option Mark → Bool
  bytes_found None = false
  bytes_found (Some m) = is_bytes m

  not_empty : (x : Path) → MayCut a marks → bytes_found (find path_cmp x marks) ≡ false
      → list_any (empties x) (piled [] marks) ≡ false
  not_empty x may other = none_with Found (empties x) (piled [] marks) (all_found may)
      (λ e found full. let parts = and_parts (is_bytes e.1) (same_path x e.0) full in
      false≢true (sym other ∙ ap (λ (y : Path). bytes_found (find path_cmp y marks)) (same_from_test x e.0 parts.1)
      ∙ ap bytes_found found ∙ parts.0))

  absent_none : (x : Path) → exists a x ≡ false → node_at a x ≡ None
  absent_none x none = by_node (node_at a x) none
    where
      by_node : (o : Option Node) → is_some o ≡ false → o ≡ None
      by_node None none = refl
      by_node (Some n) none = cc

  no_attribute : (x : Path) (n : Name) → exists a x ≡ false → attribute_at a x n ≡ None
  no_attribute [] n none = cc
  no_attribute (k ∷ x) n none = by_entry (find path_cmp (k ∷ x) a) none
    where
      by_entry : (o : Option Entry) → is_some (node_of o) ≡ false → find name_cmp n (attributes_of o) ≡ None
      by_entry None none = refl
      by_entry (Some e) none = cc

  same_either : {X : Type 0} (b : Bool) → cond b None None ≡ let n : Option X = None in n
  same_either true = refl
  same_either false = refl

  -- what is not pruned and not cut
  kept_node : (r : Tree) (x : Path) → MayCut a marks → IsCut (piled [] marks) r
      → is_pruned (find path_cmp x marks) ≡ false → bytes_found (find path_cmp x marks) ≡ false
      → node_at r x ≡ node_at a x
  kept_node r x may cut other whole = cut.nodes x
      ∙ ap (λ b. cond (list_any (hides x) (piled [] marks)) None (cond b (Some (File [])) (node_at a x)))
      (not_empty x may whole)
      ∙ by_test (exists a x) refl
    where
      by_test : (b : Bool) → exists a x ≡ b
          → cond (list_any (hides x) (piled [] marks)) None (node_at a x) ≡ node_at a x
      by_test true some = ap (λ b. cond b None (node_at a x)) (not_shadowed x may other some)
      by_test false none = ap (cond (list_any (hides x) (piled [] marks)) None) (absent_none x none)
          ∙ same_either (list_any (hides x) (piled [] marks)) ∙ sym (absent_none x none)

  nodes_left : (r : Tree) (x : Path) → MayCut a marks → IsCut (piled [] marks) r
      → node_at r x ≡ cut_node (find path_cmp x marks) (node_at a x)
  nodes_left r x may cut = by_mark (find path_cmp x marks) refl
    where
      gone : is_pruned (find path_cmp x marks) ≡ true → node_at r x ≡ None
      gone is = cut.nodes x ∙ ap (λ b. cond b None (cond (list_any (empties x) (piled [] marks))
          (Some (File [])) (node_at a x))) (pruned_hidden (length x) x (omega arith) may is)

      by_mark : (o : Option Mark) → find path_cmp x marks ≡ o → node_at r x ≡ cut_node o (node_at a x)
      by_mark None is = kept_node r x may cut (ap is_pruned is) (ap bytes_found is)
      by_mark (Some Removed) is = gone (ap is_pruned is)
      by_mark (Some Kind) is = gone (ap is_pruned is)
      by_mark (Some Added) is = kept_node r x may cut (ap is_pruned is) (ap bytes_found is)
      by_mark (Some Attributes) is = kept_node r x may cut (ap is_pruned is) (ap bytes_found is)
      by_mark (Some Bytes) is = cut.nodes x
          ∙ ap (λ b. cond b None (cond (list_any (empties x) (piled [] marks)) (Some (File [])) (node_at a x)))
          (not_shadowed x may (ap is_pruned is) (file_exists (node_at a x) (may.file x is)).0)
          ∙ ap (λ b. cond b (Some (File [])) (node_at a x))
          (find_any path_cmp same_from_tie (empties x) x Bytes [] marks is (same_path-itself x))

  names_left : (r : Tree) (x : Path) (n : Name) → MayCut a marks → IsCut (piled [] marks) r
      → attribute_at r x n ≡ cond (is_pruned (find path_cmp x marks)) None (attribute_at a x n)
  names_left r x n may cut = cut.names x n ∙ by_test (is_pruned (find path_cmp x marks)) refl (exists a x) refl
    where
      by_test : (b : Bool) → is_pruned (find path_cmp x marks) ≡ b → (c : Bool) → exists a x ≡ c
          → cond (list_any (hides x) (piled [] marks)) None (attribute_at a x n) ≡ cond b None (attribute_at a x n)
      by_test true is c some = ap (λ b. cond b None (attribute_at a x n))
          (pruned_hidden (length x) x (omega arith) may is)
      by_test false is true some = ap (λ b. cond b None (attribute_at a x n)) (not_shadowed x may is some)
      by_test false is false none = ap (cond (list_any (hides x) (piled [] marks)) None) (no_attribute x n none)
          ∙ same_either (list_any (hides x) (piled [] marks)) ∙ sym (no_attribute x n none)

  -- the commands that prune and cut are carried out, and this is left
  pub record CutTo (r : Tree) : Type 0 where
    pub is_tree : IsTree r
    pub nodes : (x : Path) → node_at r x ≡ cut_node (find path_cmp x marks) (node_at a x)
    pub names : (x : Path) (n : Name) → attribute_at r x n
        ≡ cond (is_pruned (find path_cmp x marks)) None (attribute_at a x n)

  pub cut_all : MayCut a marks
      → AreAllowed a (flat_map commands_of marks) × CutTo (led_by a (flat_map commands_of marks))
  cut_all may =
      let rising = rising_from_is_sorted path_cmp marks may.rising in
      let all = cutting [] marks a may (found_all path_cmp path_cmp_total marks rising) rising tt (record {
        is_tree = may.is_tree;
        nodes = λ x. refl;
        names = λ x n. refl;
      }) in (
        all.0,
        record {
          is_tree = (all.1).is_tree;
          nodes = λ x. nodes_left (led_by a (flat_map commands_of marks)) x may all.1;
          names = λ x n. names_left (led_by a (flat_map commands_of marks)) x n may all.1;
        },
      )
