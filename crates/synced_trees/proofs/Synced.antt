-- The commands of differences lead from the first tree to what is told.
use Rattle.std.proofs.Common.{◌≡◌, ℕ, zero, suc, ◌≤◌, List, [], ◌∷◌, length, Bool, true, false, not, ◌&&◌}
use Rattle.std.proofs.Common.{◌||◌, ◌⊎◌, inl, inr, cond, IsTrue, Option, Some, None, is_some, IsNone, refl, sym}
use Rattle.std.proofs.Common.{ap, subst, ◌∙◌, arith, Ordering, Less, Equal, Greater, nat_lt, ltb-true}
use Rattle.std.specs.List.{AllByRecursion}
use Rattle.std.specs.Ordering.{is_eq}
use Rattle.std.specs.FinMap.{find}
use Rattle.std.proofs.lemmas.Bool.{false≢true, and_from, and_parts, or_cases}
use Rattle.std.proofs.lemmas.List.{length-append}
use Rattle.store_model.specs.Paths.{Path, Name, is_root, is_path, path_cmp, name_cmp, same_path, parent, is_inside}
use Rattle.store_model.specs.Paths.{is_attribute_name}
use Rattle.store_model.specs.Trees.{Tree, Node, Entry, Attributes, IsTree, IsAttribute, node_of, node_at, attributes_of}
use Rattle.store_model.specs.Trees.{attributes_at, attribute_at, is_directory, is_directory_node, is_file, is_file_node}
use Rattle.store_model.specs.Trees.{exists, contents_of}
use Rattle.store_model.specs.Trees.Node.{Directory, File}
use Rattle.store_model.proofs.TreesLemmas.{find-root, entry_at, exists_from_directory, exists-find}
use Rattle.store_model.proofs.TreesLemmas.{AreAttributes-attributes_at}
use Rattle.store_model.proofs.TreesLemmasPaths.{last_step, same_from_test}
use Rattle.store_model.proofs.PathsLemmasPlaces.{same_name_from_tie}
use Rattle.dump_diff.specs.declared.difference.Mark.{Mark}
use Rattle.dump_diff.specs.declared.difference.Mark.TheVariants.{Removed, Added, Kind, Bytes, Attributes as Names}
use Rattle.dump_diff.specs.declared.difference.Side.{Side}
use Rattle.dump_diff.specs.declared.difference.Side.TheVariants.{First, Second, Both}
use Rattle.dump_diff.specs.Differences.{AreDifferences, Tells}
use Rattle.dump_diff.specs.Sides.{AreAttributeDifferences, FitsMark}
use Rattle.dump_diff.specs.Scripts.{AttributePlace, attribute_cmp, is_made, is_written, is_set, is_pruned}
use Rattle.synced_trees.specs.Syncing.{differ_in_kind, has_below, hides, HidesNone}
use Rattle.dump_diff.specs.Gains.{counts_at}
use Rattle.synced_trees.specs.Taken.{taken_marks, taken_sides}
use Rattle.synced_trees.proofs.Laying.{MayLie}
use Rattle.synced_trees.proofs.Cutting.{MayCut, CutTo, cut_node, parent_inside}
use Rattle.synced_trees.proofs.Unsetting.{MayUnset, UnsetTo, dropped_at}
use Rattle.synced_trees.proofs.Taking.{taken_mark, taken_side, find_mark, find_side, marks_rise, sides_rise}

-- ---- what a tree has

-- the root stands below nothing
root_inside : (x : Path) → is_inside [] x ≡ true → false ≡ true
unfolding is_inside
root_inside x inside = absurd (omega (arith, ltb-true (length x) 0 (and_parts (nat_lt (length x) 0) _ inside).0))

pub inside_below : (y x : Path) → is_inside y x ≡ true → is_root y ≡ false
inside_below [] x inside = absurd (false≢true (root_inside x inside))
inside_below (k ∷ y) x inside = refl

-- what stands above anything is a directory
pub above_directory : (n : ℕ) (t : Tree) (y x : Path) → length y ≤ n → IsTree t → exists t y ≡ true
    → is_inside y x ≡ true
    → is_directory t x ≡ true
above_directory n t [] x short is some inside = absurd (false≢true (root_inside x inside))
above_directory zero t (k ∷ y) x short is some inside = absurd (omega arith)
above_directory (suc n) t (k ∷ y) x short is some inside =
    let entry = entry_at t (k ∷ y) is refl some in
    let up : is_directory t (parent (k ∷ y)) ≡ true = (entry.2).parent_directory in
    let last = last_step (k ∷ y) refl in
    by_place up (above_directory n t (parent (k ∷ y)) x
    (omega (arith, ap length last.1, length-append (parent (k ∷ y)) (last.0 ∷ []), short)) is
    (exists_from_directory (node_at t (parent (k ∷ y))) up))
    (or_cases (same_path (parent (k ∷ y)) x) (is_inside (parent (k ∷ y)) x) (parent_inside (k ∷ y) x inside))
  where
    by_place : is_directory t (parent (k ∷ y)) ≡ true
        → (is_inside (parent (k ∷ y)) x ≡ true → is_directory t x ≡ true)
        → (same_path (parent (k ∷ y)) x ≡ true) ⊎ (is_inside (parent (k ∷ y)) x ≡ true) → is_directory t x ≡ true
    by_place up rest (inl same) = ap (is_directory t) (sym (same_from_test (parent (k ∷ y)) x same)) ∙ up
    by_place up rest (inr inside) = rest inside

-- what stands somewhere is found among the entries
pub below_found : (t : Tree) (y x : Path) → is_some (find path_cmp y t) ≡ true → is_inside y x ≡ true
    → has_below t x ≡ true
below_found [] y x some inside = cc
below_found (e ∷ t) y x some inside =
    by_test (λ h. below_found t y x h inside) (same_path y e.0) refl some (is_inside e.0 x) refl
  where
    by_test : (is_some (find path_cmp y t) ≡ true → has_below t x ≡ true) → (b : Bool) → same_path y e.0 ≡ b
        → is_some (cond b (Some e.1) (find path_cmp y t)) ≡ true → (c : Bool) → is_inside e.0 x ≡ c
        → (c || has_below t x) ≡ true
    by_test rest b same h true is = refl
    by_test rest true same h false is =
        absurd (false≢true (sym is ∙ ap (λ (z : Path). is_inside z x) (sym (same_from_test y e.0 same)) ∙ inside))
    by_test rest false same h false is = rest h

-- what is found in a list of which something is known is known
found_known : (P : Name × List ℕ → Type 0) (es : Attributes) (n : Name) (v : List ℕ) → AllByRecursion P es
    → find name_cmp n es ≡ Some v → P (n, v)
found_known P [] n v all found = cc
found_known P (e ∷ es) n v all found = by_order (found_known P es n v all.1) (name_cmp n e.0) refl found
  where
    by_order : (find name_cmp n es ≡ Some v → P (n, v)) → (o : Ordering) → name_cmp n e.0 ≡ o
        → cond (is_eq o) (Some e.1) (find name_cmp n es) ≡ Some v → P (n, v)
    by_order rest Equal is h =
        let key : e.0 ≡ n = sym (same_name_from_tie n e.0 is) in
        let value : e.1 ≡ v = cc in
        subst P (λ i. (key i, value i)) all.0
    by_order rest Less is h = rest h
    by_order rest Greater is h = rest h

-- the name of an attribute that a tree has
name_valid : (t : Tree) (x : Path) (n : Name) → IsTree t → is_some (attribute_at t x n) ≡ true
    → IsTrue (is_attribute_name n)
name_valid t x n is some = by_value (attribute_at t x n) refl some
  where
    by_value : (o : Option (List ℕ)) → attribute_at t x n ≡ o → is_some o ≡ true → IsTrue (is_attribute_name n)
    by_value None found h = cc
    by_value (Some v) found h = (found_known (IsAttribute x) (attributes_at t x) n v
        (AreAttributes-attributes_at t x is).each found).name

-- ---- entries that are marked

file_not_directory : (o : Option Node) → is_directory_node o ≡ false → is_some o ≡ true → is_file_node o ≡ true
file_not_directory None h g = cc
file_not_directory (Some Directory) h g = cc
file_not_directory (Some (File bytes)) h g = refl

-- how what stands at a path differs
abbrev pub NodeTells : Option Mark → Option Node → Option Node → Type 0
NodeTells None o p = o ≡ p
NodeTells (Some Removed) o p = (is_some o ≡ true) × (p ≡ None)
NodeTells (Some Added) o p = (o ≡ None) × (is_some p ≡ true)
NodeTells (Some Kind) o p = (is_some o ≡ true) × (is_some p ≡ true) × (differ_in_kind o p ≡ true)
NodeTells (Some Bytes) o p = (is_file_node o ≡ true) × (is_file_node p ≡ true)
NodeTells (Some Names) o p = (o ≡ p) × (is_some o ≡ true)

none_of : (o : Option Entry) → IsNone o → node_of o ≡ None
none_of None h = refl
none_of (Some e) h = cc

node_tells : (m : Option Mark) (e f : Option Entry) → Tells m e f → NodeTells m (node_of e) (node_of f)
node_tells None e f h = ap node_of h
node_tells (Some Removed) None f h = let never : false ≡ true = h.0 in absurd (false≢true never)
node_tells (Some Removed) (Some e) f h = (refl, none_of f h.1)
node_tells (Some Added) e None h = let never : false ≡ true = h.1 in absurd (false≢true never)
node_tells (Some Added) e (Some f) h = (none_of e h.0, refl)
node_tells (Some Kind) None None h = absurd h
node_tells (Some Kind) None (Some f) h = absurd h
node_tells (Some Kind) (Some e) None h = absurd h
node_tells (Some Kind) (Some e) (Some f) h = (refl, refl, by_nodes e.node f.node h)
  where
    by_nodes : (n k : Node) → is_directory_node (Some n) ≡ not (is_directory_node (Some k))
        → differ_in_kind (Some n) (Some k) ≡ true
    by_nodes Directory Directory h = cc
    by_nodes Directory (File bytes) h = refl
    by_nodes (File bytes) Directory h = refl
    by_nodes (File bytes) (File others) h = cc
node_tells (Some Bytes) None None h = absurd h
node_tells (Some Bytes) None (Some f) h = absurd h
node_tells (Some Bytes) (Some e) None h = absurd h
node_tells (Some Bytes) (Some e) (Some f) h =
    (ap (λ (n : Node). is_file_node (Some n)) h.first, ap (λ (n : Node). is_file_node (Some n)) h.second)
node_tells (Some Names) None None h = absurd h
node_tells (Some Names) None (Some f) h = absurd h
node_tells (Some Names) (Some e) None h = absurd h
node_tells (Some Names) (Some e) (Some f) h = (ap (λ (n : Node). Some n) h.node, refl)

-- nothing that is absent has an attribute
pub no_attribute : (t : Tree) (x : Path) (n : Name) → node_at t x ≡ None → attribute_at t x n ≡ None
no_attribute t [] n none = cc
no_attribute t (k ∷ x) n none = by_entry (find path_cmp (k ∷ x) t) none
  where
    by_entry : (o : Option Entry) → node_of o ≡ None → find name_cmp n (attributes_of o) ≡ None
    by_entry None none = refl
    by_entry (Some e) none = cc

pruned_was : (d some : Bool) (m : Option Mark) → is_pruned (taken_mark d some m) ≡ true → is_pruned m ≡ true
pruned_was d some None h = cc
pruned_was d some (Some Removed) h = refl
pruned_was d some (Some Added) h = cc
pruned_was d some (Some Kind) h = refl
pruned_was d some (Some Bytes) h = cc
pruned_was d true (Some Names) h = cc
pruned_was d false (Some Names) h = cc

pruned_still : (some : Bool) (m : Option Mark) → is_pruned m ≡ true → is_pruned (taken_mark true some m) ≡ true
pruned_still some None h = h
pruned_still some (Some Removed) h = refl
pruned_still some (Some Added) h = h
pruned_still some (Some Kind) h = refl
pruned_still some (Some Bytes) h = h
pruned_still some (Some Names) h = cc

kind_was : (some : Bool) (m : Option Mark) → is_pruned (taken_mark false some m) ≡ true → m ≡ Some Kind
kind_was some None h = cc
kind_was some (Some Removed) h = cc
kind_was some (Some Added) h = cc
kind_was some (Some Kind) h = refl
kind_was some (Some Bytes) h = cc
kind_was true (Some Names) h = cc
kind_was false (Some Names) h = cc

bytes_was : (d some : Bool) (m : Option Mark) → taken_mark d some m ≡ Some Bytes → m ≡ Some Bytes
bytes_was d some None h = cc
bytes_was true some (Some Removed) h = cc
bytes_was false some (Some Removed) h = cc
bytes_was d some (Some Added) h = cc
bytes_was d some (Some Kind) h = cc
bytes_was d some (Some Bytes) h = refl
bytes_was d true (Some Names) h = cc
bytes_was d false (Some Names) h = cc

some_was : (d some : Bool) (m : Option Mark) (k : Mark) → taken_mark d some m ≡ Some k → is_some m ≡ true
some_was d some None k h = cc
some_was d some (Some m) k h = refl

-- what is pruned stood there
pruned_some : (m : Option Mark) (o p : Option Node) → NodeTells m o p → is_pruned m ≡ true → is_some o ≡ true
pruned_some None o p h g = cc
pruned_some (Some Removed) o p h g = h.0
pruned_some (Some Kind) o p h g = h.0
pruned_some (Some Added) o p h g = cc
pruned_some (Some Bytes) o p h g = cc
pruned_some (Some Names) o p h g = cc

-- what is marked stands in one of the trees
marked_some : (m : Mark) (o p : Option Node) → NodeTells (Some m) o p → (is_some o ≡ true) ⊎ (is_some p ≡ true)
marked_some Removed o p h = inl h.0
marked_some Added o p h = inr h.1
marked_some Kind o p h = inl h.0
marked_some Names o p h = inl h.1
marked_some Bytes o p h = by_node o h.0
  where
    by_node : (o : Option Node) → is_file_node o ≡ true → (is_some o ≡ true) ⊎ (is_some p ≡ true)
    by_node None g = cc
    by_node (Some n) g = inl refl

-- where a directory is pruned, no directory is told
no_directory_told : (m : Option Mark) (o p : Option Node) → NodeTells m o p → is_pruned m ≡ true
    → is_directory_node o ≡ true → is_directory_node p ≡ true → ⊥
no_directory_told None o p h g is is' = false≢true g
no_directory_told (Some Added) o p h g is is' = false≢true g
no_directory_told (Some Bytes) o p h g is is' = false≢true g
no_directory_told (Some Names) o p h g is is' = false≢true g
no_directory_told (Some Removed) o p h g is is' = false≢true (sym (ap is_directory_node h.1) ∙ is')
no_directory_told (Some Kind) o p h g is is' = by_nodes o p is is' h.2
  where
    by_nodes : (o p : Option Node) → is_directory_node o ≡ true → is_directory_node p ≡ true
        → differ_in_kind o p ≡ true → ⊥
    by_nodes None p is is' h = false≢true is
    by_nodes (Some (File bytes)) p is is' h = false≢true is
    by_nodes (Some Directory) None is is' h = false≢true is'
    by_nodes (Some Directory) (Some (File bytes)) is is' h = false≢true is'
    by_nodes (Some Directory) (Some Directory) is is' h = false≢true h

pub file_told : (o p : Option Node) → differ_in_kind o p ≡ true → is_directory_node o ≡ true → is_file_node p ≡ true
file_told None p h is = cc
file_told (Some (File bytes)) p h is = cc
file_told (Some Directory) None h is = cc
file_told (Some Directory) (Some Directory) h is = cc
file_told (Some Directory) (Some (File bytes)) h is = refl

-- what stands in the first tree alone is pruned
alone_pruned : (m : Option Mark) (o p : Option Node) → NodeTells m o p → is_some o ≡ true → is_some p ≡ false
    → is_pruned m ≡ true
alone_pruned None o p h is none = absurd (false≢true (sym none ∙ ap is_some (sym h) ∙ is))
alone_pruned (Some Removed) o p h is none = refl
alone_pruned (Some Kind) o p h is none = refl
alone_pruned (Some Added) o p h is none = absurd (false≢true (sym none ∙ h.1))
alone_pruned (Some Bytes) o p h is none = by_node p h.1 none
  where
    by_node : (p : Option Node) → is_file_node p ≡ true → is_some p ≡ false → false ≡ true
    by_node None g n = g
    by_node (Some k) g n = cc
alone_pruned (Some Names) o p h is none = absurd (false≢true (sym none ∙ ap is_some (sym h.0) ∙ is))

-- ---- the differences of two trees

pub record Differ (deletes : Bool) (old told : Tree) (marks : List (Path × Mark)) (sides : List (AttributePlace × Side))
    : Type 0 where
  pub old_is : IsTree old
  pub told_is : IsTree told
  pub are : AreDifferences old told marks
  pub names : AreAttributeDifferences old told marks sides
  pub lays : deletes ≡ false → HidesNone old told

module _ (deletes : Bool) (takes : Name → Bool) (old told : Tree) (marks : List (Path × Mark))
    (sides : List (AttributePlace × Side)) where
  abbrev pub taken : List (Path × Mark)
  taken = taken_marks deletes takes marks sides

  abbrev pub dropped : List (AttributePlace × Side)
  dropped = taken_sides takes sides

  pub root_tells : Differ deletes old told marks sides → (o : Option Mark) → find path_cmp [] marks ≡ o → o ≡ None
  root_tells differ None is = refl
  root_tells differ (Some m) is = absurd (by_mark m (subst (λ (o : Option Mark). NodeTells o None None) is
      (node_tells (find path_cmp [] marks) None None
      (subst (λ (e : Option Entry). Tells (find path_cmp [] marks) e None) (find-root old differ.old_is)
      (subst (λ (f : Option Entry). Tells (find path_cmp [] marks) (find path_cmp [] old) f)
      (find-root told differ.told_is) ((differ.are).each []))))))
    where
      by_mark : (m : Mark) → NodeTells (Some m) None None → ⊥
      by_mark Removed h = false≢true h.0
      by_mark Added h = false≢true h.1
      by_mark Kind h = false≢true h.0
      by_mark Bytes h = false≢true h.0
      by_mark Names h = false≢true h.1

  pub told_nodes : Differ deletes old told marks sides → (x : Path)
      → NodeTells (find path_cmp x marks) (node_at old x) (node_at told x)
  told_nodes differ [] = subst (λ (o : Option Mark). NodeTells o (Some Directory) (Some Directory))
      (sym (root_tells differ (find path_cmp [] marks) refl)) refl
  told_nodes differ (k ∷ x) = node_tells (find path_cmp (k ∷ x) marks) (find path_cmp (k ∷ x) old)
      (find path_cmp (k ∷ x) told) ((differ.are).each (k ∷ x))

  pub marked_below : Differ deletes old told marks sides → (x : Path) → is_some (find path_cmp x marks) ≡ true
      → is_root x ≡ false
  marked_below differ [] some = absurd (false≢true (sym (ap is_some
      (root_tells differ (find path_cmp [] marks) refl)) ∙ some))
  marked_below differ (k ∷ x) some = refl

  some_pruned : (m : Option Mark) → is_pruned m ≡ true → is_some m ≡ true
  some_pruned None h = cc
  some_pruned (Some m) h = refl

  pub mark_is : Differ deletes old told marks sides → (x : Path)
      → find path_cmp x taken ≡ taken_mark deletes (counts_at takes sides x) (find path_cmp x marks)
  mark_is differ x = find_mark deletes takes marks sides x (differ.are).rising

  was_pruned : Differ deletes old told marks sides → (x : Path) → is_pruned (find path_cmp x taken) ≡ true
      → is_pruned (find path_cmp x marks) ≡ true
  was_pruned differ x h = pruned_was deletes (counts_at takes sides x) (find path_cmp x marks)
      (ap is_pruned (sym (mark_is differ x)) ∙ h)

  path_valid : (t : Tree) (x : Path) → IsTree t → is_root x ≡ false → exists t x ≡ true → IsTrue (is_path x)
  path_valid t x is below some = ((entry_at t x is below some).2).path

  marked_valid : Differ deletes old told marks sides → (x : Path) (m : Mark) → find path_cmp x marks ≡ Some m
      → IsTrue (is_path x)
  marked_valid differ x m is =
      let below = marked_below differ x (ap is_some is) in
      by_tree below (marked_some m (node_at old x) (node_at told x)
      (subst (λ (o : Option Mark). NodeTells o (node_at old x) (node_at told x)) is (told_nodes differ x)))
    where
      by_tree : is_root x ≡ false → (exists old x ≡ true) ⊎ (exists told x ≡ true) → IsTrue (is_path x)
      by_tree below (inl some) = path_valid old x differ.old_is below some
      by_tree below (inr some) = path_valid told x differ.told_is below some

  -- what stands below a pruned path is pruned too
  below_pruned : Differ deletes old told marks sides → (x y : Path) → is_pruned (find path_cmp x taken) ≡ true
      → is_inside y x ≡ true → exists old y ≡ true → is_pruned (find path_cmp y taken) ≡ true
  below_pruned differ x y pruned inside some = by_deletes deletes (differ.lays) refl
    where
      up : is_directory old x ≡ true
      up = above_directory (length y) old y x (omega arith) differ.old_is some inside

      gone : is_some (node_at told y) ≡ false
      gone = by_test (exists told y) refl
        where
          by_test : (b : Bool) → exists told y ≡ b → b ≡ false
          by_test false e = refl
          by_test true e = absurd (no_directory_told (find path_cmp x marks) (node_at old x) (node_at told x)
              (told_nodes differ x) (was_pruned differ x pruned) up
              (above_directory (length y) told y x (omega arith) differ.told_is e inside))

      by_deletes : (d : Bool) → (d ≡ false → HidesNone old told) → deletes ≡ d
          → is_pruned (find path_cmp y taken) ≡ true
      by_deletes true lays is = ap is_pruned (mark_is differ y
          ∙ ap (λ d. taken_mark d (counts_at takes sides y) (find path_cmp y marks)) is)
          ∙ pruned_still (counts_at takes sides y) (find path_cmp y marks) (alone_pruned (find path_cmp y marks)
          (node_at old y) (node_at told y) (told_nodes differ y) some gone)
      by_deletes false lays is =
          let kind : find path_cmp x marks ≡ Some Kind = kind_was (counts_at takes sides x) (find path_cmp x marks)
          (ap is_pruned (sym (mark_is differ x
          ∙ ap (λ d. taken_mark d (counts_at takes sides x) (find path_cmp x marks)) is)) ∙ pruned) in
          let tells : NodeTells (Some Kind) (node_at old x) (node_at told x) =
          subst (λ (o : Option Mark). NodeTells o (node_at old x) (node_at told x)) kind (told_nodes differ x) in
          let here : is_some (find path_cmp y old) ≡ true = sym (exists-find old y (inside_below y x inside)) ∙ some in
          let hidden : hides old told x ≡ true = and_from (is_directory old x && is_file told x) (has_below old x)
          (and_from (is_directory old x) (is_file told x) up (file_told (node_at old x) (node_at told x) tells.2 up))
          (below_found old y x here inside) in
          absurd (false≢true (sym (lays refl x) ∙ hidden))

  pub may_cut : Differ deletes old told marks sides → MayCut old taken
  may_cut differ = record {
    is_tree = differ.old_is;
    rising = marks_rise deletes takes marks sides (differ.are).rising;
    below_root = λ x h. marked_below differ x (some_pruned (find path_cmp x marks) (was_pruned differ x h));
    there = λ x h. pruned_some (find path_cmp x marks) (node_at old x) (node_at told x) (told_nodes differ x)
        (was_pruned differ x h);
    below = below_pruned differ;
    file = λ x h. (subst (λ (o : Option Mark). NodeTells o (node_at old x) (node_at told x))
        (bytes_was deletes (counts_at takes sides x) (find path_cmp x marks) (sym (mark_is differ x) ∙ h))
        (told_nodes differ x)).0;
    valid = λ x m h. by_marked differ x (find path_cmp x marks) refl (some_was deletes (counts_at takes sides x)
        (find path_cmp x marks) m (sym (mark_is differ x) ∙ h));
  }
    where
      by_marked : Differ deletes old told marks sides → (x : Path) (o : Option Mark) → find path_cmp x marks ≡ o
          → is_some o ≡ true → IsTrue (is_path x)
      by_marked differ x None is some = cc
      by_marked differ x (Some k) is some = marked_valid differ x k is

  -- ---- attributes that are taken away

  -- what is taken away of an attribute was the first tree's, at a path that is not pruned
  record Dropped (x : Path) (n : Name) : Type 0 where
    held : is_some (attribute_at old x n) ≡ true
    stays : is_pruned (find path_cmp x taken) ≡ false

  by_fits : (m : Option Mark) (s : Option Side) (u v : Option (List ℕ)) → FitsMark m s u v → dropped_at s ≡ true
      → (is_some u ≡ true) × (is_pruned m ≡ false)
  by_fits m None u v fits h = absurd (false≢true h)
  by_fits m (Some Second) u v fits h = absurd (false≢true h)
  by_fits None (Some First) u v fits h = (fits.0, refl)
  by_fits (Some Bytes) (Some First) u v fits h = (fits.0, refl)
  by_fits (Some Names) (Some First) u v fits h = (fits.0, refl)
  by_fits (Some Removed) (Some First) u v fits h = cc
  by_fits (Some Added) (Some First) u v fits h = cc
  by_fits (Some Kind) (Some First) u v fits h = cc
  by_fits None (Some Both) u v fits h = (fits.0, refl)
  by_fits (Some Bytes) (Some Both) u v fits h = (fits.0, refl)
  by_fits (Some Names) (Some Both) u v fits h = (fits.0, refl)
  by_fits (Some Removed) (Some Both) u v fits h = cc
  by_fits (Some Added) (Some Both) u v fits h = cc
  by_fits (Some Kind) (Some Both) u v fits h = cc

  dropped_was : (t : Bool) (s : Option Side) → dropped_at (taken_side t s) ≡ true → dropped_at s ≡ true
  dropped_was t None h = cc
  dropped_was t (Some First) h = refl
  dropped_was t (Some Second) h = cc
  dropped_was t (Some Both) h = refl

  pub side_is : Differ deletes old told marks sides → (x : Path) (n : Name)
      → find attribute_cmp (x, n) dropped ≡ taken_side (takes n) (find attribute_cmp (x, n) sides)
  side_is differ x n = find_side takes sides x n (differ.names).rising

  not_pruned : Differ deletes old told marks sides → (x : Path) → is_pruned (find path_cmp x marks) ≡ false
      → is_pruned (find path_cmp x taken) ≡ false
  not_pruned differ x none = by_test (is_pruned (find path_cmp x taken)) refl
    where
      by_test : (b : Bool) → is_pruned (find path_cmp x taken) ≡ b → b ≡ false
      by_test false is = refl
      by_test true is = absurd (false≢true (sym none ∙ was_pruned differ x is))

  dropped_is : Differ deletes old told marks sides → (x : Path) (n : Name)
      → dropped_at (find attribute_cmp (x, n) dropped) ≡ true → Dropped x n
  dropped_is differ x n h =
      let parts = by_fits (find path_cmp x marks) (find attribute_cmp (x, n) sides) (attribute_at old x n)
      (attribute_at told x n) ((differ.names).each x n)
      (dropped_was (takes n) (find attribute_cmp (x, n) sides) (ap dropped_at (sym (side_is differ x n)) ∙ h)) in
      record { held = parts.0; stays = not_pruned differ x parts.1 }

  -- what has an attribute is there, below the root
  has_node : (t : Tree) (x : Path) (n : Name) → is_some (attribute_at t x n) ≡ true → exists t x ≡ true
  has_node t x n some = by_test (node_at t x) refl
    where
      by_test : (o : Option Node) → node_at t x ≡ o → is_some o ≡ true
      by_test (Some k) is = refl
      by_test None is = absurd (false≢true (sym (ap is_some (no_attribute t x n is)) ∙ some))

  has_below_root : (t : Tree) (x : Path) (n : Name) → IsTree t → is_some (attribute_at t x n) ≡ true → is_root x ≡ false
  has_below_root t [] n is some = absurd (false≢true (sym (ap (λ (e : Option Entry). is_some
      (find name_cmp n (attributes_of e))) (find-root t is)) ∙ some))
  has_below_root t (k ∷ x) n is some = refl

  cut_some : (m : Option Mark) (o : Option Node) → is_pruned m ≡ false → is_some o ≡ true
      → is_some (cut_node m o) ≡ true
  cut_some None o h g = g
  cut_some (Some Removed) o h g = cc
  cut_some (Some Kind) o h g = cc
  cut_some (Some Added) o h g = g
  cut_some (Some Bytes) o h g = refl
  cut_some (Some Names) o h g = g

  pub may_unset : Differ deletes old told marks sides → (m : Tree) → CutTo old taken m → MayUnset m dropped
  may_unset differ m cut = record {
    rising = sides_rise takes sides (differ.names).rising;
    below_root = λ x n h. has_below_root old x n differ.old_is (dropped_is differ x n h).held;
    there = λ x n h. let is = dropped_is differ x n h in
        ap is_some (cut.nodes x) ∙ cut_some (find path_cmp x taken) (node_at old x) is.stays (has_node old x n is.held);
    held = λ x n h. let is = dropped_is differ x n h in
        ap is_some (cut.names x n ∙ ap (λ b. cond b None (attribute_at old x n)) is.stays) ∙ is.held;
    valid = λ x n h. let is = dropped_is differ x n h in (
      path_valid old x differ.old_is (has_below_root old x n differ.old_is is.held) (has_node old x n is.held),
      name_valid old x n differ.old_is is.held,
    );
  }

  -- ---- what is laid over what is left

  abbrev pub made_at : Path → Bool
  made_at x = is_made (find path_cmp x marks)

  abbrev pub written_at : Path → Bool
  written_at x = is_written (find path_cmp x marks)

  abbrev pub named_at : Path → Name → Bool
  named_at x n = is_made (find path_cmp x marks) || is_set (find attribute_cmp (x, n) sides)

  made_or_written : (m : Option Mark) (o p : Option Node) → NodeTells m o p → is_directory_node p ≡ true
      → is_made m ≡ is_written m
  made_or_written None o p h is = refl
  made_or_written (Some Removed) o p h is = refl
  made_or_written (Some Added) o p h is = refl
  made_or_written (Some Kind) o p h is = refl
  made_or_written (Some Names) o p h is = refl
  made_or_written (Some Bytes) o p h is = by_node p h.1 is
    where
      by_node : (p : Option Node) → is_file_node p ≡ true → is_directory_node p ≡ true → false ≡ true
      by_node None g is = g
      by_node (Some Directory) g is = g
      by_node (Some (File bytes)) g is = is

  -- what is left at a path by its mark, whatever counts
  left_of : (d some : Bool) (m : Option Mark) (o p : Option Node) → NodeTells m o p → is_written m ≡ true
      → (is_directory_node p ≡ true → cut_node (taken_mark d some m) o ≡ None)
      × (contents_of (cut_node (taken_mark d some m) o) ≡ [])
      × (is_directory_node (cut_node (taken_mark d some m) o) ≡ false)
  left_of d some None o p h w = absurd (false≢true w)
  left_of d some (Some Removed) o p h w = absurd (false≢true w)
  left_of d some (Some Names) o p h w = absurd (false≢true w)
  left_of d some (Some Added) o p h w = (λ is. h.0, ap contents_of h.0, ap is_directory_node h.0)
  left_of d some (Some Kind) o p h w = (λ is. refl, refl, refl)
  left_of d some (Some Bytes) o p h w = (λ is. absurd (false≢true (by_node p h.1 is)), refl, refl)
    where
      by_node : (p : Option Node) → is_file_node p ≡ true → is_directory_node p ≡ true → false ≡ true
      by_node None g is = g
      by_node (Some Directory) g is = g
      by_node (Some (File bytes)) g is = is

  -- what is told and not written is left as it was told
  kept_of : (d some : Bool) (m : Option Mark) (o p : Option Node) → NodeTells m o p → is_written m ≡ false
      → is_some p ≡ true → cut_node (taken_mark d some m) o ≡ p
  kept_of d some None o p h w there = h
  kept_of d true (Some Names) o p h w there = h.0
  kept_of d false (Some Names) o p h w there = h.0
  kept_of d some (Some Removed) o p h w there = absurd (false≢true (sym (ap is_some h.1) ∙ there))
  kept_of d some (Some Added) o p h w there = absurd (false≢true (sym w))
  kept_of d some (Some Kind) o p h w there = absurd (false≢true (sym w))
  kept_of d some (Some Bytes) o p h w there = absurd (false≢true (sym w))

  pub node_left : Differ deletes old told marks sides → (m r : Tree) → CutTo old taken m → UnsetTo m dropped r
      → (x : Path)
      → node_at r x ≡ cut_node (taken_mark deletes (counts_at takes sides x) (find path_cmp x marks)) (node_at old x)
  node_left differ m r cut unset x = unset.nodes x ∙ cut.nodes x
      ∙ ap (λ (o : Option Mark). cut_node o (node_at old x)) (mark_is differ x)

  pub may_lie : Differ deletes old told marks sides → (m r : Tree) → CutTo old taken m → UnsetTo m dropped r
      → MayLie told r made_at written_at
  may_lie differ m r cut unset = record {
    directory = λ x is. made_or_written (find path_cmp x marks) (node_at old x) (node_at told x)
        (told_nodes differ x) is;
    absent = λ x w is. node_left differ m r cut unset x ∙ (left deletes x w).0 is;
    blank = λ x w. ap contents_of (node_left differ m r cut unset x) ∙ (left deletes x w).1;
    no_directory = λ x w. ap is_directory_node (node_left differ m r cut unset x) ∙ (left deletes x w).2;
    there = λ x w some. ap is_some (node_left differ m r cut unset x ∙ kept x w some) ∙ some;
    alike = λ x w is. ap is_directory_node (node_left differ m r cut unset x
        ∙ kept x w (exists_from_directory (node_at told x) is)) ∙ is;
  }
    where
      left : (d : Bool) (x : Path) → written_at x ≡ true
          → (is_directory_node (node_at told x) ≡ true
          → cut_node (taken_mark d (counts_at takes sides x) (find path_cmp x marks)) (node_at old x) ≡ None)
          × (contents_of (cut_node (taken_mark d (counts_at takes sides x) (find path_cmp x marks)) (node_at old x)) ≡
          [])
          × (is_directory_node (cut_node (taken_mark d (counts_at takes sides x) (find path_cmp x marks))
          (node_at old x))
          ≡ false)
      left d x w = left_of d (counts_at takes sides x) (find path_cmp x marks) (node_at old x) (node_at told x)
          (told_nodes differ x) w

      kept : (x : Path) → written_at x ≡ false → exists told x ≡ true
          → cut_node (taken_mark deletes (counts_at takes sides x) (find path_cmp x marks)) (node_at old x)
          ≡ node_at told x
      kept x w some = kept_of deletes (counts_at takes sides x) (find path_cmp x marks) (node_at old x) (node_at told x)
          (told_nodes differ x) w some
