-- The differences that count are those of the tree before and the one after.
use Rattle.std.proofs.Common.{◌≡◌, ℕ, List, [], ◌∷◌, Bool, true, false, not, ◌&&◌, ◌||◌, IsTrue, Option, Some, None}
use Rattle.std.proofs.Common.{is_some}
use Rattle.std.proofs.Common.{IsSome, IsNone, refl, sym, ap, subst, ◌∙◌}
use Rattle.std.specs.FinMap.{find, is_sorted}
use Rattle.std.specs.Ordering.{is_eq}
use Rattle.std.proofs.Common.{cond, Ordering, Less, Equal, Greater}
use Rattle.std.specs.List.{list_any}
use Rattle.std.specs.Option.{option_or}
use Rattle.std.proofs.lemmas.Bool.{false≢true, and_parts, and_from}
use Rattle.std.proofs.lemmas.Option.{same_Some}
use Rattle.store_model.specs.Paths.{Path, Name, path_cmp, name_cmp, same_path}
use Rattle.store_model.specs.Trees.{Tree, Node, Entry, node_of, node_at, attributes_of, attribute_at}
use Rattle.store_model.specs.Trees.{is_directory_node}
use Rattle.store_model.proofs.ListsLemmas.{rising_from_is_sorted}
use Rattle.store_model.proofs.TreesLemmas.{find-root}
use Rattle.store_model.proofs.TreesLemmasPaths.{same_path-itself, same_from_test}
use Rattle.dump_diff.specs.declared.difference.Mark.{Mark}
use Rattle.dump_diff.specs.declared.difference.Mark.TheVariants.{Removed, Added, Kind, Bytes, Attributes as Names}
use Rattle.dump_diff.specs.declared.difference.Side.{Side}
use Rattle.dump_diff.specs.declared.difference.Side.TheVariants.{First, Second, Both}
use Rattle.dump_diff.specs.Differences.{AreDifferences, AreBoth, AreOfOtherKinds, HaveOtherBytes, HaveOtherAttributes}
use Rattle.dump_diff.specs.Differences.{Tells}
use Rattle.dump_diff.specs.Sides.{FitsMark, TellsSide}
use Rattle.dump_diff.specs.Scripts.{AttributePlace, attribute_cmp}
use Rattle.dump_diff.specs.Gains.{counts_by, counts, counts_at}
use Rattle.dump_diff.proofs.Searching.{attribute_total}
use Rattle.synced_trees.specs.Syncing.{synced, differ_in_kind, goes, IsSynced}
use Rattle.synced_trees.specs.Taken.{taken_marks}
use Rattle.synced_trees.proofs.Leads.{any_with, found_all, or_true}
use Rattle.synced_trees.proofs.Unsetting.{same_place}
use Rattle.synced_trees.proofs.Taking.{taken_mark, find_mark, marks_rise}
use Rattle.synced_trees.proofs.Synced.{NodeTells, Differ, told_nodes, root_tells, no_attribute}
use Rattle.synced_trees.proofs.Reached.{synced_same, synced_some, goes_taken, goes_gone, same_kind_itself, same_entry}
use Rattle.synced_trees.proofs.Reached.{none_is, file_some}

-- ---- attributes that count

-- one that counts at a path
pub record IsCounted (takes : Name → Bool) (sides : List (AttributePlace × Side)) (p : Path) : Type 0 where
  pub name : Name
  pub side : Side
  pub counted : counts_by (takes name) side ≡ true
  pub found : find attribute_cmp (p, name) sides ≡ Some side

counted_some : (takes : Name → Bool) (sides : List (AttributePlace × Side)) (p : Path)
    → IsTrue (is_sorted attribute_cmp sides) → counts_at takes sides p ≡ true → IsCounted takes sides p
counted_some takes sides p sorted some =
    let one = any_with (λ (e : AttributePlace × Side). find attribute_cmp e.0 sides ≡ Some e.1)
    (λ (e : AttributePlace × Side). counts takes e && same_path p (e.0).0) sides
    (found_all attribute_cmp attribute_total sides (rising_from_is_sorted attribute_cmp sides sorted)) some in
    let parts = and_parts (counts takes one.0) (same_path p ((one.0).0).0) one.2 in
    record {
      name = ((one.0).0).1;
      side = (one.0).1;
      counted = parts.0;
      found = ap (λ (q : Path). find attribute_cmp (q, ((one.0).0).1) sides)
          (same_from_test p ((one.0).0).0 parts.1) ∙ one.1;
    }

-- an entry that passes is there
passes_there : (test : AttributePlace × Side → Bool) (q : AttributePlace) (s : Side) (es : List (AttributePlace × Side))
    → find attribute_cmp q es ≡ Some s → test (q, s) ≡ true → list_any test es ≡ true
passes_there test q s [] found passes = cc
passes_there test q s (e ∷ es) found passes = by_order (passes_there test q s es) (attribute_cmp q e.0) refl found
  where
    by_order : (find attribute_cmp q es ≡ Some s → test (q, s) ≡ true → list_any test es ≡ true) → (o : Ordering)
        → attribute_cmp q e.0 ≡ o → cond (is_eq o) (Some e.1) (find attribute_cmp q es) ≡ Some s
        → (test e || list_any test es) ≡ true
    by_order rest Equal is h =
        let value : e.1 ≡ s = cc in
        let key : e.0 ≡ q = sym (same_place q e.0 is) in
        ap (λ b. b || list_any test es) ((λ i. test (key i, value i)) ∙ passes)
    by_order rest Less is h = or_true (test e) (list_any test es) (rest h passes)
    by_order rest Greater is h = or_true (test e) (list_any test es) (rest h passes)

none_counts : (takes : Name → Bool) (sides : List (AttributePlace × Side)) (p : Path) (n : Name) (s : Side)
    → counts_at takes sides p ≡ false → find attribute_cmp (p, n) sides ≡ Some s → counts_by (takes n) s ≡ false
none_counts takes sides p n s none found = by_test (counts_by (takes n) s) refl
  where
    by_test : (b : Bool) → counts_by (takes n) s ≡ b → b ≡ false
    by_test false is = refl
    by_test true is = absurd (false≢true (sym none
        ∙ passes_there (λ (e : AttributePlace × Side). counts takes e && same_path p (e.0).0) (p, n) s sides found
        (and_from (counts_by (takes n) s) (same_path p p) is (same_path-itself p))))

-- ---- what is at a path

same_node : (n k : Node) → ◌≡◌ {A = Option Node} (Some n) (Some k) → n ≡ k
same_node n k h = same_Some n k h

is_some_node : (e : Option Entry) → is_some (node_of e) ≡ true → IsSome e
is_some_node None h = h
is_some_node (Some e) h = refl

no_entry : (e : Option Entry) → node_of e ≡ None → IsNone e
no_entry None h = refl
no_entry (Some e) h = cc

module _ (deletes : Bool) (takes : Name → Bool) (old told new : Tree) (marks : List (Path × Mark))
    (sides : List (AttributePlace × Side)) (differ : Differ true old told marks sides)
    (is : IsSynced deletes takes old told new) where
  nodes : (x : Path) → NodeTells (find path_cmp x marks) (node_at old x) (node_at told x)
  nodes x = told_nodes true takes old told marks sides differ x

  -- where nothing counts the entry stays
  stays : (x : Path) → synced deletes (node_at old x) (node_at told x) ≡ node_at old x
      → ((n : Name) → synced (goes deletes (takes n) (node_at old x) (node_at told x)) (attribute_at old x n)
      (attribute_at told x n) ≡ attribute_at old x n)
      → find path_cmp x old ≡ find path_cmp x new
  stays x node names = same_entry old new differ.old_is is.is_tree x (sym (is.nodes x ∙ node))
      (λ n. sym (is.attributes x n ∙ names n))

  -- an attribute that doesn't count stays
  held : (x : Path) → is_some (node_at told x) ≡ true → differ_in_kind (node_at old x) (node_at told x) ≡ false
      → counts_at takes sides x ≡ false
      → ((n : Name) → TellsSide (find attribute_cmp (x, n) sides) (attribute_at old x n) (attribute_at told x n))
      → (n : Name) → synced (goes deletes (takes n) (node_at old x) (node_at told x)) (attribute_at old x n)
      (attribute_at told x n) ≡ attribute_at old x n
  held x some kind none tells n =
      ap (λ b. synced b (attribute_at old x n) (attribute_at told x n))
      (goes_taken deletes (takes n) (node_at old x) (node_at told x) some kind)
      ∙ by_side (find attribute_cmp (x, n) sides) refl (tells n)
    where
      by_side : (s : Option Side) → find attribute_cmp (x, n) sides ≡ s
          → TellsSide s (attribute_at old x n) (attribute_at told x n)
          → synced (takes n) (attribute_at old x n) (attribute_at told x n) ≡ attribute_at old x n
      by_side None found same = synced_same (takes n) (attribute_at old x n) (attribute_at told x n) same
      by_side (Some First) found h =
          ap (λ b. synced b (attribute_at old x n) (attribute_at told x n))
          (none_counts takes sides x n First none found)
          ∙ ap (λ (v : Option (List ℕ)). option_or v (attribute_at old x n)) (none_is (attribute_at told x n) h.1)
      by_side (Some Second) found h = absurd (false≢true (sym (none_counts takes sides x n Second none found)))
      by_side (Some Both) found h = absurd (false≢true (sym (none_counts takes sides x n Both none found)))

  -- one that counts is another one after
  counted_differs : (x : Path) → IsCounted takes sides x → is_some (node_at told x) ≡ true
      → differ_in_kind (node_at old x) (node_at told x) ≡ false
      → ((n : Name) → TellsSide (find attribute_cmp (x, n) sides) (attribute_at old x n) (attribute_at told x n))
      → attributes_of (find path_cmp x old) ≡ attributes_of (find path_cmp x new) → ⊥
  counted_differs x one some kind tells same = by_side one.side one.counted
      (subst (λ (s : Option Side). TellsSide s (attribute_at old x one.name) (attribute_at told x one.name)) one.found
      (tells one.name))
    where
      after : attribute_at old x one.name
          ≡ synced (takes one.name) (attribute_at old x one.name) (attribute_at told x one.name)
      after = ap (find name_cmp one.name) same ∙ is.attributes x one.name
          ∙ ap (λ b. synced b (attribute_at old x one.name) (attribute_at told x one.name))
          (goes_taken deletes (takes one.name) (node_at old x) (node_at told x) some kind)

      by_side : (s : Side) → counts_by (takes one.name) s ≡ true
          → TellsSide (Some s) (attribute_at old x one.name) (attribute_at told x one.name) → ⊥
      by_side First h tells = false≢true (sym (ap is_some (none_is (attribute_at told x one.name) tells.1))
          ∙ ap is_some (sym (after ∙ ap (λ b. synced b (attribute_at old x one.name) (attribute_at told x one.name)) h))
          ∙ tells.0)
      by_side Second h tells = false≢true (sym (ap is_some (none_is (attribute_at old x one.name) tells.0))
          ∙ ap is_some (after ∙ synced_some (takes one.name) (attribute_at old x one.name)
          (attribute_at told x one.name) tells.1) ∙ tells.1)
      by_side Both h tells = tells.2 (after ∙ synced_some (takes one.name) (attribute_at old x one.name)
          (attribute_at told x one.name) tells.1)

  -- what is told of a path that stays of its kind
  side_tells : (x : Path) (m : Option Mark) → find path_cmp x marks ≡ m
      → ((n : Name) → FitsMark m (find attribute_cmp (x, n) sides) (attribute_at old x n) (attribute_at told x n))
  side_tells x m found n = subst (λ (k : Option Mark).
      FitsMark k (find attribute_cmp (x, n) sides) (attribute_at old x n) (attribute_at told x n)) found
      ((differ.names).each x n)

  -- both have something at a path, and so it is after
  both_after : (P Q : Entry → Entry → Type 0) (e f g : Option Entry) → IsSome g
      → ((a b c : Entry) → Some b.node ≡ node_of f → node_of g ≡ Some c.node → P a b → Q a c)
      → AreBoth P e f → AreBoth Q e g
  both_after P Q None None g some so h = absurd h
  both_after P Q None (Some f) g some so h = absurd h
  both_after P Q (Some e) None g some so h = absurd h
  both_after P Q (Some e) (Some f) None some so h = let never : false ≡ true = some in absurd (false≢true never)
  both_after P Q (Some e) (Some f) (Some c) some so h = so e f c refl refl h

  node_after : (k : Name) (x : Path) → is_some (node_at told (k ∷ x)) ≡ true
      → node_of (find path_cmp (k ∷ x) new) ≡ node_of (find path_cmp (k ∷ x) told)
  node_after k x some = is.nodes (k ∷ x) ∙ synced_some deletes (node_at old (k ∷ x)) (node_at told (k ∷ x)) some

  some_after : (k : Name) (x : Path) → is_some (node_at told (k ∷ x)) ≡ true → IsSome (find path_cmp (k ∷ x) new)
  some_after k x some = is_some_node (find path_cmp (k ∷ x) new) (ap is_some (node_after k x some) ∙ some)

  unmarked : (x : Path) → find path_cmp x marks ≡ None → find path_cmp x old ≡ find path_cmp x new
  unmarked x found =
      let same : node_at old x ≡ node_at told x = subst (λ (m : Option Mark).
      NodeTells m (node_at old x) (node_at told x)) found (nodes x) in
      let entries : find path_cmp x old ≡ find path_cmp x told = subst (λ (m : Option Mark).
      Tells m (find path_cmp x old) (find path_cmp x told)) found ((differ.are).each x) in
      stays x (synced_same deletes (node_at old x) (node_at told x) same)
      (λ n. synced_same (goes deletes (takes n) (node_at old x) (node_at told x)) (attribute_at old x n)
      (attribute_at told x n) (ap (λ (e : Option Entry). find name_cmp n (attributes_of e)) entries))

  removed : (k : Name) (x : Path) → find path_cmp (k ∷ x) marks ≡ Some Removed
      → Tells (cond deletes (Some Removed) None) (find path_cmp (k ∷ x) old) (find path_cmp (k ∷ x) new)
  removed k x found =
      let gone : NodeTells (Some Removed) (node_at old (k ∷ x)) (node_at told (k ∷ x)) = subst (λ (m : Option Mark).
      NodeTells m (node_at old (k ∷ x)) (node_at told (k ∷ x))) found (nodes (k ∷ x)) in
      by_deletes deletes refl gone
    where
      by_deletes : (d : Bool) → deletes ≡ d → NodeTells (Some Removed) (node_at old (k ∷ x)) (node_at told (k ∷ x))
          → Tells (cond d (Some Removed) None) (find path_cmp (k ∷ x) old) (find path_cmp (k ∷ x) new)
      by_deletes true d gone = (
        is_some_node (find path_cmp (k ∷ x) old) gone.0,
        no_entry (find path_cmp (k ∷ x) new) (is.nodes (k ∷ x)
            ∙ ap (λ b. synced b (node_at old (k ∷ x)) (node_at told (k ∷ x))) d ∙ gone.1),
      )
      by_deletes false d gone = stays (k ∷ x)
          (ap (λ b. synced b (node_at old (k ∷ x)) (node_at told (k ∷ x))) d
          ∙ ap (λ (p : Option Node). option_or p (node_at old (k ∷ x))) gone.1)
          (λ n. ap (λ b. synced b (attribute_at old (k ∷ x) n) (attribute_at told (k ∷ x) n))
          (goes_gone deletes (takes n) (node_at old (k ∷ x)) (node_at told (k ∷ x)) gone.1 ∙ d)
          ∙ ap (λ (v : Option (List ℕ)). option_or v (attribute_at old (k ∷ x) n))
          (no_attribute told (k ∷ x) n gone.1))

  by_mark : (k : Name) (x : Path) (m : Option Mark) → find path_cmp (k ∷ x) marks ≡ m → (t : Bool)
      → counts_at takes sides (k ∷ x) ≡ t
      → Tells (taken_mark deletes t m) (find path_cmp (k ∷ x) old) (find path_cmp (k ∷ x) new)
  by_mark k x None found t told_is = unmarked (k ∷ x) found
  by_mark k x (Some Removed) found t told_is = removed k x found
  by_mark k x (Some Added) found t told_is =
      let tells : Tells (Some Added) (find path_cmp (k ∷ x) old) (find path_cmp (k ∷ x) told) =
      subst (λ (m : Option Mark). Tells m (find path_cmp (k ∷ x) old) (find path_cmp (k ∷ x) told)) found
      ((differ.are).each (k ∷ x)) in
      let node : NodeTells (Some Added) (node_at old (k ∷ x)) (node_at told (k ∷ x)) =
      subst (λ (m : Option Mark). NodeTells m (node_at old (k ∷ x)) (node_at told (k ∷ x))) found (nodes (k ∷ x)) in
      (tells.0, some_after k x node.1)
  by_mark k x (Some Kind) found t told_is =
      let tells : Tells (Some Kind) (find path_cmp (k ∷ x) old) (find path_cmp (k ∷ x) told) =
      subst (λ (m : Option Mark). Tells m (find path_cmp (k ∷ x) old) (find path_cmp (k ∷ x) told)) found
      ((differ.are).each (k ∷ x)) in
      let node : NodeTells (Some Kind) (node_at old (k ∷ x)) (node_at told (k ∷ x)) =
      subst (λ (m : Option Mark). NodeTells m (node_at old (k ∷ x)) (node_at told (k ∷ x))) found (nodes (k ∷ x)) in
      both_after AreOfOtherKinds AreOfOtherKinds (find path_cmp (k ∷ x) old) (find path_cmp (k ∷ x) told)
      (find path_cmp (k ∷ x) new) (some_after k x node.1)
      (λ a b c first second h. h ∙ ap (λ (n : Option Node). not (is_directory_node n))
      (first ∙ sym (node_after k x node.1) ∙ second)) tells
  by_mark k x (Some Bytes) found t told_is =
      let tells : Tells (Some Bytes) (find path_cmp (k ∷ x) old) (find path_cmp (k ∷ x) told) =
      subst (λ (m : Option Mark). Tells m (find path_cmp (k ∷ x) old) (find path_cmp (k ∷ x) told)) found
      ((differ.are).each (k ∷ x)) in
      let node : NodeTells (Some Bytes) (node_at old (k ∷ x)) (node_at told (k ∷ x)) =
      subst (λ (m : Option Mark). NodeTells m (node_at old (k ∷ x)) (node_at told (k ∷ x))) found (nodes (k ∷ x)) in
      let some = file_some (node_at told (k ∷ x)) node.1 in
      both_after HaveOtherBytes HaveOtherBytes (find path_cmp (k ∷ x) old) (find path_cmp (k ∷ x) told)
      (find path_cmp (k ∷ x) new) (some_after k x some)
      (λ a b c first second h. record {
        bytes = h.bytes;
        others = h.others;
        first = h.first;
        second = same_node c.node b.node (sym second ∙ node_after k x some ∙ sym first) ∙ h.second;
        other = h.other;
      }) tells
  by_mark k x (Some Names) found true told_is =
      let tells : Tells (Some Names) (find path_cmp (k ∷ x) old) (find path_cmp (k ∷ x) told) =
      subst (λ (m : Option Mark). Tells m (find path_cmp (k ∷ x) old) (find path_cmp (k ∷ x) told)) found
      ((differ.are).each (k ∷ x)) in
      let node : NodeTells (Some Names) (node_at old (k ∷ x)) (node_at told (k ∷ x)) =
      subst (λ (m : Option Mark). NodeTells m (node_at old (k ∷ x)) (node_at told (k ∷ x))) found (nodes (k ∷ x)) in
      let some = ap is_some (sym node.0) ∙ node.1 in
      let differs = counted_differs (k ∷ x) (counted_some takes sides (k ∷ x) (differ.names).rising told_is) some
      (same_kind_itself (node_at old (k ∷ x)) (node_at told (k ∷ x)) node.0)
      (side_tells (k ∷ x) (Some Names) found) in
      both_names (find path_cmp (k ∷ x) old) (find path_cmp (k ∷ x) told) (find path_cmp (k ∷ x) new)
      (some_after k x some) (node_after k x some) differs tells
    where
      both_names : (e f g : Option Entry) → IsSome g → node_of g ≡ node_of f
          → (attributes_of e ≡ attributes_of g → ⊥) → AreBoth HaveOtherAttributes e f → AreBoth HaveOtherAttributes e g
      both_names None None g some same other h = absurd h
      both_names None (Some f) g some same other h = absurd h
      both_names (Some e) None g some same other h = absurd h
      both_names (Some e) (Some f) None some same other h = let never : false ≡ true = some in absurd (false≢true never)
      both_names (Some e) (Some f) (Some g) some same other h = record {
        node = h.node ∙ sym (same_node g.node f.node same);
        other = other;
      }
  by_mark k x (Some Names) found false told_is =
      let node : NodeTells (Some Names) (node_at old (k ∷ x)) (node_at told (k ∷ x)) =
      subst (λ (m : Option Mark). NodeTells m (node_at old (k ∷ x)) (node_at told (k ∷ x))) found (nodes (k ∷ x)) in
      stays (k ∷ x) (synced_same deletes (node_at old (k ∷ x)) (node_at told (k ∷ x)) node.0)
      (held (k ∷ x) (ap is_some (sym node.0) ∙ node.1)
      (same_kind_itself (node_at old (k ∷ x)) (node_at told (k ∷ x)) node.0) told_is
      (side_tells (k ∷ x) (Some Names) found))

  pub changed_so : AreDifferences old new (taken_marks deletes takes marks sides)
  changed_so = record {
    rising = marks_rise deletes takes marks sides (differ.are).rising;
    each = λ x. subst (λ (m : Option Mark). Tells m (find path_cmp x old) (find path_cmp x new))
        (sym (find_mark deletes takes marks sides x (differ.are).rising)) (at x);
  }
    where
      at : (x : Path) → Tells (taken_mark deletes (counts_at takes sides x) (find path_cmp x marks))
          (find path_cmp x old)
          (find path_cmp x new)
      at [] = subst (λ (m : Option Mark). Tells (taken_mark deletes (counts_at takes sides []) m) (find path_cmp [] old)
          (find path_cmp [] new)) (sym (root_tells true takes old told marks sides differ (find path_cmp [] marks)
          refl))
          (find-root old differ.old_is ∙ sym (find-root new is.is_tree))
      at (k ∷ x) = by_mark k x (find path_cmp (k ∷ x) marks) refl (counts_at takes sides (k ∷ x)) refl
