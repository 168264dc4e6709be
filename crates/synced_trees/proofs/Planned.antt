-- What a plan leads to, and when there is none.
use Rattle.std.proofs.Common.{◌≡◌, ℕ, zero, suc, ◌≤◌, List, [], ◌∷◌, ◌++◌, map, length, Bool, true, false, ◌&&◌, ◌||◌}
use Rattle.std.proofs.Common.{Result, Ok, Err, is_ok, IfOk, IfErr, MatchResult, IsErrAnd, cond, get_or, ◌<◌, ◌⊎◌, inl}
use Rattle.std.proofs.Common.{inr, IsTrue, Option, Some, None, is_some, refl, sym, ap, subst, ◌∙◌, arith}
use Rattle.std.specs.FinMap.{find, is_sorted}
use Rattle.std.specs.List.{list_any, flat_map, AllByRecursion}
use Rattle.std.proofs.lemmas.Bool.{false≢true, and_from, and_parts, or_cases}
use Rattle.std.proofs.lemmas.List.{length-append}
use Rattle.store_model.specs.Paths.{Path, is_root, path_cmp, same_path, parent, is_inside}
use Rattle.store_model.specs.Trees.{Tree, Node, Entry, node_at, is_directory, is_directory_node, is_file}
use Rattle.store_model.specs.Trees.{is_file_node, exists}
use Rattle.store_model.specs.Trees.Node.{Directory, File}
use Rattle.store_model.specs.Commands.{Command}
use Rattle.store_model.proofs.TreesLemmas.{entry_at, exists_from_directory, exists-find, all_exist}
use Rattle.store_model.proofs.TreesLemmasPaths.{last_step, same_from_test, same_path-from_equal, inside_from_parent}
use Rattle.store_model.proofs.TreesLemmasPaths.{path_cmp_total}
use Rattle.store_model.proofs.ListsLemmas.{rising_from_is_sorted}
use Rattle.dump_streams.specs.Dumps.{DumpStep, dump, command_of_step}
use Rattle.dump_diff.specs.declared.difference.Mark.{Mark}
use Rattle.dump_diff.specs.declared.difference.Mark.TheVariants.{Removed, Added, Kind, Bytes, Attributes as Names}
use Rattle.dump_diff.specs.declared.difference.Side.{Side}
use Rattle.dump_diff.specs.declared.difference.Difference.{Difference}
use Rattle.dump_diff.specs.declared.difference.AttributeDifference.{AttributeDifference}
use Rattle.dump_diff.specs.declared.differences.Differences.{Differences}
use Rattle.dump_diff.specs.declared.losses.Losses.{Losses}
use Rattle.dump_diff.specs.Gains.{takes}
use Rattle.dump_diff.specs.Differences.{AreDifferences, marks_of}
use Rattle.dump_diff.specs.Ahead.{AreFoundWith}
use Rattle.dump_diff.specs.Scripts.{AttributePlace, is_pruned, cut_of, unset_of, cut_commands, unset_commands, sides_of}
use Rattle.dump_diff.specs.Scripts.{removal_commands, removal_command, AreRising, attribute_cmp}
use Rattle.synced_trees.specs.Syncing.{has_below, hides, HidesNone}
use Rattle.synced_trees.specs.Taken.{taken_marks, taken_sides, cuts_of, unsets_of, sync_commands, LeadsTo}
use Rattle.synced_trees.specs.Plans.{is_kind, is_removed, is_hidden_by, IsHiding, NoneHides, plan_commands, IsPlanOf}
use Rattle.synced_trees.specs.Plans.{IsHidden}
use Rattle.synced_trees.specs.Plans.{Counts, Hides, IsUnplanned}
use Rattle.synced_trees.specs.declared.plan.PlanFault.{PlanFault}
use Rattle.synced_trees.specs.declared.plan.PlanFault.TheVariants as faults
use Rattle.dump_streams.specs.declared.fault.StreamFault.{StreamFault}
use Rattle.synced_trees.proofs.Taking.{marks_rise, sides_rise}
use Rattle.synced_trees.specs.declared.plan.SyncPlan.{SyncPlan}
use Rattle.synced_trees.proofs.Cutting.{parent_inside}
use Rattle.synced_trees.proofs.Leads.{any_with, found_all, or_true}
use Rattle.synced_trees.proofs.Synced.{NodeTells, Differ, told_nodes, marked_below, below_found, file_told}
use Rattle.synced_trees.proofs.Synced.{inside_below}
use Rattle.synced_trees.specs.Leading.{led_by}
use Rattle.synced_trees.proofs.Lines.{changed_so}
use Rattle.synced_trees.proofs.Reached.{commands_lead, flat_marks}

-- ---- what a mark says

kind_from : (m : Option Mark) → is_kind m ≡ true → m ≡ Some Kind
kind_from None h = cc
kind_from (Some Removed) h = cc
kind_from (Some Added) h = cc
kind_from (Some Kind) h = refl
kind_from (Some Bytes) h = cc
kind_from (Some Names) h = cc

file_is_none : (p : Option Node) → is_file_node p ≡ true → is_directory_node p ≡ true → ⊥
file_is_none None h g = false≢true h
file_is_none (Some Directory) h g = false≢true h
file_is_none (Some (File bytes)) h g = false≢true g

-- a directory that becomes a file is of another kind
kind_of : (m : Option Mark) (o p : Option Node) → NodeTells m o p → is_directory_node o ≡ true → is_file_node p ≡ true
    → is_kind m ≡ true
kind_of None o p h is is' = absurd (file_is_none p is' (ap is_directory_node (sym h) ∙ is))
kind_of (Some Removed) o p h is is' = absurd (false≢true (sym (ap is_file_node h.1) ∙ is'))
kind_of (Some Added) o p h is is' = absurd (false≢true (sym (ap is_directory_node h.0) ∙ is))
kind_of (Some Kind) o p h is is' = refl
kind_of (Some Bytes) o p h is is' = absurd (file_is_none o h.0 is)
kind_of (Some Names) o p h is is' = absurd (file_is_none p is' (ap is_directory_node (sym h.0) ∙ is))

-- what stands in the first tree alone goes
alone_removed : (m : Option Mark) (o p : Option Node) → NodeTells m o p → is_some o ≡ true → is_some p ≡ false
    → m ≡ Some Removed
alone_removed None o p h is none = absurd (false≢true (sym none ∙ ap is_some (sym h) ∙ is))
alone_removed (Some Removed) o p h is none = refl
alone_removed (Some Kind) o p h is none = absurd (false≢true (sym none ∙ h.1))
alone_removed (Some Added) o p h is none = absurd (false≢true (sym none ∙ h.1))
alone_removed (Some Bytes) o p h is none = by_node p h.1 none
  where
    by_node : (p : Option Node) → is_file_node p ≡ true → is_some p ≡ false → Some Bytes ≡ Some Removed
    by_node None g n = absurd (false≢true g)
    by_node (Some k) g n = absurd (false≢true (sym n))
alone_removed (Some Names) o p h is none = absurd (false≢true (sym none ∙ ap is_some (sym h.0) ∙ is))

module _ (old told : Tree) (marks : List (Path × Mark)) (sides : List (AttributePlace × Side)) where
  abbrev Differs : Type 0
  Differs = Differ true old told marks sides

  nodes : Differs → (x : Path) → NodeTells (find path_cmp x marks) (node_at old x) (node_at told x)
  nodes differ x = told_nodes true (λ a. true) old told marks sides differ x

  pub hiding_hides : Differs → (p : Path) → IsHiding marks p → hides old told p ≡ true
  hiding_hides differ p hiding =
      let q : Path = hiding.below in
      let below : is_root q ≡ false = marked_below true (λ a. true) old told marks sides differ q
      (ap is_some hiding.gone) in
      let gone : NodeTells (Some Removed) (node_at old q) (node_at told q) =
      subst (λ (m : Option Mark). NodeTells m (node_at old q) (node_at told q)) hiding.gone (nodes differ q) in
      let entry = entry_at old q differ.old_is below gone.0 in
      let up : is_directory old p ≡ true = ap (is_directory old) hiding.parent_is ∙ (entry.2).parent_directory in
      let kind : NodeTells (Some Kind) (node_at old p) (node_at told p) =
      subst (λ (m : Option Mark). NodeTells m (node_at old p) (node_at told p))
      (kind_from (find path_cmp p marks) hiding.kind) (nodes differ p) in
      let inside : is_inside q p ≡ true = inside_from_parent q p below
      (ap (λ b. b || is_inside (parent q) p) (same_path-from_equal (parent q) p (sym hiding.parent_is))) in
      and_from (is_directory old p && is_file told p) (has_below old p)
      (and_from (is_directory old p) (is_file told p) up (file_told (node_at old p) (node_at told p) kind.2 up))
      (below_found old q p (sym (exists-find old q below) ∙ gone.0) inside)

  climb : Differs → NoneHides marks → (p : Path) → is_kind (find path_cmp p marks) ≡ true → is_file told p ≡ true
      → (n : ℕ) (y : Path) → length y ≤ n → is_root y ≡ false → exists old y ≡ true → is_inside y p ≡ true → ⊥
  climb differ none p kind file zero y short below some inside =
      let last = last_step y below in
      absurd (omega (arith, ap length last.1, length-append (parent y) (last.0 ∷ []), short))
  climb differ none p kind file (suc n) y short below some inside =
      let last = last_step y below in
      let up : is_directory old (parent y) ≡ true = ((entry_at old y differ.old_is below some).2).parent_directory in
      by_place up (λ is in_p. climb differ none p kind file n (parent y)
      (omega (arith, ap length last.1, length-append (parent y) (last.0 ∷ []), short)) is
      (exists_from_directory (node_at old (parent y)) up) in_p)
      (or_cases (same_path (parent y) p) (is_inside (parent y) p) (parent_inside y p inside))
    where
      gone : parent y ≡ p → is_some (node_at told y) ≡ false
      gone same = by_test (exists told y) refl
        where
          by_test : (b : Bool) → exists told y ≡ b → b ≡ false
          by_test false e = refl
          by_test true e = absurd (file_is_none (node_at told p) file
              (ap (is_directory told) (sym same) ∙ ((entry_at told y differ.told_is below e).2).parent_directory))

      by_place : is_directory old (parent y) ≡ true
          → (is_root (parent y) ≡ false → is_inside (parent y) p ≡ true → ⊥)
          → (same_path (parent y) p ≡ true) ⊎ (is_inside (parent y) p ≡ true) → ⊥
      by_place up rest (inl same) =
          let at : parent y ≡ p = same_from_test (parent y) p same in
          none y (alone_removed (find path_cmp y marks) (node_at old y) (node_at told y) (nodes differ y) some
          (gone at))
          (ap (λ (q : Path). is_kind (find path_cmp q marks)) at ∙ kind)
      by_place up rest (inr in_p) = rest (inside_below (parent y) p in_p) in_p

  pub none_hides : Differs → NoneHides marks → HidesNone old told
  none_hides differ none p = by_test (hides old told p) refl
    where
      by_test : (b : Bool) → hides old told p ≡ b → b ≡ false
      by_test false is = refl
      by_test true is =
          let parts = and_parts (is_directory old p && is_file told p) (has_below old p) is in
          let kinds = and_parts (is_directory old p) (is_file told p) parts.0 in
          let one = any_with (λ (e : Path × Entry). exists old e.0 ≡ true) (λ (e : Path × Entry). is_inside e.0 p) old
          (all_exist old) parts.1 in
          absurd (climb differ none p
          (kind_of (find path_cmp p marks) (node_at old p) (node_at told p) (nodes differ p) kinds.0 kinds.1) kinds.1
          (length (one.0).0) (one.0).0 (omega arith) (inside_below (one.0).0 p one.2) one.1 one.2)

-- ---- plans

module _ (whole whole' : Tree → Type 0) (found : Differences) (additions : List DumpStep)
    (with : AreFoundWith whole whole' found additions) where
  abbrev old : Tree
  old = (with.trees).one

  abbrev told : Tree
  told = (with.trees).other

  differs : Differ true old told (marks_of found.paths.items) (sides_of found.attributes.items)
  differs = record {
    old_is = with.one_is;
    told_is = with.other_is;
    are = (with.trees).differences;
    names = (with.trees).attributes;
    lays = λ never. absurd (false≢true (sym never));
  }

  -- what leads to what is told
  pub planned : (losses : Losses) (plan : SyncPlan) → Counts losses found plan.changed
      → (AreRising plan.changed → map removal_command plan.removals.items ≡ removal_commands plan.changed)
      → plan.additions.items ≡ additions → IsPlanOf losses whole whole' plan
  planned losses plan counts removed steps = record {
    old = old;
    told = told;
    first = (with.trees).first;
    second = (with.trees).second;
    plans = record {
      leads = leads;
      changes = subst (AreDifferences old (led_by old (plan_commands plan))) (sym counts.marks)
          (changed_so losses.paths (takes losses) old told (led_by old (plan_commands plan))
          (marks_of found.paths.items)
          (sides_of found.attributes.items) differs leads.synced);
    };
  }
    where
      rising : AreRising plan.changed
      rising = record {
        paths = subst (λ (es : List (Path × Mark)). IsTrue (is_sorted path_cmp es)) (sym counts.marks)
            (marks_rise losses.paths (takes losses) (marks_of found.paths.items) (sides_of found.attributes.items)
            ((with.trees).differences).rising);
        attributes = subst (λ (es : List (AttributePlace × Side)). IsTrue (is_sorted attribute_cmp es))
            (sym counts.sides)
            (sides_rise (takes losses) (sides_of found.attributes.items) ((with.trees).attributes).rising);
      }

      cuts_are : flat_map (cut_commands (marks_of plan.changed.paths.items)) plan.changed.paths.items
          ≡ cuts_of (taken_marks losses.paths (takes losses) (marks_of found.paths.items)
          (sides_of found.attributes.items))
      cuts_are = flat_marks (λ (d : Difference). (d.path, d.mark))
          (λ (e : Path × Mark). cut_of (is_pruned (find path_cmp (parent e.0) (marks_of plan.changed.paths.items))) e.1
          e.0)
          (cut_commands (marks_of plan.changed.paths.items)) (λ d. refl) plan.changed.paths.items
          ∙ ap cuts_of counts.marks

      unsets_are : flat_map unset_commands plan.changed.attributes.items
          ≡ unsets_of (taken_sides (takes losses) (sides_of found.attributes.items))
      unsets_are = flat_marks (λ (a : AttributeDifference). ((a.path, a.name), a.side))
          (λ (e : AttributePlace × Side). unset_of e.1 (e.0).0 (e.0).1) unset_commands (λ a. refl)
          plan.changed.attributes.items
          ∙ ap unsets_of counts.sides

      commands_are : plan_commands plan ≡ sync_commands losses.paths (takes losses) found (dump told)
      commands_are = ap (λ (cs : List Command). cs ++ map command_of_step plan.additions.items) (removed rising)
          ∙ (λ i. cuts_are i ++ unsets_are i ++ map command_of_step ((steps ∙ with.kept) i))

      leads : LeadsTo losses.paths (takes losses) old told (plan_commands plan)
      leads = subst (LeadsTo losses.paths (takes losses) old told) (sym commands_are)
          (commands_lead losses.paths (takes losses) old told found with.one_is with.other_is (with.trees).differences
          (with.trees).attributes
          (λ lays. none_hides old told (marks_of found.paths.items) (sides_of found.attributes.items) differs
          (counts.none lays)))

  -- and where something would be hidden
  pub hidden_so : (losses : Losses) (p : Path) → losses.paths ≡ false → IsHiding (marks_of found.paths.items) p
      → IsHidden losses whole whole' p
  hidden_so losses p is hiding = record {
    old = old;
    told = told;
    first = (with.trees).first;
    second = (with.trees).second;
    keeps = is;
    hidden = hiding_hides old told (marks_of found.paths.items) (sides_of found.attributes.items) differs p hiding;
  }

-- ---- a search for what is hidden

abbrev pub is_hidden_at : List (Path × Mark) → Difference → Bool
is_hidden_at paths d = is_hidden_by paths (d.path, d.mark)

removed_from : (m : Mark) → is_removed m ≡ true → m ≡ Removed
removed_from Removed h = refl
removed_from Added h = cc
removed_from Kind h = cc
removed_from Bytes h = cc
removed_from Names h = cc

-- an entry that is hidden hides
pub hiding_so : (items : List Difference) (d : Difference) (p : Path)
    → find path_cmp d.path (marks_of items) ≡ Some d.mark
    → p ≡ parent d.path → is_hidden_at (marks_of items) d ≡ true → IsHiding (marks_of items) p
hiding_so items d p found same is =
    let parts = and_parts (is_removed d.mark) (is_kind (find path_cmp (parent d.path) (marks_of items))) is in
    record {
      below = d.path;
      gone = found ∙ ap (λ (m : Mark). Some m) (removed_from d.mark parts.0);
      parent_is = same;
      kind = ap (λ (q : Path). is_kind (find path_cmp q (marks_of items))) same ∙ parts.1;
    }

-- where none is, none hides
pub none_so : (items : List Difference) → list_any (is_hidden_at (marks_of items)) items ≡ false
    → NoneHides (marks_of items)
none_so items none below gone kind = false≢true (sym none ∙ some items gone)
  where
    some : (ds : List Difference) → find path_cmp below (marks_of ds) ≡ Some Removed
        → list_any (is_hidden_at (marks_of items)) ds ≡ true
    some [] h = cc
    some (d ∷ ds) h = by_test (some ds) (same_path below d.path) refl h
      where
        by_test : (find path_cmp below (marks_of ds) ≡ Some Removed
            → list_any (is_hidden_at (marks_of items)) ds ≡ true)
            → (b : Bool) → same_path below d.path ≡ b
            → cond b (Some d.mark) (find path_cmp below (marks_of ds)) ≡ Some Removed
            → (is_hidden_at (marks_of items) d || list_any (is_hidden_at (marks_of items)) ds) ≡ true
        by_test rest true same is =
            let mark : d.mark ≡ Removed = cc in
            let at : d.path ≡ below = sym (same_from_test below d.path same) in
            ap (λ b. b || list_any (is_hidden_at (marks_of items)) ds)
            ((λ i. is_removed (mark i) && is_kind (find path_cmp (parent (at i)) (marks_of items))) ∙ kind)
        by_test rest false same is = or_true (is_hidden_at (marks_of items) d)
            (list_any (is_hidden_at (marks_of items)) ds) (rest is)

known_at : (all : List (Path × Mark)) (items : List Difference) (i : ℕ) (d : Difference)
    → AllByRecursion (λ (e : Path × Mark). find path_cmp e.0 all ≡ Some e.1) (marks_of items) → i < length items
    → find path_cmp (get_or items i d).path all ≡ Some (get_or items i d).mark
known_at all [] i d known below = absurd (omega arith)
known_at all (x ∷ items) zero d known below = known.0
known_at all (x ∷ items) (suc i) d known below = known_at all items i d known.1 (omega arith)

-- each difference is found
pub item_known : (items : List Difference) (i : ℕ) (d : Difference) → IsTrue (is_sorted path_cmp (marks_of items))
    → i < length items → d ≡ get_or items i d → find path_cmp d.path (marks_of items) ≡ Some d.mark
item_known items i d sorted below is =
    subst (λ (e : Difference). find path_cmp e.path (marks_of items) ≡ Some e.mark) (sym is)
    (known_at (marks_of items) items i d
    (found_all path_cmp path_cmp_total (marks_of items) (rising_from_is_sorted path_cmp (marks_of items) sorted)) below)

pub rising_of : (whole whole' : Tree → Type 0) (found : Differences) (additions : List DumpStep)
    → AreFoundWith whole whole' found additions → AreRising found
rising_of whole whole' found additions with = record {
  paths = ((with.trees).differences).rising;
  attributes = ((with.trees).attributes).rising;
}

-- ---- results

-- what is known of a value that is handed on
pub ok_through : {V E F : Type 0} (r : Result V E) (s : Result V F) (P : V → Type 0) (Q : E → Type 0)
    → MatchResult r (λ x. s ≡ Ok x) Q → is_ok s ≡ is_ok r → IfOk r P → (v : V) → s ≡ Ok v → P v
ok_through (Ok x) s P Q cases variant known v is = let same : x ≡ v = cc in subst P same known
ok_through (Err e) s P Q cases variant known v is = absurd (false≢true (sym variant ∙ ap is_ok is))

-- and of a fault
pub err_so : {V E : Type 0} (r : Result V E) (fault : E) (P : E → Type 0) → IsErrAnd r (λ e. e ≡ fault) → P fault
    → IfErr r P
err_so (Ok x) fault P is known = tt
err_so (Err e) fault P is known = subst P (sym is) known

-- why it is not planned
pub hides_so : (whole whole' : Tree → Type 0) (found : Differences) (additions : List DumpStep)
    (with : AreFoundWith whole whole' found additions) (came came' : Tree → Type 0) (fails fails' : Tree → StreamFault
    → Type 0)
    (losses : Losses) (fault : PlanFault)
    → Hides losses.paths (marks_of found.paths.items) fault → IsUnplanned losses came whole fails came' whole' fails'
    fault
hides_so whole whole' found additions with came came' fails fails' losses (faults.Compare cause) h = absurd h
hides_so whole whole' found additions with came came' fails fails' losses (faults.Hidden p) h =
    hidden_so whole whole' found additions with losses p h.0 h.1
