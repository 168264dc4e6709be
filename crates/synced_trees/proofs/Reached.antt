-- What the commands of differences reach.
use Rattle.std.proofs.Common.{◌≡◌, ℕ, List, [], ◌∷◌, ◌++◌, map, Bool, true, false, ◌||◌, cond, IsTrue, T, Option, Some}
use Rattle.std.proofs.Common.{None}
use Rattle.std.proofs.Common.{is_some, IsNone, refl, sym, ap, ap₂, subst, ◌∙◌}
use Rattle.std.specs.List.{filter, flat_map}
use Rattle.std.specs.Option.{option_or}
use Rattle.std.specs.FinMap.{find, is_sorted}
use Rattle.std.specs.FinMap.Entries.{same_entries}
use Rattle.std.proofs.lemmas.Bool.{false≢true}
use Rattle.store_model.specs.declared.version.Version.TheVariants.{Two}
use Rattle.store_model.specs.declared.draw_kind.DrawKind.TheVariants.{Ruler}
use Rattle.store_model.specs.Parameters.{Parameters}
use Rattle.store_model.specs.Paths.{Path, Name, path_cmp, name_cmp, parent}
use Rattle.store_model.specs.Trees.{Tree, Node, Entry, IsTree, node_of, node_at, attributes_of, attributes_at}
use Rattle.store_model.specs.Trees.{attribute_at, is_file_node}
use Rattle.store_model.specs.Trees.Node.{Directory, File}
use Rattle.store_model.specs.Pages.{IsTreeUnder}
use Rattle.store_model.specs.Commands.{Command}
use Rattle.store_model.proofs.PathsLemmasPlaces.{name_cmp_total, same_name_from_tie}
use Rattle.store_model.proofs.TreesLemmas.{find-root, AreAttributes-attributes_at}
use Rattle.store_model.proofs.TreesLemmasPaths.{path_cmp_total, same_from_tie}
use Rattle.dump_streams.specs.Dumps.{DumpStep, dump, command_of_step}
use Rattle.dump_streams.specs.Dumps.DumpStep.{Make, Write, Set}
use Rattle.dump_streams.proofs.Chains.{dump_chain}
use Rattle.dump_streams.proofs.DumpFronts.{empty_under}
use Rattle.dump_diff.specs.declared.difference.Mark.{Mark}
use Rattle.dump_diff.specs.declared.difference.Mark.TheVariants.{Removed, Added, Kind, Bytes, Attributes as Names}
use Rattle.dump_diff.specs.declared.difference.Side.{Side}
use Rattle.dump_diff.specs.declared.difference.Side.TheVariants.{First, Second, Both}
use Rattle.dump_diff.specs.declared.differences.Differences.{Differences}
use Rattle.dump_diff.specs.Differences.{AreDifferences, marks_of}
use Rattle.dump_diff.specs.Sides.{AreAttributeDifferences, FitsMark, TellsSide}
use Rattle.dump_diff.specs.Scripts.{AttributePlace, attribute_cmp, is_addition, is_made, is_written, is_set, is_pruned}
use Rattle.dump_diff.specs.Scripts.{sides_of}
use Rattle.dump_diff.specs.Scripts.{cut_of, unset_of, cut_commands, unset_commands, removal_commands}
use Rattle.dump_diff.specs.declared.difference.Difference.{Difference}
use Rattle.dump_diff.specs.declared.difference.AttributeDifference.{AttributeDifference}
use Rattle.synced_trees.specs.Leading.{AreAllowed, led_by}
use Rattle.synced_trees.specs.Syncing.{synced, differ_in_kind, goes, IsSynced, HidesNone}
use Rattle.dump_diff.specs.Gains.{counts_by, counts, counts_at, changes_by, changes_path}
use Rattle.synced_trees.specs.Taken.{taken_marks, taken_sides, cuts_of, unsets_of, sync_commands, LeadsTo}
use Rattle.synced_trees.proofs.Leads.{allowed_append, led_append}
use Rattle.synced_trees.proofs.Laying.{laid, chosen, chosen_commands, IsLaid, laying}
use Rattle.synced_trees.proofs.Cutting.{cut_node, CutTo, cut_all}
use Rattle.synced_trees.proofs.Unsetting.{dropped_at, UnsetTo, unset_all}
use Rattle.synced_trees.proofs.Taking.{taken_mark, taken_side, find_mark}
use Rattle.synced_trees.proofs.Synced.{NodeTells, Differ, no_attribute, told_nodes, mark_is, side_is, may_cut}
use Rattle.synced_trees.proofs.Synced.{may_unset}
use Rattle.synced_trees.proofs.Synced.{may_lie, node_left, made_at, written_at, named_at}

-- ---- what is reached

pub or_some : {X : Type 0} (p o : Option X) → is_some p ≡ true → option_or p o ≡ p
or_some None o h = cc
or_some (Some n) o h = refl

pub or_same : {X : Type 0} (o p : Option X) → o ≡ p → o ≡ option_or p o
or_same o None h = refl
or_same o (Some n) h = h

-- what is the same in both stays
pub synced_same : {X : Type 0} (d : Bool) (o p : Option X) → o ≡ p → synced d o p ≡ o
synced_same true o p h = sym h
synced_same false o p h = sym (or_same o p h)

-- and what is told comes
pub synced_some : {X : Type 0} (d : Bool) (o p : Option X) → is_some p ≡ true → synced d o p ≡ p
synced_some true o p h = refl
synced_some false o p h = or_some p o h

pub file_some : (p : Option Node) → is_file_node p ≡ true → is_some p ≡ true
file_some None h = cc
file_some (Some n) h = refl

pub none_is : {X : Type 0} (o : Option X) → IsNone o → o ≡ None
none_is None h = refl
none_is (Some n) h = cc

node_reached : (d some : Bool) (m : Option Mark) (o p : Option Node) → NodeTells m o p
    → laid (is_written m) p (cut_node (taken_mark d some m) o) ≡ synced d o p
node_reached d some None o p h = sym (synced_same d o p h)
node_reached true some (Some Removed) o p h = sym h.1
node_reached false some (Some Removed) o p h = ap (λ (q : Option Node). option_or q o) (sym h.1)
node_reached d some (Some Added) o p h = or_some p o h.1 ∙ sym (synced_some d o p h.1)
node_reached d some (Some Kind) o p h = or_some p None h.1 ∙ sym (synced_some d o p h.1)
node_reached d some (Some Bytes) o p h = or_some p (Some (File [])) (file_some p h.1)
    ∙ sym (synced_some d o p (file_some p h.1))
node_reached d true (Some Names) o p h = sym (synced_same d o p h.0)
node_reached d false (Some Names) o p h = sym (synced_same d o p h.0)

pub same_kind_itself : (o p : Option Node) → o ≡ p → differ_in_kind o p ≡ false
same_kind_itself o p h = ap (differ_in_kind o) (sym h) ∙ by_node o
  where
    by_node : (o : Option Node) → differ_in_kind o o ≡ false
    by_node None = refl
    by_node (Some Directory) = refl
    by_node (Some (File bytes)) = refl

pub same_kind_files : (o p : Option Node) → is_file_node o ≡ true → is_file_node p ≡ true → differ_in_kind o p ≡ false
same_kind_files None p h g = refl
same_kind_files (Some Directory) p h g = cc
same_kind_files (Some (File bytes)) None g h = refl
same_kind_files (Some (File bytes)) (Some Directory) h g = cc
same_kind_files (Some (File bytes)) (Some (File others)) h g = refl

-- an attribute of a path that stays of its kind
name_reached : (t : Bool) (s : Option Side) (u v : Option (List ℕ)) → TellsSide s u v
    → laid (is_set s) v (cond (dropped_at (taken_side t s)) None u) ≡ synced t u v
name_reached t None u v h = sym (synced_same t u v h)
name_reached true (Some First) u v h = sym (none_is v h.1)
name_reached false (Some First) u v h = ap (λ (w : Option (List ℕ)). option_or w u) (sym (none_is v h.1))
name_reached t (Some Second) u v h = or_some v u h.1 ∙ sym (synced_some t u v h.1)
name_reached t (Some Both) u v h = or_some v None h.1 ∙ sym (synced_some t u v h.1)

-- of such a path those go that are taken
pub goes_taken : (d t : Bool) (o p : Option Node) → is_some p ≡ true → differ_in_kind o p ≡ false → goes d t o p ≡ t
goes_taken d t o None h k = cc
goes_taken d true o (Some n) h k = refl
goes_taken d false o (Some n) h k = k

goes_kind : (d t : Bool) (o p : Option Node) → is_some p ≡ true → differ_in_kind o p ≡ true → goes d t o p ≡ true
goes_kind d t o None h k = cc
goes_kind d true o (Some n) h k = refl
goes_kind d false o (Some n) h k = k

pub goes_gone : (d t : Bool) (o p : Option Node) → p ≡ None → goes d t o p ≡ d
goes_gone d t o None h = refl
goes_gone d t o (Some n) h = cc

or_none : {X : Type 0} (v : Option X) → option_or v None ≡ v
or_none None = refl
or_none (Some n) = refl

cond_none : {X : Type 0} (b : Bool) (u : Option X) → u ≡ None → cond b None u ≡ None
cond_none true u h = refl
cond_none false u h = h

none_kind : (o p : Option Node) → o ≡ None → differ_in_kind o p ≡ false
none_kind o p h = ap (λ (q : Option Node). differ_in_kind q p) h

pub kind_none : (o p : Option Node) → p ≡ None → differ_in_kind o p ≡ false
kind_none o p h = ap (differ_in_kind o) h ∙ by_node o
  where
    by_node : (o : Option Node) → differ_in_kind o None ≡ false
    by_node None = refl
    by_node (Some Directory) = refl
    by_node (Some (File bytes)) = refl

stays_so : (d t : Bool) (s : Option Side) (o p : Option Node) (u v : Option (List ℕ)) → TellsSide s u v
    → differ_in_kind o p ≡ false → (p ≡ None → (u ≡ None) × (v ≡ None))
    → laid (is_set s) v (cond (dropped_at (taken_side t s)) None u) ≡ synced (goes d t o p) u v
stays_so d t s o None u v h k f =
    let same : u ≡ v = (f refl).0 ∙ sym (f refl).1 in
    by_side s h (synced_same d u v same ∙ (f refl).0)
  where
    by_side : (s : Option Side) → TellsSide s u v → synced d u v ≡ None
        → laid (is_set s) v (cond (dropped_at (taken_side t s)) None u) ≡ synced d u v
    by_side None h is = (f refl).0 ∙ sym is
    by_side (Some First) h is = absurd (false≢true (ap is_some (sym (f refl).0) ∙ h.0))
    by_side (Some Second) h is = absurd (false≢true (ap is_some (sym (f refl).1) ∙ h.1))
    by_side (Some Both) h is = absurd (false≢true (ap is_some (sym (f refl).0) ∙ h.0))
stays_so d t s o (Some n) u v h k f = name_reached t s u v h
    ∙ ap (λ b. synced b u v) (sym (goes_taken d t o (Some n) refl k))

attribute_reached : (d t some : Bool) (m : Option Mark) (s : Option Side) (o p : Option Node) (u v : Option (List ℕ))
    → NodeTells m o p → FitsMark m s u v → (o ≡ None → u ≡ None) → (p ≡ None → v ≡ None)
    → laid (is_made m || is_set s) v (cond (dropped_at (taken_side t s)) None
    (cond (is_pruned (taken_mark d some m)) None u)) ≡ synced (goes d t o p) u v
attribute_reached d t some None s o p u v h fits f g =
    stays_so d t s o p u v fits (same_kind_itself o p h) (λ none. (f (h ∙ none), g none))
attribute_reached d t some (Some Bytes) s o p u v h fits f g =
    stays_so d t s o p u v fits (same_kind_files o p h.0 h.1)
    (λ none. absurd (false≢true (ap is_file_node (sym none) ∙ h.1)))
attribute_reached d t true (Some Names) s o p u v h fits f g =
    stays_so d t s o p u v fits (same_kind_itself o p h.0) (λ none. (f (h.0 ∙ none), g none))
attribute_reached d t false (Some Names) s o p u v h fits f g =
    stays_so d t s o p u v fits (same_kind_itself o p h.0) (λ none. (f (h.0 ∙ none), g none))
attribute_reached d t some (Some Removed) s o p u v h fits f g =
    ap (λ (r : Option Side). laid (is_set r) v (cond (dropped_at (taken_side t r)) None
    (cond (is_pruned (taken_mark d some (Some Removed))) None u))) fits ∙ by_deletes d
    ∙ ap (λ b. synced b u v) (sym (goes_gone d t o p h.1))
  where
    by_deletes : (d : Bool) → cond (is_pruned (taken_mark d some (Some Removed))) None u ≡ synced d u v
    by_deletes true = sym (g h.1)
    by_deletes false = ap (λ (w : Option (List ℕ)). option_or w u) (sym (g h.1))
attribute_reached d t some (Some Added) s o p u v h fits f g =
    ap (option_or v) (cond_none (dropped_at (taken_side t s)) u (f h.0)) ∙ or_none v ∙ by_goes (goes d t o p)
  where
    by_goes : (b : Bool) → v ≡ synced b u v
    by_goes true = refl
    by_goes false = sym (or_none v) ∙ ap (option_or v) (sym (f h.0))
attribute_reached d t some (Some Kind) s o p u v h fits f g =
    ap (option_or v) (cond_none (dropped_at (taken_side t s)) None refl) ∙ or_none v
    ∙ ap (λ b. synced b u v) (sym (goes_kind d t o p h.1 h.2))

module _ (deletes : Bool) (takes : Name → Bool) (old told : Tree) (found : Differences) where
  abbrev paths : List (Path × Mark)
  paths = marks_of found.paths.items

  abbrev attributes : List (AttributePlace × Side)
  attributes = sides_of found.attributes.items

  abbrev chosen_in : DumpStep → Bool
  chosen_in s = chosen (made_at deletes takes old told paths attributes)
      (written_at deletes takes old told paths attributes)
      (named_at deletes takes old told paths attributes) s

  same_choice : (s : DumpStep) → is_addition found s ≡ chosen_in s
  same_choice (Make x) = refl
  same_choice (Write x at bytes) = refl
  same_choice (Set x a bytes) = refl

  same_filter : (steps : List DumpStep) → filter (is_addition found) steps ≡ filter chosen_in steps
  same_filter [] = refl
  same_filter (s ∷ steps) = ap (λ b. cond b (s ∷ filter (is_addition found) steps) (filter (is_addition found) steps))
      (same_choice s)
      ∙ ap (λ (rest : List DumpStep). cond (chosen_in s) (s ∷ rest) rest) (same_filter steps)

-- ---- one tree

-- where trees have the same at a path, they have one entry there
pub same_entry : (t u : Tree) → IsTree t → IsTree u → (x : Path) → node_at t x ≡ node_at u x
    → ((n : Name) → attribute_at t x n ≡ attribute_at u x n) → find path_cmp x t ≡ find path_cmp x u
same_entry t u is is' [] node names = find-root t is ∙ sym (find-root u is')
same_entry t u is is' (k ∷ x) node names = by_entries (find path_cmp (k ∷ x) t) (find path_cmp (k ∷ x) u) node
    (same_entries name_cmp name_cmp_total same_name_from_tie (attributes_at t (k ∷ x)) (attributes_at u (k ∷ x))
    (subst T (sym (AreAttributes-attributes_at t (k ∷ x) is).sorted) tt)
    (subst T (sym (AreAttributes-attributes_at u (k ∷ x) is').sorted) tt) names)
  where
    by_entries : (e f : Option Entry) → node_of e ≡ node_of f → attributes_of e ≡ attributes_of f → e ≡ f
    by_entries None None node held = refl
    by_entries None (Some f) node held = cc
    by_entries (Some e) None node held = cc
    by_entries (Some e) (Some f) node held = let same : e.node ≡ f.node = cc in
        λ i. Some (record { node = same i; attributes = held i })

-- trees that have the same everywhere are one
pub same_trees : (t u : Tree) → IsTree t → IsTree u → ((x : Path) → node_at t x ≡ node_at u x)
    → ((x : Path) (n : Name) → attribute_at t x n ≡ attribute_at u x n) → t ≡ u
same_trees t u is is' nodes names = same_entries path_cmp path_cmp_total same_from_tie t u (subst T (sym is.sorted) tt)
    (subst T (sym is'.sorted) tt) (λ x. same_entry t u is is' x (nodes x) (names x))

-- there is one tree at most that holds what is told
pub synced_once : (deletes : Bool) (takes : Name → Bool) (old told new other : Tree)
    → IsSynced deletes takes old told new
    → IsSynced deletes takes old told other → new ≡ other
synced_once deletes takes old told new other one two = same_trees new other one.is_tree two.is_tree
    (λ x. one.nodes x ∙ sym (two.nodes x)) (λ x n. one.attributes x n ∙ sym (two.attributes x n))

-- and where what is not told goes, and all attributes do, it is what is told
pub synced_whole : (takes : Name → Bool) (old told new : Tree) → IsTree told → ((a : Name) → takes a ≡ true)
    → IsSynced true takes old told new → new ≡ told
synced_whole takes old told new is all one = same_trees new told one.is_tree is one.nodes
    (λ x n. one.attributes x n ∙ ap (λ b. synced b (attribute_at old x n) (attribute_at told x n))
    (all_go (node_at old x) (node_at told x) (takes n) (all n)))
  where
    all_go : (o p : Option Node) (t : Bool) → t ≡ true → goes true t o p ≡ true
    all_go o None t h = refl
    all_go o (Some n) true h = refl
    all_go o (Some n) false h = cc

-- ---- the commands

some_parameters : Parameters
some_parameters = record { slots = 1; height = 1; kind = Ruler; seed = []; version = Two }

under_some : (t : Tree) → IsTree t → IsTreeUnder t some_parameters
unfolding some_parameters
under_some t is = record { is_tree = is; bare = λ lacks. absurd (false≢true (sym lacks)) }

start_node : (w : Bool) (r : Tree) (x : Path) → node_at r x ≡ laid w (node_at [] x) (node_at r x)
start_node true r [] = refl
start_node false r [] = refl
start_node true r (k ∷ x) = refl
start_node false r (k ∷ x) = refl

start_name : {X : Type 0} (w : Bool) (o : Option X) → o ≡ laid w None o
start_name true o = refl
start_name false o = refl

-- what is laid over what is left holds what is told
synced_so : (deletes : Bool) (takes : Name → Bool) (old told : Tree) (marks : List (Path × Mark))
    (sides : List (AttributePlace × Side))
    (m r new : Tree) → Differ deletes old told marks sides → CutTo old (taken_marks deletes takes marks sides) m
    → UnsetTo m (taken_sides takes sides) r
    → IsLaid told r (made_at deletes takes old told marks sides) (written_at deletes takes old told marks sides)
    (named_at deletes takes old told marks sides) some_parameters told new
    → IsSynced deletes takes old told new
synced_so deletes takes old told marks sides m r new differ cut unset lay = record {
  is_tree = lay.is_tree;
  nodes = λ x. lay.nodes x
      ∙ ap (laid (is_written (find path_cmp x marks)) (node_at told x))
      (node_left deletes takes old told marks sides differ m r cut unset x)
      ∙ node_reached deletes (counts_at takes sides x) (find path_cmp x marks) (node_at old x) (node_at told x)
      (told_nodes deletes takes old told marks sides differ x);
  attributes = λ x n. lay.names x n
      ∙ ap (laid (is_made (find path_cmp x marks) || is_set (find attribute_cmp (x, n) sides)) (attribute_at told x n))
      (unset.names x n
      ∙ ap (cond (dropped_at (find attribute_cmp (x, n) (taken_sides takes sides))) None) (cut.names x n
      ∙ ap (λ (k : Option Mark). cond (is_pruned k) None (attribute_at old x n))
      (mark_is deletes takes old told marks sides differ x))
      ∙ ap (λ (k : Option Side). cond (dropped_at k) None
      (cond (is_pruned (taken_mark deletes (counts_at takes sides x) (find path_cmp x marks))) None
      (attribute_at old x n)))
      (side_is deletes takes old told marks sides differ x n))
      ∙ attribute_reached deletes (takes n) (counts_at takes sides x) (find path_cmp x marks)
      (find attribute_cmp (x, n) sides)
      (node_at old x) (node_at told x) (attribute_at old x n) (attribute_at told x n)
      (told_nodes deletes takes old told marks sides differ x) ((differ.names).each x n)
      (no_attribute old x n) (no_attribute told x n);
}

-- commands of three parts
joined : (deletes : Bool) (takes : Name → Bool) (old told : Tree) (cs ds es fs : List Command) → fs ≡ es
    → AreAllowed old cs
    → AreAllowed (led_by old cs) ds → AreAllowed (led_by (led_by old cs) ds) es
    → IsSynced deletes takes old told (led_by (led_by (led_by old cs) ds) es)
    → LeadsTo deletes takes old told (cs ++ ds ++ fs)
joined deletes takes old told cs ds es fs same first second third reached =
    subst (λ (gs : List Command). LeadsTo deletes takes old told (cs ++ ds ++ gs)) (sym same) (record {
      allowed = allowed_append (cs ++ ds) es old (allowed_append cs ds old first second)
          (subst (λ (t : Tree). AreAllowed t es) (sym (led_append cs ds old)) third);
      synced = subst (IsSynced deletes takes old told) (sym (led_append (cs ++ ds) es old
          ∙ ap (λ (t : Tree). led_by t es) (led_append cs ds old))) reached;
    })

pub commands_lead : (deletes : Bool) (takes : Name → Bool) (old told : Tree) (found : Differences) → IsTree old
    → IsTree told
    → AreDifferences old told (marks_of found.paths.items)
    → AreAttributeDifferences old told (marks_of found.paths.items) (sides_of found.attributes.items)
    → (deletes ≡ false → HidesNone old told)
    → LeadsTo deletes takes old told (sync_commands deletes takes found (dump told))
commands_lead deletes takes old told found old_is told_is are names lays =
    let marks = marks_of found.paths.items in
    let sides = sides_of found.attributes.items in
    let differ : Differ deletes old told marks sides =
    record { old_is = old_is; told_is = told_is; are = are; names = names; lays = lays } in
    let marks' = taken_marks deletes takes marks sides in
    let sides' = taken_sides takes sides in
    let cut = cut_all old marks' (may_cut deletes takes old told marks sides differ) in
    let m = led_by old (cuts_of marks') in
    let unset = unset_all m sides' (cut.1).is_tree (may_unset deletes takes old told marks sides differ m cut.1) in
    let r = led_by m (unsets_of sides') in
    let made = made_at deletes takes old told marks sides in
    let written = written_at deletes takes old told marks sides in
    let named = named_at deletes takes old told marks sides in
    let lay = laying told r made written named some_parameters (dump told) [] r
    (may_lie deletes takes old told marks sides differ m r cut.1 unset.1) (empty_under some_parameters)
    (dump_chain told some_parameters (under_some told told_is)) (record {
      is_tree = (unset.1).is_tree;
      nodes = λ x. start_node (written x) r x;
      names = λ x n. start_name (named x n) (attribute_at r x n);
    }) in
    joined deletes takes old told (cuts_of marks') (unsets_of sides') (chosen_commands made written named (dump told))
    (map command_of_step (filter (is_addition found) (dump told)))
    (ap (map command_of_step) (same_filter deletes takes old told found (dump told))) cut.0 unset.0 lay.0
    (synced_so deletes takes old told marks sides m r
    (led_by r (chosen_commands made written named (dump told))) differ cut.1 unset.1 lay.1)

-- the same commands as `diff --script` writes them
pub flat_marks : {X Y : Type 0} (f : X → Y) (g : Y → List Command) (h : X → List Command) → ((x : X) → h x ≡ g (f x))
    → (xs : List X) → flat_map h xs ≡ flat_map g (map f xs)
flat_marks f g h same [] = refl
flat_marks f g h same (x ∷ xs) = ap₂ (λ (a b : List Command). a ++ b) (same x) (flat_marks f g h same xs)

filter_all : {X : Type 0} (test : X → Bool) → ((x : X) → test x ≡ true) → (xs : List X) → filter test xs ≡ xs
filter_all test all [] = refl
filter_all test all (x ∷ xs) = ap₂ (λ b ys. cond b (x ∷ ys) ys) (all x) (filter_all test all xs)

-- where all attributes go, each of them counts
whole_sides : (sides : List (AttributePlace × Side)) → taken_sides (λ a. true) sides ≡ sides
whole_sides sides = filter_all (counts (λ a. true)) (λ e. by_side e.1) sides
  where
    by_side : (s : Side) → counts_by true s ≡ true
    by_side First = refl
    by_side Second = refl
    by_side Both = refl

-- what is left out of a list gives no command
cuts_alike : (test : Path × Mark → Bool) (f g : Path → Bool) → ((x : Path) → f x ≡ g x)
    → ((e : Path × Mark) → test e ≡ false → (b : Bool) → cut_of b e.1 e.0 ≡ []) → (es : List (Path × Mark))
    → flat_map (λ (e : Path × Mark). cut_of (f e.0) e.1 e.0) (filter test es)
    ≡ flat_map (λ (e : Path × Mark). cut_of (g e.0) e.1 e.0) es
cuts_alike test f g same idle [] = refl
cuts_alike test f g same idle (e ∷ es) = by_test (test e) refl
    ∙ ap₂ (λ b (cs : List Command). cut_of b e.1 e.0 ++ cs) (same e.0) (cuts_alike test f g same idle es)
  where
    by_test : (b : Bool) → test e ≡ b
        → flat_map (λ (x : Path × Mark). cut_of (f x.0) x.1 x.0) (cond b (e ∷ filter test es) (filter test es))
        ≡ cut_of (f e.0) e.1 e.0 ++ flat_map (λ (x : Path × Mark). cut_of (f x.0) x.1 x.0) (filter test es)
    by_test true is = refl
    by_test false is = ap (λ (cs : List Command).
        cs ++ flat_map (λ (x : Path × Mark). cut_of (f x.0) x.1 x.0) (filter test es)) (sym (idle e is (f e.0)))

whole_cuts : (takes : Name → Bool) (marks : List (Path × Mark)) (sides : List (AttributePlace × Side))
    → IsTrue (is_sorted path_cmp marks) → cuts_of (taken_marks true takes marks sides) ≡ cuts_of marks
whole_cuts takes marks sides sorted = cuts_alike (changes_path true takes sides)
    (λ x. is_pruned (find path_cmp (parent x) (taken_marks true takes marks sides)))
    (λ x. is_pruned (find path_cmp (parent x) marks))
    (λ x. ap is_pruned (find_mark true takes marks sides (parent x) sorted)
    ∙ by_mark (counts_at takes sides (parent x)) (find path_cmp (parent x) marks))
    (λ e is b. none (counts_at takes sides e.0) e.1 e.0 b is) marks
  where
    by_mark : (some : Bool) (m : Option Mark) → is_pruned (taken_mark true some m) ≡ is_pruned m
    by_mark some None = refl
    by_mark some (Some Removed) = refl
    by_mark some (Some Added) = refl
    by_mark some (Some Kind) = refl
    by_mark some (Some Bytes) = refl
    by_mark true (Some Names) = refl
    by_mark false (Some Names) = refl

    none : (some : Bool) (m : Mark) (x : Path) (b : Bool) → changes_by true m some ≡ false → cut_of b m x ≡ []
    none some Removed x b h = cc
    none some Added x b h = cc
    none some Kind x b h = cc
    none some Bytes x b h = cc
    none some Names x true h = refl
    none some Names x false h = refl

pub script_leads : (old told : Tree) (found : Differences) → IsTree old → IsTree told
    → AreDifferences old told (marks_of found.paths.items)
    → AreAttributeDifferences old told (marks_of found.paths.items) (sides_of found.attributes.items)
    → LeadsTo true (λ a. true) old told (removal_commands found
    ++ map command_of_step (filter (is_addition found) (dump told)))
script_leads old told found old_is told_is are names =
    subst (λ (cs : List Command). LeadsTo true (λ a. true) old told
    (cs ++ map command_of_step (filter (is_addition found) (dump told))))
    (sym (ap₂ (λ (a b : List Command). a ++ b)
    (flat_marks (λ (d : Difference). (d.path, d.mark))
    (λ (e : Path × Mark). cut_of (is_pruned (find path_cmp (parent e.0) (marks_of found.paths.items))) e.1 e.0)
    (cut_commands (marks_of found.paths.items)) (λ d. refl) found.paths.items
    ∙ sym (whole_cuts (λ a. true) (marks_of found.paths.items) (sides_of found.attributes.items) are.rising))
    (flat_marks (λ (a : AttributeDifference). ((a.path, a.name), a.side))
    (λ (e : AttributePlace × Side). unset_of e.1 (e.0).0 (e.0).1) unset_commands (λ a. refl)
    found.attributes.items
    ∙ ap unsets_of (sym (whole_sides (sides_of found.attributes.items))))))
    (commands_lead true (λ a. true) old told found old_is told_is are names (λ never. cc))
