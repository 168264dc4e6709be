-- What the host has of a tree, after all steps of its dump were carried out.
use Rattle.std.proofs.Common.{◌≡◌, ℕ, suc, ◌+◌, Bool, true, false, ◌==◌, ◌&&◌, ◌||◌, not, if◌then◌else◌, cond, List, []}
use Rattle.std.proofs.Common.{◌∷◌, ◌++◌, map, length, Less, arith}
use Rattle.std.proofs.Common.{Option, Some, Ok, refl, sym, ap, ap₂, subst, ◌∙◌}
use Rattle.std.specs.FinMap.{find}
use Rattle.std.specs.Ordering.{eq_by_cmp, is_eq}
use Rattle.std.specs.List.{AllByRecursion, filter, flat_map, list_any}
use Rattle.std.proofs.lemmas.Bool.{false≢true}
use Rattle.std.proofs.lemmas.List.{append-nil, map-append}
use Rattle.std.proofs.lemmas.List.Elements.{filter-append}
use Rattle.std.proofs.lemmas.List.Kept.{IsStrictlySortedBy-filter}
use Rattle.store_model.specs.declared.draw_kind.DrawKind.TheVariants.{Ruler}
use Rattle.store_model.specs.declared.version.Version.TheVariants.{Two}
use Rattle.store_model.specs.Lists.{same_bytes}
use Rattle.store_model.specs.Parameters.{Parameters}
use Rattle.store_model.specs.Paths.{Path, Name, name_cmp, path_cmp, parent, same_path}
use Rattle.store_model.specs.Pages.{IsTreeUnder}
use Rattle.store_model.specs.Trees.{Tree, Node, Entry, Attributes, IsTree, IsEntry, IsAttribute, AreAttributes}
use Rattle.store_model.specs.Trees.{is_directory, is_directory_node, node_of, without}
use Rattle.store_model.specs.Trees.Node.{Directory, File}
use Rattle.store_model.proofs.ListsLemmas.{all_map, all_weaker, all_filter, rising_from_is_sorted}
use Rattle.store_model.proofs.ListsLemmas.{is_sorted_from_rising}
use Rattle.store_model.proofs.ListsLemmas.{rising_to_map, rising_nil, rising_head, rising_tail}
use Rattle.store_model.proofs.ListsLemmas.{second_true}
use Rattle.store_model.proofs.TreesLemmasPaths.{path_cmp_total, same_path-itself}
use Rattle.dump_streams.specs.Dumps.{DumpStep, after_step, attribute_steps, step_path, dump}
use Rattle.dump_streams.specs.Dumps.DumpStep.{Make, Write, Set}
use Rattle.dump_streams.proofs.Chains.{Chain, dump_chain}
use Rattle.host_builder.specs.declared.attribute.Wanted.{Wanted}
use Rattle.host_builder.specs.declared.attribute.Links.{Links}
use Rattle.host_builder.specs.declared.attribute.Links.TheVariants as links
use Rattle.host_builder.specs.declared.attribute.HostAttribute.{HostAttribute}
use Rattle.host_builder.specs.declared.plan.Later.{Later}
use Rattle.host_builder.specs.declared.plan.Later.TheVariants as laters
use Rattle.host_builder.specs.declared.plan.Made.TheVariants as made
use Rattle.host_builder.specs.declared.plan.Plan.{Plan}
use Rattle.host_builder.specs.Builders.{BuilderState, IsObservable, steps_after, risen}
use Rattle.host_builder.specs.HostAttributes.{attribute_of, mtime_name, link_name}
use Rattle.host_builder.specs.Passing.{is_passed, passed, left_begins}
use Rattle.host_builder.specs.Takes.{TookSteps, IsFresh, Finishes, after_links, links_left_out, without_all}
use Rattle.host_builder.specs.Turns.{later_step, link_steps, link_paths, time_steps, steps_now, steps_later}
use Rattle.host_builder.specs.Views.{folder_has, file_has, link_has, kept, is_link, host_attributes, host_entry}
use Rattle.host_builder.specs.Views.{host_view, leaves_links, is_link_node, is_left_link, is_made, made_part}
use Rattle.host_builder.specs.Views.{count_left_out}
use Rattle.host_builder.proofs.Counting.{risen_more}
use Rattle.host_builder.proofs.PassedSteps.{passed_tree, passed_dump, left_count, passed_is_tree}
use Rattle.host_builder.proofs.ViewNames.{DoRise, AreAbove, none_above, now_names, later_names, link_named}
use Rattle.host_builder.proofs.ViewNames.{folder_named}
use Rattle.host_builder.proofs.ViewSteps.{now_entry, now_view, later_of, tree_now, tree_later}
use Rattle.host_builder.proofs.ViewSets.{AreRising, PathsRise, entry_with, with_entries, and_more, sets_each, turned}

-- ---- links, and times

is_link_step : DumpStep → Bool
is_link_step (Make path) = false
is_link_step (Write path at bytes) = false
is_link_step (Set path name bytes) = same_bytes name link_name

is_other_step : DumpStep → Bool
is_other_step (Make path) = true
is_other_step (Write path at bytes) = true
is_other_step (Set path name bytes) = not (same_bytes name link_name)

-- of what waits the links are made first
links_are : (later : List Later) → link_steps later ≡ filter is_link_step (map later_step later)
unfolding is_link_step
links_are [] = refl
links_are (laters.Link path target ∷ later) =
    ap (λ (rest : List DumpStep). Set path link_name target.items ∷ rest) (links_are later)
links_are (laters.Time path seconds ∷ later) = links_are later

times_are : (later : List Later) → time_steps later ≡ filter is_other_step (map later_step later)
unfolding is_other_step
times_are [] = refl
times_are (laters.Link path target ∷ later) = times_are later
times_are (laters.Time path seconds ∷ later) =
    ap (λ (rest : List DumpStep). later_step (laters.Time path seconds) ∷ rest) (times_are later)

-- steps that all set an attribute of the one name, or the other
only_links : (x : Path) (names : Attributes) → AllByRecursion (λ a. a.0 ≡ link_name) names
    → (filter is_link_step (attribute_steps x names) ≡ attribute_steps x names)
    × (filter is_other_step (attribute_steps x names) ≡ [])
unfolding is_link_step is_other_step attribute_steps
only_links x [] are = (refl, refl)
only_links x (a ∷ names) are =
    let rest = only_links x names are.1 in
    let more = map (λ (b : Name × List ℕ). Set x b.0 b.1) names in (
      ap (λ (name : Name). cond (same_bytes name link_name) (Set x a.0 a.1 ∷ filter is_link_step more)
          (filter is_link_step more)) are.0 ∙ ap (λ (ss : List DumpStep). Set x a.0 a.1 ∷ ss) rest.0,
      ap (λ (name : Name). cond (not (same_bytes name link_name)) (Set x a.0 a.1 ∷ filter is_other_step more)
          (filter is_other_step more)) are.0 ∙ rest.1,
    )

only_times : (x : Path) (names : Attributes) → AllByRecursion (λ a. a.0 ≡ mtime_name) names
    → (filter is_link_step (attribute_steps x names) ≡ [])
    × (filter is_other_step (attribute_steps x names) ≡ attribute_steps x names)
unfolding is_link_step is_other_step attribute_steps
only_times x [] are = (refl, refl)
only_times x (a ∷ names) are =
    let rest = only_times x names are.1 in
    let more = map (λ (b : Name × List ℕ). Set x b.0 b.1) names in (
      ap (λ (name : Name). cond (same_bytes name link_name) (Set x a.0 a.1 ∷ filter is_link_step more)
          (filter is_link_step more)) are.0 ∙ rest.0,
      ap (λ (name : Name). cond (not (same_bytes name link_name)) (Set x a.0 a.1 ∷ filter is_other_step more)
          (filter is_other_step more)) are.0 ∙ ap (λ (ss : List DumpStep). Set x a.0 a.1 ∷ ss) rest.1,
    )

-- the names that are kept
kept_named : (has : Option HostAttribute → Bool) (own : Name)
    → ((name : Name) (bytes : List ℕ) → has (attribute_of name bytes) ≡ true → name ≡ own) → (names : Attributes)
    → AllByRecursion (λ a. a.0 ≡ own) (kept has names)
kept_named has own named [] = tt
kept_named has own named (a ∷ names) =
    by_test (has (attribute_of a.0 a.1)) refl (kept_named has own named names)
  where
    by_test : (b : Bool) → has (attribute_of a.0 a.1) ≡ b → AllByRecursion (λ a. a.0 ≡ own) (kept has names)
        → AllByRecursion (λ a. a.0 ≡ own) (cond b (a ∷ kept has names) (kept has names))
    by_test true is rest = (named a.0 a.1 is, rest)
    by_test false is rest = rest

-- what the host has of each entry
abbrev each_on_host : Wanted → Tree → Tree
each_on_host wanted t = map (λ e. (e.0, host_entry wanted e.1)) t

module _ (wanted : Wanted) where
  -- the attributes of an entry that wait: those of a link, and the time of a folder
  abbrev link_names : Entry → Attributes
  link_names entry = elim entry.node [
    | Directory ↦ []
    | File bytes ↦ if is_link wanted (length bytes == 0) entry.attributes then kept (link_has wanted) entry.attributes
        else []
  ]

  abbrev time_names : Entry → Attributes
  time_names entry = elim entry.node [
    | Directory ↦ kept (folder_has wanted) entry.attributes
    | File bytes ↦ []
  ]

  links_of : (x : Path) (node : Node) (names : Attributes)
      → filter is_link_step (attribute_steps x (later_names wanted node names))
      ≡ attribute_steps x (link_names (entry_with node names))
  unfolding attribute_steps
  links_of x Directory names =
      (only_times x (kept (folder_has wanted) names)
      (kept_named (folder_has wanted) mtime_name (folder_named wanted) names)).0
  links_of x (File bytes) names = by_test (is_link wanted (length bytes == 0) names)
    where
      by_test : (b : Bool)
          → filter is_link_step (attribute_steps x (if b then kept (link_has wanted) names else []))
          ≡ attribute_steps x (if b then kept (link_has wanted) names else [])
      by_test true = (only_links x (kept (link_has wanted) names)
          (kept_named (link_has wanted) link_name (link_named wanted) names)).0
      by_test false = refl

  times_of : (x : Path) (node : Node) (names : Attributes)
      → filter is_other_step (attribute_steps x (later_names wanted node names))
      ≡ attribute_steps x (time_names (entry_with node names))
  unfolding attribute_steps
  times_of x Directory names =
      (only_times x (kept (folder_has wanted) names)
      (kept_named (folder_has wanted) mtime_name (folder_named wanted) names)).1
  times_of x (File bytes) names = by_test (is_link wanted (length bytes == 0) names)
    where
      by_test : (b : Bool)
          → filter is_other_step (attribute_steps x (if b then kept (link_has wanted) names else [])) ≡ []
      by_test true = (only_links x (kept (link_has wanted) names)
          (kept_named (link_has wanted) link_name (link_named wanted) names)).1
      by_test false = refl

  all_links : (t : Tree) → filter is_link_step (flat_map (later_of wanted) t)
      ≡ flat_map (λ e. attribute_steps e.0 (link_names e.1)) t
  all_links [] = refl
  all_links (e ∷ t) =
      filter-append is_link_step (later_of wanted e) (flat_map (later_of wanted) t)
      ∙ ap₂ (λ (a b : List DumpStep). a ++ b) (links_of e.0 e.1.node e.1.attributes) (all_links t)

  all_times : (t : Tree) → filter is_other_step (flat_map (later_of wanted) t)
      ≡ flat_map (λ e. attribute_steps e.0 (time_names e.1)) t
  all_times [] = refl
  all_times (e ∷ t) =
      filter-append is_other_step (later_of wanted e) (flat_map (later_of wanted) t)
      ∙ ap₂ (λ (a b : List DumpStep). a ++ b) (times_of e.0 e.1.node e.1.attributes) (all_times t)

  -- ---- the entries on the way

  linked_entry : Entry → Entry
  linked_entry entry = and_more (now_entry wanted) link_names entry

  kept_rise : (has : Option HostAttribute → Bool) (names : Attributes) → AreRising names → AreRising (kept has names)
  kept_rise has names rise =
      IsStrictlySortedBy-filter (λ (a b : Name × List ℕ). name_cmp a.0 b.0) (λ a. has (attribute_of a.0 a.1)) names rise

  no_names_rise : AreRising []
  no_names_rise = rising_nil (λ (a b : Name × List ℕ). name_cmp a.0 b.0)

  and_none : (names : Attributes) → AreRising names → AreRising (names ++ [])
  and_none names rise = subst AreRising (sym (append-nil names)) rise

  linked_rise : (node : Node) (names : Attributes) → AreRising names
      → AreRising (now_names wanted node names ++ link_names (entry_with node names))
  linked_rise Directory names rise = no_names_rise
  linked_rise (File bytes) names rise = by_test (is_link wanted (length bytes == 0) names)
    where
      by_test : (b : Bool) → AreRising ((if b then [] else kept (file_has wanted) names)
          ++ (if b then kept (link_has wanted) names else []))
      by_test true = kept_rise (link_has wanted) names rise
      by_test false = and_none (kept (file_has wanted) names) (kept_rise (file_has wanted) names rise)

  timed_rise : (node : Node) (names : Attributes) → AreRising names
      → AreRising ((linked_entry (entry_with node names)).attributes ++ time_names (entry_with node names))
  unfolding linked_entry
  timed_rise Directory names rise = kept_rise (folder_has wanted) names rise
  timed_rise (File bytes) names rise =
      and_none (now_names wanted (File bytes) names ++ link_names (entry_with (File bytes) names))
      (linked_rise (File bytes) names rise)

  -- what it comes to
  timed_is : (node : Node) (names : Attributes)
      → (linked_entry (entry_with node names)).attributes ++ time_names (entry_with node names)
      ≡ host_attributes wanted node names
  unfolding linked_entry
  timed_is Directory names = refl
  timed_is (File bytes) names =
      append-nil (now_names wanted (File bytes) names ++ link_names (entry_with (File bytes) names))
      ∙ by_test (is_link wanted (length bytes == 0) names)
    where
      by_test : (b : Bool) → (if b then [] else kept (file_has wanted) names)
          ++ (if b then kept (link_has wanted) names else [])
          ≡ (if b then kept (link_has wanted) names else kept (file_has wanted) names)
      by_test true = refl
      by_test false = append-nil (kept (file_has wanted) names)

  view_is : (t : Tree) → with_entries (and_more linked_entry time_names) t ≡ each_on_host wanted t
  unfolding linked_entry
  view_is [] = refl
  view_is (e ∷ t) = ap₂ (λ (names : Attributes) (rest : Tree). (e.0, entry_with e.1.node names) ∷ rest)
      (timed_is e.1.node e.1.attributes) (view_is t)

  -- ---- what is made at once is a tree

  node_there : (q : Path) (t : Tree) → node_of (find path_cmp q (now_view wanted t)) ≡ node_of (find path_cmp q t)
  node_there q [] = refl
  node_there q (e ∷ t) = by_test (eq_by_cmp path_cmp q e.0) (node_there q t)
    where
      by_test : (b : Bool) → node_of (find path_cmp q (now_view wanted t)) ≡ node_of (find path_cmp q t)
          → node_of (cond b (Some (now_entry wanted e.1)) (find path_cmp q (now_view wanted t)))
          ≡ node_of (cond b (Some e.1) (find path_cmp q t))
      by_test true rest = refl
      by_test false rest = rest

  same_directory : (t : Tree) (q : Path) → is_directory (now_view wanted t) q ≡ is_directory t q
  same_directory t [] = refl
  same_directory t (n ∷ q) = ap is_directory_node (node_there (n ∷ q) t)

  pub kept_are : (x : Path) (has : Option HostAttribute → Bool) (names : Attributes) → AreAttributes x names
      → AreAttributes x (kept has names)
  kept_are x has names are = record {
    sorted = is_sorted_from_rising name_cmp (kept has names)
        (kept_rise has names (rising_from_is_sorted name_cmp names are.sorted));
    each = all_filter (IsAttribute x) (λ a. has (attribute_of a.0 a.1)) names are.each;
  }

  now_are : (x : Path) (node : Node) (names : Attributes) → AreAttributes x names
      → AreAttributes x (now_names wanted node names)
  now_are x Directory names are = record { sorted = refl; each = tt }
  now_are x (File bytes) names are = by_test (is_link wanted (length bytes == 0) names)
    where
      by_test : (b : Bool) → AreAttributes x (if b then [] else kept (file_has wanted) names)
      by_test true = record { sorted = refl; each = tt }
      by_test false = kept_are x (file_has wanted) names are

  now_tree : (t : Tree) → IsTree t → IsTree (now_view wanted t)
  now_tree t tree = record {
    sorted = is_sorted_from_rising path_cmp (now_view wanted t)
        (rising_to_map (λ (a b : Path × Entry). path_cmp a.0 b.0) (λ (e : Path × Entry). (e.0, now_entry wanted e.1)) t
        (rising_from_is_sorted path_cmp t tree.sorted));
    entries = all_map (IsEntry t) (IsEntry (now_view wanted t)) (λ (e : Path × Entry). (e.0, now_entry wanted e.1))
        (λ e is. record {
          path = is.path;
          below_root = is.below_root;
          parent_directory = same_directory t (parent e.0) ∙ is.parent_directory;
          node = is.node;
          attributes = now_are e.0 e.1.node e.1.attributes is.attributes;
        }) t tree.entries;
  }

-- ---- the steps of a dump

chain_leads : (steps : List DumpStep) (t u : Tree) (p : Parameters) → Chain t steps u p → steps_after t steps ≡ u
chain_leads [] t u p chain = chain
chain_leads (s ∷ steps) t u p chain = chain_leads steps (after_step t s) u p chain.1

-- some parameters under which paths have attributes
some_parameters : Parameters
some_parameters = record { slots = 1; height = 1; kind = Ruler; seed = []; version = Two }

dump_leads : (t : Tree) → IsTree t → steps_after [] (dump t) ≡ t
unfolding some_parameters
dump_leads t tree =
    let under : IsTreeUnder t some_parameters =
    record { is_tree = tree; bare = λ lacks. absurd (false≢true (sym lacks)) } in
    chain_leads (dump t) [] t some_parameters (dump_chain t some_parameters under)

names_rise : (names : Attributes) → AreRising names → DoRise names
names_rise [] rise = tt
names_rise (a ∷ names) rise = (
  rising_head (λ (a b : Name × List ℕ). name_cmp a.0 b.0) a names rise,
  names_rise names (rising_tail (λ (a b : Name × List ℕ). name_cmp a.0 b.0) a names rise),
)

module _ (t : Tree) (tree : IsTree t) where
  each_rises : AllByRecursion (λ e. AreRising e.1.attributes) t
  each_rises = all_weaker (IsEntry t) (λ (e : Path × Entry). AreRising e.1.attributes)
      (λ e is. rising_from_is_sorted name_cmp e.1.attributes is.attributes.sorted) t tree.entries

  paths_rise : PathsRise t
  paths_rise = rising_from_is_sorted path_cmp t tree.sorted

  pub all_rise : AllByRecursion (λ e. DoRise e.1.attributes) t
  all_rise = all_weaker (λ (e : Path × Entry). AreRising e.1.attributes) (λ (e : Path × Entry). DoRise e.1.attributes)
      (λ e rise. names_rise e.1.attributes rise) t each_rises

module _ (wanted : Wanted) (t : Tree) (rise : PathsRise t)
    (each_rise : AllByRecursion (λ e. AreRising e.1.attributes) t) where
  -- the links are made, and then the times of folders are set
  linked_view : steps_after (now_view wanted t) (flat_map (λ e. attribute_steps e.0 (link_names wanted e.1)) t)
      ≡ with_entries (linked_entry wanted) t
  unfolding linked_entry
  linked_view = sets_each (now_entry wanted) (link_names wanted) t rise
      (all_weaker (λ (e : Path × Entry). AreRising e.1.attributes)
      (λ (e : Path × Entry). AreRising (now_names wanted e.1.node e.1.attributes ++ link_names wanted e.1))
      (λ e rise. linked_rise wanted e.1.node e.1.attributes rise) t each_rise)

  timed_view : steps_after (with_entries (linked_entry wanted) t)
      (flat_map (λ e. attribute_steps e.0 (time_names wanted e.1)) t) ≡ each_on_host wanted t
  timed_view = sets_each (linked_entry wanted) (time_names wanted) t rise
      (all_weaker (λ (e : Path × Entry). AreRising e.1.attributes)
      (λ (e : Path × Entry). AreRising ((linked_entry wanted e.1).attributes ++ time_names wanted e.1))
      (λ e rise. timed_rise wanted e.1.node e.1.attributes rise) t each_rise) ∙ view_is wanted t

-- ---- links that are left out

-- exactly one attribute of a link says where it leads
one_link : (wanted : Wanted) (x : Path) (names : Attributes) → DoRise names
    → list_any (λ a. link_has wanted (attribute_of a.0 a.1)) names ≡ true
    → map step_path (attribute_steps x (kept (link_has wanted) names)) ≡ x ∷ []
unfolding attribute_steps
one_link wanted x [] rise some = absurd (false≢true some)
one_link wanted x (a ∷ names) rise some =
    by_test (one_link wanted x names rise.1) (link_has wanted (attribute_of a.0 a.1)) refl some
  where
    by_test : (list_any (λ a. link_has wanted (attribute_of a.0 a.1)) names ≡ true
        → map step_path (attribute_steps x (kept (link_has wanted) names)) ≡ x ∷ [])
        → (b : Bool) → link_has wanted (attribute_of a.0 a.1) ≡ b
        → (b || list_any (λ a. link_has wanted (attribute_of a.0 a.1)) names) ≡ true
        → map step_path (attribute_steps x (cond b (a ∷ kept (link_has wanted) names) (kept (link_has wanted) names)))
        ≡ x ∷ []
    by_test rest true is some =
        let alone : kept (link_has wanted) names ≡ [] = none_above wanted names
        (subst (λ (name : Name). AreAbove name names) (link_named wanted a.0 a.1 is) rise.0) in
        ap (λ (more : Attributes). x ∷ map step_path (map (λ b. Set x b.0 b.1) more)) alone
    by_test rest false is some = rest some

-- the paths of steps
paths_are : (later : List Later) → link_paths later ≡ map step_path (link_steps later)
paths_are [] = refl
paths_are (laters.Link path target ∷ later) = ap (λ (rest : List Path). path ∷ rest) (paths_are later)
paths_are (laters.Time path seconds ∷ later) = paths_are later

module _ (wanted : Wanted) where
  abbrev is_link_entry : Path × Entry → Bool
  is_link_entry e = is_link_node wanted e.1.node e.1.attributes

  -- the path of an entry, where that is a link
  abbrev own_path : Path × Entry → List Path
  own_path e = if is_link_entry e then e.0 ∷ [] else []

  own_is : (x : Path) (node : Node) (names : Attributes) → DoRise names
      → map step_path (attribute_steps x (link_names wanted (entry_with node names)))
      ≡ own_path (x, entry_with node names)
  unfolding attribute_steps
  own_is x Directory names rise = refl
  own_is x (File bytes) names rise = by_test (is_link wanted (length bytes == 0) names) refl
    where
      by_test : (b : Bool) → is_link wanted (length bytes == 0) names ≡ b
          → map step_path (attribute_steps x (if b then kept (link_has wanted) names else []))
          ≡ (if b then x ∷ [] else [])
      by_test true is = one_link wanted x names rise
          (second_true (length bytes == 0) (list_any (λ a. link_has wanted (attribute_of a.0 a.1)) names) is)
      by_test false is = refl

  own_paths : (t : Tree) → AllByRecursion (λ e. DoRise e.1.attributes) t
      → map step_path (flat_map (λ e. attribute_steps e.0 (link_names wanted e.1)) t) ≡ flat_map own_path t
  own_paths [] rise = refl
  own_paths (e ∷ t) rise =
      map-append step_path (attribute_steps e.0 (link_names wanted e.1))
      (flat_map (λ e. attribute_steps e.0 (link_names wanted e.1)) t)
      ∙ ap₂ (λ (a b : List Path). a ++ b) (own_is e.0 e.1.node e.1.attributes rise.0) (own_paths t rise.1)

  -- a tree without its links
  abbrev unlinked : Tree → Tree
  unlinked t = filter (λ e. not (is_link_entry e)) t

  own_below : (x : Path) (t : Tree) → AllByRecursion (λ d. path_cmp x d.0 ≡ Less) t
      → AllByRecursion (λ p. same_path x p ≡ false) (flat_map own_path t)
  own_below x [] below = tt
  own_below x (e ∷ t) below = by_test (is_link_entry e) (own_below x t below.1)
    where
      by_test : (b : Bool) → AllByRecursion (λ p. same_path x p ≡ false) (flat_map own_path t)
          → AllByRecursion (λ p. same_path x p ≡ false) ((if b then e.0 ∷ [] else []) ++ flat_map own_path t)
      by_test true rest = (ap is_eq below.0, rest)
      by_test false rest = rest

  -- what is at no path that goes stays
  stays_first : (x : Path) (v : Entry) (t : Tree) (paths : List Path)
      → AllByRecursion (λ p. same_path x p ≡ false) paths
      → without_all ((x, v) ∷ t) paths ≡ (x, v) ∷ without_all t paths
  unfolding without
  stays_first x v t [] others = refl
  stays_first x v t (p ∷ paths) others =
      ap (λ (b : Bool). without_all (cond (not b) ((x, v) ∷ without t p) (without t p)) paths) others.0
      ∙ stays_first x v (without t p) paths others.1

  nothing_goes : (x : Path) (t : Tree) → AllByRecursion (λ d. path_cmp x d.0 ≡ Less) t
      → without (now_view wanted t) x ≡ now_view wanted t
  unfolding without
  nothing_goes x [] below = refl
  nothing_goes x (e ∷ t) below =
      let other : same_path e.0 x ≡ false = ap is_eq (turned path_cmp path_cmp_total e.0 x below.0) in
      ap (λ (b : Bool). cond (not b) ((e.0, now_entry wanted e.1) ∷ without (now_view wanted t) x)
      (without (now_view wanted t) x)) other
      ∙ ap (λ (rest : Tree). (e.0, now_entry wanted e.1) ∷ rest) (nothing_goes x t below.1)

  -- the files in the place of links go again
  links_gone : (t : Tree) → PathsRise t
      → without_all (now_view wanted t) (flat_map own_path t) ≡ now_view wanted (unlinked t)
  unfolding without
  links_gone [] rise = refl
  links_gone (e ∷ t) rise = by_test (is_link_entry e)
      (links_gone t (rising_tail (λ (a b : Path × Entry). path_cmp a.0 b.0) e t rise))
    where
      below : AllByRecursion (λ (d : Path × Entry). path_cmp e.0 d.0 ≡ Less) t
      below = rising_head (λ (a b : Path × Entry). path_cmp a.0 b.0) e t rise

      by_test : (b : Bool) → without_all (now_view wanted t) (flat_map own_path t) ≡ now_view wanted (unlinked t)
          → without_all ((e.0, now_entry wanted e.1) ∷ now_view wanted t)
          ((if b then e.0 ∷ [] else []) ++ flat_map own_path t)
          ≡ now_view wanted (cond (not b) (e ∷ unlinked t) (unlinked t))
      by_test true rest =
          ap (λ (b : Bool). without_all (cond (not b) ((e.0, now_entry wanted e.1) ∷ without (now_view wanted t) e.0)
          (without (now_view wanted t) e.0)) (flat_map own_path t)) (same_path-itself e.0)
          ∙ ap (λ (u : Tree). without_all u (flat_map own_path t)) (nothing_goes e.0 t below) ∙ rest
      by_test false rest =
          stays_first e.0 (now_entry wanted e.1) (now_view wanted t) (flat_map own_path t) (own_below e.0 t below)
          ∙ ap (λ (u : Tree). (e.0, now_entry wanted e.1) ∷ u) rest

  -- links have no times
  unlinked_times : (t : Tree) → flat_map (λ e. attribute_steps e.0 (time_names wanted e.1)) t
      ≡ flat_map (λ e. attribute_steps e.0 (time_names wanted e.1)) (unlinked t)
  unfolding attribute_steps
  unlinked_times [] = refl
  unlinked_times (e ∷ t) = by_node e.1.node e.1.attributes (unlinked_times t)
    where
      by_node : (node : Node) (names : Attributes)
          → flat_map (λ e. attribute_steps e.0 (time_names wanted e.1)) t
          ≡ flat_map (λ e. attribute_steps e.0 (time_names wanted e.1)) (unlinked t)
          → attribute_steps e.0 (time_names wanted (entry_with node names))
          ++ flat_map (λ e. attribute_steps e.0 (time_names wanted e.1)) t
          ≡ flat_map (λ e. attribute_steps e.0 (time_names wanted e.1))
          (cond (not (is_link_node wanted node names)) ((e.0, entry_with node names) ∷ unlinked t) (unlinked t))
      by_node Directory names rest =
          ap (λ (ss : List DumpStep). attribute_steps e.0 (time_names wanted (entry_with Directory names)) ++ ss) rest
      by_node (File bytes) names rest = by_test (is_link wanted (length bytes == 0) names)
        where
          by_test : (b : Bool) → flat_map (λ e. attribute_steps e.0 (time_names wanted e.1)) t
              ≡ flat_map (λ e. attribute_steps e.0 (time_names wanted e.1))
              (cond (not b) ((e.0, entry_with (File bytes) names) ∷ unlinked t) (unlinked t))
          by_test true = rest
          by_test false = rest

  -- where no link is, none waits
  none_linked : (t : Tree) → with_entries (linked_entry wanted) (unlinked t) ≡ now_view wanted (unlinked t)
  unfolding linked_entry
  none_linked [] = refl
  none_linked (e ∷ t) = by_node e.1.node e.1.attributes (none_linked t)
    where
      by_node : (node : Node) (names : Attributes)
          → with_entries (linked_entry wanted) (unlinked t) ≡ now_view wanted (unlinked t)
          → with_entries (linked_entry wanted)
          (cond (not (is_link_node wanted node names)) ((e.0, entry_with node names) ∷ unlinked t) (unlinked t))
          ≡ now_view wanted
          (cond (not (is_link_node wanted node names)) ((e.0, entry_with node names) ∷ unlinked t) (unlinked t))
      by_node Directory names rest = ap (λ (u : Tree). (e.0, entry_with Directory []) ∷ u) rest
      by_node (File bytes) names rest = by_test (is_link wanted (length bytes == 0) names) refl
        where
          by_test : (b : Bool) → is_link wanted (length bytes == 0) names ≡ b
              → with_entries (linked_entry wanted)
              (cond (not b) ((e.0, entry_with (File bytes) names) ∷ unlinked t) (unlinked t))
              ≡ now_view wanted (cond (not b) ((e.0, entry_with (File bytes) names) ∷ unlinked t) (unlinked t))
          by_test true is = rest
          by_test false is =
              ap₂ (λ (all : Attributes) (u : Tree). (e.0, entry_with (File bytes) all) ∷ u)
              (ap (λ (b : Bool). now_names wanted (File bytes) names
              ++ (if b then kept (link_has wanted) names else [])) is
              ∙ append-nil (now_names wanted (File bytes) names)) rest

-- ---- what it comes to

module _ (wanted : Wanted) (t : Tree) (tree : IsTree t) (later : List Later)
    (waits : map later_step later ≡ steps_later wanted made.Nothing (dump t)) where
  abbrev made_first : Tree
  made_first = steps_after [] (steps_now wanted made.Nothing (dump t))

  all_waits : map later_step later ≡ flat_map (later_of wanted) t
  all_waits = waits ∙ tree_later wanted made.Nothing t (all_rise t tree)

  links_wait : link_steps later ≡ flat_map (λ e. attribute_steps e.0 (link_names wanted e.1)) t
  links_wait = links_are later ∙ ap (filter is_link_step) all_waits ∙ all_links wanted t

  times_wait : time_steps later ≡ flat_map (λ e. attribute_steps e.0 (time_names wanted e.1)) t
  times_wait = times_are later ∙ ap (filter is_other_step) all_waits ∙ all_times wanted t

  first_is : made_first ≡ now_view wanted t
  first_is = ap (steps_after []) (tree_now wanted made.Nothing t (all_rise t tree))
      ∙ dump_leads (now_view wanted t) (now_tree wanted t tree)

  -- with links
  links_made : steps_after (steps_after made_first (link_steps later)) (time_steps later) ≡ each_on_host wanted t
  links_made =
      ap₂ (λ (u : Tree) (steps : List DumpStep). steps_after (steps_after u steps) (time_steps later)) first_is
      links_wait
      ∙ ap₂ (λ (u : Tree) (steps : List DumpStep). steps_after u steps)
      (linked_view wanted t (paths_rise t tree) (each_rises t tree)) times_wait
      ∙ timed_view wanted t (paths_rise t tree) (each_rises t tree)

  paths_wait : link_paths later ≡ flat_map (own_path wanted) t
  paths_wait = paths_are later ∙ ap (map step_path) links_wait ∙ own_paths wanted t (all_rise t tree)

  -- without them
  links_left : steps_after (without_all made_first (link_paths later)) (time_steps later)
      ≡ each_on_host wanted (unlinked wanted t)
  links_left =
      let rest = unlinked wanted t in
      let rise : PathsRise rest = IsStrictlySortedBy-filter (λ (a b : Path × Entry). path_cmp a.0 b.0)
      (λ e. not (is_link_entry wanted e)) t (paths_rise t tree) in
      let each = all_filter (λ (e : Path × Entry). AreRising e.1.attributes) (λ e. not (is_link_entry wanted e)) t
      (each_rises t tree) in
      ap₂ (λ (u : Tree) (paths : List Path). steps_after (without_all u paths) (time_steps later)) first_is paths_wait
      ∙ ap₂ (λ (u : Tree) (steps : List DumpStep). steps_after u steps)
      (links_gone wanted t (paths_rise t tree) ∙ sym (none_linked wanted t))
      (times_wait ∙ unlinked_times wanted t)
      ∙ timed_view wanted rest rise each

  abbrev left_links : Tree → Tree
  left_links u = filter (λ e. is_left_link wanted e.1) u

  -- what the host is to have of them
  abbrev host_links : Tree → Tree
  host_links u = filter (λ e. not (is_left_link wanted e.1)) u

  kept_all : (u : Tree) → filter (λ e. true) u ≡ u
  kept_all [] = refl
  kept_all (e ∷ u) = ap (λ (rest : Tree). e ∷ rest) (kept_all u)

  kept_none : (u : Tree) → length (filter (λ (e : Path × Entry). false) u) ≡ 0
  kept_none [] = refl
  kept_none (e ∷ u) = kept_none u

  own_count : (u : Tree) → length (flat_map (own_path wanted) u) ≡ length (filter (is_link_entry wanted) u)
  own_count [] = refl
  own_count (e ∷ u) = by_test (is_link_entry wanted e) (own_count u)
    where
      by_test : (b : Bool) → length (flat_map (own_path wanted) u) ≡ length (filter (is_link_entry wanted) u)
          → length ((if b then e.0 ∷ [] else []) ++ flat_map (own_path wanted) u)
          ≡ length (cond b (e ∷ filter (is_link_entry wanted) u) (filter (is_link_entry wanted) u))
      by_test true rest = ap suc rest
      by_test false rest = rest

  pub view_finished : (choice : Links) → wanted.links ≡ choice
      → steps_after (after_links choice made_first later) (time_steps later)
      ≡ each_on_host wanted (host_links t)
  view_finished links.Made is = links_made ∙ ap (each_on_host wanted)
      (sym (ap (λ (c : Links). filter (λ e. not (leaves_links c && is_link_entry wanted e)) t) is ∙ kept_all t))
  view_finished links.Data is = links_made ∙ ap (each_on_host wanted)
      (sym (ap (λ (c : Links). filter (λ e. not (leaves_links c && is_link_entry wanted e)) t) is ∙ kept_all t))
  view_finished links.LeftOut is = links_left ∙ ap (each_on_host wanted)
      (sym (ap (λ (c : Links). filter (λ e. not (leaves_links c && is_link_entry wanted e)) t) is))

  pub count_finished : (choice : Links) → wanted.links ≡ choice
      → links_left_out choice later ≡ length (left_links t)
  count_finished links.Made is =
      sym (ap (λ (c : Links). length (filter (λ e. leaves_links c && is_link_entry wanted e) t)) is ∙ kept_none t)
  count_finished links.Data is =
      sym (ap (λ (c : Links). length (filter (λ e. leaves_links c && is_link_entry wanted e) t)) is ∙ kept_none t)
  count_finished links.LeftOut is =
      ap length paths_wait ∙ own_count t
      ∙ sym (ap (λ (c : Links). length (filter (λ e. leaves_links c && is_link_entry wanted e) t)) is)

-- ---- with what has no path on the host

module _ (wanted : Wanted) where
  pub made_is : (t : Tree) → filter (λ e. not (is_left_link wanted e.1)) (passed_tree wanted t) ≡ made_part wanted t
  made_is [] = refl
  made_is (e ∷ t) = by_test (is_passed wanted e.0) (made_is t)
    where
      by_test : (b : Bool)
          → filter (λ e. not (is_left_link wanted e.1)) (passed_tree wanted t) ≡ made_part wanted t
          → filter (λ e. not (is_left_link wanted e.1)) (cond b (e ∷ passed_tree wanted t) (passed_tree wanted t))
          ≡ cond (b && not (is_left_link wanted e.1)) (e ∷ made_part wanted t) (made_part wanted t)
      by_test true rest = ap (λ (u : Tree). cond (not (is_left_link wanted e.1)) (e ∷ u) u) rest
      by_test false rest = rest

  -- what has no path on the host, the links among the rest, and both
  abbrev unnamed : Tree → Tree
  unnamed t = filter (λ e. not (is_passed wanted e.0)) t

  abbrev left_there : Tree → Tree
  left_there t = filter (λ e. is_left_link wanted e.1) (passed_tree wanted t)

  abbrev all_left : Tree → Tree
  all_left t = filter (λ e. not (is_made wanted e)) t

  count_is : (t : Tree) → length (unnamed t) + length (left_there t) ≡ length (all_left t)
  count_is [] = refl
  count_is (e ∷ t) = by_test (is_passed wanted e.0) (count_is t)
    where
      by_left : (left : Bool) → length (unnamed t) + length (left_there t) ≡ length (all_left t)
          → length (unnamed t) + length (cond left (e ∷ left_there t) (left_there t))
          ≡ length (cond (not (not left)) (e ∷ all_left t) (all_left t))
      by_left true rest = omega (arith, rest)
      by_left false rest = rest

      by_test : (b : Bool) → length (unnamed t) + length (left_there t) ≡ length (all_left t)
          → length (cond (not b) (e ∷ unnamed t) (unnamed t))
          + length (filter (λ e. is_left_link wanted e.1) (cond b (e ∷ passed_tree wanted t) (passed_tree wanted t)))
          ≡ length (cond (not (b && not (is_left_link wanted e.1))) (e ∷ all_left t) (all_left t))
      by_test true rest = by_left (is_left_link wanted e.1) rest
      by_test false rest = omega (arith, rest)

-- A taker took the steps of a dump, and made what waited.
module _ (t : Tree) (old mid new : BuilderState) (before after : Plan)
    (took : TookSteps old mid before after (dump t)) (fresh : IsFresh before)
    (finishes : Finishes after.wanted.links mid new after.later.items (Ok tt)) (tree : IsTree t) where
  abbrev its : Tree
  its = passed_tree before.wanted t

  its_tree : IsTree its
  its_tree = passed_is_tree before.wanted t tree

  choice_is : after.wanted.links ≡ before.wanted.links
  choice_is = ap (λ (w : Wanted). w.links) took.wanted

  passed_is : passed before.wanted (dump t) ≡ dump its
  passed_is = passed_dump before.wanted t

  waits_is : map later_step after.later.items ≡ steps_later before.wanted made.Nothing (dump its)
  waits_is = took.later
      ∙ ap₂ (λ (first : List Later) m. map later_step first
      ++ steps_later before.wanted m (passed before.wanted (dump t))) fresh.later fresh.made
      ∙ ap (steps_later before.wanted made.Nothing) passed_is

  pub view_built : IsObservable old → old.holds ≡ [] → new.holds ≡ host_view before.wanted t
  view_built seen none =
      let wanted = before.wanted in
      let later = after.later.items in
      let mid_is : mid.holds ≡ steps_after [] (steps_now wanted made.Nothing (dump its)) =
      took.holds seen
      ∙ ap₂ (λ (u : Tree) m. steps_after u (steps_now wanted m (passed wanted (dump t)))) none fresh.made
      ∙ ap (λ (ss : List DumpStep). steps_after [] (steps_now wanted made.Nothing ss)) passed_is in
      finishes.holds (took.observable ∙ seen)
      ∙ ap₂ (λ (c : Links) (u : Tree). steps_after (after_links c u later) (time_steps later)) choice_is mid_is
      ∙ view_finished wanted its its_tree later waits_is wanted.links refl
      ∙ ap (each_on_host wanted) (made_is wanted t)

  pub count_built : new.left_out ≡ risen old.left_out (count_left_out before.wanted t)
  count_built =
      let wanted = before.wanted in
      let later = after.later.items in
      let begun = length (left_begins wanted (dump t)) in
      let waited = links_left_out wanted.links later in
      finishes.left_out
      ∙ ap₂ (λ (c : Links) (n : ℕ). risen n (links_left_out c later)) choice_is took.left_out
      ∙ risen_more old.left_out begun waited
      ∙ ap₂ (λ (a b : ℕ). risen old.left_out (a + b)) (left_count wanted t)
      (count_finished wanted its its_tree later waits_is wanted.links refl)
      ∙ ap (risen old.left_out) (count_is wanted t)
