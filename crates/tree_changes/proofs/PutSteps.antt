-- One step of the sources' dump, at its place.
use Rattle.std.proofs.Common.{◌≡◌, inl, ℕ, ◌+◌, List, [], ◌∷◌, ◌++◌, length, Bool, true, false, not, ◌&&◌}
use Rattle.std.proofs.Common.{cond, Option, Some, None, is_some, IsTrue, refl, sym, ap, ap₂, ◌∙◌}
use Rattle.std.proofs.Common.{arith, nat_lt, length-append}
use Rattle.std.specs.FinMap.{find}
use Rattle.std.proofs.lemmas.Bool.{both_ways, false_from_ne_true, cond-true, cond-false, and_left}
use Rattle.std.proofs.lemmas.Bool.{not-false}
use Rattle.store_model.specs.declared.refusal.Refusal.{Refusal}
use Rattle.store_model.specs.declared.refusal.Refusal.TheVariants as refusals
use Rattle.store_model.specs.Lists.{overwrite}
use Rattle.store_model.specs.Parameters.{Parameters}
use Rattle.store_model.specs.Paths.{Path, is_root, is_path, path_cmp, same_path, parent}
use Rattle.store_model.specs.Trees.{Tree, Entry, Node, IsTree, node_of, attributes_of, attributes_at, node_at}
use Rattle.store_model.specs.Trees.{exists, contents, contents_of, file_limit, is_directory}
use Rattle.store_model.specs.Trees.{is_directory_node, is_file_node, with_node, without}
use Rattle.store_model.specs.Trees.Node.{Directory, File}
use Rattle.store_model.specs.Commands.{IsCommand}
use Rattle.store_model.specs.Commands.Command.{Make, Write, Remove}
use Rattle.store_model.specs.Steps.{conditions, first_refusal, next_tree, is_on_attributes, refusal_of, has_child}
use Rattle.store_model.proofs.TreesLemmasPaths.{same_from_test, same_path-itself, last_step}
use Rattle.store_model.proofs.TreesLemmas.{node_at-find, exists-find, IsTree-make, IsTree-without}
use Rattle.store_model.proofs.TreesLemmasAttributes.{find-with_node, find-without}
use Rattle.store_model.proofs.TreesLemmasSteps.{all_fail, IsTree-next_tree}
use Rattle.tree_changes.specs.Conditional.{why_refused, tree_behind}
use Rattle.tree_changes.specs.Conditional.{done_at_no_directory}
use Rattle.tree_changes.specs.Meant.{bare_directory}
use Rattle.tree_changes.specs.Puts.{counted, over, clash, clash_of_kinds, IsUnput, IsPut}
use Rattle.tree_changes.proofs.FolderLemmas.{MakesAt}
use Rattle.tree_changes.proofs.ParentLemmas.{not_both, file_exists, one_of_both, made_in}
use Rattle.tree_changes.proofs.PlacedLemmas.{place_not_root, placed_below, one_more_put, free_for_directory}
use Rattle.tree_changes.proofs.Standings.{same_node}
use Rattle.tree_changes.proofs.PutLemmas.{counted_bare, counted_file, clash_alike, over_old, comes_last}
use Rattle.tree_changes.proofs.PutLemmas.{at_place, stood_there, parent_there}
use Rattle.tree_changes.proofs.PlacedLemmas.{over_file}

-- nothing is found where nothing stands
not_found : (w : Tree) (q : Path) → is_root q ≡ false → exists w q ≡ false → find path_cmp q w ≡ None
not_found w q below none = by (find path_cmp q w) (sym (exists-find w q below) ∙ none)
  where
    by : (o : Option Entry) → is_some o ≡ false → o ≡ None
    by None e = refl
    by (Some n) e = cc

-- where a file stands no directory comes
pub file_in_the_way : (replaces : Bool) (o : Option Entry) → is_file_node (node_of o) ≡ true
    → clash replaces o (Some bare_directory) ≡ Some refusals.Exists
file_in_the_way replaces None is = cc
file_in_the_way replaces (Some e) is = by e.node is
  where
    by : (n : Node) → is_file_node (Some n) ≡ true
        → clash replaces (Some (record { node = n; attributes = e.attributes })) (Some bare_directory)
        ≡ Some refusals.Exists
    by Directory is = cc
    by (File bytes) is = refl

-- ---- a directory

module _ (replaces : Bool) (to : Path) (listed : List Path) (p : Parameters) (t u w : Tree)
    (so_far : IsPut replaces to listed u t w) (y : Path) (makes : MakesAt u y) where
  abbrev q : Path
  q = to ++ y

  abbrev made : Tree
  made = next_tree u (Make y)

  not_yet : find path_cmp y u ≡ None
  not_yet = not_found u y makes.below_root makes.none

  finds : (z : Path) → find path_cmp z made ≡ cond (same_path z y) (Some bare_directory) (find path_cmp z u)
  unfolding next_tree
  finds z = find-with_node u y z Directory
      ∙ ap (λ (o : Option Entry). cond (same_path z y)
      (Some (record { node = Directory; attributes = attributes_of o })) (find path_cmp z u)) not_yet

  q_below : is_root q ≡ false
  q_below = place_not_root to y makes.below_root

  up : is_directory w (parent q) ≡ true
  up = parent_there replaces to listed t u w so_far y makes.below_root makes.parent_directory

  stood : find path_cmp q w ≡ find path_cmp q t
  stood = stood_there replaces to listed t u w so_far y makes.below_root not_yet

  node_stood : node_at w q ≡ node_of (find path_cmp q t)
  node_stood = node_at-find w q q_below ∙ ap node_of stood

  why_made : why_refused p w (done_at_no_directory (Make q))
      ≡ cond (not (is_directory w q)) (cond (exists w q) (Some refusals.Exists) None) None
  unfolding is_on_attributes
  why_made = ap (λ o. cond (not (is_directory w q)) o None) (made_in w q q_below up)

  -- it leads on
  made_behind : IsTrue (is_path q) → (b : Bool) → is_directory w q ≡ b → (c : Bool) → exists w q ≡ c
      → cond (not b) (cond c (Some refusals.Exists) None) None ≡ None
      → IsPut replaces to listed made t (cond (not b) (next_tree w (Make q)) w)
  unfolding next_tree
  made_behind path true is c there none =
      let was : is_directory_node (node_of (find path_cmp q t)) ≡ true = ap is_directory_node (sym node_stood) ∙ is in
      one_more_put replaces to listed t u made w w y bare_directory makes.below_root finds so_far
      (ap (clash replaces (find path_cmp q t)) (counted_bare listed y)
      ∙ free_for_directory replaces (find path_cmp q t) (not_both (node_of (find path_cmp q t)) was))
      so_far.standing.is_tree
      (λ x. passed x (same_path x q) refl was)
    where
      passed : (x : Path) (d : Bool) → same_path x q ≡ d → is_directory_node (node_of (find path_cmp q t)) ≡ true
          → find path_cmp x w
          ≡ cond d (over (find path_cmp q t) (counted listed y (Some bare_directory))) (find path_cmp x w)
      passed x true s was = ap (λ z. find path_cmp z w) (same_from_test x q s) ∙ stood
          ∙ sym (ap (over (find path_cmp q t)) (counted_bare listed y)
          ∙ over_old (find path_cmp q t) bare_directory was refl)
      passed x false s was = refl
  made_behind path false is true there none = cc
  made_behind path false is false there none =
      let nothing : find path_cmp q t ≡ None = sym stood ∙ not_found w q q_below there in
      one_more_put replaces to listed t u made w (with_node w q Directory) y bare_directory makes.below_root finds
      so_far
      (ap₂ (clash replaces) nothing (counted_bare listed y))
      (IsTree-make w q so_far.standing.is_tree path q_below up there)
      (λ x. find-with_node w q x Directory
      ∙ ap (λ (o : Option Entry). cond (same_path x q)
      (Some (record { node = Directory; attributes = attributes_of o })) (find path_cmp x w))
      (not_found w q q_below there)
      ∙ sym (ap (λ o. cond (same_path x q) o (find path_cmp x w))
      (ap₂ over nothing (counted_bare listed y))))

  not_made : (reason : Refusal) → (b : Bool) → is_directory w q ≡ b → (c : Bool) → exists w q ≡ c
      → cond (not b) (cond c (Some refusals.Exists) None) None ≡ Some reason
      → IsUnput replaces p to listed made t q reason
  not_made reason true is c there refused = cc
  not_made reason false is false there refused = cc
  not_made reason false is true there refused = record {
    new = bare_directory;
    comes = comes_last to listed u made y bare_directory makes.below_root finds ∙ counted_bare listed y;
    reason = inl (file_in_the_way replaces (find path_cmp q t)
        (ap is_file_node (sym node_stood) ∙ one_of_both (node_at w q) there is) ∙ refused);
  }

  pub make_leads : IsTrue (is_path q) → why_refused p w (done_at_no_directory (Make q)) ≡ None
      → IsPut replaces to listed made t (tree_behind w (done_at_no_directory (Make q)))
  make_leads path none = made_behind path (is_directory w q) refl (exists w q) refl (sym why_made ∙ none)

  pub make_stops : (reason : Refusal) → why_refused p w (done_at_no_directory (Make q)) ≡ Some reason
      → IsUnput replaces p to listed made t q reason
  make_stops reason refused = not_made reason (is_directory w q) refl (exists w q) refl (sym why_made ∙ refused)

-- ---- bytes of a file

-- the conditions of a write go by what stands at its path and by its parent
write_alike : (w u : Tree) (q y : Path) (at : ℕ) (bytes : List ℕ) → is_directory w (parent q) ≡ true
    → is_directory u (parent y) ≡ true → node_at w q ≡ node_at u y
    → refusal_of w (Write q at bytes) ≡ refusal_of u (Write y at bytes)
unfolding conditions first_refusal
write_alike w u q y at bytes up_w up_u same =
    ap₂ (λ (b : Bool) (o : Option Node). cond (not b) (Some refusals.Parent) (cond (is_directory_node o)
    (Some refusals.Kind) (cond (nat_lt (length (contents_of o)) at) (Some refusals.Gap)
    (cond (nat_lt file_limit (at + length bytes)) (Some refusals.Big) None)))) (up_w ∙ sym up_u) same

-- a write that is carried out is on a path below the root, whose parent is a directory, and at which none stands
pub record WritesAt (u : Tree) (y : Path) : Type 0 where
  pub below_root : is_root y ≡ false
  pub parent_directory : is_directory u (parent y) ≡ true
  pub no_directory : is_directory u y ≡ false

pub writes_at : (u : Tree) (y : Path) (at : ℕ) (bytes : List ℕ) → refusal_of u (Write y at bytes) ≡ None
    → WritesAt u y
unfolding conditions
writes_at u y at bytes none =
    let fail = all_fail (conditions u (Write y at bytes)) none in
    record {
      below_root = by y (fail.1).0;
      parent_directory = not-false _ fail.0;
      no_directory = (fail.1).0;
    }
  where
    by : (x : Path) → is_directory u x ≡ false → is_root x ≡ false
    by [] no_directory = cc
    by (n ∷ x) no_directory = refl

-- the entry that a write makes
abbrev written : Tree → Path → ℕ → List ℕ → Entry
written u y at bytes = record { node = File (overwrite (contents u y) at bytes); attributes = attributes_at u y }

write_finds : (u : Tree) (y : Path) (at : ℕ) (bytes : List ℕ) (z : Path)
    → find path_cmp z (next_tree u (Write y at bytes))
    ≡ cond (same_path z y) (Some (written u y at bytes)) (find path_cmp z u)
unfolding next_tree
write_finds u y at bytes z = find-with_node u y z (File (overwrite (contents u y) at bytes))

-- where the same stands at both paths, a write makes the same there
written_alike : (w u : Tree) (q y : Path) (at : ℕ) (bytes : List ℕ) → is_root q ≡ false → is_root y ≡ false
    → find path_cmp q w ≡ find path_cmp y u → written w q at bytes ≡ written u y at bytes
written_alike w u q y at bytes q_below y_below same =
    ap₂ (λ (o : Option Node) (e : Option Entry). record {
      node = File (overwrite (contents_of o) at bytes);
      attributes = attributes_of e;
    }) (node_at-find w q q_below ∙ ap node_of same ∙ sym (node_at-find u y y_below)) same

module _ (replaces : Bool) (to : Path) (listed : List Path) (p : Parameters) (t u w : Tree)
    (so_far : IsPut replaces to listed u t w) (y : Path) (at : ℕ) (bytes : List ℕ)
    (allowed : refusal_of u (Write y at bytes) ≡ None) where
  abbrev place : Path
  place = to ++ y

  abbrev longer : Tree
  longer = next_tree u (Write y at bytes)

  abbrev new : Entry
  new = written u y at bytes

  writes : WritesAt u y
  writes = writes_at u y at bytes allowed

  place_below : is_root place ≡ false
  place_below = place_not_root to y writes.below_root

  place_up : is_directory w (parent place) ≡ true
  place_up = parent_there replaces to listed t u w so_far y writes.below_root writes.parent_directory

  same_nodes : (v : Tree) → find path_cmp place v ≡ find path_cmp y u → node_at v place ≡ node_at u y
  same_nodes v same = node_at-find v place place_below ∙ ap node_of same ∙ sym (node_at-find u y writes.below_root)

  -- on a tree that has there what the sources have so far, and elsewhere what was put, the write is carried out
  write_leads_from : (v : Tree) → IsTree v → IsCommand (Write place at bytes)
      → is_directory v (parent place) ≡ true → find path_cmp place v ≡ find path_cmp y u
      → ((x : Path) → same_path x place ≡ false → find path_cmp x v ≡ find path_cmp x w)
      → clash replaces (find path_cmp place t) (Some new) ≡ None
      → (refusal_of v (Write place at bytes) ≡ None)
      × IsPut replaces to listed longer t (next_tree v (Write place at bytes))
  write_leads_from v tree command up same elsewhere free =
      let none : refusal_of v (Write place at bytes) ≡ None =
      write_alike v u place y at bytes up writes.parent_directory (same_nodes v same) ∙ allowed in (
        none,
        one_more_put replaces to listed t u longer w (next_tree v (Write place at bytes)) y new writes.below_root
            (write_finds u y at bytes) so_far
            (ap (clash replaces (find path_cmp place t)) (counted_file listed y new refl) ∙ free)
            (IsTree-next_tree v (Write place at bytes) tree command none)
            (λ x. write_finds v place at bytes x ∙ by x (same_path x place) refl),
      )
    where
      by : (x : Path) (b : Bool) → same_path x place ≡ b
          → cond b (Some (written v place at bytes)) (find path_cmp x v)
          ≡ cond b (over (find path_cmp place t) (counted listed y (Some new))) (find path_cmp x w)
      by x true s = ap Some (written_alike v u place y at bytes place_below writes.below_root same)
          ∙ sym (ap (over (find path_cmp place t)) (counted_file listed y new refl)
          ∙ over_file (find path_cmp place t) new refl)
      by x false s = elsewhere x s

  -- why it is not put there
  pub not_written : (reason : Refusal) → clash replaces (find path_cmp place t) (Some new) ≡ Some reason
      → IsUnput replaces p to listed longer t place reason
  not_written reason clashes = record {
    new = new;
    comes = comes_last to listed u longer y new writes.below_root (write_finds u y at bytes)
        ∙ counted_file listed y new refl;
    reason = inl clashes;
  }

  -- ---- a further write

  module _ (there : exists u y ≡ true) where
    pub there_already : find path_cmp place w ≡ find path_cmp y u
    there_already =
        at_place replaces to listed t u w so_far y writes.below_root ∙ by (find path_cmp y u)
        (sym (exists-find u y writes.below_root) ∙ there)
        (ap is_directory_node (sym (node_at-find u y writes.below_root)) ∙ writes.no_directory)
      where
        by : (o : Option Entry) → is_some o ≡ true → is_directory_node (node_of o) ≡ false
            → over (find path_cmp place t) (counted listed y o) ≡ o
        by None is other = cc
        by (Some e) is other = ap (over (find path_cmp place t)) (counted_file listed y e other)
            ∙ over_file (find path_cmp place t) e other

    pub free_already : clash replaces (find path_cmp place t) (Some new) ≡ None
    free_already = by (find path_cmp y u) (sym (exists-find u y writes.below_root) ∙ there)
        (ap is_directory_node (sym (node_at-find u y writes.below_root)) ∙ writes.no_directory)
        (ap (clash replaces (find path_cmp place t)) (sym (placed_below to listed u y writes.below_root))
        ∙ so_far.allowed place)
      where
        by : (o : Option Entry) → is_some o ≡ true → is_directory_node (node_of o) ≡ false
            → clash replaces (find path_cmp place t) (counted listed y o) ≡ None
            → clash replaces (find path_cmp place t) (Some new) ≡ None
        by None is other free = cc
        by (Some e) is other free = clash_alike replaces (find path_cmp place t) new e (sym other)
            ∙ ap (clash replaces (find path_cmp place t)) (sym (counted_file listed y e other)) ∙ free

    pub later_leads : IsCommand (Write place at bytes) → (refusal_of w (Write place at bytes) ≡ None)
        × IsPut replaces to listed longer t (next_tree w (Write place at bytes))
    later_leads command = write_leads_from w so_far.standing.is_tree command place_up there_already
        (λ x s. refl) free_already

  -- ---- the first write

  module _ (first : find path_cmp y u ≡ None) where
    pub stood_first : find path_cmp place w ≡ find path_cmp place t
    stood_first = stood_there replaces to listed t u w so_far y writes.below_root first

    pub node_first : node_at w place ≡ node_of (find path_cmp place t)
    node_first = node_at-find w place place_below ∙ ap node_of stood_first

    -- where nothing stands it is written
    pub into_nothing : exists w place ≡ false → IsCommand (Write place at bytes)
        → (refusal_of w (Write place at bytes) ≡ None)
        × IsPut replaces to listed longer t (next_tree w (Write place at bytes))
    into_nothing none command =
        let nothing = not_found w place place_below none in
        write_leads_from w so_far.standing.is_tree command place_up (nothing ∙ sym first) (λ x s. refl)
        (ap (λ o. clash replaces o (Some new)) (sym stood_first ∙ nothing))

    -- where a directory stands it is refused
    pub into_directory : is_directory w place ≡ true → refusal_of w (Write place at bytes) ≡ Some refusals.Kind
    unfolding conditions first_refusal
    into_directory is = ap₂ (λ a b. cond (not a) (Some refusals.Parent) (cond b (Some refusals.Kind)
        (cond (nat_lt (length (contents w place)) at) (Some refusals.Gap)
        (cond (nat_lt file_limit (at + length bytes)) (Some refusals.Big) None)))) place_up is

    pub directory_clashes : (o : Option Entry) → is_directory_node (node_of o) ≡ true
        → clash replaces o (Some new) ≡ Some refusals.Kind
    directory_clashes None is = cc
    directory_clashes (Some e) is = ap (λ b. clash_of_kinds replaces b false) is

    -- where a file stands it goes
    pub file_clashes : (o : Option Entry) → is_file_node (node_of o) ≡ true
        → clash replaces o (Some new) ≡ cond replaces None (Some refusals.Exists)
    file_clashes None is = cc
    file_clashes (Some e) is = by e.node is
      where
        by : (n : Node) → is_file_node (Some n) ≡ true
            → clash replaces (Some (record { node = n; attributes = e.attributes })) (Some new)
            ≡ cond replaces None (Some refusals.Exists)
        by Directory is = cc
        by (File bytes) is = refl

    module _ (file : is_file_node (node_at w place) ≡ true) where
      other_kind : is_directory w place ≡ false
      other_kind = false_from_ne_true _ (λ is. both_ways _ (not_both (node_at w place) is) file)

      pub file_goes : refusal_of w (Remove place) ≡ None
      unfolding conditions first_refusal
      file_goes =
          ap₂ (λ (a b : Bool). cond a (Some refusals.Root) (cond (not b) (Some refusals.Missing)
          (cond (is_directory w place && has_child w place) (Some refusals.NotEmpty) None))) place_below
          (file_exists (node_at w place) file)
          ∙ ap (λ b. cond (b && has_child w place) (Some refusals.NotEmpty) None) other_kind

      pub file_stays : refusal_of w (Make place) ≡ Some refusals.Exists
      file_stays = made_in w place place_below place_up
          ∙ ap (λ b. cond b (Some refusals.Exists) None) (file_exists (node_at w place) file)

      cleared : Tree
      cleared = without w place

      parent_stays : is_directory (without w place) (parent place) ≡ true
      parent_stays =
          ap is_directory_node (same_node (without w place) w (parent place) (find-without w place (parent place)
          ∙ cond-false _ None (find path_cmp (parent place) w) (false_from_ne_true _ (λ s.
          let step = last_step place place_below in
          let same : parent place ≡ place = same_from_test (parent place) place s in
          absurd (omega (arith, ap length step.1, ap length same, length-append (parent place) (step.0 ∷ [])))))))
          ∙ place_up

      pub after_it_goes : replaces ≡ true → IsCommand (Write place at bytes)
          → (refusal_of (without w place) (Write place at bytes) ≡ None)
          × IsPut replaces to listed longer t (next_tree (without w place) (Write place at bytes))
      after_it_goes may command =
          write_leads_from (without w place)
          (IsTree-without w place so_far.standing.is_tree (and_left _ _ other_kind)) command parent_stays
          (find-without w place place ∙ cond-true _ None (find path_cmp place w) (same_path-itself place) ∙ sym first)
          (λ x s. find-without w place x ∙ cond-false _ None (find path_cmp x w) s)
          (file_clashes (find path_cmp place t) (ap is_file_node (sym node_first) ∙ file)
          ∙ ap (λ b. cond b None (Some refusals.Exists)) may)
