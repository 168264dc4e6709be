-- The steps that set attributes.
use Rattle.std.proofs.Common.{◌≡◌, ◌⊎◌, inl, inr, ℕ, List, [], ◌∷◌, ◌++◌, length, Bool, true, false, not, ◌&&◌, ◌||◌}
use Rattle.std.proofs.Common.{cond, Option, Some, None, is_some, option_map, refl, sym, ap, ap₂, ◌∙◌}
use Rattle.std.proofs.Common.{nat_lt, Ordering, Less, Equal, Greater}
use Rattle.std.specs.List.{list_any, filter}
use Rattle.std.specs.FinMap.{find, put}
use Rattle.std.specs.FinMap.Entries.{by_order}
use Rattle.std.proofs.lemmas.Bool.{or_right, or_left, not-false}
use Rattle.std.proofs.lemmas.Bool.{not_from_false, not-true, and_parts}
use Rattle.store_model.specs.declared.refusal.Refusal.{Refusal}
use Rattle.store_model.specs.declared.refusal.Refusal.TheVariants as refusals
use Rattle.store_model.specs.Parameters.{Parameters}
use Rattle.store_model.specs.Paths.{Path, Name, is_root, path_cmp, name_cmp, same_path, fits_attribute}
use Rattle.store_model.specs.Trees.{Tree, Entry, Attributes, node_of, attribute_limit}
use Rattle.store_model.specs.Trees.{is_directory, is_directory_node, with_attribute}
use Rattle.store_model.specs.Pairs.{has_attributes}
use Rattle.store_model.specs.Commands.{IsCommand}
use Rattle.store_model.specs.Commands.Command.{SetAttribute}
use Rattle.store_model.specs.Steps.{conditions, first_refusal, next_tree, is_on_attributes, refusal_of}
use Rattle.store_model.proofs.PathsLemmasPlaces.{same_name_from_tie}
use Rattle.store_model.proofs.TreesLemmasPaths.{same_from_test}
use Rattle.store_model.proofs.TreesLemmas.{node_at-find, exists-find, some_entry}
use Rattle.store_model.proofs.TreesLemmasSteps.{all_fail, IsTree-next_tree}
use Rattle.tree_changes.specs.Conditional.{refusal_under}
use Rattle.tree_changes.specs.Folders.{is_among}
use Rattle.tree_changes.specs.Puts.{counted, over, clash, is_merged, has_no_room, IsUnput, IsPut, fresh_of}
use Rattle.tree_changes.proofs.PlacedLemmas.{place_not_root, placed_below, one_more_put, over_file}
use Rattle.tree_changes.proofs.PutLemmas.{counted_file, counted_listed, counted_unlisted, clash_alike, clash_merged}
use Rattle.tree_changes.proofs.PutLemmas.{over_new, over_old, comes_last, at_place}
use Rattle.tree_changes.proofs.AttributeLemmas.{allowed_of, found_attributed}

-- ---- attributes with one more

-- some attribute is there
some_put : (name : Name) (bytes : List ℕ) (attributes : Attributes)
    → list_any (λ (a : Name × List ℕ). true) (put name_cmp name bytes attributes) ≡ true
some_put name bytes [] = refl
some_put name bytes (e ∷ attributes) = by (name_cmp name e.0)
  where
    by : (o : Ordering) → list_any (λ (a : Name × List ℕ). true)
        (by_order o ((name, bytes) ∷ e ∷ attributes) ((e.0, bytes) ∷ attributes)
        (e ∷ put name_cmp name bytes attributes)) ≡ true
    by Less = refl
    by Equal = refl
    by Greater = refl

-- and the one that was put passes a test of its name
named_put : (test : Name → Bool) (name : Name) (bytes : List ℕ) (attributes : Attributes) → test name ≡ true
    → list_any (λ (a : Name × List ℕ). test a.0) (put name_cmp name bytes attributes) ≡ true
named_put test name bytes [] passes = or_left (test name) false passes
named_put test name bytes (e ∷ attributes) passes =
    by (name_cmp name e.0) refl (named_put test name bytes attributes passes)
  where
    by : (o : Ordering) → name_cmp name e.0 ≡ o
        → list_any (λ (a : Name × List ℕ). test a.0) (put name_cmp name bytes attributes) ≡ true
        → list_any (λ (a : Name × List ℕ). test a.0)
        (by_order o ((name, bytes) ∷ e ∷ attributes) ((e.0, bytes) ∷ attributes)
        (e ∷ put name_cmp name bytes attributes)) ≡ true
    by Less c rest = or_left (test name) _ passes
    by Equal c rest = or_left (test e.0) _ (ap test (sym (same_name_from_tie name e.0 c)) ∙ passes)
    by Greater c rest = or_right (test e.0) _ rest

-- ---- fresh directories

among_filtered : (keep : Path → Bool) (paths : List Path) (y : Path)
    → is_among (filter keep paths) y ≡ (is_among paths y && keep y)
among_filtered keep [] y = refl
among_filtered keep (x ∷ paths) y = by (keep x) refl (same_path y x) refl (among_filtered keep paths y)
  where
    or_true : (b : Bool) → (b || true) ≡ true
    or_true true = refl
    or_true false = refl

    by : (k : Bool) → keep x ≡ k → (s : Bool) → same_path y x ≡ s
        → is_among (filter keep paths) y ≡ (is_among paths y && keep y)
        → is_among (cond k (x ∷ filter keep paths) (filter keep paths)) y
        ≡ ((same_path y x || is_among paths y) && keep y)
    by true k true s rest = or_left _ _ s ∙ sym (ap₂ (λ a b. (a || is_among paths y) && b) s
        (ap keep (same_from_test y x s) ∙ k))
    by false k true s rest = rest
        ∙ ap (λ b. is_among paths y && b) (ap keep (same_from_test y x s) ∙ k)
        ∙ none (is_among paths y) ∙ sym (ap₂ (λ a b. (a || is_among paths y) && b) s
        (ap keep (same_from_test y x s) ∙ k))
      where
        none : (b : Bool) → (b && false) ≡ false
        none true = refl
        none false = refl
    by true k false s rest = ap (λ b. b || is_among (filter keep paths) y) s ∙ rest
        ∙ sym (ap (λ b. (b || is_among paths y) && keep y) s)
    by false k false s rest = rest ∙ sym (ap (λ b. (b || is_among paths y) && keep y) s)

fresh_is : (to : Path) (listed : List Path) (t : Tree) (y : Path)
    → is_among (fresh_of to listed t) y ≡ (is_among listed y && not (is_directory t (to ++ y)))
fresh_is to listed t y = among_filtered (λ z. not (is_directory t (to ++ z))) listed y

-- ---- an attribute of an entry

module _ (replaces : Bool) (to : Path) (listed : List Path) (p : Parameters) (t u w : Tree)
    (so_far : IsPut replaces to listed u t w) (y : Path) (name : Name) (bytes : List ℕ)
    (allowed : refusal_of u (SetAttribute y name bytes) ≡ None) where
  abbrev q : Path
  q = to ++ y

  abbrev named : Tree
  named = next_tree u (SetAttribute y name bytes)

  -- its conditions
  pub record SetsAt (e : Entry) : Type 0 where
    pub below_root : is_root y ≡ false
    pub found : find path_cmp y u ≡ Some e
    pub short : nat_lt attribute_limit (length bytes) ≡ false

  pub sets_at : (e : Entry) × SetsAt e
  unfolding conditions
  sets_at =
      let fail = all_fail (conditions u (SetAttribute y name bytes)) allowed in
      let there = not-false _ (fail.1).0 in
      let some = some_entry (find path_cmp y u) (sym (exists-find u y fail.0) ∙ there) in
      (some.0, record { below_root = fail.0; found = some.1; short = ((fail.1).1).0 })

  module _ (e : Entry) (sets : SetsAt e) where
    abbrev new : Entry
    new = record { node = e.node; attributes = with_attribute e.attributes name bytes }

    finds : (z : Path) → find path_cmp z named ≡ cond (same_path z y) (Some new) (find path_cmp z u)
    unfolding next_tree
    finds z = found_attributed u y z (λ a. with_attribute a name bytes) ∙ by (same_path z y) refl
      where
        by : (b : Bool) → same_path z y ≡ b
            → cond b (option_map (λ (f : Entry). record {
              node = f.node;
              attributes = with_attribute f.attributes name bytes;
            }) (find path_cmp z u)) (find path_cmp z u) ≡ cond b (Some new) (find path_cmp z u)
        by true s = ap (option_map (λ (f : Entry). record {
          node = f.node;
          attributes = with_attribute f.attributes name bytes;
        })) (ap (λ x. find path_cmp x u) (same_from_test z y s) ∙ sets.found)
        by false s = refl

    q_below : is_root q ≡ false
    q_below = place_not_root to y sets.below_root

    -- what stands there so far
    stands : find path_cmp q w ≡ over (find path_cmp q t) (counted listed y (Some e))
    stands = at_place replaces to listed t u w so_far y sets.below_root
        ∙ ap (λ o. over (find path_cmp q t) (counted listed y o)) sets.found

    fits_so_far : clash replaces (find path_cmp q t) (counted listed y (Some e)) ≡ None
    fits_so_far = ap (clash replaces (find path_cmp q t)) (sym (placed_below to listed u y sets.below_root
        ∙ ap (counted listed y) sets.found)) ∙ so_far.allowed q

    -- ---- one that does not count

    -- where all that counts is the same with it
    as_it_was : over (find path_cmp q t) (counted listed y (Some e))
        ≡ over (find path_cmp q t) (counted listed y (Some new))
        → clash replaces (find path_cmp q t) (counted listed y (Some new)) ≡ None
        → IsPut replaces to listed named t w
    as_it_was same free = one_more_put replaces to listed t u named w w y new sets.below_root finds so_far free
        so_far.standing.is_tree (λ x. by x (same_path x q) refl)
      where
        by : (x : Path) (b : Bool) → same_path x q ≡ b
            → find path_cmp x w ≡ cond b (over (find path_cmp q t) (counted listed y (Some new))) (find path_cmp x w)
        by x true s = ap (λ z. find path_cmp z w) (same_from_test x q s) ∙ stands ∙ same
        by x false s = refl

    pub skipped : is_directory_node (Some e.node) ≡ true → is_among (fresh_of to listed t) y ≡ false
        → IsPut replaces to listed named t w
    skipped is old = by (is_among listed y) refl
      where
        stood : is_among listed y ≡ true → is_directory_node (node_of (find path_cmp q t)) ≡ true
        stood among = ap is_directory_node (sym (node_at-find t q q_below))
            ∙ not-false _ (ap (λ b. b && not (is_directory t q)) (sym among) ∙ sym (fresh_is to listed t y) ∙ old)

        by : (b : Bool) → is_among listed y ≡ b → IsPut replaces to listed named t w
        by false among = as_it_was
            (ap (over (find path_cmp q t)) (counted_unlisted listed y e is among
            ∙ sym (counted_unlisted listed y new is among)))
            (ap (clash replaces (find path_cmp q t)) (counted_unlisted listed y new is among
            ∙ sym (counted_unlisted listed y e is among)) ∙ fits_so_far)
        by true among = as_it_was
            (ap (over (find path_cmp q t)) (counted_listed listed y e among)
            ∙ over_old (find path_cmp q t) e (stood among) is
            ∙ sym (ap (over (find path_cmp q t)) (counted_listed listed y new among)
            ∙ over_old (find path_cmp q t) new (stood among) is))
            (ap (clash replaces (find path_cmp q t)) (counted_listed listed y new among)
            ∙ clash_merged replaces (find path_cmp q t) new (stood among) is)

    -- ---- one that counts

    -- it counts of a file, and of a directory that is fresh
    pub record Counts : Type 0 where
      pub comes : (f : Entry) → f.node ≡ e.node → counted listed y (Some f) ≡ Some f
      pub unmerged : (f : Entry) → f.node ≡ e.node → (over (find path_cmp q t) (Some f) ≡ Some f)
          × (is_merged (find path_cmp q t) f ≡ false)

    merged_not : (o : Option Entry) (f : Entry)
        → (is_directory_node (node_of o) ≡ false) ⊎ (is_directory_node (Some f.node) ≡ false) → is_merged o f ≡ false
    merged_not None f either = refl
    merged_not (Some old) f (inl other) = ap (λ b. b && is_directory_node (Some f.node)) other
    merged_not (Some old) f (inr other) = ap (λ b. is_directory_node (Some old.node) && b) other
        ∙ none (is_directory_node (Some old.node))
      where
        none : (b : Bool) → (b && false) ≡ false
        none true = refl
        none false = refl

    pub of_file : is_directory_node (Some e.node) ≡ false → Counts
    of_file other = record {
      comes = λ f same. counted_file listed y f (ap (λ n. is_directory_node (Some n)) same ∙ other);
      unmerged = λ f same. let no_directory = ap (λ n. is_directory_node (Some n)) same ∙ other in
          (over_file (find path_cmp q t) f no_directory, merged_not (find path_cmp q t) f (inr no_directory));
    }

    pub of_fresh : is_among (fresh_of to listed t) y ≡ true → Counts
    of_fresh fresh =
        let parts = and_parts (is_among listed y) _ (sym (fresh_is to listed t y) ∙ fresh) in
        let none : is_directory_node (node_of (find path_cmp q t)) ≡ false =
        ap is_directory_node (sym (node_at-find t q q_below)) ∙ not-true _ parts.1 in
        record {
          comes = λ f same. counted_listed listed y f parts.0;
          unmerged = λ f same.
              (over_new (find path_cmp q t) f none, merged_not (find path_cmp q t) f (inl none));
        }

    module _ (counts : Counts) where
      there : find path_cmp q w ≡ Some e
      there = stands ∙ ap (over (find path_cmp q t)) (counts.comes e refl) ∙ (counts.unmerged e refl).0

      why_set : refusal_under p w (SetAttribute q name bytes)
          ≡ cond (not (has_attributes p.version)) (Some refusals.Version)
          (cond (not (fits_attribute q name)) (Some refusals.Path) None)
      unfolding conditions first_refusal is_on_attributes
      why_set =
          ap₂ (λ (a b : Bool). cond (not (has_attributes p.version)) (Some refusals.Version)
          (cond a (Some refusals.Root) (cond (not b) (Some refusals.Missing)
          (cond (nat_lt attribute_limit (length bytes)) (Some refusals.Big)
          (cond (not (fits_attribute q name)) (Some refusals.Path) None))))) q_below
          (exists-find w q q_below ∙ ap is_some there)
          ∙ ap (λ a. cond (not (has_attributes p.version)) (Some refusals.Version) (cond a (Some refusals.Big)
          (cond (not (fits_attribute q name)) (Some refusals.Path) None))) sets.short

      pub set_put : IsCommand (SetAttribute q name bytes) → refusal_under p w (SetAttribute q name bytes) ≡ None
          → IsPut replaces to listed named t (next_tree w (SetAttribute q name bytes))
      unfolding next_tree
      set_put command none =
          one_more_put replaces to listed t u named w (next_tree w
          (SetAttribute q name bytes)) y new sets.below_root finds
          so_far
          (ap (clash replaces (find path_cmp q t)) (counts.comes new refl)
          ∙ clash_alike replaces (find path_cmp q t) new e refl
          ∙ ap (clash replaces (find path_cmp q t)) (sym (counts.comes e refl)) ∙ fits_so_far)
          (IsTree-next_tree w (SetAttribute q name bytes) so_far.standing.is_tree command
          (allowed_of p w (SetAttribute q name bytes) none))
          (λ x. found_attributed w q x (λ a. with_attribute a name bytes) ∙ by x (same_path x q) refl)
        where
          by : (x : Path) (b : Bool) → same_path x q ≡ b
              → cond b (option_map (λ (f : Entry). record {
                node = f.node;
                attributes = with_attribute f.attributes name bytes;
              }) (find path_cmp x w)) (find path_cmp x w)
              ≡ cond b (over (find path_cmp q t) (counted listed y (Some new))) (find path_cmp x w)
          by x true s = ap (option_map (λ (f : Entry). record {
            node = f.node;
            attributes = with_attribute f.attributes name bytes;
          })) (ap (λ z. find path_cmp z w) (same_from_test x q s) ∙ there)
              ∙ sym (ap (over (find path_cmp q t)) (counts.comes new refl) ∙ (counts.unmerged new refl).0)
          by x false s = refl

      no_room : (v r : Bool) → has_attributes p.version ≡ v → fits_attribute q name ≡ r → (reason : Refusal)
          → cond (not v) (Some refusals.Version) (cond (not r) (Some refusals.Path) None) ≡ Some reason
          → has_no_room p q new.attributes reason
      no_room false r lacks fits reason is = inl (cc, lacks, some_put name bytes e.attributes)
      no_room true false has short reason is =
          inr (cc, named_put (λ n. not (fits_attribute q n)) name bytes e.attributes (not_from_false _ short))
      no_room true true has fits reason is = cc

      pub set_unput : (reason : Refusal) → refusal_under p w (SetAttribute q name bytes) ≡ Some reason
          → IsUnput replaces p to listed named t q reason
      set_unput reason refused = record {
        new = new;
        comes = comes_last to listed u named y new sets.below_root finds ∙ counts.comes new refl;
        reason = inr (
          (counts.unmerged new refl).1,
          no_room (has_attributes p.version) (fits_attribute q name) refl refl reason (sym why_set ∙ refused),
        );
      }
