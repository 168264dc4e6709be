-- What is left of attributes of which some are taken away.
use Rattle.std.proofs.Common.{◌≡◌, List, [], ◌∷◌, Bool, true, false, not, ◌&&◌, ◌||◌, cond, IsTrue, Option, Some}
use Rattle.std.proofs.Common.{None, is_some, refl, sym, ap, subst, ◌∙◌, Ordering, Less, Equal, Greater}
use Rattle.std.specs.List.{list_any, flat_map, AllByRecursion}
use Rattle.std.specs.List.Sorted.{IsStrictlySortedBy}
use Rattle.std.specs.Cmp.{tied_itself}
use Rattle.std.specs.Ordering.{eq_by_cmp, is_eq, ordering_then}
use Rattle.std.specs.FinMap.{find, is_sorted}
use Rattle.std.proofs.lemmas.Bool.{false≢true, and_parts, and_from}
use Rattle.store_model.specs.Paths.{Path, Name, is_root, path_cmp, name_cmp, same_path}
use Rattle.store_model.specs.Trees.{Tree, IsTree, node_at, attributes_at, attribute_at}
use Rattle.store_model.specs.Trees.{exists, without_attribute}
use Rattle.store_model.specs.Commands.{Command, IsCommand}
use Rattle.store_model.specs.Commands.Command.{UnsetAttribute}
use Rattle.store_model.specs.Steps.{conditions, refusal_of, next_tree}
use Rattle.store_model.proofs.ListsLemmas.{all_weaker, rising_head, rising_tail, rising_from_is_sorted}
use Rattle.store_model.proofs.PathsLemmasPlaces.{same_name_from_tie, name_cmp_total}
use Rattle.store_model.proofs.TreesLemmasPaths.{path_cmp_total, same_from_test, same_from_tie}
use Rattle.store_model.proofs.TreesLemmasSteps.{IsTree-next_tree}
use Rattle.store_model.proofs.TreesLemmasAttributes.{node_at-with_attributes, attribute_at-unset}
use Rattle.dump_diff.specs.declared.difference.Side.{Side}
use Rattle.dump_diff.specs.declared.difference.Side.TheVariants.{First, Second, Both}
use Rattle.dump_diff.specs.Scripts.{AttributePlace, attribute_cmp, unset_of}
use Rattle.dump_diff.proofs.Searching.{attribute_total}
use Rattle.synced_trees.specs.Leading.{AreAllowed, led_by}
use Rattle.synced_trees.proofs.Laying.{none_refuses, equal_from_test}
use Rattle.synced_trees.proofs.Leads.{allowed_append, led_append, found_all, piled, all_piled, none_with}
use Rattle.synced_trees.proofs.Leads.{find_any}

-- places that tie are equal
pub same_place : (x y : AttributePlace) → attribute_cmp x y ≡ Equal → x ≡ y
same_place x y tied = by_path (path_cmp x.0 y.0) refl tied
  where
    by_path : (o : Ordering) → path_cmp x.0 y.0 ≡ o → ordering_then o (name_cmp x.1 y.1) ≡ Equal → x ≡ y
    by_path Less is tied = cc
    by_path Greater is tied = cc
    by_path Equal is tied = λ i. (same_from_tie x.0 y.0 is i, same_name_from_tie x.1 y.1 tied i)

-- whether an attribute is taken away
abbrev pub is_dropped : Side → Bool
is_dropped First = true
is_dropped Second = false
is_dropped Both = true

abbrev pub dropped_at : Option Side → Bool
dropped_at None = false
dropped_at (Some s) = is_dropped s

-- what is taken away is there
pub record MayUnset (m : Tree) (sides : List (AttributePlace × Side)) : Type 0 where
  pub rising : IsTrue (is_sorted attribute_cmp sides)
  pub below_root : (x : Path) (n : Name) → dropped_at (find attribute_cmp (x, n) sides) ≡ true → is_root x ≡ false
  pub there : (x : Path) (n : Name) → dropped_at (find attribute_cmp (x, n) sides) ≡ true → exists m x ≡ true
  pub held : (x : Path) (n : Name) → dropped_at (find attribute_cmp (x, n) sides) ≡ true
      → is_some (attribute_at m x n) ≡ true
  pub valid : (x : Path) (n : Name) → dropped_at (find attribute_cmp (x, n) sides) ≡ true
      → IsCommand (UnsetAttribute x n)

cond_twice : {X : Type 0} (b s : Bool) (y : Option X) → cond b None (cond s None y) ≡ cond (b || s) None y
cond_twice true s y = refl
cond_twice false s y = refl

module _ (m : Tree) (sides : List (AttributePlace × Side)) where
  -- whether this is the attribute that is taken away
  abbrev drops : Path → Name → AttributePlace × Side → Bool
  drops x n e = is_dropped e.1 && (same_path x (e.0).0 && eq_by_cmp name_cmp n (e.0).1)

  pub record IsUnset (done : List (AttributePlace × Side)) (r : Tree) : Type 0 where
    pub is_tree : IsTree r
    pub nodes : (x : Path) → node_at r x ≡ node_at m x
    pub names : (x : Path) (n : Name) → attribute_at r x n ≡ cond (list_any (drops x n) done) None (attribute_at m x n)

  abbrev Passed : List (AttributePlace × Side) → AttributePlace × Side → Type 0
  Passed rest e = AllByRecursion (λ f. attribute_cmp e.0 f.0 ≡ Less) rest

  abbrev Before : AttributePlace → AttributePlace × Side → Type 0
  Before q e = attribute_cmp e.0 q ≡ Less

  not_dropped : (x : Path) (n : Name) (done : List (AttributePlace × Side)) → AllByRecursion (Before (x, n)) done
      → list_any (drops x n) done ≡ false
  not_dropped x n done before = none_with (Before (x, n)) (drops x n) done before never
    where
      never : (e : AttributePlace × Side) → Before (x, n) e → drops x n e ≡ true → ⊥
      never e less is =
          let parts = and_parts (same_path x (e.0).0) (eq_by_cmp name_cmp n (e.0).1)
          (and_parts (is_dropped e.1) _ is).1 in
          let path : x ≡ (e.0).0 = same_from_test x (e.0).0 parts.0 in
          let name : n ≡ (e.0).1 = same_name_from_tie n (e.0).1 (equal_from_test (name_cmp n (e.0).1) parts.1) in
          let tied : attribute_cmp e.0 (x, n) ≡ Equal = (λ i. attribute_cmp e.0 (path i, name i))
          ∙ tied_itself attribute_total e.0 in
          cc

  unset_one : (x : Path) (n : Name) (s : Side) (done : List (AttributePlace × Side)) (r : Tree) → MayUnset m sides
      → find attribute_cmp (x, n) sides ≡ Some s → is_dropped s ≡ true → AllByRecursion (Before (x, n)) done
      → IsUnset done r
      → (refusal_of r (UnsetAttribute x n) ≡ None) × IsUnset (((x, n), s) ∷ done) (next_tree r (UnsetAttribute x n))
  unfolding conditions next_tree
  unset_one x n s done r may found dropped before unset =
      let is : dropped_at (find attribute_cmp (x, n) sides) ≡ true = ap dropped_at found ∙ dropped in
      let below = may.below_root x n is in
      let here : exists r x ≡ true = ap is_some (unset.nodes x) ∙ may.there x n is in
      let held : is_some (attribute_at r x n) ≡ true = ap is_some (unset.names x n
      ∙ ap (λ b. cond b None (attribute_at m x n)) (not_dropped x n done before)) ∙ may.held x n is in
      let free : refusal_of r (UnsetAttribute x n) ≡ None =
      none_refuses (conditions r (UnsetAttribute x n)) (below, (ap not here, (ap not held, tt))) in (
        free,
        record {
          is_tree = IsTree-next_tree r (UnsetAttribute x n) unset.is_tree (may.valid x n is) free;
          nodes = λ y. node_at-with_attributes r x y (without_attribute (attributes_at r x) n) ∙ unset.nodes y;
          names = λ y k. attribute_at-unset r x y n k below here
              ∙ ap (cond (same_path y x && eq_by_cmp name_cmp k n) None) (unset.names y k)
              ∙ cond_twice (same_path y x && eq_by_cmp name_cmp k n) (list_any (drops y k) done) (attribute_at m y k)
              ∙ ap (λ b. cond ((b && (same_path y x && eq_by_cmp name_cmp k n)) || list_any (drops y k) done) None
              (attribute_at m y k)) (sym dropped);
        },
      )

  abbrev commands_of : AttributePlace × Side → List Command
  commands_of e = unset_of e.1 (e.0).0 (e.0).1

  advance : (x : Path) (n : Name) (s : Side) (done : List (AttributePlace × Side)) (r : Tree) → MayUnset m sides
      → find attribute_cmp (x, n) sides ≡ Some s → AllByRecursion (Before (x, n)) done → IsUnset done r
      → AreAllowed r (unset_of s x n) × IsUnset (((x, n), s) ∷ done) (led_by r (unset_of s x n))
  advance x n First done r may found before unset =
      let one = unset_one x n First done r may found refl before unset in ((one.0, tt), one.1)
  advance x n Both done r may found before unset =
      let one = unset_one x n Both done r may found refl before unset in ((one.0, tt), one.1)
  advance x n Second done r may found before unset = (
    tt,
    record {
      is_tree = unset.is_tree;
      nodes = unset.nodes;
      names = unset.names;
    },
  )

  unsetting : (done rest : List (AttributePlace × Side)) (r : Tree) → MayUnset m sides
      → AllByRecursion (λ e. find attribute_cmp e.0 sides ≡ Some e.1) rest
      → IsStrictlySortedBy (λ (x y : AttributePlace × Side). attribute_cmp x.0 y.0) rest
      → AllByRecursion (Passed rest) done → IsUnset done r
      → AreAllowed r (flat_map commands_of rest) × IsUnset (piled done rest) (led_by r (flat_map commands_of rest))
  unsetting done [] r may found rising passed unset = (tt, unset)
  unsetting done (e ∷ rest) r may found rising passed unset =
      let one = advance (e.0).0 (e.0).1 e.1 done r may found.0
      (all_weaker (Passed (e ∷ rest)) (Before e.0) (λ f is. is.0) done passed) unset in
      let others = unsetting (e ∷ done) rest (led_by r (commands_of e)) may found.1
      (rising_tail (λ (x y : AttributePlace × Side). attribute_cmp x.0 y.0) e rest rising) (
        rising_head (λ (x y : AttributePlace × Side). attribute_cmp x.0 y.0) e rest rising,
        all_weaker (Passed (e ∷ rest)) (Passed rest) (λ f is. is.1) done passed,
      ) one.1 in (
        allowed_append (commands_of e) (flat_map commands_of rest) r one.0 others.0,
        subst (IsUnset (piled (e ∷ done) rest)) (sym (led_append (commands_of e) (flat_map commands_of rest) r))
            others.1,
      )

  -- ---- what is left

  abbrev Found : AttributePlace × Side → Type 0
  Found e = find attribute_cmp e.0 sides ≡ Some e.1

  dropped_is : (x : Path) (n : Name) → MayUnset m sides
      → list_any (drops x n) (piled [] sides) ≡ dropped_at (find attribute_cmp (x, n) sides)
  dropped_is x n may = by_side (find attribute_cmp (x, n) sides) refl
    where
      never : dropped_at (find attribute_cmp (x, n) sides) ≡ false → (e : AttributePlace × Side) → Found e
          → drops x n e ≡ true → ⊥
      never other e found is =
          let dropped = and_parts (is_dropped e.1) (same_path x (e.0).0 && eq_by_cmp name_cmp n (e.0).1) is in
          let parts = and_parts (same_path x (e.0).0) (eq_by_cmp name_cmp n (e.0).1) dropped.1 in
          let path : x ≡ (e.0).0 = same_from_test x (e.0).0 parts.0 in
          let name : n ≡ (e.0).1 = same_name_from_tie n (e.0).1 (equal_from_test (name_cmp n (e.0).1) parts.1) in
          false≢true (sym other ∙ (λ i. dropped_at (find attribute_cmp (path i, name i) sides)) ∙ ap dropped_at found
          ∙ dropped.0)

      none : dropped_at (find attribute_cmp (x, n) sides) ≡ false → list_any (drops x n) (piled [] sides) ≡ false
      none other = none_with Found (drops x n) (piled [] sides)
          (all_piled Found [] sides tt (found_all attribute_cmp attribute_total sides
          (rising_from_is_sorted attribute_cmp sides may.rising))) (never other)

      some : (s : Side) → find attribute_cmp (x, n) sides ≡ Some s → is_dropped s ≡ true
          → list_any (drops x n) (piled [] sides) ≡ true
      some s is dropped = find_any attribute_cmp same_place (drops x n) (x, n) s [] sides is
          (and_from (is_dropped s) (same_path x x && eq_by_cmp name_cmp n n) dropped
          (and_from (same_path x x) (eq_by_cmp name_cmp n n) (ap is_eq (tied_itself path_cmp_total x))
          (ap is_eq (tied_itself name_cmp_total n))))

      by_side : (o : Option Side) → find attribute_cmp (x, n) sides ≡ o
          → list_any (drops x n) (piled [] sides) ≡ dropped_at o
      by_side None is = none (ap dropped_at is)
      by_side (Some First) is = some First is refl
      by_side (Some Both) is = some Both is refl
      by_side (Some Second) is = none (ap dropped_at is)

  -- the commands that take attributes away are carried out, and this is left
  pub record UnsetTo (r : Tree) : Type 0 where
    pub is_tree : IsTree r
    pub nodes : (x : Path) → node_at r x ≡ node_at m x
    pub names : (x : Path) (n : Name) → attribute_at r x n
        ≡ cond (dropped_at (find attribute_cmp (x, n) sides)) None (attribute_at m x n)

  pub unset_all : IsTree m → MayUnset m sides
      → AreAllowed m (flat_map commands_of sides) × UnsetTo (led_by m (flat_map commands_of sides))
  unset_all is_tree may =
      let rising = rising_from_is_sorted attribute_cmp sides may.rising in
      let all = unsetting [] sides m may (found_all attribute_cmp attribute_total sides rising) rising tt (record {
        is_tree = is_tree;
        nodes = λ x. refl;
        names = λ x n. refl;
      }) in (
        all.0,
        record {
          is_tree = (all.1).is_tree;
          nodes = (all.1).nodes;
          names = λ x n. (all.1).names x n ∙ ap (λ b. cond b None (attribute_at m x n)) (dropped_is x n may);
        },
      )
