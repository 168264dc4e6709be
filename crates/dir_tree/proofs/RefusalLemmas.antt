-- Lemmas on commands that are tested before anything changes: which refusal holds first, and what a tested command
-- owes.
use Rattle.std.proofs.Common.{◌≡◌, List, [], ◌∷◌, Bool, true, false, not, ◌&&◌, if◌then◌else◌, Option, Some, None}
use Rattle.std.proofs.Common.{is_some, Ok, Err, refl, sym, ap, ◌∙◌}
use Rattle.std.specs.Bool.{then_some}
use Rattle.std.proofs.lemmas.Bool.{and_left, and_from, both_ways}
use Rattle.store_model.specs.declared.refusal.Refusal.{Refusal}
use Rattle.store_model.specs.declared.refusal.Refusal.TheVariants as refusals
use Rattle.store_model.specs.Parameters.{Parameters}
use Rattle.store_model.specs.Paths.{Path, is_root, parent}
use Rattle.store_model.specs.Pairs.{pairs}
use Rattle.store_model.specs.Trees.{Tree, Node, is_directory, is_directory_node, is_file, is_file_node, node_at}
use Rattle.store_model.specs.Trees.Node.{Directory, File}
use Rattle.store_model.specs.Commands.{Command, Reply}
use Rattle.store_model.specs.Commands.Command.{Make, Remove, Prune, ListChildren, ListAttributes}
use Rattle.store_model.specs.Steps.{Condition, first_refusal, conditions, refusal_of, next_tree, reply_of, has_child}
use Rattle.store_model.specs.Steps.{root_refused, parent_refused, exists_refused, missing_refused}
use Rattle.store_model.proofs.TreesLemmas.{exists_from_directory}
use Rattle.ordered_pairs.specs.PairsState.{PairsState, IsObservable}
use Rattle.tree_pairs.specs.declared.kind.Kind.{Kind}
use Rattle.tree_pairs.specs.declared.kind.Kind.TheVariants as kinds
use Rattle.tree_pairs.specs.Kinds.{kind_of_node}
use Rattle.tree_pairs.specs.TreeCalls.{HoldsTree, KeepsPairs, CarriesOut, TellsKind}
use Rattle.tree_pairs.proofs.CallLemmas.{step_done, step_refused}
use Rattle.dir_tree.specs.RefusalCalls.{TellsRefusal}

-- ---- what a kind says of what stands there

pub dir_stands : (o : Option Node) (kind : Option Kind) → kind ≡ kind_of_node o → kind ≡ Some kinds.Directory
    → is_directory_node o ≡ true
dir_stands None kind e is = cc
dir_stands (Some Directory) kind e is = refl
dir_stands (Some (File bytes)) kind e is = cc

pub no_dir_stands : (o : Option Node) (kind : Option Kind) → kind ≡ kind_of_node o → (kind ≡ Some kinds.Directory → ⊥)
    → is_directory_node o ≡ false
no_dir_stands None kind e not_dir = refl
no_dir_stands (Some Directory) kind e not_dir = absurd (not_dir e)
no_dir_stands (Some (File bytes)) kind e not_dir = refl

pub nothing_stands : (o : Option Node) (kind : Option Kind) → kind ≡ kind_of_node o → kind ≡ None → o ≡ None
nothing_stands None kind e is = refl
nothing_stands (Some Directory) kind e is = cc
nothing_stands (Some (File bytes)) kind e is = cc

pub something_stands : (o : Option Node) (kind : Option Kind) → kind ≡ kind_of_node o → (kind ≡ None → ⊥)
    → (n : Node) × (o ≡ Some n)
something_stands None kind e not_absent = absurd (not_absent e)
something_stands (Some n) kind e not_absent = (n, refl)

-- ---- the first refusal that holds

first_holds : (b : Bool) (refusal : Refusal) (cs : List Condition) → b ≡ true
    → first_refusal ((b, refusal) ∷ cs) ≡ Some refusal
unfolding first_refusal
first_holds b refusal cs e = ap (λ x. if x then Some refusal else first_refusal cs) e

first_fails : (b : Bool) (refusal : Refusal) (cs : List Condition) → b ≡ false
    → first_refusal ((b, refusal) ∷ cs) ≡ first_refusal cs
unfolding first_refusal
first_fails b refusal cs e = ap (λ x. if x then Some refusal else first_refusal cs) e

none_holds : first_refusal [] ≡ None
unfolding first_refusal
none_holds = refl

-- ---- making a directory

module _ (t : Tree) (x : Path) where
  make_conditions : refusal_of t (Make x)
      ≡ first_refusal (root_refused x ∷ parent_refused t x ∷ exists_refused t x ∷ [])
  unfolding conditions
  make_conditions = refl

  pub make_at_root : is_root x ≡ true → Some refusals.Root ≡ refusal_of t (Make x)
  make_at_root root = sym (make_conditions ∙ first_holds _ _ _ root)

  pub make_below_none : is_root x ≡ false → is_directory t (parent x) ≡ false
      → Some refusals.Parent ≡ refusal_of t (Make x)
  make_below_none root up = sym (make_conditions ∙ first_fails _ _ _ root ∙ first_holds _ _ _ (ap not up))

  pub make_over_one : is_root x ≡ false → is_directory t (parent x) ≡ true → (n : Node) → node_at t x ≡ Some n
      → Some refusals.Exists ≡ refusal_of t (Make x)
  make_over_one root up n at =
      sym (make_conditions ∙ first_fails _ _ _ root ∙ first_fails _ _ _ (ap not up) ∙ first_holds _ _ _ (ap is_some at))

  pub make_of_new : is_root x ≡ false → is_directory t (parent x) ≡ true → node_at t x ≡ None
      → None ≡ refusal_of t (Make x)
  make_of_new root up at = sym (make_conditions ∙ first_fails _ _ _ root ∙ first_fails _ _ _ (ap not up)
      ∙ first_fails _ _ _ (ap is_some at) ∙ none_holds)

  -- ---- removing

  remove_conditions : refusal_of t (Remove x)
      ≡ first_refusal (root_refused x ∷ missing_refused t x
      ∷ (is_directory t x && has_child t x, refusals.NotEmpty) ∷ [])
  unfolding conditions
  remove_conditions = refl

  pub remove_of_root : is_root x ≡ true → Some refusals.Root ≡ refusal_of t (Remove x)
  remove_of_root root = sym (remove_conditions ∙ first_holds _ _ _ root)

  pub remove_of_none : is_root x ≡ false → node_at t x ≡ None → Some refusals.Missing ≡ refusal_of t (Remove x)
  remove_of_none root at =
      sym (remove_conditions ∙ first_fails _ _ _ root ∙ first_holds _ _ _ (ap (λ o. not (is_some o)) at))

  pub remove_of_file : is_root x ≡ false → (n : Node) → node_at t x ≡ Some n → is_directory t x ≡ false
      → None ≡ refusal_of t (Remove x)
  remove_of_file root n at other =
      sym (remove_conditions ∙ first_fails _ _ _ root ∙ first_fails _ _ _ (ap (λ o. not (is_some o)) at)
      ∙ first_fails _ _ _ (and_left _ _ other) ∙ none_holds)

  remove_of_parent : is_root x ≡ false → is_directory t x ≡ true → has_child t x ≡ true
      → Some refusals.NotEmpty ≡ refusal_of t (Remove x)
  remove_of_parent root directory child =
      sym (remove_conditions ∙ first_fails _ _ _ root
      ∙ first_fails _ _ _ (ap not (exists_from_directory (node_at t x) directory))
      ∙ first_holds _ _ _ (and_from _ _ directory child))

  remove_of_empty : is_root x ≡ false → is_directory t x ≡ true → has_child t x ≡ false → None ≡ refusal_of t (Remove x)
  remove_of_empty root directory child =
      sym (remove_conditions ∙ first_fails _ _ _ root
      ∙ first_fails _ _ _ (ap not (exists_from_directory (node_at t x) directory))
      ∙ first_fails _ _ _ (ap (λ b. b && has_child t x) directory ∙ child) ∙ none_holds)

  -- a child decides
  pub remove_of_directory : is_root x ≡ false → is_directory t x ≡ true → (child : Bool) → child ≡ has_child t x
      → then_some child refusals.NotEmpty ≡ refusal_of t (Remove x)
  remove_of_directory root directory true child = remove_of_parent root directory (sym child)
  remove_of_directory root directory false child = remove_of_empty root directory (sym child)

  -- ---- pruning

  prune_conditions : refusal_of t (Prune x) ≡ first_refusal (root_refused x ∷ missing_refused t x ∷ [])
  unfolding conditions
  prune_conditions = refl

  pub prune_of_root : is_root x ≡ true → Some refusals.Root ≡ refusal_of t (Prune x)
  prune_of_root root = sym (prune_conditions ∙ first_holds _ _ _ root)

  pub prune_of_none : is_root x ≡ false → node_at t x ≡ None → Some refusals.Missing ≡ refusal_of t (Prune x)
  prune_of_none root at =
      sym (prune_conditions ∙ first_fails _ _ _ root ∙ first_holds _ _ _ (ap (λ o. not (is_some o)) at))

  pub prune_of_one : is_root x ≡ false → (n : Node) → node_at t x ≡ Some n → None ≡ refusal_of t (Prune x)
  prune_of_one root n at =
      sym (prune_conditions ∙ first_fails _ _ _ root ∙ first_fails _ _ _ (ap (λ o. not (is_some o)) at) ∙ none_holds)

  -- ---- looking for attributes

  -- it is refused as pruning is
  find_is_prune : refusal_of t (Prune x) ≡ refusal_of t (ListAttributes x)
  unfolding conditions
  find_is_prune = refl

  pub find_at_root : is_root x ≡ true → Some refusals.Root ≡ refusal_of t (ListAttributes x)
  find_at_root root = prune_of_root root ∙ find_is_prune

  pub find_of_none : is_root x ≡ false → node_at t x ≡ None → Some refusals.Missing ≡ refusal_of t (ListAttributes x)
  find_of_none root at = prune_of_none root at ∙ find_is_prune

  pub find_of_one : is_root x ≡ false → (n : Node) → node_at t x ≡ Some n → None ≡ refusal_of t (ListAttributes x)
  find_of_one root n at = prune_of_one root n at ∙ find_is_prune

  -- ---- listing

  list_conditions : refusal_of t (ListChildren x)
      ≡ first_refusal (missing_refused t x ∷ (is_file t x, refusals.Kind) ∷ [])
  unfolding conditions
  list_conditions = refl

  pub list_of_none : node_at t x ≡ None → refusal_of t (ListChildren x) ≡ Some refusals.Missing
  list_of_none at = list_conditions ∙ first_holds _ _ _ (ap (λ o. not (is_some o)) at)

  pub list_of_file : (n : Node) → node_at t x ≡ Some n → is_directory t x ≡ false
      → refusal_of t (ListChildren x) ≡ Some refusals.Kind
  list_of_file Directory at other = absurd (both_ways _ other (ap is_directory_node at))
  list_of_file (File bytes) at other = list_conditions ∙ first_fails _ _ _ (ap (λ o. not (is_some o)) at)
      ∙ first_holds _ _ _ (ap is_file_node at)

  pub list_of_directory : is_directory t x ≡ true → refusal_of t (ListChildren x) ≡ None
  list_of_directory directory = list_conditions
      ∙ first_fails _ _ _ (ap not (exists_from_directory (node_at t x) directory))
      ∙ first_fails _ _ _ (no_file (node_at t x) directory) ∙ none_holds
    where
      no_file : (o : Option Node) → is_directory_node o ≡ true → is_file_node o ≡ false
      no_file None h = refl
      no_file (Some Directory) h = refl
      no_file (Some (File bytes)) h = cc

-- ---- one call after another

pub kept_on : (a b c : PairsState) → KeepsPairs a b → KeepsPairs b c → KeepsPairs a c
kept_on a b c h g = record {
  observable = λ seen. g.observable (h.observable seen);
  unchanged = λ seen. g.unchanged (h.observable seen) ∙ h.unchanged seen;
}

pub kept_itself : (a : PairsState) → KeepsPairs a a
kept_itself a = record { observable = λ seen. seen; unchanged = λ seen. refl }

pub still_holds : (a b : PairsState) (t : Tree) (p : Parameters) → KeepsPairs a b → IsObservable a
    → HoldsTree a t p → HoldsTree b t p
still_holds a b t p h seen holds = record { tree = holds.tree; pairs_are = h.unchanged seen ∙ holds.pairs_are }

-- ---- what a tested command owes

-- where the kind of what stands at a path decides whether a command is refused
pub told_by_kind : (command : Command) (path : Path) (kind : Option Kind) (refusal : Option Refusal)
    (old new : PairsState) → TellsKind path old new (Ok kind)
    → ((t : Tree) → kind ≡ kind_of_node (node_at t path) → refusal ≡ refusal_of t command)
    → TellsRefusal command old new (Ok refusal)
told_by_kind command path kind refusal old new tells decides = record {
  faults = tells.faults;
  keeps = tells.keeps;
  told = λ seen t p holds. decides t (tells.told seen t p holds);
}

pub none_found : {X : Type 0} (o : Option X) → ((x : X) → o ≡ Some x → ⊥) → o ≡ None
none_found None h = refl
none_found (Some x) h = absurd (h x refl)

pub refused : {T : Type 0} (see : T → Reply) (command : Command) (refusal : Refusal) (found : Option Refusal)
    (old new : PairsState) → TellsRefusal command old new (Ok found) → found ≡ Some refusal
    → CarriesOut see command old new (Ok (Err refusal))
refused see command refusal found old new h is = record {
  faults = h.faults;
  observable = h.keeps.observable;
  carried = λ seen t p holds. step_refused see refusal t command p new (sym (h.told seen t p holds) ∙ is)
      (h.keeps.unchanged seen ∙ holds.pairs_are);
}

pub carried : {T : Type 0} (see : T → Reply) (command : Command) (value : T) (found : Option Refusal)
    (old between new : PairsState) → TellsRefusal command old between (Ok found) → found ≡ None
    → new.faults ≡ between.faults → (IsObservable between → IsObservable new)
    → ((t : Tree) (p : Parameters) → see value ≡ reply_of t command p)
    → (IsObservable between → (t : Tree) (p : Parameters) → HoldsTree between t p → refusal_of t command ≡ None
    → new.pairs ≡ pairs (next_tree t command) p) → CarriesOut see command old new (Ok (Ok value))
carried see command value found old between new h is faults observable reply changed = record {
  faults = faults ∙ h.faults;
  observable = λ seen. observable (h.keeps.observable seen);
  carried = λ seen t p holds.
      let none : refusal_of t command ≡ None = sym (h.told seen t p holds) ∙ is in
      step_done see value t command p new none (reply t p)
      (changed (h.keeps.observable seen) t p (still_holds old between t p h.keeps seen holds) none);
}
