-- What commands leave of attributes.
use Rattle.std.proofs.Common.{◌≡◌, ℕ, ◌≤◌, List, [], Bool, true, false, not, ◌&&◌, nat_lt, Option, Some, None, is_some}
use Rattle.std.proofs.Common.{ap, ◌∙◌, arith, refl, if◌then◌else◌}
use Rattle.std.specs.Ordering.{eq_by_cmp}
use Rattle.std.proofs.lemmas.Bool.{not-false}
use Rattle.store_model.specs.declared.refusal.Refusal.{Refusal}
use Rattle.store_model.specs.declared.refusal.Refusal.TheVariants as refusals
use Rattle.store_model.specs.Parameters.{Parameters}
use Rattle.store_model.specs.Paths.{Path, Name, is_root, name_cmp, same_path, is_at_or_inside}
use Rattle.store_model.specs.Trees.{Tree, IsTree, exists, node_at, attributes_at, attribute_at, moved_path}
use Rattle.store_model.specs.Pages.{page_count}
use Rattle.store_model.specs.Commands.{Command}
use Rattle.store_model.specs.Commands.Command.{Make, Write, Cut, Rename, Remove, Prune, SetAttribute, UnsetAttribute}
use Rattle.store_model.specs.Commands.Reply.{Acknowledged, Refused}
use Rattle.store_model.specs.Steps.{Step, step, step_by, conditions, first_refusal, refusal_of, next_tree, reply_of}
use Rattle.store_model.specs.Steps.{may_fill, lacks_version}
use Rattle.store_model.proofs.TreesLemmasAttributes.{attributes_at-with_node, node_at-with_attributes, attribute_at-set}
use Rattle.store_model.proofs.TreesLemmasAttributes.{attribute_at-unset, attributes_at-without}
use Rattle.store_model.proofs.TreesLemmasAttributes.{attributes_at-without_subtree, attributes_at-moved}
use Rattle.store_model.proofs.TreesLemmasFits.{page_count-unset}
use Rattle.store_model.proofs.TreesLemmasSteps.{AllFail, all_fail}
use Rattle.model_laws.proofs.WithinLemmas.{after_step}

-- ---- commands on nodes

-- a made directory changes no attributes
pub kept_by_make : (t : Tree) (path other : Path) (p : Parameters)
    → attributes_at (step t (Make path) p).tree other ≡ attributes_at t other
unfolding next_tree
kept_by_make t path other p = after_step (λ u. attributes_at u other ≡ attributes_at t other) t (Make path) p refl
    (attributes_at-with_node t path other _)

-- nor does a write
pub kept_by_write : (t : Tree) (path other : Path) (at : ℕ) (bytes : List ℕ) (p : Parameters)
    → attributes_at (step t (Write path at bytes) p).tree other ≡ attributes_at t other
unfolding next_tree
kept_by_write t path other at bytes p =
    after_step (λ u. attributes_at u other ≡ attributes_at t other) t (Write path at bytes) p refl
    (attributes_at-with_node t path other _)

-- nor a cut
pub kept_by_cut : (t : Tree) (path other : Path) (len : ℕ) (p : Parameters)
    → attributes_at (step t (Cut path len) p).tree other ≡ attributes_at t other
unfolding next_tree
kept_by_cut t path other len p = after_step (λ u. attributes_at u other ≡ attributes_at t other) t (Cut path len) p refl
    (attributes_at-with_node t path other _)

-- ---- commands on attributes change what stands at no path

pub nodes_after_set : (t : Tree) (path other : Path) (a : Name) (bytes : List ℕ) (p : Parameters)
    → node_at (step t (SetAttribute path a bytes) p).tree other ≡ node_at t other
unfolding next_tree
nodes_after_set t path other a bytes p =
    after_step (λ u. node_at u other ≡ node_at t other) t (SetAttribute path a bytes) p refl
    (node_at-with_attributes t path other _)

pub nodes_after_unset : (t : Tree) (path other : Path) (a : Name) (p : Parameters)
    → node_at (step t (UnsetAttribute path a) p).tree other ≡ node_at t other
unfolding next_tree
nodes_after_unset t path other a p =
    after_step (λ u. node_at u other ≡ node_at t other) t (UnsetAttribute path a) p refl
    (node_at-with_attributes t path other _)

-- ---- commands that are acknowledged

-- a refusal does not acknowledge
never_both : (refusal : Refusal) → Refused refusal ≡ Acknowledged → ⊥
never_both refusal e = cc

-- such a command is not refused, and leaves its next tree
record IsDone (t : Tree) (c : Command) (after : Tree) : Type 0 where
  fail : AllFail (conditions t c)
  tree_is : after ≡ next_tree t c

done : (t : Tree) (c : Command) (p : Parameters) → (step t c p).reply ≡ Acknowledged → IsDone t c (step t c p).tree
unfolding step
done t c p = by_version (lacks_version c p)
  where
    by_room : (full : Bool) (x y : Step) → (x.reply ≡ Acknowledged → ⊥) → y.tree ≡ next_tree t c
        → (if full then x else y).reply ≡ Acknowledged → (if full then x else y).tree ≡ next_tree t c
    by_room true x y never same e = absurd (never e)
    by_room false x y never same e = same

    by_refusal : (o : Option Refusal) → refusal_of t c ≡ o → (step_by t c p o).reply ≡ Acknowledged
        → IsDone t c (step_by t c p o).tree
    by_refusal (Some refusal) found e = absurd (never_both refusal e)
    by_refusal None found e = record {
      fail = all_fail (conditions t c) found;
      tree_is = by_room (may_fill c && nat_lt p.slots (page_count (next_tree t c) p)) _ _
          (λ full. never_both _ full) refl e;
    }

    by_version : (lacks : Bool)
        → (if lacks then (record { reply = Refused refusals.Version; tree = t }) else step_by t c p
        (refusal_of t c)).reply ≡ Acknowledged
        → IsDone t c (if lacks then (record {
          reply = Refused refusals.Version;
          tree = t;
        }) else step_by t c p (refusal_of t c)).tree
    by_version true e = absurd (never_both refusals.Version e)
    by_version false e = by_refusal (refusal_of t c) refl e

-- an attribute that was set has its bytes, and no other is changed
pub attribute_at-set_step : (t : Tree) (path other : Path) (a b : Name) (bytes : List ℕ) (p : Parameters)
    → (step t (SetAttribute path a bytes) p).reply ≡ Acknowledged
    → attribute_at (step t (SetAttribute path a bytes) p).tree other b
    ≡ (if same_path other path && eq_by_cmp name_cmp b a then Some bytes else attribute_at t other b)
unfolding next_tree conditions
attribute_at-set_step t path other a b bytes p e =
    let is = done t (SetAttribute path a bytes) p e in
    let fail = is.fail in
    ap (λ u. attribute_at u other b) is.tree_is
    ∙ attribute_at-set t path other a b bytes fail.0 (not-false _ (fail.1).0)

-- one that was unset is gone, and no other is changed
pub attribute_at-unset_step : (t : Tree) (path other : Path) (a b : Name) (p : Parameters)
    → (step t (UnsetAttribute path a) p).reply ≡ Acknowledged
    → attribute_at (step t (UnsetAttribute path a) p).tree other b
    ≡ (if same_path other path && eq_by_cmp name_cmp b a then None else attribute_at t other b)
unfolding next_tree conditions
attribute_at-unset_step t path other a b p e =
    let is = done t (UnsetAttribute path a) p e in
    let fail = is.fail in
    ap (λ u. attribute_at u other b) is.tree_is ∙ attribute_at-unset t path other a b fail.0 (not-false _ (fail.1).0)

-- attributes are removed with their path
pub attributes_at-remove_step : (t : Tree) (path other : Path) (p : Parameters)
    → (step t (Remove path) p).reply ≡ Acknowledged
    → attributes_at (step t (Remove path) p).tree other ≡ (if same_path other path then [] else attributes_at t other)
unfolding next_tree
attributes_at-remove_step t path other p e = ap (λ u. attributes_at u other) (done t (Remove path) p e).tree_is
    ∙ attributes_at-without t path other

-- and pruned with it
pub attributes_at-prune_step : (t : Tree) (path other : Path) (p : Parameters)
    → (step t (Prune path) p).reply ≡ Acknowledged
    → attributes_at (step t (Prune path) p).tree other
    ≡ (if is_at_or_inside other path then [] else attributes_at t other)
unfolding next_tree
attributes_at-prune_step t path other p e = ap (λ u. attributes_at u other) (done t (Prune path) p e).tree_is
    ∙ attributes_at-without_subtree t path other

-- and they move with it
pub attributes_at-rename_step : (t : Tree) (from to other : Path) (p : Parameters) → IsTree t
    → (step t (Rename from to) p).reply ≡ Acknowledged → is_at_or_inside other to ≡ false
    → attributes_at (step t (Rename from to) p).tree (moved_path from to other) ≡ attributes_at t other
unfolding next_tree conditions
attributes_at-rename_step t from to other p h e away =
    let is = done t (Rename from to) p e in
    let fail = is.fail in
    ap (λ u. attributes_at u (moved_path from to other)) is.tree_is
    ∙ attributes_at-moved t from to other h ((((fail.1).1).1).1).0 away

-- ---- `unset` is never full

-- it needs no more pages
pub unset_needs_no_more : (t : Tree) (path : Path) (a : Name) (p : Parameters) → IsTree t
    → page_count (step t (UnsetAttribute path a) p).tree p ≤ page_count t p
unfolding next_tree
unset_needs_no_more t path a p h = after_step (λ u. page_count u p ≤ page_count t p) t (UnsetAttribute path a) p
    (omega arith) (page_count-unset t path a p h)

-- so it is not refused for them
pub unset_not_full : (t : Tree) (path : Path) (a : Name) (p : Parameters) (need slots : ℕ)
    → (step t (UnsetAttribute path a) p).reply ≡ Refused (refusals.Full need slots) → ⊥
unfolding step conditions first_refusal reply_of may_fill
unset_not_full t path a p need slots =
    by_tests (lacks_version (UnsetAttribute path a) p) (is_root path) (not (exists t path))
    (not (is_some (attribute_at t path a)))
  where
    by_tests : (lacks rooted missing none : Bool)
        → (if lacks then (record { reply = Refused refusals.Version; tree = t }) else step_by t
        (UnsetAttribute path a) p
        (if rooted then Some refusals.Root else
        (if missing then Some refusals.Missing else (if none then Some refusals.NoAttr else None)))).reply
        ≡ Refused (refusals.Full need slots) → ⊥
    by_tests true rooted missing none e = cc
    by_tests false true missing none e = cc
    by_tests false false true none e = cc
    by_tests false false false true e = cc
    by_tests false false false false e = cc
