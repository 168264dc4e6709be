-- A command on an attribute changes the attributes of its path alone.
use Rattle.std.proofs.Common.{◌≡◌, ℕ, List, Bool, true, false, cond, Option, Some, None, option_map, refl, sym, ap, ◌∙◌}
use Rattle.std.specs.FinMap.{find}
use Rattle.store_model.specs.declared.refusal.Refusal.TheVariants as refusals
use Rattle.store_model.specs.Parameters.{Parameters}
use Rattle.store_model.specs.Paths.{Path, Name, path_cmp, same_path}
use Rattle.store_model.specs.Trees.{Tree, Entry, Attributes, IsTree, attributes_of, attributes_at, with_attributes}
use Rattle.store_model.specs.Trees.{with_attribute, without_attribute}
use Rattle.store_model.specs.Commands.{Command, IsCommand}
use Rattle.store_model.specs.Commands.Command.{SetAttribute, UnsetAttribute}
use Rattle.store_model.specs.Steps.{refusal_of, next_tree, lacks_version}
use Rattle.store_model.proofs.TreesLemmasPaths.{same_from_test}
use Rattle.store_model.proofs.TreesLemmasSteps.{IsTree-next_tree}
use Rattle.store_model.proofs.TreesLemmasAttributes.{with_these, find-with_attributes}
use Rattle.tree_changes.specs.Conditional.{refusal_under}
use Rattle.tree_changes.specs.AttributeChanges.{attributed_at, HasSet, HasUnset}

-- a command that is not refused has no other reason against it
pub allowed_of : (p : Parameters) (t : Tree) (c : Command) → refusal_under p t c ≡ None → refusal_of t c ≡ None
allowed_of p t c none = by (lacks_version c p) none
  where
    by : (b : Bool) → cond b (Some refusals.Version) (refusal_of t c) ≡ None → refusal_of t c ≡ None
    by true e = cc
    by false e = e

-- what is found where the attributes of one path are others
pub found_attributed : (t : Tree) (path x : Path) (change : Attributes → Attributes)
    → find path_cmp x (with_attributes t path (change (attributes_at t path))) ≡ attributed_at path change t x
found_attributed t path x change =
    find-with_attributes t path x (change (attributes_at t path)) ∙ by (same_path x path) refl
  where
    there : (o : Option Entry) → attributes_at t path ≡ attributes_of o
        → with_these (change (attributes_at t path)) o
        ≡ option_map (λ (e : Entry). record { node = e.node; attributes = change e.attributes }) o
    there None e = refl
    there (Some n) e = ap (λ (a : Attributes). Some (record { node = n.node; attributes = change a })) e

    by : (b : Bool) → same_path x path ≡ b
        → cond b (with_these (change (attributes_at t path)) (find path_cmp x t)) (find path_cmp x t)
        ≡ cond b (option_map (λ (e : Entry). record { node = e.node; attributes = change e.attributes })
        (find path_cmp x t)) (find path_cmp x t)
    by true s = there (find path_cmp x t) (ap (attributes_at t) (sym (same_from_test x path s)))
    by false s = refl

pub set_leads : (p : Parameters) (path : Path) (name : Name) (bytes : List ℕ) (t : Tree) → IsTree t
    → IsCommand (SetAttribute path name bytes) → refusal_under p t (SetAttribute path name bytes) ≡ None
    → HasSet p path name bytes t (next_tree t (SetAttribute path name bytes))
unfolding next_tree
set_leads p path name bytes t tree command none = record {
  allowed = none;
  standing = record {
    is_tree = IsTree-next_tree t (SetAttribute path name bytes) tree command (allowed_of p t _ none);
    each = λ x. found_attributed t path x (λ a. with_attribute a name bytes);
  };
}

pub unset_leads : (p : Parameters) (path : Path) (name : Name) (t : Tree) → IsTree t
    → IsCommand (UnsetAttribute path name) → refusal_under p t (UnsetAttribute path name) ≡ None
    → HasUnset p path name t (next_tree t (UnsetAttribute path name))
unfolding next_tree
unset_leads p path name t tree command none = record {
  allowed = none;
  standing = record {
    is_tree = IsTree-next_tree t (UnsetAttribute path name) tree command (allowed_of p t _ none);
    each = λ x. found_attributed t path x (λ a. without_attribute a name);
  };
}
