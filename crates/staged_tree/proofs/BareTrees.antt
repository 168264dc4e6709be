-- Trees none of whose paths has an attribute: each command keeps such a tree, but for those on attributes.
use Rattle.std.proofs.Common.{◌≡◌, ◌⊎◌, inl, inr, [], ◌∷◌, map, true, false, not, cond, Some, refl, ap}
use Rattle.std.specs.FinMap.{find}
use Rattle.std.proofs.lemmas.Bool.{and_cases, both_ways}
use Rattle.store_model.specs.Parameters.{Parameters}
use Rattle.store_model.specs.Paths.{Path, path_cmp, same_path, is_at_or_inside}
use Rattle.store_model.specs.Trees.{Tree, Node, attributes_of, attributes_at, with_node, moved_path, moved}
use Rattle.store_model.specs.Trees.{without, without_subtree}
use Rattle.store_model.specs.Pairs.{has_attributes}
use Rattle.store_model.specs.Pages.{IsBare}
use Rattle.store_model.specs.Commands.{Command}
use Rattle.store_model.specs.Commands.Command.{Make, Write, Cut, Rename, Remove, Prune, ListChildren, Read, Space}
use Rattle.store_model.specs.Commands.Command.{Digest, SetAttribute, UnsetAttribute, GetAttribute, ListAttributes}
use Rattle.store_model.specs.Steps.{next_tree, is_on_attributes, lacks_version}
use Rattle.store_model.proofs.ListsLemmas.{all_filter, all_map}
use Rattle.store_model.proofs.TreesLemmas.{all_put}
use Rattle.store_model.proofs.TreesLemmasMoves.{all_tree_of}

no_attributes : (t : Tree) (path : Path) → IsBare t → attributes_at t path ≡ []
no_attributes [] path h = refl
no_attributes (e ∷ t) path h =
    elim (same_path path e.0) as (λ b. attributes_of (cond b (Some e.1) (find path_cmp path t)) ≡ [])
    [ true ↦ h.0 | false ↦ no_attributes t path h.1 ]

bare_with_node : (t : Tree) (path : Path) (node : Node) → IsBare t → IsBare (with_node t path node)
bare_with_node t path node h = all_put (λ e. e.1.attributes ≡ []) path
    (record { node = node; attributes = attributes_at t path }) t (no_attributes t path h) h

bare_moved : (t : Tree) (from to : Path) → IsBare t → IsBare (moved t from to)
unfolding moved
bare_moved t from to h =
    all_tree_of (λ e. e.1.attributes ≡ []) (map (λ e. (moved_path from to e.0, e.1)) t)
    (all_map (λ e. e.1.attributes ≡ []) (λ e. e.1.attributes ≡ []) (λ e. (moved_path from to e.0, e.1)) (λ e g. g) t h)

bare_other : (t : Tree) (c : Command) → is_on_attributes c ≡ false → IsBare t → IsBare (next_tree t c)
unfolding next_tree is_on_attributes without without_subtree
bare_other t (Make path) other h = bare_with_node t path _ h
bare_other t (Write path at bytes) other h = bare_with_node t path _ h
bare_other t (Cut path len) other h = bare_with_node t path _ h
bare_other t (Rename from to) other h = bare_moved t from to h
bare_other t (Remove path) other h = all_filter (λ e. e.1.attributes ≡ []) (λ e. not (same_path e.0 path)) t h
bare_other t (Prune path) other h = all_filter (λ e. e.1.attributes ≡ []) (λ e. not (is_at_or_inside e.0 path)) t h
bare_other t (ListChildren path) other h = h
bare_other t (Read path at len) other h = h
bare_other t Space other h = h
bare_other t Digest other h = h
bare_other t (SetAttribute path a bytes) other h = cc
bare_other t (UnsetAttribute path a) other h = cc
bare_other t (GetAttribute path a) other h = h
bare_other t (ListAttributes path) other h = h

-- under version 1 a command that this version does not lack is none of those
pub bare_next : (t : Tree) (c : Command) (p : Parameters) → lacks_version c p ≡ false
    → has_attributes p.version ≡ false → IsBare t → IsBare (next_tree t c)
bare_next t c p has one = bare_other t c (by_case (and_cases (is_on_attributes c) _ has))
  where
    by_case : (is_on_attributes c ≡ false) ⊎ (not (has_attributes p.version) ≡ false) → is_on_attributes c ≡ false
    by_case (inl other) = other
    by_case (inr two) = absurd (both_ways _ two (ap not one))
