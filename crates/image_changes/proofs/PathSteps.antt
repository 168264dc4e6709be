-- The changes of one kind at paths, as the steps of the words' definitions.
use Rattle.std.proofs.Common.{◌≡◌, List, [], ◌∷◌, ◌++◌, map, take, drop, Bool, true, false, Some, refl, sym, ap, ap₂}
use Rattle.std.proofs.Common.{◌∙◌, append_assoc}
use Rattle.std.proofs.lemmas.List.{map-append, take-append-drop}
use Rattle.store_model.specs.declared.refusal.Refusal.{Refusal}
use Rattle.store_model.specs.Parameters.{Parameters}
use Rattle.store_model.specs.Paths.{Path}
use Rattle.store_model.specs.Trees.{Tree}
use Rattle.store_model.specs.Commands.Command.{Make}
use Rattle.staged_tree.specs.declared.guards.When.TheVariants as whens
use Rattle.staged_tree.specs.Guards.{Guarded}
use Rattle.tree_changes.specs.Conditional.{Conditional, path_of, why_refused, Leads, Stops, always_done}
use Rattle.tree_changes.specs.Removals.{removal_step, removal_steps}
use Rattle.tree_changes.specs.Folders.{making_steps}
use Rattle.image_changes.specs.declared.path_changes.PathChange.TheVariants as kinds
use Rattle.image_changes.specs.declared.path_changes.PathChanges.{PathChanges}
use Rattle.image_changes.specs.PathChanges.{guarded_at, all_of, HasGiven}
use Rattle.image_changes.specs.Removals.{kind_of, when_of}
use Rattle.image_changes.proofs.Bridge.{conditional_of, same_path_of}

-- where the last of the changes that came is refused, the steps stop there, at the path that was told
pub record StopsAtLast (p : Parameters) (t : Tree) (stream : PathChanges) (at : Guarded) (why : Refusal) : Type 0 where
  pub stops : Stops p t (map conditional_of (all_of stream)) (conditional_of at) why
  pub place : path_of at.change ≡ stream.last

pub stops_at_last : (p : Parameters) (t : Tree) (stream : PathChanges) (first : List Guarded) (at : Guarded) (v : Tree)
    (why : Refusal) → HasGiven stream (first ++ at ∷ []) → Leads p t (map conditional_of first) v
    → why_refused p v (conditional_of at) ≡ Some why → StopsAtLast p t stream at why
stops_at_last p t stream first at v why given leads refused =
    let step = guarded_at stream.when stream.kind in
    let rest = map step (drop stream.given stream.paths.items) in
    let all : all_of stream ≡ (first ++ at ∷ []) ++ rest =
    ap (map step) (sym (take-append-drop stream.given stream.paths.items))
    ∙ map-append step (take stream.given stream.paths.items) (drop stream.given stream.paths.items)
    ∙ ap (λ gs. gs ++ rest) (sym given.changes_are) in
    record {
      stops = record {
        first = map conditional_of first;
        rest = map conditional_of rest;
        changes_are = ap (map conditional_of) (all ∙ append_assoc first (at ∷ []) rest)
            ∙ map-append conditional_of first (at ∷ rest);
        tree = v;
        leads = leads;
        refused = refused;
      };
      place = sym (same_path_of at.change) ∙ given.ends first at refl;
    }

-- ---- which steps they are

removal_is : (recursive forced : Bool) (q : Path)
    → conditional_of (guarded_at (when_of forced) (kind_of recursive) q) ≡ removal_step recursive forced q
removal_is true true q = refl
removal_is true false q = refl
removal_is false true q = refl
removal_is false false q = refl

pub removals_are : (recursive forced : Bool) (paths : List Path)
    → map conditional_of (map (guarded_at (when_of forced) (kind_of recursive)) paths)
    ≡ removal_steps recursive forced paths
removals_are recursive forced [] = refl
removals_are recursive forced (q ∷ paths) =
    ap₂ (λ (g : Conditional) (gs : List Conditional). g ∷ gs) (removal_is recursive forced q)
    (removals_are recursive forced paths)

pub makings_are : (paths : List Path)
    → map conditional_of (map (guarded_at whens.Always kinds.Make) paths) ≡ making_steps paths
makings_are [] = refl
makings_are (q ∷ paths) = ap (λ (gs : List Conditional). always_done (Make q) ∷ gs) (makings_are paths)
