-- Words whose changes are of one kind, one for each path of a list.
use Rattle.std.proofs.Common.{◌≡◌, List, map, Bool, true, false, Ok, Err, IsTrue, refl, sym}
use Rattle.std.proofs.Common.{ap, ap₂, subst, ◌∙◌}
use Rattle.std.specs.List.{AllByRecursion}
use Rattle.store_model.specs.declared.refusal.Refusal.{Refusal}
use Rattle.store_model.specs.Paths.{Path, is_path}
use Rattle.store_model.specs.Trees.{Tree, IsTree}
use Rattle.disk_model.specs.DiskState.{DiskState}
use Rattle.image_check.specs.declared.fault.ApplyFault.{ApplyFault}
use Rattle.staged_tree.specs.declared.group.GroupAnswer.{GroupAnswer}
use Rattle.staged_tree.specs.declared.group.GroupAnswer.TheVariants as answers
use Rattle.staged_tree.specs.declared.guards.When.TheVariants as whens
use Rattle.staged_tree.specs.Guards.{Guarded}
use Rattle.store_core.specs.StoreState.{StoreState}
use Rattle.store_core.specs.Streams.{AppliesStream}
use Rattle.tree_changes.specs.Conditional.{Conditional, path_of, Leads, Stops}
use Rattle.tree_changes.specs.Removals.{AreInOrder, IsRemoved, IsUnremoved, removal_step, removal_steps}
use Rattle.tree_changes.specs.Folders.{AreMade, IsUnmade, making_steps}
use Rattle.tree_changes.proofs.RemovalLemmas.{removal_leads, removal_stops}
use Rattle.tree_changes.proofs.FolderLemmas.{making_leads, making_stops}
use Rattle.image_changes.specs.declared.path_changes.PathChange.TheVariants as kinds
use Rattle.image_changes.specs.declared.path_changes.PathChanges.{PathChanges}
use Rattle.image_changes.specs.Outcomes.{outcome_of}
use Rattle.image_changes.specs.PathChanges.{guarded_at, all_of, HasGiven, AreAll}
use Rattle.image_changes.specs.Removals.{kind_of, when_of, HaveSame}
use Rattle.image_changes.specs.Words.{Changes}
use Rattle.image_changes.proofs.Bridge.{conditional_of}
use Rattle.image_changes.proofs.WordSteps.{word_fails, word_done, word_refused}
use Rattle.image_changes.proofs.PathSteps.{stops_at_last, removals_are, makings_are}
use Rattle.image_changes.proofs.RemovalSteps.{removed_named, unremoved_named}

-- a stream of paths never fails
abbrev pub Never : List Guarded → Unit {0} → Type 0
Never changes fault = ⊥

module _ {D : Type 0} (state : D → DiskState) (old new : StoreState D) (means : Tree → Tree → Type 0)
    (refuses : Tree → Path → Refusal → Type 0) (stream : PathChanges) (steps : List Conditional)
    (steps_are : map conditional_of (all_of stream) ≡ steps)
    (lead_law : (u : Tree) → Leads old.params old.tree steps u → means old.tree u)
    (stop_law : (g : Conditional) (why : Refusal) → Stops old.params old.tree steps g why
    → refuses old.tree (path_of g.change) why) where
  lead : (changes : List Guarded) (u : Tree) → AreAll stream changes
      → Leads old.params old.tree (map conditional_of changes) u → means old.tree u
  lead changes u all chain =
      lead_law u (subst (λ gs. Leads old.params old.tree gs u) (ap (map conditional_of) all ∙ steps_are) chain)

  pub path_fails : (fault : ApplyFault)
      → AppliesStream (HasGiven stream) (AreAll stream) Never state old new (Err fault)
      → Changes state means refuses old new (Err fault)
  path_fails fault applies =
      word_fails state old new means refuses (HasGiven stream) (AreAll stream) Never lead fault applies

  pub path_answered : (answer : GroupAnswer)
      → AppliesStream (HasGiven stream) (AreAll stream) Never state old new (Ok (Ok answer))
      → Changes state means refuses old new (Ok (outcome_of stream.last answer))
  path_answered answers.Done applies =
      word_done state old new means refuses (HasGiven stream) (AreAll stream) Never lead applies stream.last
  path_answered (answers.Refused index why) applies =
      word_refused state old new means refuses (HasGiven stream) (AreAll stream) Never lead index why stream.last
      (λ first at v given leads refused.
      let stops = stops_at_last old.params old.tree stream first at v why given leads refused in
      subst (λ x. refuses old.tree x why) stops.place
      (stop_law (conditional_of at) why
      (subst (λ gs. Stops old.params old.tree gs (conditional_of at) why) steps_are stops.stops)))
      applies

-- ---- a removal

step_path_is : (recursive forced : Bool) (q : Path) → path_of (Conditional.change (removal_step recursive forced q)) ≡ q
step_path_is true true q = refl
step_path_is true false q = refl
step_path_is false true q = refl
step_path_is false false q = refl

module _ {D : Type 0} (state : D → DiskState) (old new : StoreState D) (recursive forced : Bool) (paths : List Path)
    (stream : PathChanges) (tree : IsTree old.tree) (order : AreInOrder recursive stream.paths.items)
    (same : HaveSame paths stream.paths.items) (kind : stream.kind ≡ kind_of recursive)
    (when : stream.when ≡ when_of forced) where
  removal_steps_are : map conditional_of (all_of stream) ≡ removal_steps recursive forced stream.paths.items
  removal_steps_are =
      ap₂ (λ w k. map conditional_of (map (guarded_at w k) stream.paths.items)) when kind
      ∙ removals_are recursive forced stream.paths.items

  removal_lead : (u : Tree) → Leads old.params old.tree (removal_steps recursive forced stream.paths.items) u
      → IsRemoved recursive forced paths old.tree u
  removal_lead u chain = removed_named recursive forced paths stream.paths.items same old.tree u
      (removal_leads recursive forced stream.paths.items old.params old.tree tree order u chain)

  removal_stop : (g : Conditional) (why : Refusal)
      → Stops old.params old.tree (removal_steps recursive forced stream.paths.items) g why
      → IsUnremoved recursive forced paths old.tree (path_of g.change) why
  removal_stop g why stops =
      let refuses = removal_stops recursive forced stream.paths.items old.params old.tree tree order g why stops in
      subst (λ x. IsUnremoved recursive forced paths old.tree x why)
      (sym (ap (λ (c : Conditional). path_of c.change) refuses.1 ∙ step_path_is recursive forced refuses.0))
      (unremoved_named recursive forced paths stream.paths.items same old.tree refuses.0 why refuses.2)

  pub remove_fails : (fault : ApplyFault)
      → AppliesStream (HasGiven stream) (AreAll stream) Never state old new (Err fault)
      → Changes state (IsRemoved recursive forced paths) (IsUnremoved recursive forced paths) old new (Err fault)
  remove_fails = path_fails state old new (IsRemoved recursive forced paths) (IsUnremoved recursive forced paths) stream
      (removal_steps recursive forced stream.paths.items) removal_steps_are removal_lead removal_stop

  pub remove_answered : (answer : GroupAnswer)
      → AppliesStream (HasGiven stream) (AreAll stream) Never state old new (Ok (Ok answer))
      → Changes state (IsRemoved recursive forced paths) (IsUnremoved recursive forced paths) old new
      (Ok (outcome_of stream.last answer))
  remove_answered = path_answered state old new (IsRemoved recursive forced paths)
      (IsUnremoved recursive forced paths) stream (removal_steps recursive forced stream.paths.items) removal_steps_are
      removal_lead removal_stop

-- ---- directories

module _ {D : Type 0} (state : D → DiskState) (old new : StoreState D) (paths : List Path) (stream : PathChanges)
    (tree : IsTree old.tree) (valid : AllByRecursion (λ q. IsTrue (is_path q)) paths)
    (items : stream.paths.items ≡ paths) (kind : stream.kind ≡ kinds.Make) (when : stream.when ≡ whens.Always) where
  making_steps_are : map conditional_of (all_of stream) ≡ making_steps paths
  making_steps_are =
      ap₂ (λ w k. map conditional_of (map (guarded_at w k) stream.paths.items)) when kind
      ∙ ap (λ xs. map conditional_of (map (guarded_at whens.Always kinds.Make) xs)) items ∙ makings_are paths

  making_stop : (g : Conditional) (why : Refusal) → Stops old.params old.tree (making_steps paths) g why
      → IsUnmade paths old.tree (path_of g.change) why
  making_stop g why stops =
      let refuses = making_stops paths old.params old.tree tree valid g why stops in
      subst (λ x. IsUnmade paths old.tree x why) (sym (ap (λ (c : Conditional). path_of c.change) refuses.1)) refuses.2

  pub make_fails : (fault : ApplyFault)
      → AppliesStream (HasGiven stream) (AreAll stream) Never state old new (Err fault)
      → Changes state (AreMade paths) (IsUnmade paths) old new (Err fault)
  make_fails = path_fails state old new (AreMade paths) (IsUnmade paths) stream (making_steps paths) making_steps_are
      (λ u chain. making_leads paths old.params old.tree tree valid u chain) making_stop

  pub make_answered : (answer : GroupAnswer)
      → AppliesStream (HasGiven stream) (AreAll stream) Never state old new (Ok (Ok answer))
      → Changes state (AreMade paths) (IsUnmade paths) old new (Ok (outcome_of stream.last answer))
  make_answered = path_answered state old new (AreMade paths) (IsUnmade paths) stream (making_steps paths)
      making_steps_are (λ u chain. making_leads paths old.params old.tree tree valid u chain) making_stop
