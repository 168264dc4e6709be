-- Directories that are made with all that lead to them.
use Rattle.std.proofs.Common.{◌≡◌, List, [], ◌∷◌, ◌++◌, map, drop, Ok, Err, IsTrue, Some, refl, sym, ap, subst}
use Rattle.std.proofs.Common.{◌∙◌, append_assoc}
use Rattle.std.specs.List.{AllByRecursion}
use Rattle.std.proofs.lemmas.List.{map-append}
use Rattle.store_model.specs.declared.refusal.Refusal.{Refusal}
use Rattle.store_model.specs.Paths.{Path, is_path}
use Rattle.store_model.specs.Trees.{Tree, IsTree}
use Rattle.store_model.specs.Commands.Command.{Make}
use Rattle.disk_model.specs.DiskState.{DiskState}
use Rattle.image_check.specs.declared.fault.ApplyFault.{ApplyFault}
use Rattle.staged_tree.specs.declared.group.GroupAnswer.{GroupAnswer}
use Rattle.staged_tree.specs.declared.group.GroupAnswer.TheVariants as answers
use Rattle.staged_tree.specs.Guards.{Guarded}
use Rattle.store_core.specs.StoreState.{StoreState}
use Rattle.store_core.specs.Streams.{AppliesStream}
use Rattle.tree_changes.specs.Conditional.{Conditional, path_of, why_refused, Leads, Stops, done_at_no_directory}
use Rattle.tree_changes.specs.Folders.{way_from, way_to, ways_to, AreMadeWithParents, IsInTheWay, making_parents_steps}
use Rattle.tree_changes.proofs.ParentLemmas.{parents_lead, parents_stop}
use Rattle.image_changes.specs.declared.parent_changes.ParentChanges.{ParentChanges}
use Rattle.image_changes.specs.Outcomes.{outcome_of}
use Rattle.image_changes.specs.Ways.{passing, HasPassedTo, ArePassed}
use Rattle.image_changes.specs.Words.{Changes}
use Rattle.image_changes.proofs.Bridge.{conditional_of, same_path_of}
use Rattle.image_changes.proofs.PathWords.{Never}
use Rattle.image_changes.proofs.WayLemmas.{ways_left}
use Rattle.image_changes.proofs.WordSteps.{word_fails, word_done, word_refused}

passings_are : (paths : List Path)
    → map conditional_of (map passing paths) ≡ map (λ q. done_at_no_directory (Make q)) paths
passings_are [] = refl
passings_are (q ∷ paths) = ap (λ (gs : List Conditional). done_at_no_directory (Make q) ∷ gs) (passings_are paths)

module _ {D : Type 0} (state : D → DiskState) (old new : StoreState D) (paths : List Path) (stream : ParentChanges)
    (tree : IsTree old.tree) (valid : AllByRecursion (λ q. IsTrue (is_path q)) paths)
    (items : stream.paths.items ≡ paths) where
  abbrev means : Tree → Tree → Type 0
  means = AreMadeWithParents paths

  abbrev refuses : Tree → Path → Refusal → Type 0
  refuses = IsInTheWay paths

  all_are : map conditional_of (map passing (ways_to stream.paths.items)) ≡ making_parents_steps paths
  all_are = ap (λ xs. map conditional_of (map passing (ways_to xs))) items ∙ passings_are (ways_to paths)

  lead : (changes : List Guarded) (u : Tree) → ArePassed stream changes
      → Leads old.params old.tree (map conditional_of changes) u → means old.tree u
  lead changes u all chain = parents_lead paths old.params old.tree tree valid u
      (subst (λ gs. Leads old.params old.tree gs u) (ap (map conditional_of) all ∙ all_are) chain)

  stop : (first : List Guarded) (at : Guarded) (v : Tree) (why : Refusal) → HasPassedTo stream (first ++ at ∷ [])
      → Leads old.params old.tree (map conditional_of first) v
      → why_refused old.params v (conditional_of at) ≡ Some why → refuses old.tree stream.way.front why
  stop first at v why came leads refused =
      let passed = came.passed in
      let left = way_from stream.way.front passed.rest ++ ways_to (drop stream.begun stream.paths.items) in
      let ways : ways_to stream.paths.items ≡ (passed.done ++ way_to stream.way.front) ++ left =
      ways_left stream.paths.items stream.begun passed.done stream.way.front passed.rest
      (passed.split ∙ ap (λ (y : Path). passed.done ++ way_to y) passed.way_is) in
      let all : map passing (ways_to stream.paths.items) ≡ (first ++ at ∷ []) ++ map passing left =
      ap (map passing) ways ∙ map-append passing (passed.done ++ way_to stream.way.front) left
      ∙ ap (λ gs. gs ++ map passing left) (sym passed.changes_are) in
      let stops : Stops old.params old.tree (making_parents_steps paths) (conditional_of at) why = record {
        first = map conditional_of first;
        rest = map conditional_of (map passing left);
        changes_are = sym all_are ∙ ap (map conditional_of) (all ∙ append_assoc first (at ∷ []) (map passing left))
            ∙ map-append conditional_of first (at ∷ map passing left);
        tree = v;
        leads = leads;
        refused = refused;
      } in
      let found = parents_stop paths old.params old.tree tree valid (conditional_of at) why stops in
      subst (λ x. refuses old.tree x why)
      (sym (ap (λ (c : Conditional). path_of c.change) found.1) ∙ sym (same_path_of at.change)
      ∙ came.ends first at refl) found.2

  pub parents_fail : (fault : ApplyFault)
      → AppliesStream (HasPassedTo stream) (ArePassed stream) Never state old new (Err fault)
      → Changes state means refuses old new (Err fault)
  parents_fail fault applies =
      word_fails state old new means refuses (HasPassedTo stream) (ArePassed stream) Never lead fault applies

  pub parents_answered : (answer : GroupAnswer)
      → AppliesStream (HasPassedTo stream) (ArePassed stream) Never state old new (Ok (Ok answer))
      → Changes state means refuses old new (Ok (outcome_of stream.way.front answer))
  parents_answered answers.Done applies =
      word_done state old new means refuses (HasPassedTo stream) (ArePassed stream) Never lead applies stream.way.front
  parents_answered (answers.Refused index why) applies =
      word_refused state old new means refuses (HasPassedTo stream) (ArePassed stream) Never lead index why
      stream.way.front (λ first at v given leads refused. stop first at v why given leads refused) applies
