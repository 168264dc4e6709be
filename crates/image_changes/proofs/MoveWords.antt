-- A move, in one change or two.
use Rattle.std.proofs.Common.{◌≡◌, List, [], ◌∷◌, ◌++◌, map, drop, Bool, true, false, not, ◌&&◌, cond, Ok}
use Rattle.std.proofs.Common.{Err, Some, IsTrue, refl, sym, ap, subst, ◌∙◌, append_assoc}
use Rattle.std.proofs.lemmas.List.{map-append, take-append-drop}
use Rattle.store_model.specs.declared.refusal.Refusal.{Refusal}
use Rattle.store_model.specs.Paths.{Path, is_path, same_path}
use Rattle.store_model.specs.Trees.{Tree, IsTree}
use Rattle.disk_model.specs.DiskState.{DiskState}
use Rattle.image_check.specs.declared.fault.ApplyFault.{ApplyFault}
use Rattle.staged_tree.specs.declared.group.GroupAnswer.{GroupAnswer}
use Rattle.staged_tree.specs.declared.group.GroupAnswer.TheVariants as answers
use Rattle.staged_tree.specs.Guards.{Guarded}
use Rattle.staged_tree.specs.Listed.{ListedState, HasGiven, AreListed}
use Rattle.store_core.specs.StoreState.{StoreState}
use Rattle.store_core.specs.Streams.{AppliesStream}
use Rattle.store_model.specs.Commands.Command.{Remove, Rename}
use Rattle.tree_changes.specs.Conditional.{why_refused, Leads, always_done, done_at_file}
use Rattle.tree_changes.specs.Moves.{IsMoved, IsUnmoved, move_place, move_steps}
use Rattle.tree_changes.proofs.MoveLemmas.{move_leads, move_stops}
use Rattle.image_changes.specs.Moves.{renaming, replacing, move_changes}
use Rattle.image_changes.specs.Outcomes.{outcome_of, reason_in}
use Rattle.image_changes.specs.Words.{Changes}
use Rattle.image_changes.proofs.Bridge.{conditional_of}
use Rattle.image_changes.proofs.PathWords.{Never}
use Rattle.image_changes.proofs.WordSteps.{word_fails, word_done, word_refused}

moves_are : (forced : Bool) (from to : Path) → map conditional_of (move_changes forced from to)
    ≡ move_steps forced from to
moves_are forced from to = by (forced && not (same_path from to))
  where
    by : (b : Bool) → map conditional_of (cond b (replacing to ∷ renaming from to ∷ []) (renaming from to ∷ []))
        ≡ cond b (done_at_file (Remove to) ∷ always_done (Rename from to) ∷ []) (always_done (Rename from to) ∷ [])
    by true = refl
    by false = refl

module _ {D : Type 0} (state : D → DiskState) (old new : StoreState D) (forced : Bool) (from to : Path)
    (listed : ListedState) (tree : IsTree old.tree) (valid : IsTrue (is_path to))
    (changes_are : listed.changes ≡ move_changes forced from to) where
  lead : (changes : List Guarded) (u : Tree) → AreListed listed changes
      → Leads old.params old.tree (map conditional_of changes) u → IsMoved forced from to old.tree u
  lead changes u all chain = move_leads old.params old.tree from to tree forced valid u
      (subst (λ gs. Leads old.params old.tree gs u)
      (ap (map conditional_of) (all ∙ changes_are) ∙ moves_are forced from to) chain)

  stop : (first : List Guarded) (at : Guarded) (v : Tree) (why : Refusal) → HasGiven listed (first ++ at ∷ [])
      → Leads old.params old.tree (map conditional_of first) v
      → why_refused old.params v (conditional_of at) ≡ Some why
      → IsUnmoved forced from to old.tree (move_place from to why) why
  stop first at v why given leads refused =
      let rest = drop listed.given listed.changes in
      let all : move_changes forced from to ≡ (first ++ at ∷ []) ++ rest =
      sym changes_are ∙ sym (take-append-drop listed.given listed.changes) ∙ ap (λ gs. gs ++ rest) (sym given) in
      record {
        place = refl;
        reason = (move_stops old.params old.tree from to tree forced (conditional_of at) why (record {
          first = map conditional_of first;
          rest = map conditional_of rest;
          changes_are = sym (moves_are forced from to)
              ∙ ap (map conditional_of) (all ∙ append_assoc first (at ∷ []) rest)
              ∙ map-append conditional_of first (at ∷ rest);
          tree = v;
          leads = leads;
          refused = refused;
        })).1;
      }

  pub move_fails : (fault : ApplyFault)
      → AppliesStream (HasGiven listed) (AreListed listed) Never state old new (Err fault)
      → Changes state (IsMoved forced from to) (IsUnmoved forced from to) old new (Err fault)
  move_fails fault applies = word_fails state old new (IsMoved forced from to) (IsUnmoved forced from to)
      (HasGiven listed) (AreListed listed) Never lead fault applies

  pub move_answered : (answer : GroupAnswer)
      → AppliesStream (HasGiven listed) (AreListed listed) Never state old new (Ok (Ok answer))
      → Changes state (IsMoved forced from to) (IsUnmoved forced from to) old new
      (Ok (outcome_of (move_place from to (reason_in answer)) answer))
  move_answered answers.Done applies = word_done state old new (IsMoved forced from to) (IsUnmoved forced from to)
      (HasGiven listed) (AreListed listed) Never lead applies to
  move_answered (answers.Refused index why) applies =
      word_refused state old new (IsMoved forced from to) (IsUnmoved forced from to)
      (HasGiven listed) (AreListed listed) Never lead index why (move_place from to why)
      (λ first at v given leads refused. stop first at v why given leads refused) applies
