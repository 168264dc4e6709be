use Rattle.std.proofs.Common.{◌≡◌, List, [], ◌∷◌, Bool, true, false, not, ◌&&◌, cond, refl, sym, ap, ap₂, ◌∙◌}
use Rattle.std.proofs.lemmas.Bool.{and_right}
use Rattle.store_model.specs.Paths.{same_path}
use Rattle.path_keys.specs.PathOrder.{paths_ties}
use Rattle.staged_tree.specs.Guards.{Guarded}
use Rattle.image_changes.specs.Moves.{renaming, replacing}
use Rattle.image_changes.proofs.moves.move_to.Goals as goal
use Rattle.image_changes.proofs.moves.move_to.Goals.{else-forced-via-then-forced+else-ne, else-forced-via-else-forced}

pub returns-then-ne : goal.returns-then-ne
returns-then-ne g c =
    let from = c.args.from.now in
    let to = c.args.to.now in
    let replaces : (c.args.forced && not (same_path from to)) ≡ true =
    ap₂ (λ a b. a && b) c.if-forced.true (ap not (sym (paths_ties from to)) ∙ sym c.ne.ensures ∙ c.if-ne.true) in
    let two : List Guarded = replacing to ∷ renaming from to ∷ [] in
    c.carry_out.ensures c.args.forced c.params-params.ensures.fitting.tree c.is_root.ensures.valid
    (sym (ap (λ b. cond b two (renaming from to ∷ [])) replaces))

pub returns-else-forced : goal.returns-else-forced
returns-else-forced g c =
    let from = c.args.from.now in
    let to = c.args.to.now in
    let two : List Guarded = replacing to ∷ renaming from to ∷ [] in
    let none : (a : Bool) → (a && false) ≡ false = λ a. and_right a false refl in
    let stays : (c.args.forced && not (same_path from to)) ≡ false =
    elim c.else-forced.branch [
      | else-forced-via-then-forced+else-ne w ↦
          ap (λ b. c.args.forced && b) (ap not (sym (paths_ties from to)) ∙ sym w.ne.ensures ∙ w.if-ne.false)
          ∙ none c.args.forced
      | else-forced-via-else-forced w ↦ ap (λ a. a && not (same_path from to)) w.if-forced.false
    ] in
    c.carry_out-else-forced.ensures c.args.forced c.params-params.ensures.fitting.tree c.is_root.ensures.valid
    (sym (ap (λ b. cond b two (renaming from to ∷ [])) stays))
