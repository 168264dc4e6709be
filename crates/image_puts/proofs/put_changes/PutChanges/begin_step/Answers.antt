use Rattle.std.proofs.Common.{◌≡◌, List, ◌∷◌, false, not, ◌&&◌, refl, sym, ap, ◌∙◌}
use Rattle.std.proofs.lemmas.Bool.{and_right}
use Rattle.store_model.specs.Paths.{Path}
use Rattle.store_model.specs.Commands.{Command as commands}
use Rattle.tree_changes.specs.Conditional.{always_done}
use Rattle.tree_changes.specs.Folders.{is_among}
use Rattle.image_puts.specs.PutChanges.{pending_of}
use Rattle.image_puts.proofs.BeginSteps.{among_is, kind_stays, skips, sets}
use Rattle.image_puts.proofs.put_changes.PutChanges.begin_step.Goals as goal
use Rattle.image_puts.proofs.put_changes.PutChanges.begin_step.Goals.{else-self-via-then-self+else-not-is_among}
use Rattle.image_puts.proofs.put_changes.PutChanges.begin_step.Goals.{else-self-via-else-self}

pub returns-then-not-is_among : goal.returns-then-not-is_among
returns-then-not-is_among g c =
    let self = c.args.self.now in
    let y = c.in-Set.path.now in
    let among : is_among self.fresh.items y ≡ false =
    sym (ap (λ (xs : List Path). is_among xs y) c.deref.ensures.value) ∙ sym (among_is c.deref.result.now y)
    ∙ sym c.is_among.ensures ∙ c.if-not-is_among.true in
    record {
      source = refl;
      to = refl;
      replaces = refl;
      fresh = refl;
      way = refl;
      step = refl;
      kind = kind_stays self.replaces self.to self.fresh.items self.step y c.in-Set.name.now c.in-Set.bytes.now
          c.in-Set.ensures.parts self.is_directory;
      last = c.requires;
      changes = λ u place knows. ap (λ o. pending_of o self.step) c.requires
          ∙ skips self.replaces self.to self.fresh.items self.step y c.in-Set.name.now c.in-Set.bytes.now
          c.in-Set.ensures.parts self.is_directory c.if-self.true among u knows;
    }

pub returns-else-self : goal.returns-else-self
returns-else-self g c =
    let self = c.args.self.now in
    let y = c.in-Set.path.now in
    let counts : (self.is_directory && not (is_among self.fresh.items y)) ≡ false =
    elim c.else-self.branch [
      | else-self-via-then-self+else-not-is_among w ↦
          ap (λ b. self.is_directory && not b)
          (sym (ap (λ (xs : List Path). is_among xs y) w.deref.ensures.value) ∙ sym (among_is w.deref.result.now y)
          ∙ sym w.is_among.ensures ∙ w.if-not-is_among.false) ∙ and_right self.is_directory false refl
      | else-self-via-else-self w ↦ ap (λ a. a && not (is_among self.fresh.items y)) w.if-self.false
    ] in
    record {
      source = refl;
      to = refl;
      replaces = refl;
      fresh = refl;
      way = refl;
      step = refl;
      kind = kind_stays self.replaces self.to self.fresh.items self.step y c.in-Set.name.now c.in-Set.bytes.now
          c.in-Set.ensures.parts self.is_directory;
      last = (refl, refl);
      changes = λ u place knows. ap (λ o. always_done (commands.SetAttribute c.args.place.now c.in-Set.name.now
          c.new-in-Set.result) ∷ pending_of o self.step) c.requires
          ∙ sets self.replaces self.to self.fresh.items self.step y c.in-Set.name.now c.in-Set.bytes.now
          c.in-Set.ensures.parts self.is_directory counts c.args.place.now place c.new-in-Set.result
          (c.new-in-Set.ensures ∙ c.as_slice-in-Set.ensures.value) u knows;
    }
