use Rattle.std.proofs.Common.{◌≢◌, ◌<◌, length, map, sym, ap, ◌∙◌, arith, get_or-set_other}
use Rattle.std.proofs.Common.{get_or-set_same, below_more}
use Rattle.std.proofs.lemmas.List.{ext_get_or, get_or-map, length-map}
use Rattle.slot_map.specs.Pictures.{mark_character}
use Rattle.slot_map.proofs.picture.show_marks.Goals as goal

pub loop-mark-preserved : goal.loop-mark-preserved
loop-mark-preserved c =
    let at = c.loop-mark.mark-index in
    let fits : at < length c.loop-mark.marks = omega arith in
    record {
      shown = below_more _ _
          (λ k low. let ne : k ≢ at = omega arith in rw get_or-set_other (c.loop-mark.invariant.shown k low))
          (rw get_or-set_same (c.mark_character.ensures
          ∙ ap mark_character (c.loop-mark.invariant.left at (omega arith))));
      left = λ k high. let ne : k ≢ at = omega arith
          in rw get_or-set_other (c.loop-mark.invariant.left k (omega arith));
    }

pub returns : goal.returns
returns c =
    let old = c.args.marks.now in
    ext_get_or 0 c.loop-mark.marks (map mark_character old)
    (c.loop-mark.auto.marks ∙ sym (length-map old mark_character))
    (λ k low. c.loop-mark.invariant.shown k (omega arith) ∙ sym (get_or-map mark_character old k 0 0 (omega arith)))
