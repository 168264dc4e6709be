use Rattle.std.proofs.Common.{◌≡◌, ◌+◌, suc, drop, sym, ap, ◌∙◌, arith}
use Rattle.std.specs.List.{find}
use Rattle.image_create.specs.Ladder.{has_room, rungs}
use Rattle.image_create.proofs.Finding.{find_further}
use Rattle.image_create.proofs.slots.ladder.Goals as goal

pub loop-slots-preserved : goal.loop-slots-preserved
loop-slots-preserved c =
    let i = c.loop-slots.slots-index in
    let next : i + 1 ≡ suc i = omega arith in
    ap (λ n. find (has_room c.args.pages) (drop n rungs)) next
    ∙ find_further (has_room c.args.pages) rungs i c.loop-slots-test.true
    (sym c.has_room.ensures ∙ c.if-has_room.false)
    ∙ c.loop-slots.invariant
