use Rattle.std.proofs.Common.{◌≡◌, ◌+◌, ◌-◌, length, drop, take, ap, ◌∙◌, arith, rules}
use Rattle.std.proofs.lemmas.List.{length-drop, length-take-le}
use Rattle.store_model.specs.Lists.{zeros}
use Rattle.node_pages.proofs.Inserted.{room_made}
use Rattle.node_pages.proofs.cell_bytes.make_room.Goals as goal

pub returns : goal.returns
returns c =
    let from = c.args.from in
    let size = c.args.size in
    let moved = c.copy_within.new.self in
    let k : from + size - from ≡ size = omega arith in
    let long : length (take (from + size - from) (drop from moved)) ≡ size =
    length-take-le (from + size - from) (drop from moved)
    (omega (arith, c.copy_within.ensures.len, length-drop from moved, c.requires.order, c.requires.room)) ∙ k in
    room_made c.args.area.now moved c.fill.new.self from c.args.end size
    (from + size - from) c.requires.order c.requires.room k c.copy_within.ensures.after
    (c.fill.ensures.after (λ y is. search rules) ∙ ap zeros long)
