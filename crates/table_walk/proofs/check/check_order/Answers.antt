use Rattle.std.proofs.Common.{◌<◌, arith}
use Rattle.store_model.specs.Labels.{Label, Start}
use Rattle.table_walk.proofs.Ending.{checks_order}
use Rattle.table_walk.proofs.Noting.{within_room, order_index}
use Rattle.table_walk.proofs.check.check_order.Goals as goal

-- a label, which starts in some slot
some_label : Label
some_label = record { level = 0; lead = Start; index = 0 }

pub find_bar-requires-clause-some : goal.find_bar-requires-clause-some
find_bar-requires-clause-some g c =
    let start = (g.met.W.Draw.lawful c.args.draw.now).start_in_range some_label in
    omega (arith, start, c.slots-count.ensures)

pub returns-clause-call : goal.returns-clause-call
returns-clause-call g c =
    let below : c.in_ok-bar.bar < c.slots-count.result =
    omega (arith, c.in_ok-bar.ensures.call.within, c.requires.count, c.slots-count.ensures) in
    checks_order (g.W.Draw.drawn c.args.draw.now) c.args.height _ _ _ _ _ _ _
    c.in_ok-bar.bar c.check_round-found.result c.requires.count c.slots-count.ensures below
    c.next_slot.ensures.value c.in_ok-bar.ensures.call c.check_round-found.ensures.call

pub sort_noted-requires : goal.sort_noted-requires
sort_noted-requires g c = within_room c.check_round-found.result _ _
    c.check_round-found.ensures.call.within
    (omega (arith, c.in_ok-bar.ensures.call.calls.count, c.requires.count, c.requires.room))

pub returns-clause-index : goal.returns-clause-index
returns-clause-index g c = order_index (g.W.Draw.digests c.args.draw.now) _ _ _ _
    c.in_ok-bar.bar c.check_round-found.new.entries _
    c.check_round-found.result c.in_ok-bar.ensures.call c.check_round-found.ensures.noted c.sort_noted.ensures
