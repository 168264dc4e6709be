use Rattle.std.proofs.Common.{sym, ap, ◌∙◌}
use Rattle.ordered_table.proofs.InsertCalls.{inserting_starts, slot_of_page}
use Rattle.ordered_table.proofs.Settling.{inserts_settled, inserts_carried}
use Rattle.ordered_table.proofs.change.insert_from.Goals as goal

pub returns-in-Some-clause-call : goal.returns-in-Some-clause-call
returns-in-Some-clause-call g c =
    let d = g.W.Draw.drawn c.args.draw.now in
    let s = inserting_starts d (g.S.ReadSlots.state c.args.slots.now)
    c.args.page.now c.slots.result c.args.start c.label.result c.as_slot.result.now
    (g.met.W.Draw.lawful c.args.draw.now) c.label.ensures.valid c.slots.ensures (c.requires.start
    ∙ ap d.start (sym c.label.ensures.value))
    c.label.ensures.value (slot_of_page c.args.page.now c.as_slot.result.now c.as_slot.ensures.value) in
    inserts_carried d _ _ _ c.args.page.now (record {
      label = c.label.result;
      at = c.args.start;
      left = c.slots.result;
    }) c.in-Some.onward c.as_slot.result.now _
    c.in_ok-onward.field-0 c.carry_on.result s c.in_ok-onward.ensures.call c.in-Some.is c.carry_on.ensures.call

pub returns-in-None-clause-call : goal.returns-in-None-clause-call
returns-in-None-clause-call g c =
    let d = g.W.Draw.drawn c.args.draw.now in
    let s = inserting_starts d (g.S.ReadSlots.state c.args.slots.now)
    c.args.page.now c.slots.result c.args.start c.label.result c.as_slot.result.now
    (g.met.W.Draw.lawful c.args.draw.now) c.label.ensures.valid c.slots.ensures (c.requires.start
    ∙ ap d.start (sym c.label.ensures.value))
    c.label.ensures.value (slot_of_page c.args.page.now c.as_slot.result.now c.as_slot.ensures.value) in
    inserts_settled d _ _ c.args.page.now (record {
      label = c.label.result;
      at = c.args.start;
      left = c.slots.result;
    }) c.as_slot.result.now _
    c.in_ok-onward.field-0 s c.in_ok-onward.ensures.call c.in-None.is
