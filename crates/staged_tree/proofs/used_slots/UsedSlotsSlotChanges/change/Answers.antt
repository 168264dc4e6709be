use Rattle.staged_tree.proofs.UsedLemmas.{used_below, bytes_there}
use Rattle.staged_tree.proofs.used_slots.UsedSlotsSlotChanges.change.Goals as goal

pub slot-requires : goal.slot-requires
slot-requires c = used_below c.args.self.now.layout.now c.args.self.now.numbers.items c.args.k c.number-at.result
    c.args.self.now.used c.requires c.number-at.ensures

pub returns-clause-bytes : goal.returns-clause-bytes
returns-clause-bytes c =
    bytes_there c.args.self.now.layout.now c.args.self.now.numbers.items c.args.k c.number-at.result c.slot.new.into
    c.args.self.now.used c.requires c.number-at.ensures c.slot.ensures
