use Rattle.std.proofs.Common.{◌≡◌, length, ◌-◌}
use Rattle.recovered_store.proofs.Filling.{IsFilledTo}
use Rattle.recovered_store.proofs.disk.SlotsDisk.fill.Given as goal

abbrev pub invariant-loop-done : goal.invariant-loop-done
invariant-loop-done g l =
    IsFilledTo (g.S.ReadSlots.state l.fn.self.slots) (g.S.ReadSlots.state l.self.slots) l.fn.self.params
    l.self.params l.at l.into l.done × (l.self.refused ≡ l.fn.self.refused) × (l.self.syncs ≡ l.fn.self.syncs)
    × g.S.ReadSlots.follows l.fn.self.slots l.self.slots

abbrev pub decreases-loop-done : goal.decreases-loop-done
decreases-loop-done g l = length l.initial.into - l.done
