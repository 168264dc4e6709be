use Rattle.std.proofs.Common.{◌≡◌, ℕ, ◌-◌, ◌<◌, ◌≤◌, length, slice_index}
use Rattle.rising_pages.specs.FreePlaces.{free_of, LeadsOn}
use Rattle.rising_pages.proofs.free.first_from.Given as goal

abbrev pub invariant-loop-next : goal.invariant-loop-next
invariant-loop-next l = record {
  leads : LeadsOn l.next;
  same : free_of l.next ≡ free_of l.initial.next;
  long : length l.next ≡ length l.initial.next;
  behind : l.from ≤ l.at;
  within : l.at < length l.next;
  passed : (i : ℕ) → l.from ≤ i → i < l.at → slice_index l.initial.next i ≡ i → ⊥;
}

abbrev pub decreases-loop-next : goal.decreases-loop-next
decreases-loop-next l = length l.next - l.at
