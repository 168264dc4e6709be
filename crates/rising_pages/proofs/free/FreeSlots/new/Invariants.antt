use Rattle.std.proofs.Common.{◌≡◌}
use Rattle.store_model.specs.Lists.{numbers_below}
use Rattle.rising_pages.proofs.free.FreeSlots.new.Given as goal

abbrev pub invariant-loop-place : goal.invariant-loop-place
invariant-loop-place l = l.next.items ≡ numbers_below l.place
