use Rattle.std.proofs.Common.{◌≡◌, length}
use Rattle.table_memory.specs.Memos.{KeepsPlaces}
use Rattle.table_memory.proofs.memo.make_places.Given as goal

abbrev pub invariant-loop-place : goal.invariant-loop-place
invariant-loop-place l = (length l.places.items ≡ l._place) × KeepsPlaces l.fn.places.items l.places.items
