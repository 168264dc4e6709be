use Rattle.std.proofs.Common.{ℕ, ◌%◌, ap}
use Rattle.table_memory.specs.Memos.{memo_place, memo_places}
use Rattle.table_memory.proofs.memo.memo_place.Goals as goal

pub returns-clause-value : goal.returns-clause-value
unfolding memo_place
returns-clause-value c = ap (λ (n : ℕ). n % memo_places) c.checksum_of_label.ensures
