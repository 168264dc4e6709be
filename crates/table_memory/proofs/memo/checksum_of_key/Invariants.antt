use Rattle.std.proofs.Common.{◌≡◌, ◌+◌, ◌*◌, drop, length, slice_index}
use Rattle.table_memory.specs.Memos.{checked}
use Rattle.table_memory.proofs.memo.checksum_of_key.Given as goal

abbrev pub invariant-loop-word : goal.invariant-loop-word
invariant-loop-word l = record {
  rest : checked (drop l.word-index l.words) l.sum l.sums
      ≡ checked l.words (l.fn.first + 256 * slice_index l.fn.key 122 + slice_index l.fn.key 123) 0;
  few : length l.words ≡ 15;
}
