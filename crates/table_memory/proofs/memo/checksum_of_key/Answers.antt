use Rattle.std.proofs.Common.{ℕ, ◌+◌, ◌*◌, List, slice_index, refl, sym, ap, ◌∙◌, arith}
use Rattle.std.specs.Simd.{first_chunks}
use Rattle.table_memory.specs.Memos.{checked, checksum_from}
use Rattle.table_memory.proofs.MemoLemmas.{checked_next, checked_all}
use Rattle.table_memory.proofs.memo.checksum_of_key.Goals as goal

pub loop-word-preserved : goal.loop-word-preserved
loop-word-preserved c = record {
  rest = checked_next c.as_chunks.result.0.now c.loop-word.word-index _ _ c.loop-word.sum c.loop-word.sums _ _
      (omega arith) c.loop-word-test.true c.from_be_bytes-sum.ensures refl refl ∙ c.loop-word.invariant.rest;
  few = c.loop-word.invariant.few;
}

pub returns : goal.returns
unfolding checksum_from
returns c =
    let words = c.as_chunks.ensures.front ∙ ap (λ (count : ℕ). first_chunks 8 count c.args.key.now)
    (sym c.as_chunks.ensures.front_len ∙ c.loop-word.invariant.few) in
    sym (checked_all c.as_chunks.result.0.now c.loop-word.word-index c.loop-word.sum c.loop-word.sums
    c.loop-word-test.false)
    ∙ c.loop-word.invariant.rest
    ∙ ap (λ (words : List (List ℕ)). checked words
    (c.args.first + 256 * slice_index c.args.key.now 122 + slice_index c.args.key.now 123) 0) words
