use Rattle.std.proofs.Common.{◌-◌, ◌*◌, inl, inr, arith}
use Rattle.std.proofs.lemmas.Bool.{cases_lt}
use Rattle.gate_journal.proofs.Reading.{zero_part}
use Rattle.gate_journal.proofs.redo.is_zero.Goals as goal

pub loop-block-preserved : goal.loop-block-preserved
loop-block-preserved c place before within =
    let bytes = c.args.bytes.now in
    let start = c.loop-block.block * 4096 in
    elim (cases_lt place start) [
      | inl earlier ↦ c.loop-block.invariant place (omega (arith, earlier)) within
      | inr later ↦
          zero_part bytes start (c.min.result - start) (omega (arith, c.min.ensures))
          (c.are_zero.ensures.0 c.if-not-are_zero.false) place later
          (omega (arith, before, within, c.min.ensures))
    ]
