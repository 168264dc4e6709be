use Rattle.std.proofs.Common.{arith}
use Rattle.script_lines.proofs.CopyLemmas.{take_got}
use Rattle.script_lines.proofs.copies.copy_attributes.Goals as goal

pub loop-index-preserved : goal.loop-index-preserved
loop-index-preserved c = take_got c.args.attributes.now c.loop-index.copy _ c.loop-index.index _
    (omega arith) c.get-size.ensures.value c.loop-index.invariant c.in_ok-push.ensures.ok
