use Rattle.std.proofs.Common.{arith}
use Rattle.store_model.specs.Commands.{AttributeSize}
use Rattle.script_lines.specs.Sessions.{same_attribute}
use Rattle.script_lines.proofs.CopyLemmas.{pointwise_stops, pointwise_goes}
use Rattle.script_lines.proofs.copies.same_attributes.Goals as goal

pub returns-then-ne : goal.returns-then-ne
returns-then-ne c =
    let one : AttributeSize = (c.get.result.0.now, c.get.result.1) in
    let other : AttributeSize = (c.get-in-loop-index.result.0.now, c.get-in-loop-index.result.1) in
    pointwise_stops same_attribute c.args.one.now c.args.other.now c.loop-index.index one other (omega arith)
    (omega arith) c.get.ensures.value c.get-in-loop-index.ensures.value c.if-ne.ensures c.loop-index.invariant

pub loop-index-preserved : goal.loop-index-preserved
loop-index-preserved c =
    let one : AttributeSize = (c.get.result.0.now, c.get.result.1) in
    let other : AttributeSize = (c.get-in-loop-index.result.0.now, c.get-in-loop-index.result.1) in
    pointwise_goes same_attribute c.args.one.now c.args.other.now c.loop-index.index one other (omega arith)
    (omega arith) c.get.ensures.value c.get-in-loop-index.ensures.value c.if-ne.ensures c.loop-index.invariant
