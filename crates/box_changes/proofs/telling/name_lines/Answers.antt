use Rattle.box_changes.proofs.Told.{name_more}
use Rattle.box_changes.proofs.telling.name_lines.Goals as goal

pub loop-index-preserved : goal.loop-index-preserved
loop-index-preserved c =
    name_more c.args.attributes.now c.loop-index.index (c.get.result.0.now, c.get.result.1) c.loop-index.text.items
    c.extend_from_slice.new.self.items c.push.new.self.items c.get.ensures.value c.loop-index.invariant
    c.in_ok-extend_from_slice.ensures.items c.in_ok-push.ensures.items
