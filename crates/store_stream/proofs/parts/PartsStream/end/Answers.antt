use Rattle.store_stream.proofs.PartsLemmas.{whole_parts, not_whole_parts}
use Rattle.store_stream.proofs.parts.PartsStream.end.Goals as goal

pub returns-then-is_whole : goal.returns-then-is_whole
returns-then-is_whole g c t count s came =
    whole_parts g.D.Disk.state c.args.self.now t came c.is_whole.ensures.tree

pub returns-else-is_whole : goal.returns-else-is_whole
returns-else-is_whole g c t count s came =
    not_whole_parts g.D.Disk.state c.args.self.now t came (rw c.if-is_whole.false at c.is_whole.ensures.told)
