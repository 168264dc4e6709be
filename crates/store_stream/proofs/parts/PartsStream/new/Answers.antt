use Rattle.store_stream.proofs.PartsLemmas.{parts_none}
use Rattle.store_stream.proofs.parts.PartsStream.new.Goals as goal

pub returns-clause-came : goal.returns-clause-came
returns-clause-came g c =
    parts_none g.D.Disk.state c.new.result c.new-2.result c.new-2.ensures.done c.args.store c.new.ensures.store
    c.new.ensures.fitting c.new.ensures.came c.new.ensures.walk c.new.ensures.steps
