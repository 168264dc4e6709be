use Rattle.host_folders.proofs.MemoryLemmas.{child_is}
use Rattle.host_folders.proofs.memory.is_right_below.Goals as goal

pub returns-in-Some : goal.returns-in-Some
returns-in-Some c = child_is c.args.path.now c.args.folder.now c.in-Some.parent c.eq.result c.in-Some.ensures.none.1
    c.in-Some.ensures.value c.eq.ensures.value
