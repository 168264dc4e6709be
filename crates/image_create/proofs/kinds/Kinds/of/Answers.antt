use Rattle.image_create.proofs.KindLemmas.{counts_none}
use Rattle.image_create.proofs.kinds.Kinds.of.Goals as goal

pub loop-entry-init : goal.loop-entry-init
loop-entry-init c = counts_none
