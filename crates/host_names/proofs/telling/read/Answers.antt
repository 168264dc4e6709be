use Rattle.std.proofs.Common.{arith}
use Rattle.host_names.proofs.Spellings.{told_all}
use Rattle.host_names.proofs.telling.read.Goals as goal

pub returns : goal.returns
returns c = told_all c.args.text.now c.loop-at.into.items c.loop-at.at c.loop-at.invariant.tells (omega arith)
