use Rattle.std.proofs.Common.{refl}
use Rattle.image_puts.proofs.PutTurns.{nothing_given}
use Rattle.image_puts.proofs.put_changes.PutChanges.new.Goals as goal

pub returns-clause-begins : goal.returns-clause-begins
returns-clause-begins g c here =
    nothing_given g.S.DumpStream.came _ here c.to.ensures.path c.to.ensures.front refl
