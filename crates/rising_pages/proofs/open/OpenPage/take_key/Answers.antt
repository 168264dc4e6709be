use Rattle.std.proofs.Common.{arith}
use Rattle.rising_pages.proofs.RaisedLevels.{key_absent}
use Rattle.rising_pages.proofs.open.OpenPage.take_key.Goals as goal

pub returns-then-key-level : goal.returns-then-key-level
returns-then-key-level c = λ d s comes.
    key_absent d c.args.level s c.args.key.now c.args.self.now comes (omega (arith, c.if-key-level.true))
