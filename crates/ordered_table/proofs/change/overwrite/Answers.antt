use Rattle.std.proofs.Common.{arith}
use Rattle.ordered_table.proofs.InsertCalls.{slot_of_page}
use Rattle.ordered_table.proofs.Overwriting.{overwrites}
use Rattle.ordered_table.proofs.change.overwrite.Goals as goal

pub returns-clause-call : goal.returns-clause-call
returns-clause-call g c =
    overwrites (g.W.Draw.drawn c.args._draw.now) _ _ c.args.page.now c.args.at _
    c.set.result (g.met.W.Draw.lawful c.args._draw.now)
    c.as_slot.ensures.valid (omega (arith, c.requires.below, c.requires.count))
    (slot_of_page c.args.page.now _ c.as_slot.ensures.value) c.set.ensures.call
