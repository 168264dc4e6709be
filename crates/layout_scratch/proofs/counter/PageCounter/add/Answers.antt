use Rattle.std.proofs.Common.{sym, ◌∙◌, arith}
use Rattle.layout_scratch.proofs.counter.PageCounter.add.Goals as goal

pub add_at-requires-clause-height : goal.add_at-requires-clause-height
add_at-requires-clause-height g c =
    let low = (g.met.W.Draw.lawful c.args.draw.now).level_in_range c.args.key.now in
    omega (arith, c.level_from-level.ensures)

pub returns-clause-counted : goal.returns-clause-counted
returns-clause-counted g c = λ keys counted.
    let low = (g.met.W.Draw.lawful c.args.draw.now).level_in_range c.args.key.now in
    c.add_at.ensures.counted (g.W.Draw.drawn c.args.draw.now) keys c.args.key.now c.requires.height
    (omega (arith, c.level_from-level.ensures)) c.level_from-level.ensures counted
