use Rattle.std.proofs.Common.{◌-◌, ◌/◌, [], length, slice_index_or, ap, ◌∙◌, arith}
use Rattle.table_walk.proofs.Windowing.{chunk_at}
use Rattle.table_walk.proofs.window.Window.slot.Goals as goal

pub returns : goal.returns
returns c =
    let place = c.args.at - c.args.self.now.first in
    ap (λ slots. slice_index_or slots place []) c.as_chunks.ensures.front
    ∙ chunk_at 4096 (length c.args.self.now.bytes / 4096) place c.args.self.now.bytes
    (omega (arith, c.requires.room, c.requires.holds, c.told-self))
