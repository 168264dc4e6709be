use Rattle.std.proofs.Common.{◌≡◌, ◌∙◌, ℕ, ◌*◌, take, ap, arith}
use Rattle.store_model.specs.Parameters.{block_len, table_at}
use Rattle.store_model.specs.Images.{bytes_at}
use Rattle.recovered_store.specs.SlotsDisks.{image_of}
use Rattle.recovered_store.proofs.Blocks.{run_of_slots}
use Rattle.recovered_store.proofs.disk.SlotsDisk.read_run.Goals as goal

pub returns-in-Ok-clause-bytes : goal.returns-in-Ok-clause-bytes
returns-in-Ok-clause-bytes g c observable =
    let p = c.args.self.now.params in
    let slots = (g.S.ReadSlots.state c.args.self.now.slots).slots in
    let turned : c.in-Ok.count * block_len ≡ block_len * c.in-Ok.count = omega arith in
    ap (λ (n : ℕ). take n c.get_some.new.into) turned
    ∙ run_of_slots p slots c.args.slot c.in-Ok.count c.get_some.new.into c.args.self.now.in_range
    (g.met.S.ReadSlots.whole c.args.self.now.slots observable) ((c.in-Ok.ensures.call.observed observable).got)
    ∙ ap (λ (n : ℕ). bytes_at (image_of p slots) (table_at p.slots c.args.slot) n) (omega arith)
