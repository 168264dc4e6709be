use Rattle.std.proofs.Common.{◌∙◌, ◌*◌, ◌/◌, ℕ, ap}
use Rattle.store_model.specs.Parameters.{block_len, table_at}
use Rattle.recovered_store.proofs.Blocks.{table_block}
use Rattle.recovered_store.proofs.disk.SlotsDisk.first_block.Goals as goal

pub returns : goal.returns
returns g c =
    ap (λ (n : ℕ). block_len * (n / block_len))
    (c.table_at.ensures.value ∙ ap (λ (n : ℕ). table_at n 0) c.slots.ensures.value)
    ∙ table_block c.args.self.now.params.slots
