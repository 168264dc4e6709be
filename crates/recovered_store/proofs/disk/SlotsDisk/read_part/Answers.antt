use Rattle.std.proofs.Common.{◌≡◌, ◌∙◌, ℕ, ◌+◌, ◌-◌, ◌*◌, ◌≤◌, length, take, drop, ap, arith}
use Rattle.std.proofs.lemmas.List.{take_at, length-take-le}
use Rattle.store_model.specs.Parameters.{block_len}
use Rattle.recovered_store.specs.SlotsDisks.{image_of}
use Rattle.recovered_store.proofs.Blocks.{block_within, part_of_block}
use Rattle.recovered_store.proofs.disk.SlotsDisk.read_part.Goals as goal

pub read_block-requires : goal.read_block-requires
read_block-requires g c =
    block_within c.args.self.now.params.slots c.args.block c.args.behind (length c.args.into.now) c.requires.some
    c.requires.within

pub returns-clause-bytes : goal.returns-clause-bytes
returns-clause-bytes g c observable =
    let image = image_of c.args.self.now.params (g.S.ReadSlots.state c.args.self.now.slots).slots in
    let bytes = c.read_block.new.into in
    let behind = c.args.behind in
    let count = c.min-count.result in
    let within : behind + count ≤ block_len = omega (arith, c.min-count.ensures, c.requires.behind) in
    let same : (behind + count) - behind ≡ count = omega arith in
    let fits : count ≤ length c.args.into.now = omega (arith, c.min-count.ensures) in
    take_at c.copy_from_slice.new.self (drop count c.args.into.now) count
    (c.copy_from_slice.ensures.len ∙ length-take-le count c.args.into.now fits)
    ∙ c.copy_from_slice.ensures.after
    ∙ ap (λ (n : ℕ). take n (drop behind bytes)) same
    ∙ part_of_block image bytes (block_len * c.args.block) behind count (c.in_ok-read_block.ensures.bytes observable)
    within
