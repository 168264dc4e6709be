use Rattle.std.proofs.Common.{◌∙◌, ℕ, ◌-◌, ◌*◌, ap, sym, arith}
use Rattle.store_model.specs.Parameters.{block_len}
use Rattle.store_model.specs.Images.{bytes_at}
use Rattle.recovered_store.specs.SlotsDisks.{image_of}
use Rattle.recovered_store.proofs.Blocks.{header_block, zeros_block, slot_block, before_table, slot_within, slot_place}
use Rattle.recovered_store.proofs.disk.SlotsDisk.read_block.Goals as goal

pub returns-then-block-eq0-clause-bytes : goal.returns-then-block-eq0-clause-bytes
returns-then-block-eq0-clause-bytes g c observable =
    let image = image_of c.args.self.now.params (g.S.ReadSlots.state c.args.self.now.slots).slots in
    c.write_header.ensures
    ∙ header_block c.args.self.now.params (g.S.ReadSlots.state c.args.self.now.slots).slots c.args.self.now.in_range
    ∙ ap (λ (n : ℕ). bytes_at image (block_len * n) block_len) (sym c.if-block-eq0.true)

pub returns-then-block-first-clause-bytes : goal.returns-then-block-first-clause-bytes
returns-then-block-first-clause-bytes g c observable =
    zeros_block c.args.self.now.params (g.S.ReadSlots.state c.args.self.now.slots).slots c.args.block
    c.args.self.now.in_range (omega (arith, c.if-block-eq0.false))
    (before_table c.args.self.now.params.slots c.first_block-first.result c.args.block c.first_block-first.ensures
    (omega (arith, c.if-block-first.true)))

pub overflow_cast-block : goal.overflow_cast-block
overflow_cast-block g c =
    omega (
      arith,
      slot_within c.args.self.now.params.slots c.first_block-first.result c.args.block 1 c.first_block-first.ensures
          (omega (arith, c.if-block-first.false)) (omega (arith, c.requires)),
      c.args.self.now.in_range.slots_in_range,
    )

pub get-requires : goal.get-requires
get-requires g c =
    omega (
      arith,
      slot_within c.args.self.now.params.slots c.first_block-first.result c.args.block 1 c.first_block-first.ensures
          (omega (arith, c.if-block-first.false)) (omega (arith, c.requires)),
      c.args.self.now.counted,
    )

pub returns-in-Ok-clause-bytes : goal.returns-in-Ok-clause-bytes
returns-in-Ok-clause-bytes g c observable =
    let p = c.args.self.now.params in
    let slots = (g.S.ReadSlots.state c.args.self.now.slots).slots in
    slot_block p slots (c.args.block - c.first_block-first.result) c.get.new.into c.args.self.now.in_range
    (g.met.S.ReadSlots.whole c.args.self.now.slots observable) ((c.in-Ok.ensures.call.observed observable).got)
    ∙ ap (λ (at : ℕ). bytes_at (image_of p slots) at block_len)
    (slot_place p.slots c.first_block-first.result c.args.block c.first_block-first.ensures
    (omega (arith, c.if-block-first.false)))
