use Rattle.std.proofs.Common.{◌≡◌, ◌∙◌, ◌-◌, ◌*◌, ◌/◌, ◌%◌, length, drop, arith}
use Rattle.std.proofs.lemmas.List.{length-take-le}
use Rattle.store_model.specs.Parameters.{block_len, table_at}
use Rattle.recovered_store.specs.SlotsDisks.{image_of}
use Rattle.recovered_store.proofs.Blocks.{slot_within, slot_place, run_in_front}
use Rattle.recovered_store.proofs.disk.SlotsDisk.read_some.Goals as goal

pub overflow_cast-block : goal.overflow_cast-block
overflow_cast-block g c =
    omega (
      arith,
      slot_within c.args.self.now.params.slots c.first_block-first.result (c.args.at / 4096) 0
          c.first_block-first.ensures (omega (arith, c.if-block-first.true)) (omega (arith, c.requires.within)),
      c.args.self.now.in_range.slots_in_range,
    )

pub read_run-requires-clause-within : goal.read_run-requires-clause-within
read_run-requires-clause-within g c =
    let len = length c.args.into.now in
    omega (
      arith,
      length-take-le (len - len % 4096) c.args.into.now (omega arith),
      slot_within c.args.self.now.params.slots c.first_block-first.result (c.args.at / 4096) (len / 4096)
          c.first_block-first.ensures (omega (arith, c.if-block-first.true))
          (omega (arith, c.requires.within, c.if-behind-eq0.true)),
    )

pub returns-then-block-first-clause-bytes : goal.returns-then-block-first-clause-bytes
returns-then-block-first-clause-bytes g c observable =
    let p = c.args.self.now.params in
    let image = image_of p (g.S.ReadSlots.state c.args.self.now.slots).slots in
    let len = length c.args.into.now in
    let block = c.args.at / 4096 in
    let first = c.first_block-first.result in
    let there : block_len * block ≡ c.args.at = omega (arith, c.if-behind-eq0.true) in
    run_in_front c.read_run.result image c.read_run.new.into (drop (len - len % 4096) c.args.into.now)
    (table_at p.slots (block - first)) c.args.at
    (slot_place p.slots first block c.first_block-first.ensures (omega (arith, c.if-block-first.true)) ∙ there)
    c.read_run.ensures.part (c.read_run.ensures.bytes observable)
