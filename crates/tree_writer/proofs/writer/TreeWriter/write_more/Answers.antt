use Rattle.std.proofs.Common.{◌+◌, ◌/◌, ◌++◌, length, sym, ap, arith}
use Rattle.store_model.specs.Pairs.{file_block}
use Rattle.dump_streams.specs.Dumps.{after_step}
use Rattle.dump_streams.specs.Dumps.DumpStep.{Write}
use Rattle.dump_streams.specs.Listed.{blocks_from}
use Rattle.tree_writer.proofs.NextPairs.{told_later, later_fits, told_stays}
use Rattle.tree_writer.proofs.ToldPairs.{told_is_pairs}
use Rattle.tree_writer.proofs.TakenSteps.{takes_step}
use Rattle.tree_writer.proofs.writer.TreeWriter.write_more.Goals as goal

pub overflow_add-self : goal.overflow_add-self
overflow_add-self g c =
    let (p, start, t, before, goes) = c.requires.step in
    omega (
      arith,
      ap length c.as_slice-bytes.ensures.value,
      later_fits t p c.args.path.now c.args.at c.args.bytes.now c.requires.further before.under goes,
    )

pub push_blocks-requires-clause-come : goal.push_blocks-requires-clause-come
push_blocks-requires-clause-come g c =
    let (p, start, t, before, goes) = c.requires.step in
    let path = c.args.path.now in
    let bytes = c.args.bytes.now in
    let shown = c.as_slice-bytes.result.now in
    let writer = c.args.self.now in
    let came = before.holds.came in (
      p,
      start,
      came,
      record {
        has = before.has;
        pairs = told_is_pairs (after_step t (Write path c.args.at bytes)) p (c.args.at + length shown) writer.told
            (came ++ blocks_from path (c.args.at / file_block + 1) shown) goes.under.is_tree
            (told_later t p path c.args.at shown bytes writer.got writer.told came c.as_slice-bytes.ensures.value
            before.holds.told_are c.requires.further before.under goes);
      },
    )

pub returns : goal.returns
returns g c = λ told.
    let path = c.args.path.now in
    let bytes = c.args.bytes.now in
    let at = c.args.at in
    let shown = c.as_slice-bytes.result.now in
    let writer = c.args.self.now in
    takes_step g.D.Disk.state (Write path at bytes) told c.args.disk.now c.push_blocks.new.disk writer
    (record { pairs = c.push_blocks.new.self; got = at + length shown; told = writer.told }) c.push_blocks.result
    (blocks_from path (at / file_block + 1) shown) c.push_blocks.ensures
    (λ p start t before goes. told_later t p path at shown bytes writer.got writer.told before.holds.came
    c.as_slice-bytes.ensures.value before.holds.told_are c.requires.further before.under goes)
    (sym (told_stays path at told writer.told bytes c.requires.further))
