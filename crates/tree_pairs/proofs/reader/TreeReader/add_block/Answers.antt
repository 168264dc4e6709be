use Rattle.std.proofs.Common.{refl, arith}
use Rattle.std.proofs.lemmas.Bool.{false≢true}
use Rattle.tree_pairs.proofs.Readings.{in_file, block_taken, block_told}
use Rattle.tree_pairs.proofs.ReaderCallLemmas.{taken, refused}
use Rattle.tree_pairs.proofs.reader.TreeReader.add_block.Goals as goal

pub returns-then-not-is_next_block : goal.returns-then-not-is_next_block
returns-then-not-is_next_block c =
    let old = c.args.self.now in
    refused old (c.args.key.now, c.args.value.now)
    (λ s p has few begins.
    let file = in_file old s p c.args.len has c.requires.file c.requires.more in
    false≢true (c.if-not-is_next_block.ensures.1
    (block_told old s p c.args.len c.args.key.now c.args.value.now file.0 file.1 begins)))

pub returns : goal.returns
returns c =
    let old = c.args.self.now in
    taken old _ (c.args.key.now, c.args.value.now) refl
    (λ s p has.
    let file = in_file old s p c.args.len has c.requires.file c.requires.more in
    block_taken old s p c.args.len c.args.key.now c.args.value.now file.0 file.1
    (c.if-not-is_next_block.ensures.0 refl) (λ i. omega (arith, c.type_inv.value i)))
