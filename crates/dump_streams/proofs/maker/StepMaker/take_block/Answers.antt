use Rattle.std.proofs.Common.{◌≡◌, ◌-◌, ◌<◌, ◌≤◌, ◌++◌, length, refl, sym, ap, ◌∙◌, arith}
use Rattle.std.proofs.lemmas.List.{length-append}
use Rattle.dump_streams.specs.Dumps.{dump_piece}
use Rattle.dump_streams.specs.Dumps.DumpStep.{Write}
use Rattle.dump_streams.proofs.FileLemmas.{block_of, block_length, block_more, block_ends, block_fills, extended}
use Rattle.dump_streams.proofs.maker.StepMaker.take_block.Goals as goal
use Rattle.dump_streams.proofs.maker.StepMaker.take_block.Goals.{else-left-gt0-via-then-left-gt0+else-len-lt-PIECE}
use Rattle.dump_streams.proofs.maker.StepMaker.take_block.Goals.{else-left-gt0-via-else-left-gt0}

pub returns-then-block-min : goal.returns-then-block-min
returns-then-block-min c k rest steps left =
    let block = block_of c.args.self.now c.args.file k c.args.value.now rest steps c.requires left in
    let len = block_length c.args.file c.args.self.now.piece.items c.args.value.now rest steps block in
    let same = ap length c.as_slice-block.ensures.value in
    omega (arith, len, same)

pub returns-then-len-lt-PIECE : goal.returns-then-len-lt-PIECE
returns-then-len-lt-PIECE c k rest steps left =
    let file = c.args.file in
    let piece = c.args.self.now.piece.items in
    let value = c.args.value.now in
    let longer = c.try_extend_from_slice.new.self.items in
    let block = block_of c.args.self.now file k value rest steps c.requires left in
    let value_is = c.as_slice-block.ensures.value in
    let is : longer ≡ piece ++ value = extended c.try_extend_from_slice.result _ (sym c.is_err.ensures.value
    ∙ c.if-is_err.false) c.try_extend_from_slice.ensures.ok ∙ ap (λ xs. piece ++ xs) value_is in
    let same = ap length value_is in
    block_more file piece value rest steps block longer is _ _ refl refl refl refl
    (ap (λ n. file.left - n) same) c.if-left-gt0.true (omega (arith, c.len.ensures.value, c.if-len-lt-PIECE.true))

pub returns-then-left-eq0 : goal.returns-then-left-eq0
returns-then-left-eq0 c k rest steps left =
    let file = c.args.file in
    let piece = c.args.self.now.piece.items in
    let value = c.args.value.now in
    let longer = c.try_extend_from_slice.new.self.items in
    let block = block_of c.args.self.now file k value rest steps c.requires left in
    let value_is = c.as_slice-block.ensures.value in
    let is : longer ≡ piece ++ value = extended c.try_extend_from_slice.result _ (sym c.is_err.ensures.value
    ∙ c.if-is_err.false) c.try_extend_from_slice.ensures.ok ∙ ap (λ xs. piece ++ xs) value_is in
    let same = ap length value_is in
    block_ends file piece value rest steps block longer is _ c.write.new.self refl
    (omega (arith, same, c.if-left-eq0.true))
    (c.write.ensures ∙ ap (Write file.path file.at) c.as_slice.ensures.value)

pub returns : goal.returns
returns c k rest steps left =
    let file = c.args.file in
    let piece = c.args.self.now.piece.items in
    let value = c.args.value.now in
    let longer = c.try_extend_from_slice.new.self.items in
    let block = block_of c.args.self.now file k value rest steps c.requires left in
    let value_is = c.as_slice-block.ensures.value in
    let is : longer ≡ piece ++ value = extended c.try_extend_from_slice.result _ (sym c.is_err.ensures.value
    ∙ c.if-is_err.false) c.try_extend_from_slice.ensures.ok ∙ ap (λ xs. piece ++ xs) value_is in
    let same = ap length value_is in
    let len = block_length file piece value rest steps block in
    let short = block.in_file.short in
    let count = ap length is ∙ length-append piece value in
    let more : 0 < file.left - length c.as_slice-block.result.now = omega (arith, c.if-left-eq0.false) in
    let filled : dump_piece ≤ length longer = elim c.else-left-gt0.branch [
      | else-left-gt0-via-then-left-gt0+else-len-lt-PIECE w ↦ omega
          (arith, w.len.ensures.value, w.if-len-lt-PIECE.false)
      | else-left-gt0-via-else-left-gt0 w ↦ absurd (omega (arith, w.if-left-gt0.false, more))
    ] in
    block_fills file piece value rest steps block longer is _ c.write.new.self _ refl c.clear.ensures refl
    (omega (arith, c.saturating_add-at.ensures, c.len-2.ensures.value, count, short, len))
    (ap (λ n. file.left - n) same) more filled
    (c.write.ensures ∙ ap (Write file.path file.at) c.as_slice.ensures.value)
