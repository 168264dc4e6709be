use Rattle.std.proofs.Common.{ap, ◌∙◌}
use Rattle.store_model.specs.Pairs.{inline_value}
use Rattle.file_blocks.proofs.ReadLemmas.{reads_front}
use Rattle.file_blocks.proofs.cutting.inline_front.Goals as goal

pub returns-clause-call : goal.returns-clause-call
returns-clause-call g c =
    reads_front c.args.path.now c.args.first.now c.args.len c.in_ok-bytes.bytes c.inline_value.result
    (g.P.OrderedPairs.state c.args.pairs.now) (g.P.OrderedPairs.state c.read_file.new.pairs)
    (c.inline_value.ensures ∙ ap inline_value c.as_slice.ensures.value) c.in_ok-bytes.ensures.call
