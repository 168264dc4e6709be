use Rattle.std.proofs.Common.{length, ap, ◌∙◌}
use Rattle.store_model.specs.Pairs.{is_inline}
use Rattle.dump_streams.proofs.ListedLemmas.{adds_file}
use Rattle.dump_streams.proofs.listed_pairs.ListedPairs.push_file.Goals as goal

pub returns-clause-added : goal.returns-clause-added
returns-clause-added c =
    adds_file _ _ _ _ _ _ _ _ _ _ _ c.as_slice-bytes.ensures.value
    (c.is_inline.ensures ∙ ap (λ v. is_inline v (length c.as_slice-bytes.result.now)) c.version.ensures.value)
    c.if-is_inline.false
    c.file_value.ensures c.in_ok-push_first.ensures.added c.push_blocks.ensures.added
