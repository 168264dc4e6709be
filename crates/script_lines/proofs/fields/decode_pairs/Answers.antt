use Rattle.script_lines.proofs.FieldLemmas.{decoded}
use Rattle.script_lines.proofs.fields.decode_pairs.Goals as goal

pub returns : goal.returns
returns c = rw c.is_ok.ensures.value (decoded c.args.text.now c.decode_to_slice.new.out c.decode_to_slice.result _
    c.requires c.decode_to_slice.ensures.value)
