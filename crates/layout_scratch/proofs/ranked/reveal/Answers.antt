use Rattle.layout_scratch.proofs.ranked.reveal.Goals as goal

pub returns : goal.returns
returns c = record {
  key_length = c.reveal_pair.ensures.key.0;
  key_bytes = c.reveal_pair.ensures.key.1;
  value = c.reveal_pair.ensures.value;
}
