use Rattle.std.proofs.Common.{◌+◌, refl, arith}
use Rattle.file_blocks.proofs.PutLemmas.{puts_more}
use Rattle.file_blocks.proofs.writing.put_bytes.Goals as goal

pub loop-done-preserved : goal.loop-done-preserved
loop-done-preserved g c = record {
  within = omega arith;
  call = puts_more c.args.path.now c.args.len c.args.at (c.args.at + c.loop-done.done)
      c.loop-done.done c.min-end.result c.args.bytes.now _ (g.P.OrderedPairs.state c.args.pairs.now)
      (g.P.OrderedPairs.state c.loop-done.pairs) _ _ refl (omega arith)
      (omega arith) c.requires.ends refl c.loop-done.invariant.call c.in_ok-put_piece.ensures.call;
  hidden = λ h. c.loop-done.invariant.hidden (c.in_ok-put_piece.ensures.hidden h);
  follows = g.met.P.OrderedPairs.follows_trans _ _ _ c.loop-done.invariant.follows c.in_ok-put_piece.ensures.follows;
}
