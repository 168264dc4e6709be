use Rattle.std.proofs.Common.{arith}
use Rattle.path_keys.proofs.NameBytes.{put_zeros_at, put_zeros_past}
use Rattle.path_keys.proofs.names.put_zeros.Goals as goal
use Rattle.path_keys.proofs.names.put_zeros.Goals.{then-byte-separator, else-byte-separator}

pub loop-byte-preserved : goal.loop-byte-preserved
loop-byte-preserved c =
    elim c.if-byte-separator.branch [
      | then-byte-separator w ↦
          put_zeros_at c.args.separator c.args.bytes.now c.loop-byte.bytes c.if-byte-separator.bytes
          c.loop-byte.byte-index (omega arith) (omega arith)
          c.loop-byte.invariant w.if-byte-separator.true w.bytes-is
      | else-byte-separator w ↦
          put_zeros_past c.args.separator c.args.bytes.now c.loop-byte.bytes c.if-byte-separator.bytes
          c.loop-byte.byte-index (omega arith) (omega arith)
          c.loop-byte.invariant w.if-byte-separator.false w.bytes-is
    ]
