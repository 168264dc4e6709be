use Rattle.std.proofs.Common.{take}
use Rattle.image_writer.specs.Writing.{IsWriting}
use Rattle.image_writer.proofs.pairs.write_pairs.Given as goal

abbrev pub invariant-loop-pair : goal.invariant-loop-pair
invariant-loop-pair g l = IsWriting l.params (take l.pair-index l.pairs) (g.D.Disk.state l.initial.disk)
    (g.D.Disk.state l.disk) l.writer
