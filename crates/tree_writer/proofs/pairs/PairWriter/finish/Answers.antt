use Rattle.image_writer.specs.Sealing.{image_of_pairs}
use Rattle.image_writer.proofs.Written.{becomes_answered, becomes_failed}
use Rattle.tree_writer.proofs.PairSteps.{ends_disk}
use Rattle.tree_writer.proofs.pairs.PairWriter.finish.Goals as goal

pub returns-in_err-finish-clause-becomes : goal.returns-in_err-finish-clause-becomes
returns-in_err-finish-clause-becomes g c = λ p start s has was.
    becomes_failed p (image_of_pairs p s) (g.D.Disk.state start) (g.D.Disk.state c.finish.new.disk)
    c.in_err-finish.field-0.0 c.from_residual.result c.from_residual.ensures.0
    (c.in_err-finish.ensures.becomes p start s has.writing was.0 was.1)

pub returns-in_err-finish-clause-faults : goal.returns-in_err-finish-clause-faults
returns-in_err-finish-clause-faults g c =
    let (p, start, s, has, fits) = c.requires in
    ends_disk c.in_err-finish.field-0.0 c.from_residual.result c.from_residual.ensures.1
    (c.in_err-finish.ensures.fits p start s has.writing fits)

pub returns-clause-becomes : goal.returns-clause-becomes
returns-clause-becomes g c = λ p start s has was.
    becomes_answered p (image_of_pairs p s) (g.D.Disk.state start) (g.D.Disk.state c.finish.new.disk) tt tt
    (c.in_ok-finish.ensures.becomes p start s has.writing was.0 was.1)
