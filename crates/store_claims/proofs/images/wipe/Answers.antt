use Rattle.gate_journal.proofs.Formatting.{no_image}
use Rattle.store_claims.specs.Machines.{bytes_of}
use Rattle.store_claims.proofs.Imaging.{no_first_byte, wipe_cut_short}
use Rattle.store_claims.proofs.images.wipe.Goals as goal

pub returns-clause-no_image : goal.returns-clause-no_image
returns-clause-no_image c is e =
    no_image (bytes_of c.call.result.disk) (no_first_byte c.args.machine c.call.result (c.call.ensures.performs _ is) e)

pub returns-clause-cut_short : goal.returns-clause-cut_short
returns-clause-cut_short c is = wipe_cut_short c.args.machine c.call.result (c.call.ensures.performs _ is)
