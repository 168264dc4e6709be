use Rattle.image_extract.proofs.Lookups.{asks_none}
use Rattle.image_extract.proofs.lookup.first_missing.Goals as goal

pub loop-number-init : goal.loop-number-init
loop-number-init g c = (
  asks_none g.R.Disk.state c.args.store.now tt (λ seen. g.met.R.Disk.sound c.args.store.now.disk seen) c.requires,
  λ tree seen. tt,
)
