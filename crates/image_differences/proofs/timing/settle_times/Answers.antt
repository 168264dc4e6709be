use Rattle.std.proofs.Common.{refl}
use Rattle.gate_journal.specs.ReadingLaws.{ReadsOnly-refl}
use Rattle.image_differences.proofs.timing.settle_times.Goals as goal

pub returns-in-AsWanted-clause-goes_on : goal.returns-in-AsWanted-clause-goes_on
returns-in-AsWanted-clause-goes_on g c = record {
  read = record {
    observable = refl;
    reads = λ seen. ReadsOnly-refl (g.R.Disk.state c.args.store.disk) (g.met.R.Disk.sound c.args.store.disk seen);
  };
  tree = refl;
  runs = c.requires.runs;
  faults = refl;
}
