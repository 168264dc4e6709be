use Rattle.entry_lines.proofs.ListerSteps.{set_taken}
use Rattle.entry_lines.proofs.lister.EntryLister.set.Goals as goal

pub returns : goal.returns
returns g c = set_taken g.W.Sink.state c.args.self.now c.note.new.self c.args.path.now c.args.name.now
    c.args.bytes.now c.note.ensures
