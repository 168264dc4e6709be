use Rattle.std.proofs.Common.{◌∙◌, sym}
use Rattle.gate_journal.proofs.Stages.{commits_none}
use Rattle.gate_journal.proofs.journal.Journal.commit.Goals as goal

pub returns-then-count-eq0-clause-commits : goal.returns-then-count-eq0-clause-commits
returns-then-count-eq0-clause-commits g c observable =
    let sound = g.met.D.Disk.sound c.args.disk.now observable in
    commits_none c.args.params.now.slots (g.S.SlotChanges.changes c.args.changes.now) (g.D.Disk.state c.args.disk.now) _
    (sym c.count.ensures ∙ c.if-count-eq0.true) (sound.size ∙ c.requires.size) sound (c.requires.durable observable)
    (c.requires.empty observable)
