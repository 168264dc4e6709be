use Rattle.std.proofs.Common.{sym, ◌∙◌}
use Rattle.gate_journal.proofs.Wiping.{wipes_none}
use Rattle.gate_journal.proofs.journal.Journal.wipe.Goals as goal

pub returns-then-len-eq0-clause-wipes : goal.returns-then-len-eq0-clause-wipes
returns-then-len-eq0-clause-wipes g c observable =
    wipes_none (g.D.Disk.state c.args.disk.now) _ (g.met.D.Disk.sound c.args.disk.now observable)
    (sym c.len.ensures ∙ c.if-len-eq0.true)
