use Rattle.std.proofs.Common.{Ok, Err, subst}
use Rattle.page_store.specs.declared.fault.SettleFault.{SettleFault}
use Rattle.staged_tree.specs.Steps.{SettlesAll}
use Rattle.staged_tree.proofs.StreamSteps.{settled_stream}
use Rattle.staged_tree.proofs.streamed.end_stream.Goals as goal

pub settle_list-requires-clause-whole : goal.settle_list-requires-clause-whole
settle_list-requires-clause-whole g c = c.requires.list.1.1.1.whole

pub settle_list-requires-clause-staged : goal.settle_list-requires-clause-staged
settle_list-requires-clause-staged g c = let some = c.requires.list
    in (some.0, (some.1.0, (some.1.1.0, (some.1.1.1.staged, some.1.1.1.draw))))

pub returns-in-Ok-clause-call : goal.returns-in-Ok-clause-call
returns-in-Ok-clause-call g c t next p list =
    settled_stream g.D.Disk.state t next p c.args.index c.args.pairs.now.pages c.settle_list.new.pairs.pages (Ok tt)
    g.met.D.Disk.sound list.staged c.requires.runs c.in-Ok.ensures.call

pub returns-in-Err-Full-clause-call : goal.returns-in-Err-Full-clause-call
returns-in-Err-Full-clause-call g c t next p list =
    settled_stream g.D.Disk.state t next p c.args.index c.args.pairs.now.pages c.settle_list.new.pairs.pages _
    g.met.D.Disk.sound list.staged c.requires.runs
    (subst (λ (f : SettleFault). SettlesAll g.D.Disk.state c.args.pairs.now.pages c.settle_list.new.pairs.pages (Err f))
    c.in-Err-Full.field-0-is c.in-Err-Full.ensures.call)

pub returns-in-Err-Disk-clause-call : goal.returns-in-Err-Disk-clause-call
returns-in-Err-Disk-clause-call g c t next p list =
    settled_stream g.D.Disk.state t next p c.args.index c.args.pairs.now.pages c.settle_list.new.pairs.pages _
    g.met.D.Disk.sound list.staged c.requires.runs
    (subst (λ (f : SettleFault). SettlesAll g.D.Disk.state c.args.pairs.now.pages c.settle_list.new.pairs.pages (Err f))
    c.in-Err-Disk.field-0-is c.in-Err-Disk.ensures.call)

pub returns-in-Err-NoMemory-clause-call : goal.returns-in-Err-NoMemory-clause-call
returns-in-Err-NoMemory-clause-call g c t next p list =
    settled_stream g.D.Disk.state t next p c.args.index c.args.pairs.now.pages c.settle_list.new.pairs.pages _
    g.met.D.Disk.sound list.staged c.requires.runs
    (subst (λ (f : SettleFault). SettlesAll g.D.Disk.state c.args.pairs.now.pages c.settle_list.new.pairs.pages (Err f))
    c.in-Err-NoMemory.field-0-is c.in-Err-NoMemory.ensures.call)
