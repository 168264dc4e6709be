use Rattle.host_folders.proofs.FillLemmas.{fill_begins, fill_goes_on}
use Rattle.host_folders.proofs.pieces.fill.Goals as goal

pub loop-count-init : goal.loop-count-init
loop-count-init g c = fill_begins (g.F.Folder.state c.args.folder.now) c.args.into.now

pub loop-count-preserved : goal.loop-count-preserved
loop-count-preserved g c =
    fill_goes_on (g.F.Folder.state c.args.folder.now) (g.F.Folder.state c.loop-count.folder)
    (g.F.Folder.state c.read.new.self) c.loop-count.into c.read.new.into c.loop-count.count c.in_ok-more.more
    c.loop-count.invariant c.loop-count-test.true c.in_ok-more.ensures
    c.read.auto.into c.if-more-eq0.false
