use Rattle.std.proofs.Common.{length}
use Rattle.disk_model.specs.DiskCalls.{SameOutside}
use Rattle.disk_model.proofs.Crashes.{IsObservable-call, LeavesOnly-write_durable, goes_on-sync}
use Rattle.disk_model.proofs.durable.write_durably.Goals as goal

pub returns-clause-crash : goal.returns-clause-crash
returns-clause-crash g c observable =
    let old = g.D.Disk.state c.args.disk.now in
    let mid = g.D.Disk.state c.write_at.new.self in
    let new = g.D.Disk.state c.sync.new.self in
    let P = SameOutside c.args.at (length c.args.bytes.now) old.bytes in
    let observable_mid = IsObservable-call old mid _ c.write_at.ensures.call observable in
    let written = LeavesOnly-write_durable old mid _ P observable
    c.args.at c.args.bytes.now c.write_at.ensures (c.requires.durable observable) (λ image same. same) in
    goes_on-sync old mid new _ P observable_mid
    (g.met.D.Disk.sound c.write_at.new.self observable_mid) written c.sync.ensures
