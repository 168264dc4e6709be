use Rattle.std.proofs.Common.{◌≡◌, ◌+◌, ◌-◌, length, arith}
use Rattle.disk_model.proofs.Crashes.{IsObservable-call}
use Rattle.gate_journal.proofs.Faults.{IsCall-fault}
use Rattle.gate_journal.proofs.Wiping.{wipes_fault, wipes}
use Rattle.gate_journal.proofs.wipe.overwrite_disk.Goals as goal

pub returns-in_err-write_byte-clause-wipes : goal.returns-in_err-write_byte-clause-wipes
returns-in_err-write_byte-clause-wipes g c observable =
    wipes_fault (g.D.Disk.state c.args.disk.now) (g.D.Disk.state c.write_byte.new.disk)
    c.from_residual.result c.from_residual.ensures.0 (c.write_byte.ensures.reaches observable).keeps

pub returns-clause-wipes : goal.returns-clause-wipes
returns-clause-wipes g c observable =
    let old = g.D.Disk.state c.args.disk.now in
    let mid = g.D.Disk.state c.write_byte.new.disk in
    let new = g.D.Disk.state c.wipe_rest.new.disk in
    let observable_1 = IsObservable-call old mid _ c.write_byte.ensures.call observable in
    let size = (g.met.D.Disk.sound c.args.disk.now observable).size in
    let whole : 1 + (mid.size - 1) ≡ length old.bytes =
    omega (arith, size, c.write_byte.ensures.call.size, c.requires) in
    wipes old mid new _ c.wipe_rest.result (omega (arith, size, c.requires))
    (c.in_ok-write_byte.ensures.reaches observable) (mid.size - 1) whole
    (c.in_ok-write_byte.ensures.durable observable)
    (c.wipe_rest.ensures.reaches observable_1) (c.wipe_rest.ensures.durable observable_1)

pub returns-in_err-write_byte-clause-call : goal.returns-in_err-write_byte-clause-call
returns-in_err-write_byte-clause-call g c =
    IsCall-fault _ _ _ c.from_residual.result c.from_residual.ensures.0 c.in_err-write_byte.ensures.call
