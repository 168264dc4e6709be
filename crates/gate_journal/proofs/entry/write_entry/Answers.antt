use Rattle.std.proofs.Common.{arith}
use Rattle.disk_model.proofs.Crashes.{IsObservable-call}
use Rattle.gate_journal.proofs.Calls.{AreCalls-one, IsCall-then, Makes-short, Makes-write, Makes-then, Made-then}
use Rattle.gate_journal.proofs.Calls.{Made-none}
use Rattle.gate_journal.proofs.Faults.{IsCall-fault}
use Rattle.gate_journal.proofs.Areas.{areas, table_end}
use Rattle.gate_journal.proofs.Entries.{entry_reaches}
use Rattle.gate_journal.proofs.entry.write_entry.Goals as goal

pub write_at-requires : goal.write_at-requires
write_at-requires g c =
    let a = areas c.args.slots c.args.slot c.requires.below in
    omega (
      arith,
      a.shadow_end,
      a.table_end,
      table_end c.args.slots,
      c.told-shadow,
      c.shadow_at.ensures.value,
      c.requires.size,
    )

pub write_at-requires-2 : goal.write_at-requires-2
write_at-requires-2 g c =
    let a = areas c.args.slots c.args.slot c.requires.below in
    omega (
      arith,
      a.shadow_is,
      a.mark_end,
      a.shadow_end,
      a.table_end,
      table_end c.args.slots,
      c.mark_at.ensures,
      c.requires.size,
      c.write_at.ensures.call.size,
    )

pub returns-clause-reaches : goal.returns-clause-reaches
returns-clause-reaches g c observable =
    let observable_mid = IsObservable-call _ _ _ c.write_at.ensures.call observable in
    entry_reaches c.args.slots c.args.slot c.args.mark c.args.shadow.now c.requires.below c.told-shadow _ _ observable
    (g.met.D.Disk.sound c.args.disk.now observable) c.requires.size
    _ _ _ _ _ c.shadow_at.ensures.value c.mark_at.ensures observable_mid
    (g.met.D.Disk.sound c.write_at.new.self observable_mid) c.in_ok-write_at.ensures c.write_at-2.ensures

pub returns-in_err-write_at-clause-call : goal.returns-in_err-write_at-clause-call
returns-in_err-write_at-clause-call g c =
    IsCall-fault _ _ _ c.from_residual.result c.from_residual.ensures.0 c.in_err-write_at.ensures.call

pub returns-in_err-write_at-clause-makes : goal.returns-in_err-write_at-clause-makes
returns-in_err-write_at-clause-makes g c observable =
    let old = g.D.Disk.state c.args.disk.now in
    let mid = g.D.Disk.state c.write_at.new.self in
    Makes-short old mid c.write_at.result c.from_residual.result 1 0 2 0 c.from_residual.ensures.0
    (omega arith) (omega arith) (Makes-write old mid c.write_at.result observable _ _ c.write_at.ensures)

pub returns-in_err-write_at-clause-wrote : goal.returns-in_err-write_at-clause-wrote
returns-in_err-write_at-clause-wrote g c observable =
    omega (arith, (c.write_at.ensures.observed observable).write_count)

pub returns-clause-call : goal.returns-clause-call
returns-clause-call g c =
    IsCall-then _ _ _ _ _ (AreCalls-one _ _ _ c.in_ok-write_at.ensures.call) c.write_at-2.ensures.call

pub returns-clause-makes : goal.returns-clause-makes
returns-clause-makes g c observable =
    let old = g.D.Disk.state c.args.disk.now in
    let mid = g.D.Disk.state c.write_at.new.self in
    let observable_mid = IsObservable-call _ _ _ c.write_at.ensures.call observable in
    Makes-then old mid _ c.write_at-2.result 1 0 1 0
    (Made-then old old mid _ 0 0 1 0 (Made-none old) (Makes-write old mid _ observable _ _ c.in_ok-write_at.ensures))
    (Makes-write mid _ c.write_at-2.result observable_mid _ _ c.write_at-2.ensures)

pub returns-clause-wrote : goal.returns-clause-wrote
returns-clause-wrote g c observable =
    omega (arith, (c.write_at.ensures.observed observable).write_count, c.write_at-2.ensures.call.writes)
