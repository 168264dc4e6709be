use Rattle.std.proofs.Common.{◌∙◌, ◌+◌, ◌*◌}
use Rattle.disk_model.proofs.Crashes.{IsObservable-call}
use Rattle.gate_journal.specs.Passes.{version_writes}
use Rattle.gate_journal.proofs.Faults.{IsCall-fault}
use Rattle.gate_journal.proofs.Calls.{AreCalls-one, AreCalls-then, IsCall-then, Made-none, Made-then, Makes-then}
use Rattle.gate_journal.proofs.Calls.{Makes-as, Makes-short}
-- Each path of the commit: the phases that it went through leave only such images.
use Rattle.std.proofs.Common.{arith}
use Rattle.gate_journal.proofs.Areas.{marks_end, shadow_end, table_end}
use Rattle.gate_journal.proofs.Stages.{begins, leaves_journaling, stage_journaled, leaves_flagging, stage_flagged}
use Rattle.gate_journal.proofs.Stages.{leaves_redoing, stage_redone, leaves_clearing, stage_cleared, commits_fault}
use Rattle.gate_journal.proofs.Stages.{commits}
use Rattle.gate_journal.proofs.commit.commit_changes.Goals as goal

pub write_flag-requires : goal.write_flag-requires
write_flag-requires g c =
    omega (
      arith,
      c.write_slots.ensures.call.size,
      c.requires.size,
      table_end c.args.slots,
      shadow_end c.args.slots,
      marks_end c.args.slots,
    )

pub write_flag-requires-2 : goal.write_flag-requires-2
write_flag-requires-2 g c =
    omega (
      arith,
      c.write_slots-2.ensures.call.size,
      c.write_flag.ensures.call.size,
      c.write_slots.ensures.call.size,
      c.requires.size,
      table_end c.args.slots,
      shadow_end c.args.slots,
      marks_end c.args.slots,
    )

pub returns-in_err-write_slots-clause-commits : goal.returns-in_err-write_slots-clause-commits
returns-in_err-write_slots-clause-commits g c observable =
    let begun = begins (g.met.D.Disk.sound c.args.disk.now observable) observable
    c.requires.changes c.requires.size c.requires.empty c.requires.durable in
    commits_fault c.args.kind begun _ _ c.write_slots.result c.from_residual.result c.from_residual.ensures.0
    begun.observable c.write_slots.ensures.call (g.met.D.Disk.sound c.write_slots.new.disk)
    (leaves_journaling c.args.kind begun _ (c.write_slots.ensures.reaches begun.observable).keeps)

pub returns-in_err-write_flag-clause-commits : goal.returns-in_err-write_flag-clause-commits
returns-in_err-write_flag-clause-commits g c observable =
    let begun = begins (g.met.D.Disk.sound c.args.disk.now observable) observable
    c.requires.changes c.requires.size c.requires.empty c.requires.durable in
    let journaled = stage_journaled c.args.kind begun _
    c.in_ok-write_slots.ensures.call c.in_ok-write_slots.ensures.reaches c.in_ok-write_slots.ensures.durable in
    commits_fault c.args.kind begun _ _ c.write_flag.result c.from_residual-in_err-write_flag.result
    c.from_residual-in_err-write_flag.ensures.0 journaled.observable c.write_flag.ensures.call
    (g.met.D.Disk.sound c.write_flag.new.disk)
    (leaves_flagging c.args.kind begun _ _ journaled (c.write_flag.ensures.reaches journaled.observable).keeps)

pub returns-in_err-write_slots-2-clause-commits : goal.returns-in_err-write_slots-2-clause-commits
returns-in_err-write_slots-2-clause-commits g c observable =
    let begun = begins (g.met.D.Disk.sound c.args.disk.now observable) observable
    c.requires.changes c.requires.size c.requires.empty c.requires.durable in
    let journaled = stage_journaled c.args.kind begun _
    c.in_ok-write_slots.ensures.call c.in_ok-write_slots.ensures.reaches c.in_ok-write_slots.ensures.durable in
    let flagged = stage_flagged c.args.kind begun _ _ journaled
    c.in_ok-write_flag.ensures.call c.in_ok-write_flag.ensures.reaches c.in_ok-write_flag.ensures.durable in
    commits_fault c.args.kind begun _ _ c.write_slots-2.result c.from_residual-in_err-write_slots-2.result
    c.from_residual-in_err-write_slots-2.ensures.0 flagged.0.observable c.write_slots-2.ensures.call
    (g.met.D.Disk.sound c.write_slots-2.new.disk)
    (leaves_redoing c.args.kind begun _ _ flagged (c.write_slots-2.ensures.reaches flagged.0.observable).keeps)

pub returns-in_err-write_flag-2-clause-commits : goal.returns-in_err-write_flag-2-clause-commits
returns-in_err-write_flag-2-clause-commits g c observable =
    let begun = begins (g.met.D.Disk.sound c.args.disk.now observable) observable
    c.requires.changes c.requires.size c.requires.empty c.requires.durable in
    let journaled = stage_journaled c.args.kind begun _
    c.in_ok-write_slots.ensures.call c.in_ok-write_slots.ensures.reaches c.in_ok-write_slots.ensures.durable in
    let flagged = stage_flagged c.args.kind begun _ _ journaled
    c.in_ok-write_flag.ensures.call c.in_ok-write_flag.ensures.reaches c.in_ok-write_flag.ensures.durable in
    let redone = stage_redone c.args.kind begun _ _ flagged
    c.in_ok-write_slots-2.ensures.call c.in_ok-write_slots-2.ensures.reaches c.in_ok-write_slots-2.ensures.durable
    in
    commits_fault c.args.kind begun _ _ c.write_flag-2.result c.from_residual-in_err-write_flag-2.result
    c.from_residual-in_err-write_flag-2.ensures.0 redone.observable c.write_flag-2.ensures.call
    (g.met.D.Disk.sound c.write_flag-2.new.disk)
    (leaves_clearing c.args.kind begun _ _ redone (c.write_flag-2.ensures.reaches redone.observable).keeps)

pub returns-clause-commits : goal.returns-clause-commits
returns-clause-commits g c observable =
    let begun = begins (g.met.D.Disk.sound c.args.disk.now observable) observable
    c.requires.changes c.requires.size c.requires.empty c.requires.durable in
    let journaled = stage_journaled c.args.kind begun _
    c.in_ok-write_slots.ensures.call c.in_ok-write_slots.ensures.reaches c.in_ok-write_slots.ensures.durable in
    let flagged = stage_flagged c.args.kind begun _ _ journaled
    c.in_ok-write_flag.ensures.call c.in_ok-write_flag.ensures.reaches c.in_ok-write_flag.ensures.durable in
    let redone = stage_redone c.args.kind begun _ _ flagged
    c.in_ok-write_slots-2.ensures.call c.in_ok-write_slots-2.ensures.reaches c.in_ok-write_slots-2.ensures.durable
    in
    let cleared = stage_cleared c.args.kind begun _ _ redone
    c.in_ok-write_flag-2.ensures.call c.in_ok-write_flag-2.ensures.reaches c.in_ok-write_flag-2.ensures.durable in
    commits c.args.kind begun _ _ c.write_slots-3.result cleared
    c.write_slots-3.ensures.call (g.met.D.Disk.sound c.write_slots-3.new.disk)
    c.write_slots-3.ensures.reaches c.write_slots-3.ensures.durable

pub write_slots-requires-clause-in_range : goal.write_slots-requires-clause-in_range
write_slots-requires-clause-in_range g c = c.requires.in_range

pub write_slots-requires-clause-size : goal.write_slots-requires-clause-size
write_slots-requires-clause-size g c = c.requires.size

pub write_slots-requires-clause-changes : goal.write_slots-requires-clause-changes
write_slots-requires-clause-changes g c = c.requires.changes

pub write_slots-requires-2-clause-in_range : goal.write_slots-requires-2-clause-in_range
write_slots-requires-2-clause-in_range g c = c.requires.in_range

pub write_slots-requires-2-clause-size : goal.write_slots-requires-2-clause-size
write_slots-requires-2-clause-size g c =
    c.write_flag.ensures.call.size ∙ c.write_slots.ensures.call.size ∙ c.requires.size

pub write_slots-requires-2-clause-changes : goal.write_slots-requires-2-clause-changes
write_slots-requires-2-clause-changes g c = c.requires.changes

pub write_slots-requires-3-clause-in_range : goal.write_slots-requires-3-clause-in_range
write_slots-requires-3-clause-in_range g c = c.requires.in_range

pub write_slots-requires-3-clause-size : goal.write_slots-requires-3-clause-size
write_slots-requires-3-clause-size g c =
    c.write_flag-2.ensures.call.size ∙ c.write_slots-2.ensures.call.size ∙ c.write_flag.ensures.call.size ∙
    c.write_slots.ensures.call.size ∙ c.requires.size

pub write_slots-requires-3-clause-changes : goal.write_slots-requires-3-clause-changes
write_slots-requires-3-clause-changes g c = c.requires.changes

pub returns-in_err-write_slots-clause-call : goal.returns-in_err-write_slots-clause-call
returns-in_err-write_slots-clause-call g c =
    IsCall-fault _ _ _ c.from_residual.result c.from_residual.ensures.0
    c.in_err-write_slots.ensures.call

pub returns-in_err-write_slots-clause-makes : goal.returns-in_err-write_slots-clause-makes
returns-in_err-write_slots-clause-makes g c observable =
    let old = g.D.Disk.state c.args.disk.now in
    let n = (g.S.SlotChanges.changes c.args.changes.now).count in
    let v = version_writes c.args.kind in
    Makes-short old _ c.write_slots.result c.from_residual.result (0 + (2 * n + v)) (0 + 1) (5 * n + (2 + 3 * v)) 5
    c.from_residual.ensures.0 (omega arith) (omega arith)
    (Makes-then old _ _ c.write_slots.result (0) (0) (2 * n + v) 1
    (Made-none old)
    (c.write_slots.ensures.makes observable))

pub returns-in_err-write_slots-clause-wrote : goal.returns-in_err-write_slots-clause-wrote
returns-in_err-write_slots-clause-wrote g c observable = c.write_slots.ensures.wrote observable c.requires.some

pub returns-in_err-write_flag-clause-call : goal.returns-in_err-write_flag-clause-call
returns-in_err-write_flag-clause-call g c =
    IsCall-fault _ _ _ c.from_residual-in_err-write_flag.result c.from_residual-in_err-write_flag.ensures.0
    (IsCall-then _ _ _ _ _ (AreCalls-one _ _ _ c.in_ok-write_slots.ensures.call) c.in_err-write_flag.ensures.call)

pub returns-in_err-write_flag-clause-makes : goal.returns-in_err-write_flag-clause-makes
returns-in_err-write_flag-clause-makes g c observable =
    let old = g.D.Disk.state c.args.disk.now in
    let n = (g.S.SlotChanges.changes c.args.changes.now).count in
    let v = version_writes c.args.kind in
    let observable_1 = IsObservable-call _ _ _ c.write_slots.ensures.call observable in
    Makes-short old _ c.write_flag.result c.from_residual-in_err-write_flag.result (0 + (2 * n + v) + 1) (0 + 1 + 1)
    (5 * n + (2 + 3 * v)) 5
    c.from_residual-in_err-write_flag.ensures.0 (omega arith) (omega arith)
    (Makes-then old _ _ c.write_flag.result (0 + (2 * n + v)) (0 + 1) 1 1
    (Made-then _ _ _ _ 0 0 (2 * n + v) 1 (Made-none old)
    (c.in_ok-write_slots.ensures.makes observable))
    (c.write_flag.ensures.makes observable_1))

pub returns-in_err-write_flag-clause-wrote : goal.returns-in_err-write_flag-clause-wrote
returns-in_err-write_flag-clause-wrote g c observable =
    omega (
      arith,
      c.write_slots.ensures.wrote observable c.requires.some,
      c.write_flag.ensures.call.writes,
    )

pub returns-in_err-write_slots-2-clause-call : goal.returns-in_err-write_slots-2-clause-call
returns-in_err-write_slots-2-clause-call g c =
    IsCall-fault _ _ _ c.from_residual-in_err-write_slots-2.result c.from_residual-in_err-write_slots-2.ensures.0
    (IsCall-then _ _ _ _ _ (AreCalls-then _ _ _ _ _ (AreCalls-one _ _ _ c.in_ok-write_slots.ensures.call)
    (AreCalls-one _ _ _ c.in_ok-write_flag.ensures.call)) c.in_err-write_slots-2.ensures.call)

pub returns-in_err-write_slots-2-clause-makes : goal.returns-in_err-write_slots-2-clause-makes
returns-in_err-write_slots-2-clause-makes g c observable =
    let old = g.D.Disk.state c.args.disk.now in
    let n = (g.S.SlotChanges.changes c.args.changes.now).count in
    let v = version_writes c.args.kind in
    let observable_1 = IsObservable-call _ _ _ c.write_slots.ensures.call observable in
    let observable_2 = IsObservable-call _ _ _ c.write_flag.ensures.call observable_1 in
    Makes-short old _ c.write_slots-2.result c.from_residual-in_err-write_slots-2.result
    (0 + (2 * n + v) + 1 + (1 * n + v)) (0 + 1 + 1 + 1) (5 * n + (2 + 3 * v)) 5
    c.from_residual-in_err-write_slots-2.ensures.0 (omega arith) (omega arith)
    (Makes-then old _ _ c.write_slots-2.result (0 + (2 * n + v) + 1) (0 + 1 + 1) (1 * n + v) 1
    (Made-then _ _ _ _ (0 + (2 * n + v)) (0 + 1) 1 1 (Made-then _ _ _ _ 0 0 (2 * n + v) 1 (Made-none old)
    (c.in_ok-write_slots.ensures.makes observable))
    (c.in_ok-write_flag.ensures.makes observable_1))
    (c.write_slots-2.ensures.makes observable_2))

pub returns-in_err-write_slots-2-clause-wrote : goal.returns-in_err-write_slots-2-clause-wrote
returns-in_err-write_slots-2-clause-wrote g c observable =
    omega (
      arith,
      c.write_slots.ensures.wrote observable c.requires.some,
      c.write_flag.ensures.call.writes,
      c.write_slots-2.ensures.call.writes,
    )

pub returns-in_err-write_flag-2-clause-call : goal.returns-in_err-write_flag-2-clause-call
returns-in_err-write_flag-2-clause-call g c =
    IsCall-fault _ _ _ c.from_residual-in_err-write_flag-2.result c.from_residual-in_err-write_flag-2.ensures.0
    (IsCall-then _ _ _ _ _ (AreCalls-then _ _ _ _ _ (AreCalls-then _ _ _ _ _
    (AreCalls-one _ _ _ c.in_ok-write_slots.ensures.call)
    (AreCalls-one _ _ _ c.in_ok-write_flag.ensures.call))
    (AreCalls-one _ _ _ c.in_ok-write_slots-2.ensures.call)) c.in_err-write_flag-2.ensures.call)

pub returns-in_err-write_flag-2-clause-makes : goal.returns-in_err-write_flag-2-clause-makes
returns-in_err-write_flag-2-clause-makes g c observable =
    let old = g.D.Disk.state c.args.disk.now in
    let n = (g.S.SlotChanges.changes c.args.changes.now).count in
    let v = version_writes c.args.kind in
    let observable_1 = IsObservable-call _ _ _ c.write_slots.ensures.call observable in
    let observable_2 = IsObservable-call _ _ _ c.write_flag.ensures.call observable_1 in
    let observable_3 = IsObservable-call _ _ _ c.write_slots-2.ensures.call observable_2 in
    Makes-short old _ c.write_flag-2.result c.from_residual-in_err-write_flag-2.result
    (0 + (2 * n + v) + 1 + (1 * n + v) + 1) (0 + 1 + 1 + 1 + 1) (5 * n + (2 + 3 * v)) 5
    c.from_residual-in_err-write_flag-2.ensures.0 (omega arith) (omega arith)
    (Makes-then old _ _ c.write_flag-2.result (0 + (2 * n + v) + 1 + (1 * n + v)) (0 + 1 + 1 + 1) 1 1
    (Made-then _ _ _ _ (0 + (2 * n + v) + 1) (0 + 1 + 1) (1 * n + v) 1 (Made-then _ _ _ _ (0 + (2 * n + v))
    (0 + 1) 1 1 (Made-then _ _ _ _ 0 0 (2 * n + v) 1 (Made-none old)
    (c.in_ok-write_slots.ensures.makes observable))
    (c.in_ok-write_flag.ensures.makes observable_1))
    (c.in_ok-write_slots-2.ensures.makes observable_2))
    (c.write_flag-2.ensures.makes observable_3))

pub returns-in_err-write_flag-2-clause-wrote : goal.returns-in_err-write_flag-2-clause-wrote
returns-in_err-write_flag-2-clause-wrote g c observable =
    omega (
      arith,
      c.write_slots.ensures.wrote observable c.requires.some,
      c.write_flag.ensures.call.writes,
      c.write_slots-2.ensures.call.writes,
      c.write_flag-2.ensures.call.writes,
    )

pub returns-clause-call : goal.returns-clause-call
returns-clause-call g c =
    IsCall-then _ _ _ _ _ (AreCalls-then _ _ _ _ _ (AreCalls-then _ _ _ _ _ (AreCalls-then _ _ _ _ _
    (AreCalls-one _ _ _ c.in_ok-write_slots.ensures.call)
    (AreCalls-one _ _ _ c.in_ok-write_flag.ensures.call))
    (AreCalls-one _ _ _ c.in_ok-write_slots-2.ensures.call))
    (AreCalls-one _ _ _ c.in_ok-write_flag-2.ensures.call)) c.write_slots-3.ensures.call

pub returns-clause-makes : goal.returns-clause-makes
returns-clause-makes g c observable =
    let old = g.D.Disk.state c.args.disk.now in
    let n = (g.S.SlotChanges.changes c.args.changes.now).count in
    let v = version_writes c.args.kind in
    let observable_1 = IsObservable-call _ _ _ c.write_slots.ensures.call observable in
    let observable_2 = IsObservable-call _ _ _ c.write_flag.ensures.call observable_1 in
    let observable_3 = IsObservable-call _ _ _ c.write_slots-2.ensures.call observable_2 in
    let observable_4 = IsObservable-call _ _ _ c.write_flag-2.ensures.call observable_3 in
    Makes-as old _ c.write_slots-3.result (0 + (2 * n + v) + 1 + (1 * n + v) + 1 + (2 * n + v))
    (0 + 1 + 1 + 1 + 1 + 1) (5 * n + (2 + 3 * v)) 5 (omega arith) (omega arith)
    (Makes-then old _ _ c.write_slots-3.result (0 + (2 * n + v) + 1 + (1 * n + v) + 1) (0 + 1 + 1 + 1 + 1) (2 * n + v) 1
    (Made-then _ _ _ _ (0 + (2 * n + v) + 1 + (1 * n + v)) (0 + 1 + 1 + 1) 1 1 (Made-then _ _ _ _
    (0 + (2 * n + v) + 1) (0 + 1 + 1) (1 * n + v) 1 (Made-then _ _ _ _ (0 + (2 * n + v)) (0 + 1) 1 1
    (Made-then _ _ _ _ 0 0 (2 * n + v) 1 (Made-none old)
    (c.in_ok-write_slots.ensures.makes observable))
    (c.in_ok-write_flag.ensures.makes observable_1))
    (c.in_ok-write_slots-2.ensures.makes observable_2))
    (c.in_ok-write_flag-2.ensures.makes observable_3))
    (c.write_slots-3.ensures.makes observable_4))

pub returns-clause-wrote : goal.returns-clause-wrote
returns-clause-wrote g c observable =
    omega (
      arith,
      c.write_slots.ensures.wrote observable c.requires.some,
      c.write_flag.ensures.call.writes,
      c.write_slots-2.ensures.call.writes,
      c.write_flag-2.ensures.call.writes,
      c.write_slots-3.ensures.call.writes,
    )
