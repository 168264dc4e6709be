use Rattle.std.proofs.Common.{◌+◌, ap, sym, subst, arith, ◌∙◌}
use Rattle.disk_model.proofs.Crashes.{IsObservable-call}
use Rattle.gate_journal.proofs.Calls.{AreCalls-one, AreCalls-then, AreCalls-fault, observable_after, Made-none}
use Rattle.gate_journal.proofs.Calls.{Made-then, Makes-sync, Makes-then, Makes-as, Makes-short}
use Rattle.gate_journal.specs.Phases.{HasEmptyJournal}
use Rattle.gate_journal.specs.Recovery.{erase_writes, redo_writes, redo_syncs}
use Rattle.gate_journal.proofs.Recoveries.{recovers_synced}
use Rattle.gate_journal.proofs.journal.Journal.recover.Goals as goal

pub returns-clause-recovers : goal.returns-clause-recovers
returns-clause-recovers g c observable =
    let old = g.D.Disk.state c.args.disk.now in
    let mid = g.D.Disk.state c.sync.new.self in
    let new = g.D.Disk.state c.recover_durable.new.disk in
    let observable_1 = IsObservable-call old mid _ c.sync.ensures.call observable in
    let observable_2 = observable_after mid new _ c.recover_durable.ensures.calls observable_1 in
    let recovers = c.recover_durable.ensures.recovers observable_1 in
    recovers_synced c.args.params.now.slots old mid new
    c.in_ok-sync.field-0 c.recover_durable.result ((g.met.D.Disk.sound c.args.disk.now observable).size
    ∙ c.requires) observable
    (g.met.D.Disk.sound c.recover_durable.new.disk observable_2)
    c.in_ok-sync.ensures (rw c.slots.ensures.value at recovers)

pub returns-clause-quiet_syncs : goal.returns-clause-quiet_syncs
returns-clause-quiet_syncs g c observable empty =
    let mid = g.D.Disk.state c.sync.new.self in
    let effect = c.sync.ensures.observed observable in
    let observable_1 = IsObservable-call _ _ _ c.sync.ensures.call observable in
    let quiet = c.recover_durable.ensures.quiet observable_1 in
    let empty_then = subst (HasEmptyJournal c.args.params.now.slots) (sym effect.bytes) empty in
    ((rw c.slots.ensures.value at quiet) empty_then).sync_count ∙ effect.sync_count

pub returns-in_err-sync-clause-makes : goal.returns-in_err-sync-clause-makes
returns-in_err-sync-clause-makes g c observable some =
    let slots = c.args.params.now.slots in
    let old = g.D.Disk.state c.args.disk.now in
    let new = g.D.Disk.state c.sync.new.self in
    Makes-short old new c.sync.result _ 0 1 (redo_writes slots old.bytes + erase_writes slots old.bytes)
    (redo_syncs old.bytes + 2) c.from_residual.ensures.0 (omega arith) (omega arith)
    (Makes-sync old new c.sync.result observable c.sync.ensures)

pub returns-clause-makes : goal.returns-clause-makes
returns-clause-makes g c observable some =
    let slots = c.args.params.now.slots in
    let old = g.D.Disk.state c.args.disk.now in
    let mid = g.D.Disk.state c.sync.new.self in
    let effect = c.sync.ensures.observed observable in
    let observable_1 = IsObservable-call old mid _ c.sync.ensures.call observable in
    let makes = c.recover_durable.ensures.makes observable_1
    c.sync.ensures.call.last_write c.sync.ensures.call.last_sync in
    let makes_then = (rw c.slots.ensures.value at makes)
    (λ empty. some (subst (HasEmptyJournal slots) effect.bytes empty)) in
    let w = redo_writes slots mid.bytes + erase_writes slots mid.bytes in
    let s = redo_syncs mid.bytes + 1 in
    Makes-as old _ c.recover_durable.result (0 + 0 + w) (0 + 1 + s)
    (redo_writes slots old.bytes + erase_writes slots old.bytes) (redo_syncs old.bytes + 2)
    (omega (arith, ap (redo_writes slots) effect.bytes, ap (erase_writes slots) effect.bytes))
    (omega (arith, ap redo_syncs effect.bytes))
    (Makes-then old mid _ c.recover_durable.result (0 + 0) (0 + 1) w s
    (Made-then old old mid _ 0 0 0 1 (Made-none old) (Makes-sync old mid _ observable c.in_ok-sync.ensures))
    makes_then)

pub returns-in_err-sync-clause-calls : goal.returns-in_err-sync-clause-calls
returns-in_err-sync-clause-calls g c =
    AreCalls-fault _ _ _ c.from_residual.result c.from_residual.ensures.0
    (AreCalls-one _ _ _ c.in_err-sync.ensures.call)

pub returns-in_err-sync-clause-quiet : goal.returns-in_err-sync-clause-quiet
returns-in_err-sync-clause-quiet g c observable empty = (c.sync.ensures.observed observable).write_count

pub returns-in_err-sync-clause-quiet_syncs : goal.returns-in_err-sync-clause-quiet_syncs
returns-in_err-sync-clause-quiet_syncs g c observable empty = (c.sync.ensures.observed observable).sync_count

pub returns-clause-calls : goal.returns-clause-calls
returns-clause-calls g c =
    AreCalls-then _ _ _ _ _ (AreCalls-one _ _ _ c.in_ok-sync.ensures.call) c.recover_durable.ensures.calls

pub returns-clause-quiet : goal.returns-clause-quiet
returns-clause-quiet g c observable empty =
    let effect = c.sync.ensures.observed observable in
    let observable_1 = IsObservable-call _ _ _ c.sync.ensures.call observable in
    let quiet = c.recover_durable.ensures.quiet observable_1 in
    let empty_then = subst (HasEmptyJournal c.args.params.now.slots) (sym effect.bytes) empty in
    ((rw c.slots.ensures.value at quiet) empty_then).write_count ∙ effect.write_count
