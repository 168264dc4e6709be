use Rattle.std.proofs.Common.{◌+◌, ◌∙◌, ap, arith}
use Rattle.gate_journal.specs.Recovery.{erase_writes, redo_writes, redo_syncs}
use Rattle.gate_journal.proofs.Counting.{erase_same}
use Rattle.std.proofs.lemmas.Bool.{both_ways}
use Rattle.gate_journal.proofs.Calls.{AreCalls-one, AreCalls-answered, AreCalls-then, AreCalls-fault, observable_after}
use Rattle.gate_journal.proofs.Calls.{Made-reads, Made-then, Makes-exactly, Makes-then, Makes-as, Makes-short}
use Rattle.gate_journal.proofs.Recoveries.{leaves_reading, leaves_settling, recovers_empty, recovers_erased}
use Rattle.gate_journal.proofs.Recoveries.{recovers_fault}
use Rattle.gate_journal.proofs.recover.recover_durable.Goals as goal

pub returns-in_err-is_journal_zero-clause-calls : goal.returns-in_err-is_journal_zero-clause-calls
returns-in_err-is_journal_zero-clause-calls g c =
    AreCalls-fault _ _ _ c.from_residual.result c.from_residual.ensures.0 c.in_err-is_journal_zero.ensures.calls

pub returns-in_err-is_journal_zero-clause-recovers : goal.returns-in_err-is_journal_zero-clause-recovers
returns-in_err-is_journal_zero-clause-recovers g c observable =
    let old = g.D.Disk.state c.args.disk.now in
    let new = g.D.Disk.state c.is_journal_zero.new.disk in
    recovers_fault c.args.slots old new c.from_residual.result c.from_residual.ensures.0
    (leaves_reading c.args.slots old new (c.requires.durable observable)
    (c.is_journal_zero.ensures.reads observable))

pub returns-in_err-is_journal_zero-clause-quiet : goal.returns-in_err-is_journal_zero-clause-quiet
returns-in_err-is_journal_zero-clause-quiet g c observable empty = c.is_journal_zero.ensures.reads observable

pub returns-then-branch-clause-calls : goal.returns-then-branch-clause-calls
returns-then-branch-clause-calls g c = AreCalls-answered _ _ _ _ c.in_ok-is_journal_zero.ensures.calls

pub returns-then-branch-clause-quiet : goal.returns-then-branch-clause-quiet
returns-then-branch-clause-quiet g c observable empty = c.is_journal_zero.ensures.reads observable

pub returns-in_err-settle_flag-clause-calls : goal.returns-in_err-settle_flag-clause-calls
returns-in_err-settle_flag-clause-calls g c =
    AreCalls-fault _ _ _ c.from_residual-in_err-settle_flag.result c.from_residual-in_err-settle_flag.ensures.0
    (AreCalls-then _ _ _ _ _ c.in_ok-is_journal_zero.ensures.calls c.in_err-settle_flag.ensures.calls)

pub returns-in_err-settle_flag-clause-recovers : goal.returns-in_err-settle_flag-clause-recovers
returns-in_err-settle_flag-clause-recovers g c observable =
    let old = g.D.Disk.state c.args.disk.now in
    let mid = g.D.Disk.state c.is_journal_zero.new.disk in
    let new = g.D.Disk.state c.settle_flag.new.disk in
    let settles = c.settle_flag.ensures.settles (observable_after _ _ _ c.is_journal_zero.ensures.calls observable) in
    recovers_fault c.args.slots old new c.from_residual-in_err-settle_flag.result
    c.from_residual-in_err-settle_flag.ensures.0
    (leaves_settling c.args.slots old mid new c.settle_flag.result (c.requires.durable observable)
    (c.is_journal_zero.ensures.reads observable) settles)

pub returns-clause-calls : goal.returns-clause-calls
returns-clause-calls g c =
    let first = AreCalls-then _ _ _ _ _ c.in_ok-is_journal_zero.ensures.calls c.in_ok-settle_flag.ensures.calls in
    AreCalls-then _ _ _ _ c.erase_area.result first (AreCalls-one _ _ c.erase_area.result c.erase_area.ensures.call)

pub returns-then-branch-clause-recovers : goal.returns-then-branch-clause-recovers
returns-then-branch-clause-recovers g c observable =
    let long = (g.met.D.Disk.sound c.args.disk.now observable).size ∙ c.requires.size in
    recovers_empty c.args.slots (g.D.Disk.state c.args.disk.now) (g.D.Disk.state c.is_journal_zero.new.disk) _ long
    (c.requires.durable observable) (c.is_journal_zero.ensures.reads observable)
    ((c.in_ok-is_journal_zero.ensures.value observable).0 c.if-branch.true)

pub returns-clause-recovers : goal.returns-clause-recovers
returns-clause-recovers g c observable =
    let long = (g.met.D.Disk.sound c.args.disk.now observable).size ∙ c.requires.size in
    let observable_1 = observable_after _ _ _ c.is_journal_zero.ensures.calls observable in
    let observable_2 = observable_after _ _ _ c.settle_flag.ensures.calls observable_1 in
    let next_long = (g.met.D.Disk.sound c.settle_flag.new.disk observable_2).size ∙ c.settle_flag.ensures.calls.size
    ∙ c.is_journal_zero.ensures.calls.size ∙ c.requires.size in
    recovers_erased c.args.slots (g.D.Disk.state c.args.disk.now) (g.D.Disk.state c.is_journal_zero.new.disk)
    (g.D.Disk.state c.settle_flag.new.disk) (g.D.Disk.state c.erase_area.new.disk)
    c.in_ok-settle_flag.field-0 c.erase_area.result long next_long
    (c.requires.durable observable) (c.is_journal_zero.ensures.reads observable)
    (c.in_ok-settle_flag.ensures.settles observable_1) (c.erase_area.ensures.reaches observable_2)
    (c.erase_area.ensures.durable observable_2)

pub returns-in_err-settle_flag-clause-quiet : goal.returns-in_err-settle_flag-clause-quiet
returns-in_err-settle_flag-clause-quiet g c observable empty =
    absurd (both_ways c.in_ok-is_journal_zero.field-0 c.if-branch.false
    ((c.in_ok-is_journal_zero.ensures.value observable).1 empty))

pub returns-clause-quiet : goal.returns-clause-quiet
returns-clause-quiet g c observable empty =
    absurd (both_ways c.in_ok-is_journal_zero.field-0 c.if-branch.false
    ((c.in_ok-is_journal_zero.ensures.value observable).1 empty))

pub returns-in_err-is_journal_zero-clause-makes : goal.returns-in_err-is_journal_zero-clause-makes
returns-in_err-is_journal_zero-clause-makes g c observable fit_writes fit_syncs some =
    let old = g.D.Disk.state c.args.disk.now in
    let new = g.D.Disk.state c.is_journal_zero.new.disk in
    let reads = c.is_journal_zero.ensures.reads observable in
    Makes-short old new c.is_journal_zero.result _ 0 0
    (redo_writes c.args.slots old.bytes + erase_writes c.args.slots old.bytes)
    (redo_syncs old.bytes + 1) c.from_residual.ensures.0 (omega arith) (omega arith)
    (Makes-exactly old new c.is_journal_zero.result 0 0 (omega (arith, reads.write_count, fit_writes))
    (omega (arith, reads.sync_count, fit_syncs)))

pub returns-then-branch-clause-makes : goal.returns-then-branch-clause-makes
returns-then-branch-clause-makes g c observable fit_writes fit_syncs some =
    absurd (some ((c.in_ok-is_journal_zero.ensures.value observable).0 c.if-branch.true))

pub returns-in_err-settle_flag-clause-makes : goal.returns-in_err-settle_flag-clause-makes
returns-in_err-settle_flag-clause-makes g c observable fit_writes fit_syncs some =
    let slots = c.args.slots in
    let old = g.D.Disk.state c.args.disk.now in
    let mid = g.D.Disk.state c.is_journal_zero.new.disk in
    let new = g.D.Disk.state c.settle_flag.new.disk in
    let reads = c.is_journal_zero.ensures.reads observable in
    let observable_1 = observable_after _ _ _ c.is_journal_zero.ensures.calls observable in
    Makes-short old new c.settle_flag.result _ (0 + redo_writes slots mid.bytes) (0 + redo_syncs mid.bytes)
    (redo_writes slots old.bytes + erase_writes slots old.bytes)
    (redo_syncs old.bytes + 1) c.from_residual-in_err-settle_flag.ensures.0
    (omega (arith, ap (redo_writes slots) reads.bytes)) (omega (arith, ap redo_syncs reads.bytes))
    (Makes-then old mid new c.settle_flag.result 0 0 (redo_writes slots mid.bytes) (redo_syncs mid.bytes)
    (Made-reads old mid reads) (c.settle_flag.ensures.makes observable_1))

pub returns-clause-makes : goal.returns-clause-makes
returns-clause-makes g c observable fit_writes fit_syncs some =
    let slots = c.args.slots in
    let old = g.D.Disk.state c.args.disk.now in
    let mid = g.D.Disk.state c.is_journal_zero.new.disk in
    let next = g.D.Disk.state c.settle_flag.new.disk in
    let reads = c.is_journal_zero.ensures.reads observable in
    let observable_1 = observable_after _ _ _ c.is_journal_zero.ensures.calls observable in
    let observable_2 = observable_after _ _ _ c.settle_flag.ensures.calls observable_1 in
    let same = erase_same slots mid.bytes next.bytes (c.settle_flag.ensures.journal observable_1)
    ∙ ap (erase_writes slots) reads.bytes in
    Makes-as old _ c.erase_area.result (0 + redo_writes slots mid.bytes + erase_writes slots next.bytes)
    (0 + redo_syncs mid.bytes + 1) (redo_writes slots old.bytes + erase_writes slots old.bytes)
    (redo_syncs old.bytes + 1)
    (omega (arith, ap (redo_writes slots) reads.bytes, same)) (omega (arith, ap redo_syncs reads.bytes))
    (Makes-then old next _ c.erase_area.result (0 + redo_writes slots mid.bytes) (0 + redo_syncs mid.bytes)
    (erase_writes slots next.bytes) 1
    (Made-then old mid next _ 0 0 (redo_writes slots mid.bytes) (redo_syncs mid.bytes) (Made-reads old mid reads)
    (c.in_ok-settle_flag.ensures.makes observable_1)) (c.erase_area.ensures.makes observable_2))
