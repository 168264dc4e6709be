use Rattle.std.proofs.Common.{ℕ, ◌+◌, List, true, false, sym, ap, inr, subst, ◌∙◌, arith}
use Rattle.disk_model.specs.DiskState.{DiskState}
use Rattle.disk_model.proofs.Crashes.{IsObservable-call}
use Rattle.gate_journal.proofs.Places.{SameAt-refl, SameAt-trans, SameAt-weaken}
use Rattle.gate_journal.proofs.Calls.{AreCalls-one, AreCalls-then, AreCalls-fault, AreCalls-answered}
use Rattle.gate_journal.proofs.Calls.{observable_after, Made-reads, Made-then, Makes-reads, Makes-then, Makes-as}
use Rattle.gate_journal.proofs.Calls.{Makes-short}
use Rattle.gate_journal.specs.Places.{IsApart, SameAt, Keeps, ReadsOnly}
use Rattle.gate_journal.specs.Recovery.{IsBehindFlag, OutsideRedone, marked_count, redo_writes, redo_syncs}
use Rattle.gate_journal.proofs.Counting.{redo_when}
use Rattle.gate_journal.proofs.Redoing.{before_table}
use Rattle.gate_journal.proofs.Areas.{marks_end, shadow_end, table_end}
use Rattle.gate_journal.proofs.Recoveries.{settles_clear, settles_fault, leaves_redoing, settles_cleared}
use Rattle.gate_journal.proofs.recover.settle_flag.Goals as goal

pub is_flag_set-requires : goal.is_flag_set-requires
is_flag_set-requires g c =
    omega (arith, c.requires.size, table_end c.args.slots, shadow_end c.args.slots, marks_end c.args.slots)

pub returns-then-not-branch-clause-settles : goal.returns-then-not-branch-clause-settles
returns-then-not-branch-clause-settles g c observable =
    let long = (g.met.D.Disk.sound c.args.disk.now observable).size ∙ c.requires.size in
    settles_clear c.args.slots (g.D.Disk.state c.args.disk.now) (g.D.Disk.state c.is_flag_set.new.disk) _ long
    (c.requires.durable observable) (c.is_flag_set.ensures.reads observable)
    (sym (c.in_ok-is_flag_set.ensures.value observable) ∙ c.if-not-branch.true)

pub returns-in_err-redo_table-clause-settles : goal.returns-in_err-redo_table-clause-settles
returns-in_err-redo_table-clause-settles g c observable =
    let long = (g.met.D.Disk.sound c.args.disk.now observable).size ∙ c.requires.size in
    let observable_1 = IsObservable-call _ _ _ c.is_flag_set.ensures.call observable in
    settles_fault c.args.slots (g.D.Disk.state c.args.disk.now)
    (g.D.Disk.state c.redo_table.new.disk)
    c.from_residual-in_err-redo_table.result c.from_residual-in_err-redo_table.ensures.0
    (leaves_redoing c.args.slots (g.D.Disk.state c.args.disk.now) (g.D.Disk.state c.is_flag_set.new.disk) long
    (c.requires.durable observable) (c.is_flag_set.ensures.reads observable) (g.D.Disk.state c.redo_table.new.disk)
    (sym (c.in_ok-is_flag_set.ensures.value observable) ∙ c.if-not-branch.false)
    (c.redo_table.ensures.reaches observable_1).keeps)

pub write_flag-requires : goal.write_flag-requires
write_flag-requires g c =
    omega (
      arith,
      c.requires.size,
      c.is_flag_set.ensures.call.size,
      c.redo_table.ensures.calls.size,
      table_end c.args.slots,
      shadow_end c.args.slots,
      marks_end c.args.slots,
    )

pub returns-clause-settles : goal.returns-clause-settles
returns-clause-settles g c observable =
    let long = (g.met.D.Disk.sound c.args.disk.now observable).size ∙ c.requires.size in
    let observable_1 = IsObservable-call _ _ _ c.is_flag_set.ensures.call observable in
    let observable_2 = observable_after _ _ _ c.redo_table.ensures.calls observable_1 in
    settles_cleared c.args.slots (g.D.Disk.state c.args.disk.now) (g.D.Disk.state c.is_flag_set.new.disk) long
    (c.requires.durable observable) (c.is_flag_set.ensures.reads observable) (g.D.Disk.state c.redo_table.new.disk)
    (sym (c.in_ok-is_flag_set.ensures.value observable) ∙ c.if-not-branch.false)
    (c.redo_table.ensures.reaches observable_1).keeps (c.in_ok-redo_table.ensures.reaches observable_1).done
    (c.in_ok-redo_table.ensures.durable observable_1) (g.D.Disk.state c.write_flag.new.disk) c.write_flag.result
    (c.write_flag.ensures.reaches observable_2) (c.write_flag.ensures.durable observable_2)

-- redoing leaves the journal behind the flag
behind_flag : (slots : ℕ) (old mid new : DiskState) → ReadsOnly old mid → Keeps (OutsideRedone slots mid.bytes) mid new
    → SameAt (IsBehindFlag slots) old.bytes new.bytes
behind_flag slots old mid new reads keeps =
    subst (λ (l : List ℕ). SameAt (IsBehindFlag slots) l new.bytes) reads.bytes
    (SameAt-weaken (OutsideRedone slots mid.bytes) (IsBehindFlag slots) mid.bytes new.bytes (λ place here. record {
      table = before_table slots 0 slots mid.bytes (omega arith) place here.1;
      version = λ marks. inr (omega (arith, here.0));
    }) keeps.reads)

pub returns-in_err-redo_table-clause-journal : goal.returns-in_err-redo_table-clause-journal
returns-in_err-redo_table-clause-journal g c observable =
    let observable_1 = IsObservable-call _ _ _ c.is_flag_set.ensures.call observable in
    behind_flag c.args.slots (g.D.Disk.state c.args.disk.now) (g.D.Disk.state c.is_flag_set.new.disk)
    (g.D.Disk.state c.redo_table.new.disk) (c.is_flag_set.ensures.reads observable)
    (c.redo_table.ensures.reaches observable_1).keeps

pub returns-clause-journal : goal.returns-clause-journal
returns-clause-journal g c observable =
    let old = g.D.Disk.state c.args.disk.now in
    let next = g.D.Disk.state c.redo_table.new.disk in
    let new = g.D.Disk.state c.write_flag.new.disk in
    let observable_1 = IsObservable-call _ _ _ c.is_flag_set.ensures.call observable in
    let observable_2 = observable_after _ _ _ c.redo_table.ensures.calls observable_1 in
    SameAt-trans (IsBehindFlag c.args.slots) old.bytes next.bytes new.bytes
    (behind_flag c.args.slots old (g.D.Disk.state c.is_flag_set.new.disk) next (c.is_flag_set.ensures.reads observable)
    (c.redo_table.ensures.reaches observable_1).keeps)
    (SameAt-weaken (IsApart 4096 1) (IsBehindFlag c.args.slots)
    next.bytes new.bytes (λ place here. inr (omega (arith, here.0)))
    (c.write_flag.ensures.reaches observable_2).keeps.reads)

pub returns-then-not-branch-clause-makes : goal.returns-then-not-branch-clause-makes
returns-then-not-branch-clause-makes g c observable =
    let old = g.D.Disk.state c.args.disk.now in
    let clear = redo_when c.args.slots old.bytes false
    (sym (c.in_ok-is_flag_set.ensures.value observable) ∙ c.if-not-branch.true) in
    Makes-as old _ _ 0 0 (redo_writes c.args.slots old.bytes) (redo_syncs old.bytes) (sym clear.0) (sym clear.1)
    (Makes-reads old _ c.is_flag_set.result _ c.is_flag_set.ensures.call (c.is_flag_set.ensures.reads observable))

pub returns-in_err-redo_table-clause-makes : goal.returns-in_err-redo_table-clause-makes
returns-in_err-redo_table-clause-makes g c observable =
    let old = g.D.Disk.state c.args.disk.now in
    let mid = g.D.Disk.state c.is_flag_set.new.disk in
    let new = g.D.Disk.state c.redo_table.new.disk in
    let set = redo_when c.args.slots old.bytes true
    (sym (c.in_ok-is_flag_set.ensures.value observable) ∙ c.if-not-branch.false) in
    let reads = c.is_flag_set.ensures.reads observable in
    let count = marked_count 0 (c.args.slots + 1) mid.bytes in
    let observable_1 = IsObservable-call _ _ _ c.is_flag_set.ensures.call observable in
    Makes-short old new c.redo_table.result _ (0 + count) (0 + 1) (redo_writes c.args.slots old.bytes)
    (redo_syncs old.bytes) c.from_residual-in_err-redo_table.ensures.0
    (omega (arith, set.0, ap (marked_count 0 (c.args.slots + 1)) reads.bytes)) (omega (arith, set.1))
    (Makes-then old mid new c.redo_table.result 0 0 count 1 (Made-reads old mid reads)
    (c.redo_table.ensures.makes observable_1))

pub returns-clause-makes : goal.returns-clause-makes
returns-clause-makes g c observable =
    let old = g.D.Disk.state c.args.disk.now in
    let mid = g.D.Disk.state c.is_flag_set.new.disk in
    let next = g.D.Disk.state c.redo_table.new.disk in
    let set = redo_when c.args.slots old.bytes true
    (sym (c.in_ok-is_flag_set.ensures.value observable) ∙ c.if-not-branch.false) in
    let reads = c.is_flag_set.ensures.reads observable in
    let count = marked_count 0 (c.args.slots + 1) mid.bytes in
    let observable_1 = IsObservable-call _ _ _ c.is_flag_set.ensures.call observable in
    let observable_2 = observable_after _ _ _ c.redo_table.ensures.calls observable_1 in
    Makes-as old _ c.write_flag.result (0 + count + 1) (0 + 1 + 1) (redo_writes c.args.slots old.bytes)
    (redo_syncs old.bytes) (omega (arith, set.0, ap (marked_count 0 (c.args.slots + 1)) reads.bytes))
    (omega (arith, set.1))
    (Makes-then old next _ c.write_flag.result (0 + count) (0 + 1) 1 1
    (Made-then old mid next _ 0 0 count 1 (Made-reads old mid reads)
    (c.in_ok-redo_table.ensures.makes observable_1)) (c.write_flag.ensures.makes observable_2))

pub returns-in_err-is_flag_set-clause-calls : goal.returns-in_err-is_flag_set-clause-calls
returns-in_err-is_flag_set-clause-calls g c =
    AreCalls-fault _ _ _ c.from_residual.result c.from_residual.ensures.0
    (AreCalls-one _ _ _ c.in_err-is_flag_set.ensures.call)

pub returns-in_err-is_flag_set-clause-makes : goal.returns-in_err-is_flag_set-clause-makes
returns-in_err-is_flag_set-clause-makes g c observable =
    let old = g.D.Disk.state c.args.disk.now in
    Makes-short old _ c.is_flag_set.result c.from_residual.result 0 0 (redo_writes c.args.slots old.bytes)
    (redo_syncs old.bytes) c.from_residual.ensures.0 (omega arith) (omega arith)
    (Makes-reads old _ c.is_flag_set.result c.is_flag_set.result c.is_flag_set.ensures.call
    (c.is_flag_set.ensures.reads observable))

pub returns-in_err-is_flag_set-clause-journal : goal.returns-in_err-is_flag_set-clause-journal
returns-in_err-is_flag_set-clause-journal g c observable =
    let old = g.D.Disk.state c.args.disk.now in
    subst (SameAt (IsBehindFlag c.args.slots) old.bytes) (sym (c.is_flag_set.ensures.reads observable).bytes)
    (SameAt-refl (IsBehindFlag c.args.slots) old.bytes)

pub returns-then-not-branch-clause-calls : goal.returns-then-not-branch-clause-calls
returns-then-not-branch-clause-calls g c =
    AreCalls-answered _ _ _ _ (AreCalls-one _ _ _ c.in_ok-is_flag_set.ensures.call)

pub returns-then-not-branch-clause-journal : goal.returns-then-not-branch-clause-journal
returns-then-not-branch-clause-journal g c observable =
    let old = g.D.Disk.state c.args.disk.now in
    subst (SameAt (IsBehindFlag c.args.slots) old.bytes) (sym (c.is_flag_set.ensures.reads observable).bytes)
    (SameAt-refl (IsBehindFlag c.args.slots) old.bytes)

pub returns-in_err-redo_table-clause-calls : goal.returns-in_err-redo_table-clause-calls
returns-in_err-redo_table-clause-calls g c =
    AreCalls-fault _ _ _ c.from_residual-in_err-redo_table.result c.from_residual-in_err-redo_table.ensures.0
    (AreCalls-then _ _ _ _ _ (AreCalls-one _ _ _ c.in_ok-is_flag_set.ensures.call) c.in_err-redo_table.ensures.calls)

pub returns-clause-calls : goal.returns-clause-calls
returns-clause-calls g c =
    AreCalls-then _ _ _ _ c.write_flag.result
    (AreCalls-then _ _ _ _ _ (AreCalls-one _ _ _ c.in_ok-is_flag_set.ensures.call) c.in_ok-redo_table.ensures.calls)
    (AreCalls-one _ _ c.write_flag.result c.write_flag.ensures.call)
