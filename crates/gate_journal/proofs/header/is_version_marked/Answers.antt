use Rattle.std.proofs.Common.{◌≡◌, ◌∙◌, true, not, ◌==◌, ◌&&◌, ap, sym, arith, slice_index}
use Rattle.store_model.specs.Images.{is_flag_set, is_marked}
use Rattle.disk_model.proofs.Crashes.{IsObservable-call}
use Rattle.gate_journal.proofs.Reading.{ReadsOnly-trans}
use Rattle.gate_journal.proofs.Faults.{if_ok_fault}
use Rattle.gate_journal.proofs.Calls.{AreCalls-one, AreCalls-then, AreCalls-fault, AreCalls-answered}
use Rattle.gate_journal.proofs.Areas.{marks_end, shadow_end, table_end}
use Rattle.gate_journal.proofs.Stages.{if_ok_map}
use Rattle.gate_journal.proofs.Viewing.{marked_by_mark}
use Rattle.gate_journal.proofs.header.is_version_marked.Goals as goal

pub is_flag_set-requires : goal.is_flag_set-requires
is_flag_set-requires g c =
    omega (arith, c.requires.size, table_end c.args.slots, shadow_end c.args.slots, marks_end c.args.slots)

pub is_byte_set-requires : goal.is_byte_set-requires
is_byte_set-requires g c =
    omega (
      arith,
      c.mark_at.ensures,
      c.is_flag_set.ensures.call.size,
      c.requires.size,
      table_end c.args.slots,
      shadow_end c.args.slots,
      marks_end c.args.slots,
    )

pub returns-clause-value : goal.returns-clause-value
returns-clause-value g c observable =
    let mid = (g.D.Disk.state c.is_flag_set.new.disk).bytes in
    let same = (c.is_flag_set.ensures.reads observable).bytes in
    let set : is_flag_set mid ≡ true = ap is_flag_set same ∙ sym (c.in_ok-is_flag_set.ensures.value observable)
    ∙ c.if-not-branch.false in
    if_ok_map c.is_byte_set.result (λ set. set ≡ not (slice_index mid c.mark_at.result == 0))
    (λ marked. marked ≡ is_flag_set (g.D.Disk.state c.args.disk.now).bytes
    && is_marked (g.D.Disk.state c.args.disk.now).bytes c.args.slots)
    (λ found is. marked_by_mark c.args.slots mid c.mark_at.result set c.mark_at.ensures found is
    ∙ ap (λ l. is_flag_set l && is_marked l c.args.slots) same)
    (c.is_byte_set.ensures.value (IsObservable-call _ _ _ c.is_flag_set.ensures.call observable))

pub returns-in_err-is_flag_set-clause-calls : goal.returns-in_err-is_flag_set-clause-calls
returns-in_err-is_flag_set-clause-calls g c =
    AreCalls-fault _ _ _ c.from_residual.result c.from_residual.ensures.0
    (AreCalls-one _ _ _ c.in_err-is_flag_set.ensures.call)

pub returns-in_err-is_flag_set-clause-reads : goal.returns-in_err-is_flag_set-clause-reads
returns-in_err-is_flag_set-clause-reads g c = c.is_flag_set.ensures.reads

pub returns-in_err-is_flag_set-clause-value : goal.returns-in_err-is_flag_set-clause-value
returns-in_err-is_flag_set-clause-value g c observable =
    if_ok_fault c.from_residual.result _ c.from_residual.ensures.0

pub returns-then-not-branch-clause-calls : goal.returns-then-not-branch-clause-calls
returns-then-not-branch-clause-calls g c =
    AreCalls-answered _ _ _ _ (AreCalls-one _ _ _ c.in_ok-is_flag_set.ensures.call)

pub returns-then-not-branch-clause-reads : goal.returns-then-not-branch-clause-reads
returns-then-not-branch-clause-reads g c = c.is_flag_set.ensures.reads

pub returns-clause-calls : goal.returns-clause-calls
returns-clause-calls g c =
    AreCalls-then _ _ _ _ _ (AreCalls-one _ _ _ c.in_ok-is_flag_set.ensures.call)
    (AreCalls-one _ _ _ c.is_byte_set.ensures.call)

pub returns-clause-reads : goal.returns-clause-reads
returns-clause-reads g c observable =
    ReadsOnly-trans _ _ _ (c.is_flag_set.ensures.reads observable)
    (c.is_byte_set.ensures.reads (IsObservable-call _ _ _ c.is_flag_set.ensures.call observable))
