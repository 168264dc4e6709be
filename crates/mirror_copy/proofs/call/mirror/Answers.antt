use Rattle.std.proofs.Common.{sym, subst}
use Rattle.mirror_copy.specs.MirrorCalls.{Mirrors, JudgesPair, ComparesSlots}
use Rattle.mirror_copy.proofs.Mirroring.{unjudged, uncompared, mirrored, unwritten}
use Rattle.mirror_copy.proofs.call.mirror.Goals.{in-Ok-rewrite, in-Err-rewrite}
use Rattle.mirror_copy.proofs.call.mirror.Goals as goal

pub returns-in-Err : goal.returns-in-Err
returns-in-Err g c =
    let from = g.A.Disk.state c.args.from in
    let from_new = g.A.Disk.state c.judge_pair-from.result.0 in
    let to = g.B.Disk.state c.args.to in
    let to_new = g.B.Disk.state c.judge_pair-from.new.to in
    unjudged from from_new to to_new c.in-Err.fault
    (subst (JudgesPair from from_new to to_new) c.in-Err.is c.judge_pair-from.ensures)

pub returns-in-Err-compared : goal.returns-in-Err-compared
returns-in-Err-compared g c =
    let from = g.A.Disk.state c.args.from in
    let from_mid = g.A.Disk.state c.judge_pair-from.result.0 in
    let from_new = g.A.Disk.state c.compare_slots-from.result.0 in
    let to = g.B.Disk.state c.args.to in
    let to_mid = g.B.Disk.state c.judge_pair-from.new.to in
    let to_read = g.B.Disk.state c.compare_slots-from.result.1 in
    uncompared from from_mid from_new to to_mid to_read
    c.in-Ok.params (subst (JudgesPair from from_mid to to_mid) c.in-Ok.is c.judge_pair-from.ensures)
    c.in-Err-compared.fault
    (subst (ComparesSlots c.in-Ok.params.slots from_mid from_new to_mid to_read)
    c.in-Err-compared.is c.compare_slots-from.ensures)

pub returns : goal.returns
returns g c =
    let from = g.A.Disk.state c.args.from in
    let from_mid = g.A.Disk.state c.judge_pair-from.result.0 in
    let from_new = g.A.Disk.state c.compare_slots-from.result.0 in
    let to = g.B.Disk.state c.args.to in
    let to_mid = g.B.Disk.state c.judge_pair-from.new.to in
    let to_read = g.B.Disk.state c.compare_slots-from.result.1 in
    let to_new = g.B.Disk.state c.rewrite.new.disk in
    let judges = subst (JudgesPair from from_mid to to_mid) c.in-Ok.is c.judge_pair-from.ensures in
    let compares = subst (ComparesSlots c.in-Ok.params.slots from_mid from_new to_mid to_read)
    c.in-Ok-compared.is c.compare_slots-from.ensures in
    elim c.match-rewrite.branch [
      | in-Ok-rewrite w ↦
          subst (Mirrors from from_new to to_new) (sym w.mirrored-is)
          (mirrored from from_mid from_new to to_mid to_read c.in-Ok.params judges c.in-Ok-compared.changes compares
          to_new w.in-Ok-rewrite.field-0 w.count.result w.count.ensures w.in-Ok-rewrite.ensures.calls
          w.in-Ok-rewrite.ensures.rewrites)
      | in-Err-rewrite w ↦
          subst (Mirrors from from_new to to_new) (sym w.mirrored-is)
          (unwritten from from_mid from_new to to_mid to_read c.in-Ok.params judges c.in-Ok-compared.changes compares
          to_new w.in-Err-rewrite.field-0 w.in-Err-rewrite.ensures.calls w.in-Err-rewrite.ensures.rewrites)
    ]
