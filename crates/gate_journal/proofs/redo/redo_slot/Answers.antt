use Rattle.std.proofs.Common.{◌≡◌, ℕ, ◌+◌, ◌≤◌, List, length, take, drop, sym, ap, ◌∙◌, subst, arith}
use Rattle.store_model.specs.Parameters.{shadow_at, table_at}
use Rattle.store_model.specs.Images.{bytes_at}
use Rattle.disk_model.specs.DiskCalls.{overwrite}
use Rattle.disk_model.proofs.Crashes.{IsObservable-call}
use Rattle.disk_model.proofs.Images.{take-drop-overwrite}
use Rattle.gate_journal.proofs.Reading.{ReadsOnly-read}
use Rattle.gate_journal.proofs.Faults.{IsCall-fault}
use Rattle.gate_journal.proofs.Calls.{AreCalls-one, IsCall-then, Reaches-fault, Makes-short, Makes-reads, Makes-then}
use Rattle.gate_journal.proofs.Calls.{Makes-write, Made-reads, Reaches-write, Reaches-then}
use Rattle.gate_journal.specs.Places.{IsApart}
use Rattle.gate_journal.specs.Phases.{table_slot}
use Rattle.gate_journal.proofs.Areas.{areas, table_end}
use Rattle.gate_journal.proofs.Places.{Keeps-read}
use Rattle.gate_journal.proofs.redo.redo_slot.Goals as goal

pub read_at-requires : goal.read_at-requires
read_at-requires g c =
    let here = areas c.args.slots c.args.slot c.requires.below in
    omega (arith, here.shadow_end, here.table_end, table_end c.args.slots, c.shadow_at.ensures.value, c.requires.size)

pub write_at-requires : goal.write_at-requires
write_at-requires g c =
    let here = areas c.args.slots c.args.slot c.requires.below in
    omega (
      arith,
      here.table_end,
      c.table_at.ensures.value,
      c.read_at.auto.into,
      c.read_at.ensures.call.size,
      c.requires.size,
    )

-- the bytes of the shadow slot, written into the slot of the table
redone : (slots slot from at : ℕ) (old mid bytes : List ℕ) → from ≡ shadow_at slots slot → at ≡ table_at slots slot
    → length bytes ≡ 4096 → bytes ≡ take (length bytes) (drop from old)
    → table_at slots slot + length bytes ≤ length mid
    → table_slot slots (overwrite mid at bytes) slot ≡ bytes_at old (shadow_at slots slot) 4096
redone slots slot from at old mid bytes shadow there long read within =
    ap (λ (n : ℕ). table_slot slots (overwrite mid n bytes) slot) there
    ∙ subst (λ (n : ℕ). take n (drop (table_at slots slot) (overwrite mid (table_at slots slot) bytes)) ≡ bytes) long
    (take-drop-overwrite mid (table_at slots slot) bytes within)
    ∙ read ∙ ap (λ (n : ℕ). take n (drop from old)) long ∙ ap (λ (n : ℕ). bytes_at old n 4096) shadow

pub returns-clause-reaches : goal.returns-clause-reaches
returns-clause-reaches g c observable =
    let at = table_at c.args.slots c.args.slot in
    let old = (g.D.Disk.state c.args.disk.now).bytes in
    let mid = (g.D.Disk.state c.read_at.new.self).bytes in
    let bytes = c.read_at.new.into in
    let long : length bytes ≡ 4096 = c.read_at.auto.into in
    let observable_mid = IsObservable-call _ _ _ c.read_at.ensures.call observable in
    let sound = g.met.D.Disk.sound c.read_at.new.self observable_mid in
    let within : at + length bytes ≤ length mid =
    omega (
      arith,
      (areas c.args.slots c.args.slot c.requires.below).table_end,
      long,
      sound.size,
      c.read_at.ensures.call.size,
      c.requires.size,
    ) in
    let Done = λ (image : List ℕ). table_slot c.args.slots image c.args.slot
    ≡ bytes_at old (shadow_at c.args.slots c.args.slot) 4096 in
    let done = redone c.args.slots c.args.slot c.shadow_at.result c.table_at.result old mid bytes
    c.shadow_at.ensures.value c.table_at.ensures.value long
    (c.in_ok-read_at.ensures.observed observable).read within in
    Reaches-then (IsApart at 4096) Done _ _ _ c.write_at.result sound
    (Keeps-read (IsApart at 4096) _ _ _ observable c.shadow_at.result bytes c.read_at.ensures)
    (Reaches-write (IsApart at 4096) Done _ _ c.write_at.result observable_mid c.table_at.result bytes
    (λ place apart. subst (λ (m : ℕ). IsApart c.table_at.result m place) (sym long)
    (subst (λ (n : ℕ). IsApart n 4096 place) (sym c.table_at.ensures.value) apart)) c.write_at.ensures done)

pub returns-in_err-read_at-clause-call : goal.returns-in_err-read_at-clause-call
returns-in_err-read_at-clause-call g c =
    IsCall-fault _ _ _ c.from_residual.result c.from_residual.ensures.0 c.in_err-read_at.ensures.call

pub returns-in_err-read_at-clause-reaches : goal.returns-in_err-read_at-clause-reaches
returns-in_err-read_at-clause-reaches g c observable =
    Reaches-fault _ _ _ _ c.from_residual.result c.from_residual.ensures.0
    (Keeps-read _ _ _ _ observable _ _ c.read_at.ensures)

pub returns-in_err-read_at-clause-makes : goal.returns-in_err-read_at-clause-makes
returns-in_err-read_at-clause-makes g c observable =
    let old = g.D.Disk.state c.args.disk.now in
    let mid = g.D.Disk.state c.read_at.new.self in
    Makes-short old mid c.read_at.result c.from_residual.result 0 0 1 0 c.from_residual.ensures.0 (omega arith)
    (omega arith)
    (Makes-reads old mid c.read_at.result c.read_at.result c.read_at.ensures.call
    (ReadsOnly-read _ _ _ _ _ observable c.read_at.ensures))

pub returns-clause-call : goal.returns-clause-call
returns-clause-call g c =
    IsCall-then _ _ _ _ _ (AreCalls-one _ _ _ c.in_ok-read_at.ensures.call) c.write_at.ensures.call

pub returns-clause-makes : goal.returns-clause-makes
returns-clause-makes g c observable =
    let old = g.D.Disk.state c.args.disk.now in
    let mid = g.D.Disk.state c.read_at.new.self in
    Makes-then old mid _ c.write_at.result 0 0 1 0 (Made-reads old mid
    (ReadsOnly-read _ _ _ _ _ observable c.read_at.ensures))
    (Makes-write mid _ c.write_at.result (IsObservable-call _ _ _ c.read_at.ensures.call observable) _ _
    c.write_at.ensures)
