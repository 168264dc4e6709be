use Rattle.std.proofs.Common.{◌≡◌, ℕ, ◌+◌, length, take, drop, ap, ◌∙◌, arith}
use Rattle.store_model.specs.Parameters.{marks_at}
use Rattle.store_model.specs.Images.{bytes_at}
use Rattle.gate_journal.proofs.Areas.{marks_end, shadow_end, table_end}
use Rattle.gate_journal.proofs.Stages.{on_ok_map}
use Rattle.slot_map.proofs.table.read_marks.Goals as goal

pub read_at-requires : goal.read_at-requires
read_at-requires g c =
    omega (
      arith,
      c.mark_at.ensures,
      c.requires.size,
      c.requires.count,
      table_end c.args.slots,
      shadow_end c.args.slots,
      marks_end c.args.slots,
    )

pub returns-clause-marks : goal.returns-clause-marks
returns-clause-marks g c observable =
    let old = (g.D.Disk.state c.args.disk.now).bytes in
    let buffer = c.read_at.new.into in
    let long : length buffer ≡ c.args.slots + 1 = omega (arith, c.read_at.auto.into, c.requires.count) in
    let there : c.mark_at.result ≡ marks_at = omega (arith, c.mark_at.ensures) in
    on_ok_map c.read_at.result (buffer ≡ take (length buffer) (drop c.mark_at.result old))
    (buffer ≡ bytes_at old marks_at (c.args.slots + 1))
    (λ read. read ∙ ap (λ (n : ℕ). take n (drop c.mark_at.result old)) long
    ∙ ap (λ (n : ℕ). bytes_at old n (c.args.slots + 1)) there)
    (c.read_at.ensures.observed observable).read
