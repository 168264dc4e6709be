use Rattle.std.proofs.Common.{◌≡◌, ℕ, ◌+◌, ◌<◌, length, ap, ◌∙◌, arith, not, nat_eq, slice_index}
use Rattle.gate_journal.proofs.Reading.{ReadsOnly-read, byte_read}
use Rattle.gate_journal.proofs.Faults.{IsCall-fault, IsCall-answered, if_ok_fault}
use Rattle.gate_journal.proofs.redo.is_byte_set.Goals as goal

pub returns-clause-value : goal.returns-clause-value
returns-clause-value g c observable =
    let old = (g.D.Disk.state c.args.disk.now).bytes in
    let some : 0 < length c.read_at.new.into = omega (arith, c.read_at.auto.into) in
    let there : c.args.at + 0 ≡ c.args.at = omega arith in
    ap (λ (b : ℕ). not (nat_eq b 0))
    (byte_read old c.read_at.new.into c.args.at 0 (c.in_ok-read_at.ensures.observed observable).read some
    ∙ ap (slice_index old) there)

pub returns-in_err-read_at-clause-call : goal.returns-in_err-read_at-clause-call
returns-in_err-read_at-clause-call g c =
    IsCall-fault _ _ _ c.from_residual.result c.from_residual.ensures.0 c.in_err-read_at.ensures.call

pub returns-in_err-read_at-clause-reads : goal.returns-in_err-read_at-clause-reads
returns-in_err-read_at-clause-reads g c observable = ReadsOnly-read _ _ _ _ _ observable c.read_at.ensures

pub returns-in_err-read_at-clause-value : goal.returns-in_err-read_at-clause-value
returns-in_err-read_at-clause-value g c observable =
    if_ok_fault c.from_residual.result _ c.from_residual.ensures.0

pub returns-clause-call : goal.returns-clause-call
returns-clause-call g c = IsCall-answered _ _ _ _ c.in_ok-read_at.ensures.call

pub returns-clause-reads : goal.returns-clause-reads
returns-clause-reads g c observable = ReadsOnly-read _ _ _ _ _ observable c.read_at.ensures
