use Rattle.std.proofs.Common.{◌≡◌, ℕ, length, sym, subst}
use Rattle.gate_journal.proofs.Reading.{ReadsOnly-read, zero_read, zero_buffer}
use Rattle.gate_journal.proofs.Faults.{IsCall-fault, IsCall-answered, if_ok_fault}
use Rattle.gate_journal.specs.Places.{IsZeroAt}
use Rattle.gate_journal.proofs.redo.is_range_zero.Goals as goal

pub returns-clause-value : goal.returns-clause-value
returns-clause-value g c observable =
    let old = (g.D.Disk.state c.args.disk.now).bytes in
    let read = (c.in_ok-read_at.ensures.observed observable).read in
    let long : length c.read_at.new.into ≡ length c.args.buffer.now = c.read_at.auto.into in (
      λ zero. subst (λ (n : ℕ). IsZeroAt c.args.at n old) long
          (zero_read old c.read_at.new.into c.args.at read (c.is_zero.ensures.0 zero)),
      λ (zero : IsZeroAt c.args.at (length c.args.buffer.now) old).
          c.is_zero.ensures.1 (zero_buffer old c.read_at.new.into c.args.at read
          (subst (λ (n : ℕ). IsZeroAt c.args.at n old) (sym long) zero)),
    )

pub returns-in_err-read_at-clause-call : goal.returns-in_err-read_at-clause-call
returns-in_err-read_at-clause-call g c =
    IsCall-fault _ _ _ c.from_residual.result c.from_residual.ensures.0 c.in_err-read_at.ensures.call

pub returns-in_err-read_at-clause-reads : goal.returns-in_err-read_at-clause-reads
returns-in_err-read_at-clause-reads g c observable = ReadsOnly-read _ _ _ _ _ observable c.read_at.ensures

pub returns-in_err-read_at-clause-value : goal.returns-in_err-read_at-clause-value
returns-in_err-read_at-clause-value g c observable =
    if_ok_fault c.from_residual.result _ c.from_residual.ensures.0

pub returns-clause-call : goal.returns-clause-call
returns-clause-call g c = IsCall-answered _ _ _ _ c.in_ok-read_at.ensures.call

pub returns-clause-reads : goal.returns-clause-reads
returns-clause-reads g c observable = ReadsOnly-read _ _ _ _ _ observable c.read_at.ensures
