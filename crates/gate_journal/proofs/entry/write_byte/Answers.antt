use Rattle.std.proofs.Common.{arith, ◌≡◌, ℕ, List, [], ◌∷◌, refl}
use Rattle.disk_model.specs.DiskCalls.{overwrite}
use Rattle.disk_model.proofs.Crashes.{IsObservable-call}
use Rattle.gate_journal.proofs.Calls.{AreCalls-one, IsCall-then, Makes-short, Makes-write, Makes-then, Made-then}
use Rattle.gate_journal.proofs.Calls.{Made-none, Makes-sync, durable-sync, Reaches-write, Reaches-sync}
use Rattle.gate_journal.proofs.Faults.{IsCall-fault, on_ok_fault}
use Rattle.gate_journal.specs.Places.{IsApart}
use Rattle.gate_journal.proofs.entry.write_byte.Goals as goal

pub returns-clause-reaches : goal.returns-clause-reaches
returns-clause-reaches g c observable =
    let old = (g.D.Disk.state c.args.disk.now).bytes in
    let written = λ (image : List ℕ). image ≡ overwrite old c.args.at (c.args.byte ∷ []) in
    let observable_mid = IsObservable-call _ _ _ c.write_at.ensures.call observable in
    Reaches-sync (IsApart c.args.at 1) written _ _ _ c.in_ok-write_at.field-0 _ observable_mid
    (g.met.D.Disk.sound c.write_at.new.self observable_mid)
    (Reaches-write (IsApart c.args.at 1) written _ _ _ observable c.args.at (c.args.byte ∷ [])
    (λ place apart. apart) c.in_ok-write_at.ensures refl)
    c.sync.ensures

pub returns-in_err-write_at-clause-call : goal.returns-in_err-write_at-clause-call
returns-in_err-write_at-clause-call g c =
    IsCall-fault _ _ _ c.from_residual.result c.from_residual.ensures.0 c.in_err-write_at.ensures.call

pub returns-in_err-write_at-clause-makes : goal.returns-in_err-write_at-clause-makes
returns-in_err-write_at-clause-makes g c observable =
    let old = g.D.Disk.state c.args.disk.now in
    let mid = g.D.Disk.state c.write_at.new.self in
    Makes-short old mid c.write_at.result c.from_residual.result 1 0 1 1 c.from_residual.ensures.0
    (omega arith) (omega arith) (Makes-write old mid c.write_at.result observable _ _ c.write_at.ensures)

pub returns-in_err-write_at-clause-wrote : goal.returns-in_err-write_at-clause-wrote
returns-in_err-write_at-clause-wrote g c observable =
    omega (arith, (c.write_at.ensures.observed observable).write_count)

pub returns-clause-call : goal.returns-clause-call
returns-clause-call g c =
    IsCall-then _ _ _ _ _ (AreCalls-one _ _ _ c.in_ok-write_at.ensures.call) c.sync.ensures.call

pub returns-clause-makes : goal.returns-clause-makes
returns-clause-makes g c observable =
    let old = g.D.Disk.state c.args.disk.now in
    let mid = g.D.Disk.state c.write_at.new.self in
    let observable_mid = IsObservable-call _ _ _ c.write_at.ensures.call observable in
    Makes-then old mid _ c.sync.result 1 0 0 1
    (Made-then old old mid _ 0 0 1 0 (Made-none old) (Makes-write old mid _ observable _ _ c.in_ok-write_at.ensures))
    (Makes-sync mid _ c.sync.result observable_mid c.sync.ensures)

pub returns-clause-wrote : goal.returns-clause-wrote
returns-clause-wrote g c observable =
    omega (arith, (c.write_at.ensures.observed observable).write_count, c.sync.ensures.call.writes)

pub returns-in_err-write_at-clause-durable : goal.returns-in_err-write_at-clause-durable
returns-in_err-write_at-clause-durable g c observable =
    on_ok_fault c.from_residual.result _ c.from_residual.ensures.0

pub returns-clause-durable : goal.returns-clause-durable
returns-clause-durable g c observable =
    durable-sync _ _ _ (IsObservable-call _ _ _ c.write_at.ensures.call observable) c.sync.ensures
