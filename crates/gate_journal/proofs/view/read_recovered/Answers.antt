use Rattle.std.proofs.Common.{◌≡◌, ℕ, List, length, take, drop, ap, ◌∙◌}
use Rattle.disk_model.specs.DiskState.{IsObservable}
use Rattle.store_model.specs.Images.{bytes_at, recovered_slot}
use Rattle.gate_journal.specs.Places.{ReadsOnly}
use Rattle.gate_journal.proofs.Reading.{ReadsOnly-read}
use Rattle.gate_journal.proofs.Faults.{on_ok_fault}
use Rattle.gate_journal.proofs.Caches.{IsCacheOf-reads, ReadsJournal-call, ReadsJournal-fault, ReadsJournal-then}
use Rattle.gate_journal.proofs.Calls.{observable_after}
use Rattle.gate_journal.proofs.Stages.{on_ok_map}
use Rattle.gate_journal.proofs.view.read_recovered.Goals as goal

pub returns-clause-slot : goal.returns-clause-slot
returns-clause-slot g c observable =
    let old = (g.D.Disk.state c.args.disk.now).bytes in
    let mid = (g.D.Disk.state c.recovered_place.new.disk).bytes in
    let buffer = c.read_at.new.into in
    let long : length buffer ≡ 4096 = c.read_at.auto.into ∙ c.told-into in
    let observable_mid = observable_after _ _ _ c.recovered_place.ensures.journal.calls observable in
    on_ok_map c.read_at.result (buffer ≡ take (length buffer) (drop c.in_ok-place.place mid))
    (buffer ≡ recovered_slot c.args.slots old c.args.slot)
    (λ read. read ∙ ap (λ (n : ℕ). take n (drop c.in_ok-place.place mid)) long
    ∙ ap (λ (l : List ℕ). bytes_at l c.in_ok-place.place 4096)
    (c.recovered_place.ensures.journal.reads observable).bytes ∙ c.in_ok-place.ensures.value observable)
    (c.read_at.ensures.observed observable_mid).read

pub returns-in_err-place-clause-journal : goal.returns-in_err-place-clause-journal
returns-in_err-place-clause-journal g c =
    ReadsJournal-fault _ _ _ _ c.from_residual.result c.from_residual.ensures.0 c.in_err-place.ensures.journal

pub returns-in_err-place-clause-slot : goal.returns-in_err-place-clause-slot
returns-in_err-place-clause-slot g c observable =
    on_ok_fault c.from_residual.result _ c.from_residual.ensures.0

pub returns-clause-journal : goal.returns-clause-journal
returns-clause-journal g c =
    let there = g.D.Disk.state c.recovered_place.new.disk in
    let reads : IsObservable there → ReadsOnly there (g.D.Disk.state c.read_at.new.self) =
    λ observable. ReadsOnly-read _ _ _ _ _ observable c.read_at.ensures in
    ReadsJournal-then _ _ _ _ _ _ c.read_at.result c.in_ok-place.ensures.journal
    (ReadsJournal-call _ _ _ c.read_at.result c.read_at.ensures.call reads
    (IsCacheOf-reads _ _ _ c.read_at.result c.read_at.ensures.call reads c.in_ok-place.ensures.journal.cache))
