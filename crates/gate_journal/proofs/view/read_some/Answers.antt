use Rattle.std.proofs.Common.{◌≡◌, ℕ, List, length, take, drop, sym, ap, ◌∙◌, arith}
use Rattle.std.proofs.lemmas.List.{length-take-le}
use Rattle.store_model.specs.Images.{bytes_at, recovered_slot}
use Rattle.disk_model.specs.DiskState.{IsObservable}
use Rattle.gate_journal.proofs.Faults.{if_ok_fault}
use Rattle.gate_journal.proofs.Caches.{ReadsJournal-answered, IsCacheOf-reads, ReadsJournal-call, ReadsJournal-then}
use Rattle.gate_journal.proofs.Caches.{ReadsJournal-fault}
use Rattle.gate_journal.specs.Places.{ReadsOnly}
use Rattle.gate_journal.proofs.Areas.{areas, marks_end, shadow_end, table_end}
use Rattle.gate_journal.proofs.Calls.{observable_after}
use Rattle.gate_journal.proofs.Reading.{ReadsOnly-read}
use Rattle.gate_journal.proofs.Viewing.{HasRecovered-table, HasRecovered-one}
use Rattle.gate_journal.proofs.view.read_some.Goals as goal

pub is_flag_set-requires-clause-size : goal.is_flag_set-requires-clause-size
is_flag_set-requires-clause-size g c =
    omega (
      arith,
      c.requires.slot.size,
      table_end c.args.slots,
      shadow_end c.args.slots,
      marks_end c.args.slots,
    )

pub read_at-requires : goal.read_at-requires
read_at-requires g c =
    omega (
      arith,
      length-take-le 4096 c.args.into.now c.requires.room,
      c.in_ok-place.ensures.within,
      c.recovered_place.ensures.journal.calls.size,
      c.is_flag_set.ensures.journal.calls.size,
      c.requires.slot.size,
    )

pub returns-in_err-read_at-clause-journal : goal.returns-in_err-read_at-clause-journal
returns-in_err-read_at-clause-journal g c =
    let there = g.D.Disk.state c.recovered_place.new.disk in
    let reads : IsObservable there → ReadsOnly there (g.D.Disk.state c.read_at.new.self) =
    λ observable. ReadsOnly-read _ _ _ _ _ observable c.in_err-read_at.ensures in
    ReadsJournal-fault _ _ _ c.in_err-read_at.field-0.0
    c.from_residual-in_err-read_at.result c.from_residual-in_err-read_at.ensures.0
    (ReadsJournal-then _ _ _ _ _ _ _ c.in_ok-is_flag_set.ensures.journal
    (ReadsJournal-then _ _ _ _ _ _ _ c.in_ok-place.ensures.journal
    (ReadsJournal-call _ _ _ _ c.in_err-read_at.ensures.call reads
    (IsCacheOf-reads _ _ _ _ c.in_err-read_at.ensures.call reads c.in_ok-place.ensures.journal.cache))))

pub returns-then-branch-clause-slots : goal.returns-then-branch-clause-slots
returns-then-branch-clause-slots g c observable =
    let old = g.D.Disk.state c.args.disk.now in
    let mid = g.D.Disk.state c.is_flag_set.new.disk in
    let there = g.D.Disk.state c.recovered_place.new.disk in
    let bytes = c.read_at.new.into in
    let long : length bytes ≡ 4096 = c.read_at.auto.into ∙ length-take-le 4096 c.args.into.now c.requires.room in
    let observable_mid = observable_after _ _ _ c.is_flag_set.ensures.journal.calls observable in
    let observable_there = observable_after _ _ _ c.recovered_place.ensures.journal.calls observable_mid in
    let is : recovered_slot c.args.slots old.bytes c.args.slot ≡ bytes =
    ap (λ (l : List ℕ). recovered_slot c.args.slots l c.args.slot)
    (sym (c.is_flag_set.ensures.journal.reads observable).bytes)
    ∙ sym (c.in_ok-place.ensures.value observable_mid)
    ∙ ap (λ (l : List ℕ). bytes_at l c.in_ok-place.place 4096)
    (sym (c.recovered_place.ensures.journal.reads observable_mid).bytes)
    ∙ ap (λ (n : ℕ). take n (drop c.in_ok-place.place there.bytes)) (sym long)
    ∙ sym (c.in_ok-read_at.ensures.observed observable_there).read in
    HasRecovered-one c.args.slots old.bytes bytes (drop 4096 c.args.into.now) c.args.slot long is

pub read_at-requires-2 : goal.read_at-requires-2
read_at-requires-2 g c =
    omega (
      arith,
      c.table_at.ensures.value,
      (areas c.args.slots c.args.slot c.requires.slot.below).table_is,
      table_end c.args.slots,
      c.requires.within,
      c.requires.slot.below,
      c.requires.slot.size,
      c.is_flag_set.ensures.journal.calls.size,
    )

pub returns-clause-slots : goal.returns-clause-slots
returns-clause-slots g c observable =
    let old = g.D.Disk.state c.args.disk.now in
    let mid = g.D.Disk.state c.is_flag_set.new.disk in
    let bytes = c.read_at-2.new.into in
    let observable_mid = observable_after _ _ _ c.is_flag_set.ensures.journal.calls observable in
    HasRecovered-table c.args.slots old.bytes bytes c.args.slot
    (sym (c.in_ok-is_flag_set.ensures.value observable) ∙ c.if-branch.false)
    ((c.in_ok-read_at-2.ensures.observed observable_mid).read
    ∙ ap (λ (l : List ℕ). take (length bytes) (drop c.table_at.result l))
    (c.is_flag_set.ensures.journal.reads observable).bytes
    ∙ ap (λ (n : ℕ). take (length bytes) (drop n old.bytes)) c.table_at.ensures.value)

pub returns-in_err-is_flag_set-clause-journal : goal.returns-in_err-is_flag_set-clause-journal
returns-in_err-is_flag_set-clause-journal g c =
    ReadsJournal-fault _ _ _ _ c.from_residual.result c.from_residual.ensures.0
    c.in_err-is_flag_set.ensures.journal

pub returns-in_err-is_flag_set-clause-some : goal.returns-in_err-is_flag_set-clause-some
returns-in_err-is_flag_set-clause-some g c = if_ok_fault c.from_residual.result _ c.from_residual.ensures.0

pub returns-in_err-is_flag_set-clause-room : goal.returns-in_err-is_flag_set-clause-room
returns-in_err-is_flag_set-clause-room g c = if_ok_fault c.from_residual.result _ c.from_residual.ensures.0

pub returns-in_err-is_flag_set-clause-slots : goal.returns-in_err-is_flag_set-clause-slots
returns-in_err-is_flag_set-clause-slots g c observable = if_ok_fault c.from_residual.result _ c.from_residual.ensures.0

pub returns-in_err-place-clause-journal : goal.returns-in_err-place-clause-journal
returns-in_err-place-clause-journal g c =
    ReadsJournal-fault _ _ _ _ c.from_residual-in_err-place.result c.from_residual-in_err-place.ensures.0
    (ReadsJournal-then _ _ _ _ _ _ _ c.in_ok-is_flag_set.ensures.journal c.in_err-place.ensures.journal)

pub returns-in_err-place-clause-some : goal.returns-in_err-place-clause-some
returns-in_err-place-clause-some g c =
    if_ok_fault c.from_residual-in_err-place.result _ c.from_residual-in_err-place.ensures.0

pub returns-in_err-place-clause-room : goal.returns-in_err-place-clause-room
returns-in_err-place-clause-room g c =
    if_ok_fault c.from_residual-in_err-place.result _ c.from_residual-in_err-place.ensures.0

pub returns-in_err-place-clause-slots : goal.returns-in_err-place-clause-slots
returns-in_err-place-clause-slots g c observable =
    if_ok_fault c.from_residual-in_err-place.result _ c.from_residual-in_err-place.ensures.0

pub returns-in_err-read_at-clause-some : goal.returns-in_err-read_at-clause-some
returns-in_err-read_at-clause-some g c =
    if_ok_fault c.from_residual-in_err-read_at.result _ c.from_residual-in_err-read_at.ensures.0

pub returns-in_err-read_at-clause-room : goal.returns-in_err-read_at-clause-room
returns-in_err-read_at-clause-room g c =
    if_ok_fault c.from_residual-in_err-read_at.result _ c.from_residual-in_err-read_at.ensures.0

pub returns-in_err-read_at-clause-slots : goal.returns-in_err-read_at-clause-slots
returns-in_err-read_at-clause-slots g c observable =
    if_ok_fault c.from_residual-in_err-read_at.result _ c.from_residual-in_err-read_at.ensures.0

pub returns-in_err-read_at-2-clause-some : goal.returns-in_err-read_at-2-clause-some
returns-in_err-read_at-2-clause-some g c =
    if_ok_fault c.from_residual-in_err-read_at-2.result _ c.from_residual-in_err-read_at-2.ensures.0

pub returns-in_err-read_at-2-clause-room : goal.returns-in_err-read_at-2-clause-room
returns-in_err-read_at-2-clause-room g c =
    if_ok_fault c.from_residual-in_err-read_at-2.result _ c.from_residual-in_err-read_at-2.ensures.0

pub returns-in_err-read_at-2-clause-slots : goal.returns-in_err-read_at-2-clause-slots
returns-in_err-read_at-2-clause-slots g c observable =
    if_ok_fault c.from_residual-in_err-read_at-2.result _ c.from_residual-in_err-read_at-2.ensures.0

pub returns-in_err-read_at-2-clause-journal : goal.returns-in_err-read_at-2-clause-journal
returns-in_err-read_at-2-clause-journal g c =
    let there = g.D.Disk.state c.is_flag_set.new.disk in
    let reads : IsObservable there → ReadsOnly there (g.D.Disk.state c.read_at-2.new.self) =
    λ observable. ReadsOnly-read _ _ _ _ _ observable c.in_err-read_at-2.ensures in
    ReadsJournal-fault _ _ _ _ c.from_residual-in_err-read_at-2.result c.from_residual-in_err-read_at-2.ensures.0
    (ReadsJournal-then _ _ _ _ _ _ _ c.in_ok-is_flag_set.ensures.journal
    (ReadsJournal-call _ _ _ _ c.in_err-read_at-2.ensures.call reads
    (IsCacheOf-reads _ _ _ _ c.in_err-read_at-2.ensures.call reads c.in_ok-is_flag_set.ensures.journal.cache)))

pub returns-clause-journal : goal.returns-clause-journal
returns-clause-journal g c =
    let there = g.D.Disk.state c.is_flag_set.new.disk in
    let reads : IsObservable there → ReadsOnly there (g.D.Disk.state c.read_at-2.new.self) =
    λ observable. ReadsOnly-read _ _ _ _ _ observable c.in_ok-read_at-2.ensures in
    ReadsJournal-answered _ _ _ _ _ (ReadsJournal-then _ _ _ _ _ _ _ c.in_ok-is_flag_set.ensures.journal
    (ReadsJournal-call _ _ _ _ c.in_ok-read_at-2.ensures.call reads
    (IsCacheOf-reads _ _ _ _ c.in_ok-read_at-2.ensures.call reads c.in_ok-is_flag_set.ensures.journal.cache)))

pub returns-then-branch-clause-journal : goal.returns-then-branch-clause-journal
returns-then-branch-clause-journal g c =
    let there = g.D.Disk.state c.recovered_place.new.disk in
    let reads : IsObservable there → ReadsOnly there (g.D.Disk.state c.read_at.new.self) =
    λ observable. ReadsOnly-read _ _ _ _ _ observable c.in_ok-read_at.ensures in
    ReadsJournal-answered _ _ _ _ _ (ReadsJournal-then _ _ _ _ _ _ _ c.in_ok-is_flag_set.ensures.journal
    (ReadsJournal-then _ _ _ _ _ _ _ c.in_ok-place.ensures.journal
    (ReadsJournal-call _ _ _ _ c.in_ok-read_at.ensures.call reads
    (IsCacheOf-reads _ _ _ _ c.in_ok-read_at.ensures.call reads c.in_ok-place.ensures.journal.cache))))

pub returns-then-branch-clause-some : goal.returns-then-branch-clause-some
returns-then-branch-clause-some g c = omega arith
