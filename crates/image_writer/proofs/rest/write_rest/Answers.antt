use Rattle.std.proofs.Common.{◌≡◌, ℕ, ◌+◌, ◌/◌, List, Bool, Ok, OnOk, subst}
use Rattle.store_model.specs.Parameters.{table_at}
use Rattle.store_base.specs.declared.fault.DiskFault.{DiskFault}
use Rattle.disk_model.specs.DiskState.{DiskState}
use Rattle.gate_journal.specs.Places.{Keeps, Reaches, Made}
use Rattle.gate_journal.proofs.Places.{Keeps-trans, Keeps-weaken}
use Rattle.gate_journal.proofs.Calls.{observable_after, Reaches-fault, Reaches-sync}
use Rattle.image_writer.specs.Filling.{OutsideFree, AreFilled, OutsideJournal, IsJournalZero, free_count}
use Rattle.image_writer.specs.Sealing.{OutsideRest, HasRest}
use Rattle.image_writer.proofs.Sealed.{keeps_free, keeps_header, rest_is, made_rest}
use Rattle.image_writer.proofs.rest.write_rest.Goals as goal

-- what the calls reach, with the slots of the parameters
filled_as : (n m : ℕ) (free : List Bool) (old new : DiskState) → n ≡ m
    → Reaches {T = Unit {0}} {E = DiskFault} (OutsideFree n free) (AreFilled n free n) old new (Ok tt)
    → Reaches {T = Unit {0}} {E = DiskFault} (OutsideFree m free) (AreFilled m free m) old new (Ok tt)
filled_as n m free old new same reaches =
    subst (λ k. Reaches {T = Unit {0}} {E = DiskFault} (OutsideFree k free) (AreFilled k free k) old new (Ok tt)) same
    reaches

zeroed_as : (n m : ℕ) (old new : DiskState) → n ≡ m
    → Reaches {T = Unit {0}} {E = DiskFault} (OutsideJournal n) (IsJournalZero n) old new (Ok tt)
    → Reaches {T = Unit {0}} {E = DiskFault} (OutsideJournal m) (IsJournalZero m) old new (Ok tt)
zeroed_as n m old new same reaches =
    subst (λ k. Reaches {T = Unit {0}} {E = DiskFault} (OutsideJournal k) (IsJournalZero k) old new (Ok tt)) same
    reaches

pub returns-in_err-fill_free-clause-reaches : goal.returns-in_err-fill_free-clause-reaches
returns-in_err-fill_free-clause-reaches g c observable =
    let p = c.args.params.now in
    let free = c.args.free.now in
    let old = g.D.Disk.state c.args.disk.now in
    let a = g.D.Disk.state c.fill_free.new.disk in
    Reaches-fault (OutsideRest p.slots free) (HasRest p free) old a c.from_residual.result c.from_residual.ensures.0
    (keeps_free p.slots free old a (subst (λ k. Keeps (OutsideFree k free) old a) c.slots-slots.ensures.value
    (c.fill_free.ensures.reaches observable).keeps))

pub returns-in_err-zero_journal-clause-reaches : goal.returns-in_err-zero_journal-clause-reaches
returns-in_err-zero_journal-clause-reaches g c observable =
    let p = c.args.params.now in
    let free = c.args.free.now in
    let old = g.D.Disk.state c.args.disk.now in
    let a = g.D.Disk.state c.fill_free.new.disk in
    let b = g.D.Disk.state c.zero_journal.new.disk in
    let observable_a = observable_after old a _ c.in_ok-fill_free.ensures.calls observable in
    let filled = filled_as c.slots-slots.result p.slots free old a c.slots-slots.ensures.value
    (c.in_ok-fill_free.ensures.reaches observable) in
    Reaches-fault (OutsideRest p.slots free) (HasRest p free) old b c.from_residual-in_err-zero_journal.result
    c.from_residual-in_err-zero_journal.ensures.0
    (Keeps-trans (OutsideRest p.slots free) old a b (g.met.D.Disk.sound c.fill_free.new.disk observable_a)
    (keeps_free p.slots free old a filled.keeps)
    (Keeps-weaken (OutsideJournal p.slots) (OutsideRest p.slots free) a b (λ place o. o.beside_journal)
    (subst (λ k. Keeps (OutsideJournal k) a b) c.slots-slots.ensures.value
    (c.zero_journal.ensures.reaches observable_a).keeps)))

pub returns-in_err-write_header_rest-clause-reaches : goal.returns-in_err-write_header_rest-clause-reaches
returns-in_err-write_header_rest-clause-reaches g c observable =
    let p = c.args.params.now in
    let free = c.args.free.now in
    let old = g.D.Disk.state c.args.disk.now in
    let a = g.D.Disk.state c.fill_free.new.disk in
    let b = g.D.Disk.state c.zero_journal.new.disk in
    let d = g.D.Disk.state c.write_header_rest.new.disk in
    let observable_a = observable_after old a _ c.in_ok-fill_free.ensures.calls observable in
    let observable_b = observable_after a b _ c.in_ok-zero_journal.ensures.calls observable_a in
    Reaches-fault (OutsideRest p.slots free) (HasRest p free) old d c.from_residual-in_err-write_header_rest.result
    c.from_residual-in_err-write_header_rest.ensures.0
    (keeps_header p free c.requires.slots old a b d (g.met.D.Disk.sound c.fill_free.new.disk observable_a)
    (g.met.D.Disk.sound c.zero_journal.new.disk observable_b)
    (filled_as c.slots-slots.result p.slots free old a c.slots-slots.ensures.value
    (c.in_ok-fill_free.ensures.reaches observable))
    (zeroed_as c.slots-slots.result p.slots a b c.slots-slots.ensures.value
    (c.in_ok-zero_journal.ensures.reaches observable_a))
    (c.write_header_rest.ensures.reaches observable_b).keeps)

pub returns-clause-reaches : goal.returns-clause-reaches
returns-clause-reaches g c observable =
    let p = c.args.params.now in
    let free = c.args.free.now in
    let old = g.D.Disk.state c.args.disk.now in
    let a = g.D.Disk.state c.fill_free.new.disk in
    let b = g.D.Disk.state c.zero_journal.new.disk in
    let d = g.D.Disk.state c.write_header_rest.new.disk in
    let observable_a = observable_after old a _ c.in_ok-fill_free.ensures.calls observable in
    let observable_b = observable_after a b _ c.in_ok-zero_journal.ensures.calls observable_a in
    let observable_d = observable_after b d _ c.in_ok-write_header_rest.ensures.calls observable_b in
    let sound_a = g.met.D.Disk.sound c.fill_free.new.disk observable_a in
    let sound_b = g.met.D.Disk.sound c.zero_journal.new.disk observable_b in
    let filled = filled_as c.slots-slots.result p.slots free old a c.slots-slots.ensures.value
    (c.in_ok-fill_free.ensures.reaches observable) in
    let zeroed = zeroed_as c.slots-slots.result p.slots a b c.slots-slots.ensures.value
    (c.in_ok-zero_journal.ensures.reaches observable_a) in
    let header = c.in_ok-write_header_rest.ensures.reaches observable_b in
    Reaches-sync {U = Unit {0}} (OutsideRest p.slots free) (HasRest p free) old d _ tt c.sync.result observable_d
    (g.met.D.Disk.sound c.write_header_rest.new.disk observable_d)
    (record {
      keeps = keeps_header p free c.requires.slots old a b d sound_a sound_b filled zeroed header.keeps;
      done = rest_is p free c.requires.slots old a b d sound_a sound_b filled zeroed header.keeps header.done;
    })
    c.sync.ensures

pub returns-clause-made : goal.returns-clause-made
returns-clause-made g c observable =
    let p = c.args.params.now in
    let old = g.D.Disk.state c.args.disk.now in
    let a = g.D.Disk.state c.fill_free.new.disk in
    let b = g.D.Disk.state c.zero_journal.new.disk in
    let d = g.D.Disk.state c.write_header_rest.new.disk in
    let observable_a = observable_after old a _ c.in_ok-fill_free.ensures.calls observable in
    let observable_b = observable_after a b _ c.in_ok-zero_journal.ensures.calls observable_a in
    let observable_d = observable_after b d _ c.in_ok-write_header_rest.ensures.calls observable_b in
    subst (λ n. OnOk c.sync.result (Made (free_count c.args.free.now + table_at n 0 / 4096) 1 old
    (g.D.Disk.state c.sync.new.self))) c.slots-slots.ensures.value
    (made_rest c.slots-slots.result (free_count c.args.free.now) old a b d (g.D.Disk.state c.sync.new.self)
    c.sync.result
    observable_d c.sync.ensures (c.in_ok-fill_free.ensures.made observable)
    (c.in_ok-zero_journal.ensures.made observable_a) (c.in_ok-write_header_rest.ensures.made observable_b))
