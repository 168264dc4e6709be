use Rattle.std.proofs.Common.{◌≡◌, ℕ, length, Result, Ok, Err, sym, ap, subst, ◌∙◌, arith}
use Rattle.std.proofs.lemmas.Result.{err_from_is_err_and}
use Rattle.store_base.specs.declared.fault.DiskFault.{DiskFault}
use Rattle.disk_model.specs.DiskCalls.{IsRead}
use Rattle.table_memory.specs.SlotCaches.{ReadsSlot}
use Rattle.table_memory.proofs.CacheLemmas.{slot_fetched, slot_failed, slot_read}
use Rattle.table_memory.proofs.slot_cache.read_slot.Goals as goal

pub returns-then-fetch : goal.returns-then-fetch
returns-then-fetch g c = record {
  call = slot_fetched c.args.slots c.args.at (g.D.Disk.state c.args.disk.now)
      c.args.cache.now (g.met.D.Disk.sound c.args.disk.now)
      c.requires.cached c.fetch.new.self c.fetch.new.into c.if-fetch.ensures.kept c.if-fetch.ensures.found;
}

pub returns-in_err-read_at : goal.returns-in_err-read_at
returns-in_err-read_at g c =
    let old = g.D.Disk.state c.args.disk.now in
    let new = g.D.Disk.state c.read_at.new.self in
    let fault = c.in_err-read_at.field-0.0 in
    let read = subst (λ (place : ℕ). IsRead {T = Unit {0}} {E = DiskFault} old new place c.read_at.new.into (Err fault))
    c.table_at.ensures.value c.in_err-read_at.ensures in
    let fails = err_from_is_err_and c.from_residual.result c.from_residual.ensures.1 in
    let ends = slot_failed c.args.slots c.args.at old c.args.cache.now (g.met.D.Disk.sound c.args.disk.now)
    c.requires.cached new c.fetch.new.self c.read_at.new.into c.if-fetch.ensures.kept fault read in
    record {
      call =
          subst (λ (r : Result (Unit {0}) DiskFault).
          ReadsSlot c.args.slots c.args.at old new c.fetch.new.self c.read_at.new.into r)
          (sym (fails.1 ∙ ap Err fails.2)) ends;
    }

pub returns : goal.returns
returns g c =
    let old = g.D.Disk.state c.args.disk.now in
    let new = g.D.Disk.state c.read_at.new.self in
    let buffer = c.read_at.new.into in
    let long : length buffer ≡ 4096 = omega (arith, c.read_at.auto.into, c.fetch.array_long) in
    let read = subst (λ (place : ℕ). IsRead {T = Unit {0}} {E = DiskFault} old new place buffer (Ok tt))
    c.table_at.ensures.value c.in_ok-read_at.ensures in
    record {
      call = slot_read c.args.slots c.args.at old c.args.cache.now (g.met.D.Disk.sound c.args.disk.now)
          c.requires.cached new c.fetch.new.self buffer
          c.if-fetch.ensures.kept c.keep.new.self c.requires.below long read c.keep.ensures;
    }
