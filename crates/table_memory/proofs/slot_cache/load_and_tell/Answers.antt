use Rattle.std.proofs.Common.{ℕ, List, Result, Ok, Err, refl, sym, ap, subst, ◌∙◌}
use Rattle.std.proofs.lemmas.Result.{err_from_is_err_and}
use Rattle.store_base.specs.declared.fault.DiskFault.{DiskFault}
use Rattle.disk_model.specs.DiskCalls.{IsRead}
use Rattle.table_memory.specs.SlotCaches.{IsSlotCacheOf, TellsOfSlot}
use Rattle.table_memory.proofs.CacheLemmas.{slot_failed, slot_read, told_by_read, told_nothing}
use Rattle.table_memory.proofs.slot_cache.load_and_tell.Goals as goal

pub read_and_tell-requires-clause-cached : goal.read_and_tell-requires-clause-cached
read_and_tell-requires-clause-cached g c = λ i slot is. c.requires.cached i slot (c.give_up.ensures i slot is)

pub returns : goal.returns
returns g c =
    let old = g.D.Disk.state c.args.disk.now in
    let new = g.D.Disk.state c.read.new.disk in
    let buffer = c.read.new.self in
    let mid = c.give_up.new.self in
    let cached : IsSlotCacheOf c.args.slots old mid =
    λ i slot is. c.requires.cached i slot (c.give_up.ensures i slot is) in
    let is = subst (λ (place : ℕ). IsRead {T = Unit {0}} {E = DiskFault} old new place buffer (Ok tt))
    c.table_at.ensures.value c.in_ok-read.ensures.call in
    let read = slot_read c.args.slots c.args.at old mid (g.met.D.Disk.sound c.args.disk.now) cached new mid buffer
    (λ i. refl) c.keep_box.new.self c.requires.below c.read.ensures.long is c.keep_box.ensures in
    let told = subst (λ (bytes : List ℕ). g.T.Told.of bytes c.args.wanted.now c.tell-told.result)
    c.get.ensures c.tell-told.ensures in
    record {
      call = told_by_read c.args.slots c.args.at old new c.keep_box.new.self buffer
          (λ slot told. g.T.Told.of slot c.args.wanted.now told) c.tell-told.result read told;
    }

pub returns-in_err-read : goal.returns-in_err-read
returns-in_err-read g c =
    let old = g.D.Disk.state c.args.disk.now in
    let new = g.D.Disk.state c.read.new.disk in
    let buffer = c.read.new.self in
    let mid = c.give_up.new.self in
    let fault = c.in_err-read.field-0.0 in
    let cached : IsSlotCacheOf c.args.slots old mid =
    λ i slot is. c.requires.cached i slot (c.give_up.ensures i slot is) in
    let is = subst (λ (place : ℕ). IsRead {T = Unit {0}} {E = DiskFault} old new place buffer (Err fault))
    c.table_at.ensures.value c.in_err-read.ensures.call in
    let read = slot_failed c.args.slots c.args.at old mid (g.met.D.Disk.sound c.args.disk.now) cached new mid buffer
    (λ i. refl) fault is in
    let untold = told_nothing {T = g.row.T.Denot} c.args.slots c.args.at old new mid buffer
    (λ slot told. g.T.Told.of slot c.args.wanted.now told) fault read in
    let fails = err_from_is_err_and c.from_residual.result c.from_residual.ensures.1 in
    record {
      call =
          subst (λ (r : Result g.row.T.Denot DiskFault).
          TellsOfSlot c.args.slots c.args.at old new mid (λ slot told. g.T.Told.of slot c.args.wanted.now told) r)
          (sym (fails.1 ∙ ap Err fails.2)) untold;
    }
