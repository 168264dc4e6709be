use Rattle.gate_journal.specs.ViewState.{KeepsView-refl}
use Rattle.page_store.proofs.SettleLemmas.{read_since}
use Rattle.page_store.proofs.SlotSettles.{are_settled, durable_before, empty_before, slots_failed, slots_failed_staged}
use Rattle.page_store.proofs.SlotSettles.{slots_done, slots_done_staged}
use Rattle.page_store.proofs.staged.Staged.settle_slots.Goals as goal

pub commit_anew-requires-clause-changes : goal.commit_anew-requires-clause-changes
commit_anew-requires-clause-changes g c =
    let s = c.self.inside in
    let state = g.D.Disk.state in
    let at = read_since state g.W.Draw.drawn s.lookup.finder.draw s.lookup.overlay.disk s.lookup.overlay.disk
    g.met.D.Disk.sound s.lookup.overlay.sized c.self.invariant c.self.view_is c.requires.runs
    (KeepsView-refl s.lookup.overlay.params (state s.lookup.overlay.disk)
    (g.met.D.Disk.sound s.lookup.overlay.disk)) in
    let over = are_settled state g.W.Draw.drawn s.lookup.finder.draw s.lookup.overlay.disk
    (g.S.SlotChanges.changes c.args.changes.now) c.args.pages at
    (g.met.W.Draw.lawful s.lookup.finder.draw) c.requires.none_staged c.requires.changes c.requires.table in
    over.are

pub commit_anew-requires-clause-durable : goal.commit_anew-requires-clause-durable
commit_anew-requires-clause-durable g c =
    let s = c.self.inside in
    let state = g.D.Disk.state in
    let at = read_since state g.W.Draw.drawn s.lookup.finder.draw s.lookup.overlay.disk s.lookup.overlay.disk
    g.met.D.Disk.sound s.lookup.overlay.sized c.self.invariant c.self.view_is c.requires.runs
    (KeepsView-refl s.lookup.overlay.params (state s.lookup.overlay.disk)
    (g.met.D.Disk.sound s.lookup.overlay.disk)) in
    let over = are_settled state g.W.Draw.drawn s.lookup.finder.draw s.lookup.overlay.disk
    (g.S.SlotChanges.changes c.args.changes.now) c.args.pages at
    (g.met.W.Draw.lawful s.lookup.finder.draw) c.requires.none_staged c.requires.changes c.requires.table in
    durable_before over

pub commit_anew-requires-clause-empty : goal.commit_anew-requires-clause-empty
commit_anew-requires-clause-empty g c =
    let s = c.self.inside in
    let state = g.D.Disk.state in
    let at = read_since state g.W.Draw.drawn s.lookup.finder.draw s.lookup.overlay.disk s.lookup.overlay.disk
    g.met.D.Disk.sound s.lookup.overlay.sized c.self.invariant c.self.view_is c.requires.runs
    (KeepsView-refl s.lookup.overlay.params (state s.lookup.overlay.disk)
    (g.met.D.Disk.sound s.lookup.overlay.disk)) in
    let over = are_settled state g.W.Draw.drawn s.lookup.finder.draw s.lookup.overlay.disk
    (g.S.SlotChanges.changes c.args.changes.now) c.args.pages at
    (g.met.W.Draw.lawful s.lookup.finder.draw) c.requires.none_staged c.requires.changes c.requires.table in
    empty_before over

pub invariant_of-self : goal.invariant_of-self
invariant_of-self g c =
    let s = c.self.inside in
    let state = g.D.Disk.state in
    let at = read_since state g.W.Draw.drawn s.lookup.finder.draw s.lookup.overlay.disk s.lookup.overlay.disk
    g.met.D.Disk.sound s.lookup.overlay.sized c.self.invariant c.self.view_is c.requires.runs
    (KeepsView-refl s.lookup.overlay.params (state s.lookup.overlay.disk)
    (g.met.D.Disk.sound s.lookup.overlay.disk)) in
    let over = are_settled state g.W.Draw.drawn s.lookup.finder.draw s.lookup.overlay.disk
    (g.S.SlotChanges.changes c.args.changes.now) c.args.pages at
    (g.met.W.Draw.lawful s.lookup.finder.draw) c.requires.none_staged c.requires.changes c.requires.table in
    slots_done_staged over c.commit_anew.new.disk c.in-Ok.field-0 (record {
      calls = c.in-Ok.ensures.calls;
      observed = c.in-Ok.ensures.observed;
      none = λ plain. c.in-Ok.ensures.none;
      cached = c.in-Ok.ensures.cached;
    })
    c.empty.new.map.entries c.empty.ensures

pub returns-in-Ok : goal.returns-in-Ok
returns-in-Ok g c =
    let s = c.self.inside in
    let state = g.D.Disk.state in
    let at = read_since state g.W.Draw.drawn s.lookup.finder.draw s.lookup.overlay.disk s.lookup.overlay.disk
    g.met.D.Disk.sound s.lookup.overlay.sized c.self.invariant c.self.view_is c.requires.runs
    (KeepsView-refl s.lookup.overlay.params (state s.lookup.overlay.disk)
    (g.met.D.Disk.sound s.lookup.overlay.disk)) in
    let over = are_settled state g.W.Draw.drawn s.lookup.finder.draw s.lookup.overlay.disk
    (g.S.SlotChanges.changes c.args.changes.now) c.args.pages at
    (g.met.W.Draw.lawful s.lookup.finder.draw) c.requires.none_staged c.requires.changes c.requires.table in
    record {
      call = slots_done over c.commit_anew.new.disk c.in-Ok.field-0 (record {
        calls = c.in-Ok.ensures.calls;
        observed = c.in-Ok.ensures.observed;
        none = λ plain. c.in-Ok.ensures.none;
        cached = c.in-Ok.ensures.cached;
      })
          c.clear.new.self;
    }

pub invariant_of-self-in-Err : goal.invariant_of-self-in-Err
invariant_of-self-in-Err g c =
    let s = c.self.inside in
    let state = g.D.Disk.state in
    let at = read_since state g.W.Draw.drawn s.lookup.finder.draw s.lookup.overlay.disk s.lookup.overlay.disk
    g.met.D.Disk.sound s.lookup.overlay.sized c.self.invariant c.self.view_is c.requires.runs
    (KeepsView-refl s.lookup.overlay.params (state s.lookup.overlay.disk)
    (g.met.D.Disk.sound s.lookup.overlay.disk)) in
    let over = are_settled state g.W.Draw.drawn s.lookup.finder.draw s.lookup.overlay.disk
    (g.S.SlotChanges.changes c.args.changes.now) c.args.pages at
    (g.met.W.Draw.lawful s.lookup.finder.draw) c.requires.none_staged c.requires.changes c.requires.table in
    slots_failed_staged over c.commit_anew.new.disk c.empty.new.map.entries

pub returns-in-Err : goal.returns-in-Err
returns-in-Err g c =
    let s = c.self.inside in
    let state = g.D.Disk.state in
    let at = read_since state g.W.Draw.drawn s.lookup.finder.draw s.lookup.overlay.disk s.lookup.overlay.disk
    g.met.D.Disk.sound s.lookup.overlay.sized c.self.invariant c.self.view_is c.requires.runs
    (KeepsView-refl s.lookup.overlay.params (state s.lookup.overlay.disk)
    (g.met.D.Disk.sound s.lookup.overlay.disk)) in
    let over = are_settled state g.W.Draw.drawn s.lookup.finder.draw s.lookup.overlay.disk
    (g.S.SlotChanges.changes c.args.changes.now) c.args.pages at
    (g.met.W.Draw.lawful s.lookup.finder.draw) c.requires.none_staged c.requires.changes c.requires.table in
    record {
      call = slots_failed over c.commit_anew.new.disk c.in-Err.fault c.clear.new.self (record {
        calls = c.in-Err.ensures.calls;
        observed = c.in-Err.ensures.observed;
        none = λ plain. c.in-Err.ensures.none;
        cached = c.in-Err.ensures.cached;
      });
    }
