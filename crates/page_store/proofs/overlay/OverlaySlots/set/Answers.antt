use Rattle.std.proofs.Common.{◌≡◌, ℕ, List, cond, Some, refl, subst}
use Rattle.std.proofs.lemmas.Result.{err_from_is_err_and}
use Rattle.std.specs.BTreeMap.{is_at}
use Rattle.gate_journal.specs.ViewState.{KeepsView-refl}
use Rattle.std.specs.Ordering.{nat_cmp}
use Rattle.table_memory.specs.OverlayState.{touched_at}
use Rattle.page_store.proofs.OverlayLemmas.{slots_set, set_refused}
use Rattle.page_store.proofs.overlay.OverlaySlots.set.Goals as goal

pub returns-clause-call : goal.returns-clause-call
returns-clause-call g c =
    let updated = λ (slot : List ℕ). (q : ℕ) → touched_at c.insert.new.self.entries q
    ≡ cond (is_at (nat_cmp c.args.at) q) (Some slot) (touched_at c.args.self.now.touched.entries q) in
    record {
      calls = record { count = refl; observable = refl; takes_none = refl; faults = refl; cause = tt };
      observed = λ observable. record {
        written = slots_set c.args.self.now.params.slots c.args.self.now.touched.entries c.insert.new.self.entries
            (g.D.Disk.state c.args.self.now.disk).bytes c.args.at c.args.slot.now c.requires
            (subst updated c.in_ok-kept.ensures c.in_ok-insert.ensures.updates.0);
        unchanged = tt;
      };
    }

pub returns-in_err-kept-clause-call : goal.returns-in_err-kept-clause-call
returns-in_err-kept-clause-call g c =
    let o = c.args.self.now in
    let p = err_from_is_err_and c.from_residual.result c.from_residual.ensures.1 in
    rw (p.1, p.2) (set_refused o.params.slots o.touched.entries o.touched.entries (g.D.Disk.state o.disk)
    c.args.at c.args.slot.now refl)

pub returns-in_err-kept-clause-follows : goal.returns-in_err-kept-clause-follows
returns-in_err-kept-clause-follows g c =
    KeepsView-refl c.args.self.now.params (g.D.Disk.state c.args.self.now.disk)
    (g.met.D.Disk.sound c.args.self.now.disk)

pub returns-in_err-insert-clause-follows : goal.returns-in_err-insert-clause-follows
returns-in_err-insert-clause-follows g c =
    KeepsView-refl c.args.self.now.params (g.D.Disk.state c.args.self.now.disk)
    (g.met.D.Disk.sound c.args.self.now.disk)

pub returns-clause-follows : goal.returns-clause-follows
returns-clause-follows g c = KeepsView-refl c.args.self.now.params (g.D.Disk.state c.args.self.now.disk)
    (g.met.D.Disk.sound c.args.self.now.disk)
