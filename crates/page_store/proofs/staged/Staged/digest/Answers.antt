use Rattle.std.proofs.Common.{refl, ◌∙◌}
use Rattle.table_memory.proofs.CacheLemmas.{cache_read}
use Rattle.page_store.proofs.OverlayLemmas.{view_read}
use Rattle.page_store.proofs.StagedCalls.{view_follows}
use Rattle.page_store.proofs.StagedLemmas.{read_below, staged_later, memo_later, index_later}
use Rattle.page_store.proofs.staged.Staged.digest.Goals as goal

pub invariant_of-self : goal.invariant_of-self
invariant_of-self g c =
    let s = c.self.inside in
    staged_later _ s.lookup.overlay.params s.lookup.overlay.params (g.D.Disk.state s.lookup.overlay.disk)
    (g.D.Disk.state c.digest.new.disk) s.lookup.overlay.touched.entries s.lookup.overlay.touched.entries
    s.changes.pages.entries s.used s.settled s.is_spent c.self.invariant
    (read_below s.lookup.overlay.params (g.D.Disk.state s.lookup.overlay.disk)
    (g.D.Disk.state c.digest.new.disk) s.lookup.overlay.touched.entries c.digest.ensures.calls.observable
    c.digest.ensures.reads)

pub invariant_of-self-inside : goal.invariant_of-self-inside
invariant_of-self-inside g c =
    let s = c.self.inside in
    let overlay = s.lookup.overlay in
    let old = g.D.Disk.state overlay.disk in
    let new = g.D.Disk.state c.digest.new.disk in
    let cached = cache_read overlay.params.slots old new
    c.digest.ensures.calls.observable overlay.cache overlay.cached c.digest.ensures.reads overlay.cache (λ i. refl)
    in
    let remembered = memo_later (g.W.Draw.drawn s.lookup.finder.draw) overlay.params overlay.params old new
    overlay.touched.entries overlay.touched.entries s.lookup.memo
    (read_below overlay.params old new overlay.touched.entries c.digest.ensures.calls.observable
    c.digest.ensures.reads) s.lookup.remembered in
    let indexed = index_later (g.W.Draw.digests s.lookup.finder.draw) overlay.params overlay.params old new
    overlay.touched.entries overlay.touched.entries s.lookup.index
    (read_below overlay.params old new overlay.touched.entries c.digest.ensures.calls.observable
    c.digest.ensures.reads) s.lookup.indexed in (
      (c.digest.ensures.calls.size ∙ overlay.sized, (overlay.within, (overlay.filled, (cached, tt)))),
      (s.lookup.drawn, (remembered, (indexed, tt))),
    )

pub returns-clause-follows : goal.returns-clause-follows
returns-clause-follows g c =
    let s = c.self.inside in
    let state = g.D.Disk.state in
    let view = view_read s.lookup.overlay.params (state s.lookup.overlay.disk)
    (state c.digest.new.disk) c.digest.result c.digest.ensures.calls c.digest.ensures.reads in
    view_follows state s.lookup.finder.draw s.lookup.overlay.params s.lookup.overlay.params s.lookup.overlay.disk
    c.digest.new.disk s.changes.pages.entries s.changes.pages.entries s.lookup.memo s.lookup.memo s.lookups
    s.lookups s.is_spent _ c.self.view_is view
