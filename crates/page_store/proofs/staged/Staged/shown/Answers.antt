use Rattle.std.proofs.Common.{◌≡◌, option_copied, subst, ◌∙◌}
use Rattle.store_model.specs.PageMaps.{page_at}
use Rattle.page_store.specs.PageImages.{pages_in_table}
use Rattle.page_store.specs.StagedState.{StagedState, IsTold}
use Rattle.page_store.proofs.KnownLemmas.{known_read}
use Rattle.page_store.proofs.StagedLemmas.{held_over}
use Rattle.page_store.proofs.staged.Staged.shown.Goals as goal

pub returns-in-Some-clause-found : goal.returns-in-Some-clause-found
returns-in-Some-clause-found g c =
    let s = c.self.inside in
    let state = g.D.Disk.state in
    let d = g.W.Draw.drawn s.lookup.finder.draw in
    let p = s.lookup.overlay.params in
    let label = c.args.label.now in
    let read = known_read d _ s.changes.pages.entries s.lookup.memo label
    c.in-Some.page.now s.lookup.remembered c.in-Some.ensures.found in
    subst (λ (x : StagedState g.row.D.Denot g.row.W.Denot). IsTold state x
    → option_copied c.behind.result ≡ page_at x.map label) c.self.view_is
    (λ told. c.behind.ensures ∙ read.found (pages_in_table p.slots (state s.lookup.overlay.disk).bytes)
    told.disk (held_over d p (state s.lookup.overlay.disk)
    s.lookup.overlay.touched.entries s.changes.pages.entries s.used s.settled s.is_spent
    c.self.invariant told.disk told.runs))
