use Rattle.page_store.proofs.StagedLemmas.{discarded}
use Rattle.page_store.proofs.staged.Staged.discard.Goals as goal

pub invariant_of-self : goal.invariant_of-self
invariant_of-self g c =
    discarded _ _ _ c.self.inside.lookup.overlay.touched.entries c.self.inside.changes.pages.entries
    c.clear.new.self.pages.entries c.self.inside.used c.self.inside.settled c.self.inside.is_spent
    c.self.invariant c.clear.ensures
