use Rattle.page_store.specs.Overlays.{slots_seen}
use Rattle.page_store.proofs.IndexLemmas.{not_noted}
use Rattle.page_store.proofs.lookup.Lookup.is_absent.Goals as goal

pub returns-in_default-noted-clause-absent : goal.returns-in_default-noted-clause-absent
returns-in_default-noted-clause-absent g c =
    let s = c.args.self.now in
    λ yes. not_noted (g.W.Draw.drawn s.finder.draw) (g.W.Draw.digests s.finder.draw)
    (slots_seen g.D.Disk.state s.overlay) c.in-Some.index.entries c.args.label.now
    (g.met.W.Draw.lawful s.finder.draw) c.noted.ensures.valid (s.indexed.of c.in-Some.index c.in-Some.is)
    (c.noted.ensures.nothing c.in_default-noted.is)
