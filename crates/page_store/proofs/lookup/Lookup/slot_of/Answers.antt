use Rattle.std.proofs.Common.{ap, ◌∙◌}
use Rattle.store_model.specs.Parameters.{Parameters}
use Rattle.page_store.specs.Overlays.{slots_seen}
use Rattle.table_memory.proofs.MemoLemmas.{memo_read}
use Rattle.page_store.proofs.IndexLemmas.{index_read}
use Rattle.page_store.proofs.lookup.Lookup.slot_of.Goals as goal

pub invariant_of-self : goal.invariant_of-self
invariant_of-self g c =
    let s = c.is_absent.new.self in
    let d = g.W.Draw.drawn s.finder.draw in
    let old = slots_seen g.D.Disk.state s.overlay in
    let new = slots_seen g.D.Disk.state c.locate.new.slots in
    record {
      drawn = rw c.locate.ensures.draw (ap (λ (p : Parameters). p.slots) c.locate.ensures.follows.params ∙ s.drawn);
      remembered =
          rw c.locate.ensures.draw (memo_read d old new
          s.memo c.locate.result c.locate.ensures.call.calls c.locate.ensures.call.reads s.remembered);
      indexed =
          rw c.locate.ensures.draw (index_read (g.W.Draw.digests s.finder.draw) old new
          s.index c.locate.result c.locate.ensures.call.calls c.locate.ensures.call.reads s.indexed);
    }
