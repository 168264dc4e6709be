use Rattle.std.proofs.Common.{ap, ◌∙◌}
use Rattle.store_model.specs.Parameters.{Parameters}
use Rattle.page_store.specs.Overlays.{slots_seen}
use Rattle.table_memory.proofs.MemoLemmas.{memo_read}
use Rattle.page_store.proofs.IndexLemmas.{index_some, after_true}
use Rattle.page_store.proofs.lookup.Lookup.make_index.Goals as goal

pub invariant_of-self-then-branch : goal.invariant_of-self-then-branch
invariant_of-self-then-branch g c =
    let s = c.args.self.now in
    let d = g.W.Draw.drawn s.finder.draw in
    let old = slots_seen g.D.Disk.state s.overlay in
    let new = slots_seen g.D.Disk.state c.note_slots.new.slots in
    record {
      drawn = ap (λ (p : Parameters). p.slots) c.note_slots.ensures.follows.params ∙ s.drawn;
      remembered = memo_read d old new s.memo c.note_slots.result c.note_slots.ensures.call.calls
          c.note_slots.ensures.call.reads s.remembered;
      indexed = index_some _ new c.note_slots.new.index
          (after_true c.in_ok-note_slots.field-0 c.in_ok-note_slots.ensures.index c.if-branch.true);
    }
