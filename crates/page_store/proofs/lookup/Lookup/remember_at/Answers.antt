use Rattle.std.proofs.Common.{Err, ap, ◌∙◌}
use Rattle.std.proofs.lemmas.Result.{err_from_is_err_and}
use Rattle.store_model.specs.Parameters.{Parameters}
use Rattle.page_store.specs.Overlays.{slots_seen}
use Rattle.table_memory.proofs.MemoLemmas.{memo_read}
use Rattle.page_store.proofs.LookupLemmas.{page_read, consults_get}
use Rattle.page_store.proofs.IndexLemmas.{index_read}
use Rattle.page_store.proofs.KnownLemmas.{memo_more}
use Rattle.page_store.proofs.lookup.Lookup.remember_at.Goals as goal

pub invariant_of-self-2 : goal.invariant_of-self-2
invariant_of-self-2 g c =
    let s = c.args.self.now in
    let d = g.W.Draw.drawn s.finder.draw in
    let old = slots_seen g.D.Disk.state s.overlay in
    let new = slots_seen g.D.Disk.state c.get.new.self in
    let read = page_read d old old new c.args.label.now c.args.at c.get.new.into c.decode_page.result c.requires
    c.in_ok-get.ensures.call c.decode_page.ensures.only in
    record {
      drawn = ap (λ (p : Parameters). p.slots) c.in_ok-get.ensures.follows.params ∙ s.drawn;
      remembered = memo_more d old new s.memo c.remember.new.self c.args.label.now _ read
          s.remembered c.remember.ensures;
      indexed = index_read (g.W.Draw.digests s.finder.draw) old new s.index c.get.result c.get.ensures.call.calls
          (λ observable. (c.get.ensures.call.observed observable).slots) s.indexed;
    }

pub returns-clause-call : goal.returns-clause-call
returns-clause-call g c = consults_get _ _ _ _ _ c.in_ok-get.ensures.call

pub returns-clause-follows : goal.returns-clause-follows
returns-clause-follows g c = c.in_ok-get.ensures.follows

pub returns-in_err-get-clause-call : goal.returns-in_err-get-clause-call
returns-in_err-get-clause-call g c =
    let p = err_from_is_err_and c.from_residual.result c.from_residual.ensures.1 in
    rw (p.1, p.2) (consults_get _ _ c.args.at c.get.new.into (Err c.in_err-get.field-0.0) c.in_err-get.ensures.call)

pub returns-in_err-get-clause-follows : goal.returns-in_err-get-clause-follows
returns-in_err-get-clause-follows g c = c.in_err-get.ensures.follows

pub invariant_of-self : goal.invariant_of-self
invariant_of-self g c =
    let s = c.args.self.now in
    let d = g.W.Draw.drawn s.finder.draw in
    let old = slots_seen g.D.Disk.state s.overlay in
    let new = slots_seen g.D.Disk.state c.get.new.self in
    record {
      drawn = ap (λ (p : Parameters). p.slots) c.in_err-get.ensures.follows.params ∙ s.drawn;
      remembered = memo_read d old new s.memo c.get.result c.get.ensures.call.calls
          (λ observable. (c.get.ensures.call.observed observable).slots) s.remembered;
      indexed = index_read (g.W.Draw.digests s.finder.draw) old new s.index c.get.result c.get.ensures.call.calls
          (λ observable. (c.get.ensures.call.observed observable).slots) s.indexed;
    }
