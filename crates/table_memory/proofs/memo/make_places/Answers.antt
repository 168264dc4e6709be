use Rattle.table_memory.proofs.MemoLemmas.{place_more}
use Rattle.table_memory.proofs.memo.make_places.Goals as goal

pub loop-place-preserved : goal.loop-place-preserved
loop-place-preserved c =
    place_more c.args.places.now.items c.loop-place.places.items c.push.new.self.items c.loop-place._place
    c.loop-place.invariant c.in_ok-push.ensures.items
