use Rattle.std.proofs.Common.{◌≡◌, List, Some, subst, sym, ◌∙◌}
use Rattle.host_folders.specs.Memory.{bytes_at, link_bytes, is_link_at}
use Rattle.host_folders.specs.declared.memory.MemEntry.{MemEntry}
use Rattle.host_folders.proofs.MemoryLemmas.{passed_over, found_here}
use Rattle.host_folders.proofs.memory.MemFolder.place_of_link.Goals as goal

pub returns-then-is_link_at : goal.returns-then-is_link_at
returns-then-is_link_at c =
    let path = c.args.path.now in
    let place = c.loop-place.place in
    subst (λ (entries : List MemEntry). Some (bytes_at entries place) ≡ link_bytes entries path)
    c.deref-entry-items.ensures.value
    (found_here (is_link_at path) c.deref-entry-items.result.now place
    c.entry-item.result c.loop-place-test.true c.entry-item.is (sym c.is_link_at.ensures ∙ c.if-is_link_at.true)
    c.loop-place.invariant)

pub loop-place-preserved : goal.loop-place-preserved
loop-place-preserved c =
    sym (passed_over (is_link_at c.args.path.now) c.deref-entry-items.result.now c.loop-place.place c.entry-item.result
    c.loop-place-test.true c.entry-item.is (sym c.is_link_at.ensures ∙ c.if-is_link_at.false))
    ∙ c.loop-place.invariant
