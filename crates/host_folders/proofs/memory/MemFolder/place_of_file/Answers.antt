use Rattle.std.proofs.Common.{◌≡◌, List, Some, subst, sym, ◌∙◌}
use Rattle.host_folders.specs.Memory.{bytes_at, file_bytes, is_file_at}
use Rattle.host_folders.specs.declared.memory.MemEntry.{MemEntry}
use Rattle.host_folders.proofs.MemoryLemmas.{passed_over, found_here}
use Rattle.host_folders.proofs.memory.MemFolder.place_of_file.Goals as goal

pub returns-then-is_file_at : goal.returns-then-is_file_at
returns-then-is_file_at c =
    let path = c.args.path.now in
    let place = c.loop-place.place in
    subst (λ (entries : List MemEntry). Some (bytes_at entries place) ≡ file_bytes entries path)
    c.deref-entry-items.ensures.value
    (found_here (is_file_at path) c.deref-entry-items.result.now place
    c.entry-item.result c.loop-place-test.true c.entry-item.is (sym c.is_file_at.ensures ∙ c.if-is_file_at.true)
    c.loop-place.invariant)

pub loop-place-preserved : goal.loop-place-preserved
loop-place-preserved c =
    sym (passed_over (is_file_at c.args.path.now) c.deref-entry-items.result.now c.loop-place.place c.entry-item.result
    c.loop-place-test.true c.entry-item.is (sym c.is_file_at.ensures ∙ c.if-is_file_at.false))
    ∙ c.loop-place.invariant
