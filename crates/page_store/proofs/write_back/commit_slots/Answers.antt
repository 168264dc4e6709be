use Rattle.std.proofs.Common.{◌≡◌, length, ◌∙◌}
use Rattle.store_model.specs.Parameters.{image_len}
use Rattle.disk_model.specs.DiskState.{IsObservable}
use Rattle.table_memory.specs.SlotCaches.{changes_of}
use Rattle.table_memory.proofs.CacheLemmas.{cache_committed, cache_empty}
use Rattle.page_store.proofs.UpgradeLemmas.{committed_table}
use Rattle.page_store.proofs.write_back.commit_slots.Goals as goal

pub returns-in-Ok : goal.returns-in-Ok
returns-in-Ok g c =
    let old = g.D.Disk.state c.args.disk.now in
    let new = g.D.Disk.state c.commit_as.new.disk in
    let slots = c.args.params.now.slots in
    let changes = changes_of c.args.changed.slots.items in
    let calls = c.in-Ok.ensures.calls in
    let long : IsObservable old → length old.bytes ≡ image_len slots =
    λ observable. (g.met.D.Disk.sound c.args.disk.now observable).size ∙ c.requires.size in
    record {
      call = record {
        calls = calls;
        observed = c.in-Ok.ensures.observed;
        none = c.commit_as.ensures.none;
        cached = cache_committed slots old new calls.observable c.args.cache.now c.requires.cached changes
            c.requires.changes long
            (λ observable. committed_table slots changes c.requires.changes old.bytes (long observable)
            c.args.kind new.bytes (c.in-Ok.ensures.observed observable).commits.done)
            c.rewrite_all.new.self c.rewrite_all.ensures;
      };
    }

pub returns-in-Err : goal.returns-in-Err
returns-in-Err g c = record {
  call = record {
    calls = c.in-Err.ensures.calls;
    observed = c.in-Err.ensures.observed;
    none = c.commit_as.ensures.none;
    cached = cache_empty c.args.params.now.slots (g.D.Disk.state c.commit_as.new.disk) c.clear.new.self c.clear.ensures;
  };
}
