use Rattle.std.proofs.Common.{sym, ap, subst, ◌∙◌}
use Rattle.std.specs.List.Sorted.{IsPermutation}
use Rattle.dump_streams.specs.Dumps.{dump}
use Rattle.store_stream.specs.Parts.{parts_at}
use Rattle.store_stream.specs.PartsStreams.{PartsOf, IsWholeParts, PartsEndBy}
use Rattle.store_stream.proofs.PartTrees.{parts_permuted}
use Rattle.store_core.specs.StoreState.{StoreState}
use Rattle.image_reads.specs.StoreReads.{IsOnlyRead}
use Rattle.image_reads.proofs.Unchanged.{parts_told}
use Rattle.image_reads.proofs.ReadParts.{parts_are}
use Rattle.image_reads.proofs.Readings.{only_read, by_fault}
use Rattle.image_extract.proofs.Building.{built_so, unmade_so, parts_front_is}
use Rattle.image_extract.proofs.Lookups.{reads_none}
use Rattle.image_extract.proofs.making.make_parts.Goals as goal

pub returns-in_default-clause-read : goal.returns-in_default-clause-read
returns-in_default-clause-read g c =
    let disk_of = g.R.Disk.state in
    let store = c.args.store in
    subst (λ (s : StoreState _). IsOnlyRead (disk_of store.disk) (disk_of s.disk)) (sym c.nothing.ensures.store)
    (reads_none disk_of store (λ seen. g.met.R.Disk.sound store.disk seen))

pub returns-clause-read : goal.returns-clause-read
returns-clause-read g c =
    let old = c.new-stream.result in
    let new = c.build-builder.new.stream in
    let reads = c.build-builder.ensures.keeps old c.new-stream.ensures.keeps in
    only_read g.R.Disk.state old.stream new.stream reads.store c.new-stream.ensures.fault c.args.store
    c.into_store.result c.new-stream.ensures.store c.into_store.ensures c.requires.runs

pub returns-clause-makes : goal.returns-clause-makes
returns-clause-makes g c =
    let disk_of = g.R.Disk.state in
    let state = g.B.Builder.state in
    let old = c.new-stream.result in
    let new = c.build-builder.new.stream in
    let made = c.build-builder.result in
    let store = c.args.store in
    let paths = c.args.paths.now in
    let sorted = c.sort_unstable.new.self.items in
    built_so (PartsOf disk_of) (IsWholeParts disk_of) (PartsEndBy disk_of) new (λ t. parts_at t paths) c.args.wanted
    (disk_of store.disk) store.tree (state c.args.builder) (state made.builder) made.stays c.fault.result
    (λ u whole tree seen.
    let are = parts_are disk_of old new (c.build-builder.ensures.keeps old c.new-stream.ensures.keeps) store sorted
    c.new-stream.ensures.store (c.new-stream.ensures.paths ∙ c.deref.ensures.value) u whole tree seen in
    let moved = subst (λ ps. IsPermutation ps sorted) c.in-Ok.ensures.items c.sort_unstable.ensures.permutation in
    (are.0 ∙ sym (parts_permuted store.tree paths sorted moved), are.1))
    made.done c.built-done.result (c.build-builder.ensures.makes c.new-stream.ensures.came) c.built-done.ensures

pub returns-clause-unmade : goal.returns-clause-unmade
returns-clause-unmade g c =
    let disk_of = g.R.Disk.state in
    let state = g.B.Builder.state in
    let old = c.new-stream.result in
    let new = c.build-builder.new.stream in
    let made = c.build-builder.result in
    let store = c.args.store in
    let after = c.into_store.result in
    let reads = c.build-builder.ensures.keeps old c.new-stream.ensures.keeps in
    let paths = c.args.paths.now in
    let sorted = c.sort_unstable.new.self.items in
    unmade_so (PartsOf disk_of) (IsWholeParts disk_of) (PartsEndBy disk_of) new (λ t. parts_at t paths) c.args.wanted
    (disk_of store.disk) (disk_of after.disk) store.tree (state c.args.builder) (state made.builder) made.stays
    c.fault.result
    (λ u came seen.
    let front = parts_front_is disk_of old new reads store sorted c.new-stream.ensures.store
    (c.new-stream.ensures.paths ∙ c.deref.ensures.value) u came seen in
    let moved = subst (λ ps. IsPermutation ps sorted) c.in-Ok.ensures.items c.sort_unstable.ensures.permutation in
    (front.0, ap dump (parts_permuted store.tree paths sorted moved) ∙ front.1))
    (λ cause front.
    by_fault disk_of old.stream new.stream reads.store c.new-stream.ensures.fault store after
    c.new-stream.ensures.store c.into_store.ensures c.requires.runs c.fault.result c.fault.ensures
    (parts_told disk_of new front.tree cause front.why))
    made.done c.built-done.result (c.build-builder.ensures.makes c.new-stream.ensures.came) c.built-done.ensures
