use Rattle.store_stream.specs.StoreStreams.{CameOf, IsWhole, EndsBy}
use Rattle.image_reads.proofs.Unchanged.{all_told}
use Rattle.image_reads.proofs.Readings.{only_read, by_fault}
use Rattle.image_extract.proofs.Building.{built_so, unmade_so, all_is, all_front_is}
use Rattle.image_extract.proofs.making.make_all.Goals as goal

pub returns-clause-read : goal.returns-clause-read
returns-clause-read g c =
    let old = c.new-stream.result in
    let new = c.build-builder.new.stream in
    only_read g.R.Disk.state old new (c.build-builder.ensures.keeps old c.new-stream.ensures.keeps)
    c.new-stream.ensures.fault c.args.store c.into_store.result c.new-stream.ensures.store c.into_store.ensures
    c.requires.runs

pub returns-clause-makes : goal.returns-clause-makes
returns-clause-makes g c =
    let disk_of = g.R.Disk.state in
    let state = g.B.Builder.state in
    let old = c.new-stream.result in
    let new = c.build-builder.new.stream in
    let made = c.build-builder.result in
    let store = c.args.store in
    built_so (CameOf disk_of) (IsWhole disk_of) (EndsBy disk_of) new (λ t. t) c.args.wanted (disk_of store.disk)
    store.tree (state c.args.builder) (state made.builder) made.stays c.fault.result
    (all_is disk_of old new (c.build-builder.ensures.keeps old c.new-stream.ensures.keeps) store
    c.new-stream.ensures.store)
    made.done c.built-done.result (c.build-builder.ensures.makes c.new-stream.ensures.came) c.built-done.ensures

pub returns-clause-unmade : goal.returns-clause-unmade
returns-clause-unmade g c =
    let disk_of = g.R.Disk.state in
    let state = g.B.Builder.state in
    let old = c.new-stream.result in
    let new = c.build-builder.new.stream in
    let made = c.build-builder.result in
    let store = c.args.store in
    let after = c.into_store.result in
    unmade_so (CameOf disk_of) (IsWhole disk_of) (EndsBy disk_of) new (λ t. t) c.args.wanted (disk_of store.disk)
    (disk_of after.disk) store.tree (state c.args.builder) (state made.builder) made.stays c.fault.result
    (all_front_is disk_of old new (c.build-builder.ensures.keeps old c.new-stream.ensures.keeps) store
    c.new-stream.ensures.store)
    (λ cause front.
    by_fault disk_of old new (c.build-builder.ensures.keeps old c.new-stream.ensures.keeps) c.new-stream.ensures.fault
    store after c.new-stream.ensures.store c.into_store.ensures c.requires.runs c.fault.result c.fault.ensures
    (all_told disk_of new front.tree cause front.why))
    made.done c.built-done.result (c.build-builder.ensures.makes c.new-stream.ensures.came) c.built-done.ensures
