use Rattle.std.proofs.Common.{[], ◌∷◌, ◌∙◌}
use Rattle.store_stream.specs.PartsStreams.{PartsOf, IsWholeParts, PartsEndBy}
use Rattle.image_reads.specs.Lists.{done_of, standing_in}
use Rattle.image_reads.proofs.Unchanged.{parts_told}
use Rattle.image_reads.proofs.Readings.{left}
use Rattle.image_reads.proofs.ReadParts.{parts_are}
use Rattle.image_reads.proofs.ListedParts.{lists, stopped_by}
use Rattle.image_reads.proofs.ls.list_store.Goals as goal

pub returns-clause-leaves : goal.returns-clause-leaves
returns-clause-leaves g c =
    let disk_of = g.R.Disk.state in
    let st = g.W.Sink.state in
    let old = c.new-stream.result in
    let new = c.write_entries-sink.new.stream in
    let listed = c.write_entries-sink.result.1 in
    let reads = c.write_entries-sink.ensures.keeps old c.new-stream.ensures.keeps in
    left disk_of old.stream new.stream reads.store c.new-stream.ensures.fault c.args.store c.into_store.result
    c.new-stream.ensures.store c.into_store.ensures c.requires.runs (done_of listed) c.fault.result
    (standing_in listed) _ c.fault.ensures
    (λ cause is.
    let front = stopped_by (PartsOf disk_of) (IsWholeParts disk_of) (PartsEndBy disk_of) new c.args.form c.args.path.now
    (st c.args.sink) (st c.write_entries-sink.result.0) listed cause is
    (c.write_entries-sink.ensures.lists c.new-stream.ensures.came) in parts_told disk_of new front.tree cause front.why)
    c.found_by-found.ensures

pub returns-clause-lists : goal.returns-clause-lists
returns-clause-lists g c =
    let disk_of = g.R.Disk.state in
    let st = g.W.Sink.state in
    let old = c.new-stream.result in
    let new = c.write_entries-sink.new.stream in
    let path = c.args.path.now in
    lists (PartsOf disk_of) (IsWholeParts disk_of) (PartsEndBy disk_of) new c.args.form path
    (disk_of c.args.store.disk) c.args.store.tree (st c.args.sink) (st c.write_entries-sink.result.0)
    c.write_entries-sink.result.1 c.fault.result _ (c.write_entries-sink.ensures.lists c.new-stream.ensures.came)
    (parts_are disk_of old new (c.write_entries-sink.ensures.keeps old c.new-stream.ensures.keeps) c.args.store
    (path ∷ []) c.new-stream.ensures.store (c.new-stream.ensures.paths ∙ c.from_ref.ensures.value))
    c.found_by-found.ensures
