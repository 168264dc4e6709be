use Rattle.store_stream.specs.PartsStreams.{PartsOf, IsWholeParts, PartsEndBy}
use Rattle.std.proofs.Common.{[], ◌∷◌, ◌∙◌, subst, MatchResult}
use Rattle.dump_streams.specs.Draining.{TakesWhole, StopsBy}
use Rattle.image_reads.specs.FileTakers.{TookFile, BreaksFile}
use Rattle.image_reads.proofs.Unchanged.{parts_told}
use Rattle.image_reads.proofs.Readings.{left}
use Rattle.image_reads.proofs.ReadParts.{parts_are, put}
use Rattle.image_reads.proofs.CutOff.{front_came, front_ended}
use Rattle.image_reads.proofs.store.put_file.Goals as goal

pub returns-clause-leaves : goal.returns-clause-leaves
returns-clause-leaves g c =
    let disk_of = g.R.Disk.state in
    let sink_of = g.W.Sink.state in
    let old = c.new-stream.result in
    let new = c.drain-drained.new.stream in
    let reads = c.drain-drained.ensures.keeps old c.new-stream.ensures.keeps in
    left (g.R.Disk.state) old.stream (c.drain-drained.new.stream).stream reads.store c.new-stream.ensures.fault
    c.args.store c.into_store.result c.new-stream.ensures.store c.into_store.ensures c.requires.runs
    c.drain-drained.result c.fault.result c.found.result _ c.fault.ensures
    (λ cause is.
    let front = subst (λ e. MatchResult e
    (λ done. TakesWhole (PartsOf disk_of) (IsWholeParts disk_of) (PartsEndBy disk_of) (TookFile sink_of)
    (BreaksFile sink_of) new c.new-taker.result c.drain-drained.new.taker)
    (StopsBy (PartsOf disk_of) (IsWholeParts disk_of) (PartsEndBy disk_of) (TookFile sink_of)
    (BreaksFile sink_of) new c.new-taker.result c.drain-drained.new.taker)) is
    (c.drain-drained.ensures.drains c.new-stream.ensures.came c.new-taker.ensures.none) in
    parts_told disk_of new front.tree cause front.why)
    c.ended-found.ensures

pub returns-clause-puts : goal.returns-clause-puts
returns-clause-puts g c =
    let disk_of = g.R.Disk.state in
    let old = c.new-stream.result in
    let new = c.drain-drained.new.stream in
    let path = c.args.path.now in
    put (g.W.Sink.state) (PartsOf disk_of) (IsWholeParts disk_of) (PartsEndBy disk_of) new c.new-taker.result
    c.drain-drained.new.taker path (disk_of c.args.store.disk) c.args.store.tree c.args.sink c.into_sink.result
    c.new-taker.ensures.sink c.into_sink.ensures c.new-taker.ensures.contents_path c.new-taker.ensures.standing
    c.new-taker.ensures.path c.new-taker.ensures.is_empty c.new-taker.ensures.target
    (parts_are disk_of old new (c.drain-drained.ensures.keeps old c.new-stream.ensures.keeps) c.args.store
    (path ∷ []) c.new-stream.ensures.store (c.new-stream.ensures.paths ∙ c.from_ref.ensures.value))
    (front_came disk_of old new (c.drain-drained.ensures.keeps old c.new-stream.ensures.keeps) c.args.store
    (path ∷ []) c.new-stream.ensures.store (c.new-stream.ensures.paths ∙ c.from_ref.ensures.value))
    (front_ended disk_of old new (c.drain-drained.ensures.keeps old c.new-stream.ensures.keeps) c.args.store
    (path ∷ []) c.new-stream.ensures.store (c.new-stream.ensures.paths ∙ c.from_ref.ensures.value))
    c.drain-drained.result c.fault.result c.found.result _
    (c.drain-drained.ensures.drains c.new-stream.ensures.came c.new-taker.ensures.none)
    c.found.ensures c.ended-found.ensures
