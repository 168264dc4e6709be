use Rattle.std.proofs.Common.{ap, subst, ◌∙◌}
use Rattle.script_lines.specs.SinkState as sinks
use Rattle.script_lines.specs.SinkState.{PutsBytes}
use Rattle.disk_model.specs.DiskState as disks
use Rattle.store_core.specs.StoreState.{StoreState}
use Rattle.dump_streams.specs.GatheredLines.{lines_state}
use Rattle.listing_subcommands.specs.Dumping.{KeepsStore}
use Rattle.listing_subcommands.proofs.DumpEnds.{dump_works}
use Rattle.listing_subcommands.proofs.GatheredDumps.{sink_kept, sink_puts}
use Rattle.dump_streams.specs.Dumps.{dump_text}
use Rattle.listing_subcommands.proofs.dump.DumpWorkStoreWork.work.Goals as goal

pub put_dump-requires : goal.put_dump-requires
put_dump-requires g c = record {
  came = c.new-stream.ensures.came;
  runs = ap (λ (s : StoreState _). s.is_stopped) c.new-stream.ensures.store ∙ c.requires.runs;
}

pub returns : goal.returns
returns g c =
    let disk_of = g.D.Disk.state in
    let sink_of = g.W.Sink.state in
    let store = c.args.store in
    let new = c.put_dump.new.stream.store in
    let lines = c.args.self.lines in
    let none = c.args.self.none in
    let sink = lines.gathered.sink in
    let did = c.put_dump.ensures in
    let left = c.into_sink.ensures in
    let result = c.put_dump.result in
    let last = c.put_dump.new.lines in
    let kept = subst (λ (s : StoreState g.row.D.Denot). KeepsStore disk_of s new (lines_state sink_of lines)
    (lines_state sink_of last) result) c.new-stream.ensures.store did.kept in
    let puts = subst (λ (s : StoreState g.row.D.Denot). disks.IsObservable (disk_of s.disk)
    → sinks.IsObservable (lines_state sink_of lines)
    → PutsBytes (lines_state sink_of lines) (lines_state sink_of last) (dump_text s.tree) result)
    c.new-stream.ensures.store did.puts in
    rw (c.done_of_work.ensures, c.ended_status-status.ensures, c.into_disk.ensures, c.into_store.ensures)
    (dump_works disk_of sink_of store new (c.args.self.source, sink) c.into_sink.result result
    (sink_kept disk_of sink_of store new lines last sink c.into_sink.result result none
    did.same left.grew kept)
    g.R.Source.state c.requires
    (λ o. sink_puts disk_of sink_of store new lines last sink c.into_sink.result result none
    did.same left.grew (dump_text store.tree) left.front left.sink did.flushed (puts o)))
