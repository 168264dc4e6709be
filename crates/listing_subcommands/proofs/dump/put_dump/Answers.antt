use Rattle.std.proofs.Common.{◌∙◌, Err}
use Rattle.dump_streams.specs.Dumps.{dump, dump_text, step_line}
use Rattle.dump_streams.specs.GatheredLines.{lines_state}
use Rattle.dump_streams.proofs.TakenLines.{gathered_none}
use Rattle.store_stream.proofs.PullLemmas.{reads_none}
use Rattle.listing_subcommands.proofs.DumpStores.{keeps_behind, keeps_line, none_behind}
use Rattle.listing_subcommands.proofs.LineLemmas.{line_kept, text_puts, told_flushed}
use Rattle.listing_subcommands.proofs.DrainedDumps.{read_kept, fault_kept, whole_written, ended_puts, broken_puts}
use Rattle.listing_subcommands.proofs.dump.put_dump.Goals as goal

pub returns-in-Ok-clause-kept : goal.returns-in-Ok-clause-kept
returns-in-Ok-clause-kept g c =
    let disk_of = g.D.Disk.state in
    let sink_of = g.W.Sink.state in
    let old = c.args.stream.now in
    let new = c.drain.new.stream in
    let mid = c.drain.new.taker in
    let going = c.requires.came.going in
    let reads = c.drain.ensures.keeps old (reads_none disk_of old (g.met.D.Disk.sound old.store.disk) going) in
    let all = c.in-Ok.ensures.drains c.requires.came (gathered_none sink_of c.args.lines.now) in
    let kept = read_kept disk_of sink_of old new c.args.lines.now mid (dump all.tree) all.took_is reads going
    c.requires.runs all.whole_is.going in
    rw c.gathered_so.ensures
    (keeps_behind disk_of old.store new.store new.store (lines_state sink_of c.args.lines.now)
    (lines_state sink_of mid) (lines_state sink_of c.flush.new.self) (tt {0}) _ kept
    (keeps_line disk_of new.store (lines_state sink_of mid) (lines_state sink_of c.flush.new.self) _
    (g.met.D.Disk.sound new.store.disk) kept.runs
    (line_kept sink_of mid c.flush.new.self _ c.flush.result c.flush.ensures.put)))

pub returns-in-Ok-clause-same : goal.returns-in-Ok-clause-same
returns-in-Ok-clause-same g c =
    let all = c.in-Ok.ensures.drains c.requires.came (gathered_none g.W.Sink.state c.args.lines.now) in
    c.flush.ensures.same ∙ all.took_is.same

pub returns-in-Ok-clause-puts : goal.returns-in-Ok-clause-puts
returns-in-Ok-clause-puts g c =
    let disk_of = g.D.Disk.state in
    let sink_of = g.W.Sink.state in
    let old = c.args.stream.now in
    let new = c.drain.new.stream in
    let mid = c.drain.new.taker in
    let going = c.requires.came.going in
    let reads = c.drain.ensures.keeps old (reads_none disk_of old (g.met.D.Disk.sound old.store.disk) going) in
    let all = c.in-Ok.ensures.drains c.requires.came (gathered_none sink_of c.args.lines.now) in
    rw c.gathered_so.ensures (λ o told. none_behind (lines_state sink_of c.args.lines.now)
    (lines_state sink_of mid) (lines_state sink_of c.flush.new.self)
    (dump_text old.store.tree) _
    (whole_written disk_of sink_of old new c.args.lines.now mid all.tree all.took_is reads o told all.whole_is)
    (text_puts sink_of mid c.flush.new.self _ c.flush.result c.flush.ensures.put
    (all.took_is.appends.observable ∙ told)))

pub returns-in-Ok-clause-flushed : goal.returns-in-Ok-clause-flushed
returns-in-Ok-clause-flushed g c =
    rw c.gathered_so.ensures (told_flushed c.flush.result _ c.flush.ensures.flushed)

pub returns-in-Err-Taker-clause-kept : goal.returns-in-Err-Taker-clause-kept
returns-in-Err-Taker-clause-kept g c =
    let disk_of = g.D.Disk.state in
    let sink_of = g.W.Sink.state in
    let old = c.args.stream.now in
    let new = c.drain.new.stream in
    let mid = c.drain.new.taker in
    let going = c.requires.came.going in
    let reads = c.drain.ensures.keeps old (reads_none disk_of old (g.met.D.Disk.sound old.store.disk) going) in
    let drains = rw c.in-Err-Taker.field-0-is at c.in-Err-Taker.ensures.drains in
    let stop = drains c.requires.came (gathered_none sink_of c.args.lines.now) in
    let kept = read_kept disk_of sink_of old new c.args.lines.now stop.before (dump stop.tree) stop.took_is reads going
    c.requires.runs stop.came_is.going in
    rw c.gathered_so-in-Err-Taker.ensures
    (keeps_behind disk_of old.store new.store new.store (lines_state sink_of c.args.lines.now)
    (lines_state sink_of stop.before) (lines_state sink_of mid) (tt {0}) _ kept
    (keeps_line disk_of new.store (lines_state sink_of stop.before) (lines_state sink_of mid) _
    (g.met.D.Disk.sound new.store.disk) kept.runs
    (line_kept sink_of stop.before mid (step_line stop.step) (Err c.in-Err-Taker.fault) stop.broke_is.line)))

pub returns-in-Err-Taker-clause-same : goal.returns-in-Err-Taker-clause-same
returns-in-Err-Taker-clause-same g c =
    let drains = rw c.in-Err-Taker.field-0-is at c.in-Err-Taker.ensures.drains in
    let stop = drains c.requires.came (gathered_none g.W.Sink.state c.args.lines.now) in
    stop.broke_is.same ∙ stop.took_is.same

pub returns-in-Err-Taker-clause-puts : goal.returns-in-Err-Taker-clause-puts
returns-in-Err-Taker-clause-puts g c =
    let disk_of = g.D.Disk.state in
    let sink_of = g.W.Sink.state in
    let old = c.args.stream.now in
    let new = c.drain.new.stream in
    let mid = c.drain.new.taker in
    let going = c.requires.came.going in
    let reads = c.drain.ensures.keeps old (reads_none disk_of old (g.met.D.Disk.sound old.store.disk) going) in
    let drains = rw c.in-Err-Taker.field-0-is at c.in-Err-Taker.ensures.drains in
    let stop = drains c.requires.came (gathered_none sink_of c.args.lines.now) in
    rw c.gathered_so-in-Err-Taker.ensures (λ o told. broken_puts disk_of sink_of old new c.args.lines.now stop.before
    stop.tree stop.took_is reads o told mid stop.step c.in-Err-Taker.fault stop.extends stop.came_is stop.broke_is)

pub returns-in-Err-Taker-clause-flushed : goal.returns-in-Err-Taker-clause-flushed
returns-in-Err-Taker-clause-flushed g c =
    rw c.gathered_so-in-Err-Taker.ensures (told_flushed (Err c.in-Err-Taker.fault) _ tt)

pub returns-in-Err-Stream-clause-kept : goal.returns-in-Err-Stream-clause-kept
returns-in-Err-Stream-clause-kept g c =
    let disk_of = g.D.Disk.state in
    let sink_of = g.W.Sink.state in
    let old = c.args.stream.now in
    let new = c.drain.new.stream in
    let going = c.requires.came.going in
    let reads = c.drain.ensures.keeps old (reads_none disk_of old (g.met.D.Disk.sound old.store.disk) going) in
    let drains = rw c.in-Err-Stream.field-0-is at c.in-Err-Stream.ensures.drains in
    let front = drains c.requires.came (gathered_none sink_of c.args.lines.now) in
    rw (c.read_so.ensures, c.fault.ensures)
    (fault_kept disk_of sink_of old new c.args.lines.now c.drain.new.taker (dump front.tree) front.took_is reads going
    c.requires.runs)

pub returns-in-Err-Stream-clause-same : goal.returns-in-Err-Stream-clause-same
returns-in-Err-Stream-clause-same g c =
    let drains = rw c.in-Err-Stream.field-0-is at c.in-Err-Stream.ensures.drains in
    (drains c.requires.came (gathered_none g.W.Sink.state c.args.lines.now)).took_is.same

pub returns-in-Err-Stream-clause-puts : goal.returns-in-Err-Stream-clause-puts
returns-in-Err-Stream-clause-puts g c o told =
    let disk_of = g.D.Disk.state in
    let sink_of = g.W.Sink.state in
    let old = c.args.stream.now in
    let new = c.drain.new.stream in
    let going = c.requires.came.going in
    let reads = c.drain.ensures.keeps old (reads_none disk_of old (g.met.D.Disk.sound old.store.disk) going) in
    let drains = rw c.in-Err-Stream.field-0-is at c.in-Err-Stream.ensures.drains in
    let front = drains c.requires.came (gathered_none sink_of c.args.lines.now) in
    ended_puts disk_of sink_of old new c.args.lines.now c.drain.new.taker front.tree front.took_is reads o told
    _ c.read_so.result front.why
