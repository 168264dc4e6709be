use Rattle.std.proofs.Common.{ap, subst}
use Rattle.image_check.specs.declared.fault.AttachFault.TheVariants as faults
use Rattle.dump_streams.specs.Gathered.{Gathered}
use Rattle.image_subcommands.specs.Outside.{KeepsOutside, outside_of}
use Rattle.image_work.proofs.OpeningEnds.{nothing_opened}
use Rattle.image_work.proofs.WorkEnds.{works_unopened}
use Rattle.listing_subcommands.specs.DumpCall.{IsDump}
use Rattle.listing_subcommands.proofs.DumpEnds.{dump_unopened}
use Rattle.listing_subcommands.proofs.dump.dump_image.Goals as goal

pub returns-in-Err-clause-dump : goal.returns-in-Err-clause-dump
returns-in-Err-clause-dump g c =
    let disk_of = g.D.Disk.state in
    let nothing = nothing_opened (disk_of c.args.disk) (g.met.D.Disk.sound c.args.disk) in
    rw (c.idle.ensures, c.in-Err.ensures.err)
    (works_unopened disk_of _ _ _ (c.args.source, c.args.sink) c.args.disk faults.NoMemory c.args.disk nothing
    (dump_unopened disk_of g.W.Sink.state (c.args.source, c.args.sink) c.args.disk faults.NoMemory c.args.disk
    nothing))

pub returns-clause-dump : goal.returns-clause-dump
returns-clause-dump g c =
    subst (λ sink. IsDump g.D.Disk.state g.W.Sink.state (outside_of c.args.disk c.args.source sink) c.open_for.result)
    (ap (λ (gathered : Gathered g.row.W.Denot). gathered.sink) c.in-Ok.ensures.ok) c.open_for.ensures.works

pub returns-clause-outside : goal.returns-clause-outside
returns-clause-outside g c =
    subst (λ sink. KeepsOutside c.open_for.result.status (g.D.Disk.state c.args.disk)
    (g.D.Disk.state c.open_for.result.disk) (g.R.Source.state c.args.source)
    (g.R.Source.state c.open_for.result.source) (g.W.Sink.state sink) (g.W.Sink.state c.open_for.result.sink))
    (ap (λ (gathered : Gathered g.row.W.Denot). gathered.sink) c.in-Ok.ensures.ok) c.open_for.ensures.outside
