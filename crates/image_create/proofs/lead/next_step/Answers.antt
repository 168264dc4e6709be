use Rattle.std.proofs.Common.{Bool, Result, refl, sym, subst}
use Rattle.std.specs.Prelude.{IfErr}
use Rattle.dump_streams.specs.declared.fault.StreamFault.{StreamFault}
use Rattle.host_folders.specs.Packed.{EndsBy}
use Rattle.image_create.specs.Leading.{IsStopped}
use Rattle.image_create.proofs.Causes.{stream_stops}
use Rattle.image_create.proofs.lead.next_step.Goals as goal

pub returns-in-Ok-clause-same : goal.returns-in-Ok-clause-same
returns-in-Ok-clause-same g c = c.next.ensures.keeps c.args.stream.now (record { first = refl; found = refl })

pub returns-in-Err-clause-same : goal.returns-in-Err-clause-same
returns-in-Err-clause-same g c = c.next.ensures.keeps c.args.stream.now (record { first = refl; found = refl })

pub returns-in-Err-clause-stopped : goal.returns-in-Err-clause-stopped
returns-in-Err-clause-stopped g c t p came =
    let state = g.F.Folder.state in
    let stream = c.next.new.self in
    let ends : EndsBy state stream t c.in-Err.cause =
    subst (λ (r : Result Bool StreamFault). IfErr r (EndsBy state stream t)) c.in-Err.is
    (c.next.ensures.next.failed t came) in
    subst (IsStopped state p stream) (sym c.stream_fault.ensures)
    (stream_stops state stream p t c.in-Err.cause c.path.result c.path.ensures ends)
