use Rattle.image_create.specs.declared.fault.CreateFault.TheVariants as creates
use Rattle.image_create.specs.Creates.{IsUnmade}
use Rattle.image_create.proofs.Making.{made_by, unmade_by, unmade_stop}
use Rattle.image_create.proofs.Steps.{err_so}
use Rattle.image_create.proofs.Writers.{none_yet}
use Rattle.image_create.proofs.creating.write_stream.Goals as goal

pub returns-in_err-writer-clause-unmade : goal.returns-in_err-writer-clause-unmade
returns-in_err-writer-clause-unmade g c =
    let state = g.F.Folder.state in
    let stream = c.args.stream.now in
    let disk = g.D.Disk.state c.args.disk.now in
    err_so c.from_residual.result creates.NoMemory
    (IsUnmade c.args.plan.params c.args.plan.is_laddered stream.found.items (state stream.first.value)
    (state stream.folder) disk disk)
    c.from_residual.ensures.1 (record {
      cause = (c.requires.came).faults;
      none = none_yet disk (g.met.D.Disk.sound c.args.disk.now);
    })

pub returns-in_err-last-clause-unmade : goal.returns-in_err-last-clause-unmade
returns-in_err-last-clause-unmade g c =
    let state = g.F.Folder.state in
    let old = c.args.stream.now in
    let new = c.lead.new.stream in
    let disk = g.D.Disk.state c.args.disk.now in
    let disk' = g.D.Disk.state c.lead.new.disk in
    let p = c.args.plan.params in
    let fault = c.in_err-last.field-0.0 in
    err_so c.from_residual-in_err-last.result fault
    (IsUnmade p c.args.plan.is_laddered old.found.items (state old.first.value) (state new.folder) disk disk')
    c.from_residual-in_err-last.ensures.1
    (unmade_stop state old new c.lead.ensures.same p c.args.plan.is_laddered disk disk' fault
    (c.in_err-last.ensures.stopped p c.args.disk.now c.requires.version c.in_ok-writer.ensures)
    (c.in_err-last.ensures.none p c.args.disk.now c.requires.version c.in_ok-writer.ensures))

pub finish-requires : goal.finish-requires
finish-requires g c =
    let led = c.in_ok-last.ensures.led c.args.plan.params c.args.disk.now c.requires.version c.in_ok-writer.ensures in
    (c.args.plan.params, c.args.disk.now, led.tree, led.writes)

pub returns-clause-makes : goal.returns-clause-makes
returns-clause-makes g c =
    let p = c.args.plan.params in
    let led = c.in_ok-last.ensures.led p c.args.disk.now c.requires.version c.in_ok-writer.ensures in
    made_by g.F.Folder.state c.args.stream.now c.lead.new.stream c.in_ok-last.ensures.same p c.args.plan.is_laddered
    (g.D.Disk.state c.args.disk.now) (g.D.Disk.state c.finish.new.disk) c.slots.result c.slots.ensures.value led.tree
    led.packed c.wanted_slots-wanted.result c.wanted_slots-wanted.ensures c.finish.result
    (c.finish.ensures.ends p c.args.disk.now led.tree led.writes led.last_is)
    c.slots.ensures.valid

pub returns-clause-unmade : goal.returns-clause-unmade
returns-clause-unmade g c =
    let p = c.args.plan.params in
    let led = c.in_ok-last.ensures.led p c.args.disk.now c.requires.version c.in_ok-writer.ensures in
    unmade_by g.F.Folder.state c.args.stream.now c.lead.new.stream c.in_ok-last.ensures.same p c.args.plan.is_laddered
    (g.D.Disk.state c.args.disk.now) (g.D.Disk.state c.finish.new.disk) c.slots.result c.slots.ensures.value led.tree
    led.packed c.wanted_slots-wanted.result c.wanted_slots-wanted.ensures c.finish.result
    (c.finish.ensures.ends p c.args.disk.now led.tree led.writes led.last_is)
