use Rattle.std.proofs.Common.{◌∙◌, arith}
use Rattle.disk_model.proofs.Crashes.{IsObservable-call}
use Rattle.gate_journal.proofs.Faults.{IsCall-fault}
use Rattle.gate_journal.proofs.Areas.{marks_end, shadow_end, table_end}
use Rattle.gate_journal.proofs.Formatting.{formats_failed, reads_rest, leaves_rest, formats, reads_first}
use Rattle.gate_journal.proofs.Formatting.{leaves_first}
use Rattle.gate_journal.proofs.format.write_image.Goals as goal

pub write_byte-requires : goal.write_byte-requires
write_byte-requires g c =
    omega (
      arith,
      c.requires.size,
      c.write_rest.ensures.call.size,
      table_end c.args.params.now.slots,
      shadow_end c.args.params.now.slots,
      marks_end c.args.params.now.slots,
    )

pub returns-in_err-write_rest-clause-formats : goal.returns-in_err-write_rest-clause-formats
returns-in_err-write_rest-clause-formats g c observable =
    formats_failed c.args.params.now (g.D.Disk.state c.write_rest.new.disk)
    c.from_residual.result c.from_residual.ensures.0

pub returns-in_err-write_rest-clause-reads : goal.returns-in_err-write_rest-clause-reads
returns-in_err-write_rest-clause-reads g c observable =
    reads_rest c.args.params.now c.requires.valid (g.D.Disk.state c.args.disk.now) (c.requires.no_image observable)
    (g.D.Disk.state c.write_rest.new.disk) (c.write_rest.ensures.reaches observable).keeps

pub returns-in_err-write_rest-clause-crash : goal.returns-in_err-write_rest-clause-crash
returns-in_err-write_rest-clause-crash g c observable durable =
    leaves_rest c.args.params.now c.requires.valid (g.D.Disk.state c.args.disk.now) (c.requires.no_image observable)
    (g.D.Disk.state c.write_rest.new.disk) durable (c.write_rest.ensures.reaches observable).keeps

pub returns-clause-formats : goal.returns-clause-formats
returns-clause-formats g c observable =
    let old = g.D.Disk.state c.args.disk.now in
    let mid = g.D.Disk.state c.write_rest.new.disk in
    let new = g.D.Disk.state c.write_byte.new.disk in
    let observable_1 = IsObservable-call old mid _ c.write_rest.ensures.call observable in
    let long = (g.met.D.Disk.sound c.write_rest.new.disk observable_1).size
    ∙ c.write_rest.ensures.call.size ∙ c.requires.size in
    formats c.args.params.now c.requires.valid old (c.requires.no_image observable) mid new c.write_byte.result long
    (c.in_ok-write_rest.ensures.reaches observable).done (c.write_byte.ensures.reaches observable_1)
    (c.write_byte.ensures.durable observable_1)

pub returns-clause-reads : goal.returns-clause-reads
returns-clause-reads g c observable =
    let old = g.D.Disk.state c.args.disk.now in
    let mid = g.D.Disk.state c.write_rest.new.disk in
    let new = g.D.Disk.state c.write_byte.new.disk in
    let observable_1 = IsObservable-call old mid _ c.write_rest.ensures.call observable in
    let long = (g.met.D.Disk.sound c.write_rest.new.disk observable_1).size
    ∙ c.write_rest.ensures.call.size ∙ c.requires.size in
    reads_first c.args.params.now c.requires.valid old
    (c.requires.no_image observable) mid new c.write_byte.result long
    (c.in_ok-write_rest.ensures.reaches observable).done (c.write_byte.ensures.reaches observable_1)

pub returns-clause-crash : goal.returns-clause-crash
returns-clause-crash g c observable durable =
    let old = g.D.Disk.state c.args.disk.now in
    let mid = g.D.Disk.state c.write_rest.new.disk in
    let new = g.D.Disk.state c.write_byte.new.disk in
    let observable_1 = IsObservable-call old mid _ c.write_rest.ensures.call observable in
    let long = (g.met.D.Disk.sound c.write_rest.new.disk observable_1).size
    ∙ c.write_rest.ensures.call.size ∙ c.requires.size in
    let rest = c.in_ok-write_rest.ensures.reaches observable in
    leaves_first c.args.params.now c.requires.valid old
    (c.requires.no_image observable) mid new c.write_byte.result long
    rest.done (c.write_byte.ensures.reaches observable_1) durable
    rest.keeps (c.in_ok-write_rest.ensures.durable observable)

pub returns-in_err-write_rest-clause-call : goal.returns-in_err-write_rest-clause-call
returns-in_err-write_rest-clause-call g c =
    IsCall-fault _ _ _ c.from_residual.result c.from_residual.ensures.0 c.in_err-write_rest.ensures.call
