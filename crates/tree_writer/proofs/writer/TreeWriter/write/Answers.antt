use Rattle.dump_streams.specs.Dumps.DumpStep.{Write}
use Rattle.tree_writer.proofs.TakenSteps.{ended_step}
use Rattle.tree_writer.proofs.writer.TreeWriter.write.Goals as goal

pub returns-in_err-end_file : goal.returns-in_err-end_file
returns-in_err-end_file g c =
    ended_step g.D.Disk.state (Write c.args.path.now c.args.at c.args.bytes.now) c.args.told c.args.disk.now
    c.args.self.now c.args.self.now c.in_err-end_file.field-0.0 c.from_residual.result c.from_residual.ensures.1
    c.in_err-end_file.ensures.err

pub returns : goal.returns
returns g c = c.write_more.ensures c.args.told
