use Rattle.std.proofs.Common.{◌∷◌, []}
use Rattle.dump_streams.specs.Dumps.DumpStep.{Make}
use Rattle.box_calls.proofs.Counting.{counts_built}
use Rattle.box_calls.proofs.counted.CountedBuilderBuilder.make_folder.Goals as goal

pub returns : goal.returns
returns g c =
    let st = g.B.Builder.state in
    counts_built (st c.args.self.now.builder) (st c.make_folder-done.new.self) c.args.self.now.counts.left_out
    c.add_folder.new.self.left_out
    c.add_folder.ensures (Make c.args.path.now ∷ []) c.make_folder-done.result c.make_folder-done.ensures
