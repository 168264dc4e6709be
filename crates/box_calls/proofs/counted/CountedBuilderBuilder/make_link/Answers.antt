use Rattle.std.proofs.Common.{◌∷◌, []}
use Rattle.dump_streams.specs.Dumps.DumpStep.{Set}
use Rattle.host_builder.specs.HostAttributes.{link_name}
use Rattle.box_calls.proofs.Counting.{counts_carried}
use Rattle.box_calls.proofs.counted.CountedBuilderBuilder.make_link.Goals as goal

pub returns : goal.returns
returns g c =
    let st = g.B.Builder.state in
    counts_carried (st c.args.self.now.builder) (st c.make_link-done.new.self) c.args.self.now.counts.left_out
    c.add_link.new.self.left_out
    c.add_link.ensures (Set c.args.path.now link_name c.args.target.now ∷ []) c.make_link-done.result
    c.make_link-done.ensures
