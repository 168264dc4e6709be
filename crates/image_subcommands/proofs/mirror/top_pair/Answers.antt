use Rattle.std.proofs.Common.{ℕ, sym, subst}
use Rattle.image_subcommands.specs.MirrorCall.{IsMirror, pair_of}
use Rattle.image_subcommands.proofs.MirrorLemmas.{mirror_ends}
use Rattle.image_subcommands.proofs.mirror.top_pair.Goals as goal

pub returns : goal.returns
returns g c =
    let before = pair_of c.args.from c.args.to c.args.sink in
    let ends = mirror_ends g.A.Disk.state g.B.Disk.state g.W.Sink.state before
    c.mirror-from.result.0 c.mirror-from.result.1 c.mirror-from.result.2 c.print_mirror-status.new.sink
    c.print_mirror-status.result c.mirror-from.ensures c.print_mirror-status.ensures in
    subst (λ (n : ℕ). IsMirror g.A.Disk.state g.B.Disk.state g.W.Sink.state before
    (record {
      status = c.print_mirror-status.result;
      done = n;
      from = c.mirror-from.result.0;
      to = c.mirror-from.result.1;
      sink = c.print_mirror-status.new.sink;
    }))
    (sym c.done_of_mirror.ensures) ends
