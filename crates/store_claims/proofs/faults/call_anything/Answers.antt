use Rattle.image_subcommands.specs.Outside.{outside_of}
use Rattle.store_claims.proofs.RequestLemmas.{is_done}
use Rattle.store_claims.proofs.faults.call_anything.Goals as goal

pub returns : goal.returns
returns g c request is can none = is_done g.D.Disk.state g.R.Source.state g.W.Sink.state
    (outside_of c.args.disk c.args.source c.args.sink) c.top.result none request (c.top.ensures.performs request is) can
