use Rattle.std.proofs.lemmas.Result.{err_from_is_err_and}
use Rattle.dump_streams.specs.Gathered.{gathered_state}
use Rattle.dump_streams.proofs.GatherSteps.{put_none_fails}
use Rattle.dump_streams.proofs.gather.GatheredSinkSink.put.Goals as goal

pub returns-in_err-make_room-clause-put : goal.returns-in_err-make_room-clause-put
returns-in_err-make_room-clause-put g c =
    let fault = err_from_is_err_and c.from_residual.result c.from_residual.ensures.1 in
    rw (fault.1, fault.2) (put_none_fails (gathered_state g.W.Sink.state c.args.self.now)
    (gathered_state g.W.Sink.state c.make_room.new.self)
    c.args.bytes.now c.in_err-make_room.field-0.0 c.in_err-make_room.ensures.put)
