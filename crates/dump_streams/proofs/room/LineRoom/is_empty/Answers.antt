use Rattle.std.proofs.Common.{ap, arith}
use Rattle.dump_streams.specs.Rooms.{Room}
use Rattle.dump_streams.proofs.RoomSteps.{none_left}
use Rattle.dump_streams.proofs.room.LineRoom.is_empty.Goals as goal

pub returns : goal.returns
returns c = none_left c.self.inside.start c.len.result c.self.inside.bytes.items c.args.self.now.rest
    (omega (arith, c.len.ensures, c.self.inside.bytes.ok.0)) (omega (arith, c.len.ensures, c.self.invariant))
    (ap (λ (r : Room). r.rest) c.self.view_is)
