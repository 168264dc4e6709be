use Rattle.std.proofs.Common.{refl}
use Rattle.host_builder.proofs.ViewedStream.{view_none}
use Rattle.host_builder.proofs.viewed.HostViewStream.new.Goals as goal

pub returns-clause-came : goal.returns-clause-came
returns-clause-came g c came_is =
    view_none g.S.DumpStream.came g.S.DumpStream.whole g.S.DumpStream.fails _ refl refl refl came_is
