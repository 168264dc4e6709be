use Rattle.std.proofs.Common.{refl, sym}
use Rattle.host_folders.proofs.StepLemmas.{came_of_none}
use Rattle.host_folders.proofs.stream.FolderStream.new.Goals as goal

pub returns-clause-came : goal.returns-clause-came
returns-clause-came g c = came_of_none g.F.Folder.state _
    (sym c.of.ensures) refl refl c.new.ensures.version c.new.ensures.read
