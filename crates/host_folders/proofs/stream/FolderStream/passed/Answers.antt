use Rattle.host_folders.proofs.StepLemmas.{came_length}
use Rattle.host_folders.proofs.stream.FolderStream.passed.Goals as goal

pub returns : goal.returns
returns g c = came_length g.F.Folder.state c.args.self.now
