use Rattle.std.proofs.Common.{arith}
use Rattle.dump_streams.proofs.DrainSteps.{next_failed}
use Rattle.host_folders.specs.Packed.{CameOf, IsPacked, EndsBy}
use Rattle.host_folders.proofs.StepLemmas.{came_whole, next_whole}
use Rattle.host_folders.proofs.stream.FolderStream.begin.Goals as goal

pub returns-then-self-len-clause-next : goal.returns-then-self-len-clause-next
returns-then-self-len-clause-next g c =
    let state = g.F.Folder.state in
    let stream = c.args.self.now in
    next_whole (CameOf state stream) (CameOf state stream) (IsPacked state stream) (EndsBy state stream)
    c.args.into.now (λ t was. came_whole state stream t c.requires (omega arith) was)

pub returns-in_err-begin_folder-in-Folder-clause-next : goal.returns-in_err-begin_folder-in-Folder-clause-next
returns-in_err-begin_folder-in-Folder-clause-next g c =
    next_failed _ _ _ (EndsBy g.F.Folder.state c.begin_folder.new.self) _
    c.from_residual.result c.in_err-begin_folder-in-Folder.field-0.0 c.from_residual.ensures.1
    c.in_err-begin_folder-in-Folder.ensures.failed

pub returns-in_err-begin_file-in-File-clause-next : goal.returns-in_err-begin_file-in-File-clause-next
returns-in_err-begin_file-in-File-clause-next g c =
    next_failed _ _ _ (EndsBy g.F.Folder.state c.begin_file.new.self) _
    c.from_residual-in_err-begin_file-in-File.result c.in_err-begin_file-in-File.field-0.0
    c.from_residual-in_err-begin_file-in-File.ensures.1 c.in_err-begin_file-in-File.ensures.failed

pub returns-in_err-begin_link-in-Link-clause-next : goal.returns-in_err-begin_link-in-Link-clause-next
returns-in_err-begin_link-in-Link-clause-next g c =
    next_failed _ _ _ (EndsBy g.F.Folder.state c.begin_link.new.self) _
    c.from_residual-in_err-begin_link-in-Link.result c.in_err-begin_link-in-Link.field-0.0
    c.from_residual-in_err-begin_link-in-Link.ensures.1 c.in_err-begin_link-in-Link.ensures.failed
