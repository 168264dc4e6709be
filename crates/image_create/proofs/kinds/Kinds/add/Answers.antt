use Rattle.std.proofs.Common.{◌+◌, ◌-◌, ◌^◌, min, ap, ◌∙◌}
use Rattle.image_create.proofs.KindLemmas.{file_more, folder_more, link_more}
use Rattle.image_create.proofs.kinds.Kinds.add.Goals as goal

pub returns-in-Folder : goal.returns-in-Folder
returns-in-Folder c = λ found entry kind were. folder_more found entry _ _ _ _ _ (kind ∙ c.in-Folder.is)
    c.saturating_add-self.ensures were

pub returns-in-File : goal.returns-in-File
returns-in-File c = λ found entry kind were. file_more found entry _ _ _ _ _ c.in-File.len _ (kind ∙ c.in-File.is)
    c.saturating_add-self-in-File.ensures
    (c.saturating_add-self-in-File-2.ensures ∙ ap (λ n. min (c.args.self.now.bytes + n) (2 ^ 64 - 1)) c.from.ensures)
    were

pub returns-in-Link : goal.returns-in-Link
returns-in-Link c = λ found entry kind were. link_more found entry _ _ _ _ _ (kind ∙ c.in-Link.is)
    c.saturating_add-self-in-Link.ensures were
