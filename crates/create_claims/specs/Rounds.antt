-- What the host has again of a folder of which an image was made.
use Rattle.std.specs.Prelude.{List}
use Rattle.store_model.specs.Trees.{Tree}
use Rattle.host_builder.specs.Builders.{BuilderState}
use Rattle.host_builder.specs.declared.attribute.Wanted.{Wanted}
use Rattle.host_folders.specs.FolderState.{FolderState}
use Rattle.host_folders.specs.declared.found.Found.{Found}
use Rattle.image_create.specs.Creates.{TellsTree}
use Rattle.image_extract.specs.Extracts.{IsMadeOf}

-- The folder told a tree, and the builder got just this tree, as far as it is wanted and the host can have it.
pub record GivesAgain (wanted : Wanted) (found : List Found) (folder folder' : FolderState)
    (builder builder' : BuilderState) : Type 0 where
  pub tree : Tree
  pub told : TellsTree folder folder' found tree
  pub made : IsMadeOf wanted builder builder' tree
