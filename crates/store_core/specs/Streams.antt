-- What a store does that is handed a stream of changes.
use Rattle.std.specs.Prelude.{List, Bool, Result}
use Rattle.disk_model.specs.DiskState.{DiskState}
use Rattle.image_check.specs.declared.fault.ApplyFault.{ApplyFault}
use Rattle.staged_tree.specs.declared.group.GroupAnswer.{GroupAnswer}
use Rattle.staged_tree.specs.ChangeStreams.{CameFor}
use Rattle.staged_tree.specs.Guards.{Guarded}
use Rattle.staged_tree.specs.Roomy.{streamed_tree, IsStreamAnswer}
use Rattle.store_core.specs.StoreCalls.{StepsStore}
use Rattle.store_core.specs.StoreState.{StoreState}

-- A store carries out the changes of a stream as they come, all together, or none of them: these came, all that the
-- stream has or the first ones.
pub record AppliesStream {D F : Type 0} (came all : List Guarded → Type 0) (failed_by : List Guarded → F → Type 0)
    (state : D → DiskState) (old new : StoreState D) (result : Result (Result GroupAnswer F) ApplyFault) : Type 0 where
  pub changes : List Guarded
  pub is_whole : Bool
  pub came_for : CameFor came all failed_by is_whole changes result
  pub store : StepsStore state (streamed_tree old.params old.tree is_whole changes)
      (IsStreamAnswer old.params old.tree is_whole changes) old new result
