-- What is told of the order of a table.
use Rattle.std.specs.Prelude.{ℕ, ◌≤◌, Option, Result, IfOk, IfSome}
use Rattle.store_model.specs.Draws.{Draw}
use Rattle.store_base.specs.declared.store_fault.Fault.{Fault}
use Rattle.store_base.specs.SlotsState.{SlotsState, IsObservable}
use Rattle.table_walk.specs.OrderCalls.{Checks}
use Rattle.table_walk.specs.IndexLookups.{ReadsOnly}

-- how many pages the slots hold that are a table in order with pages of levels below the height, and none exactly where
-- they are not
pub record FindsOrder (d : Draw) (height : ℕ) (old new : SlotsState) (result : Result (Option ℕ) Fault) : Type 0 where
  pub reads : ReadsOnly old new result
  pub within : IfOk result (λ found. IfSome found (λ used. used ≤ old.count))
  pub found : IsObservable old → IfOk result (Checks d height old.slots)
