-- Sessions over a store, seen as one record.
use Rattle.store_core.specs.StoreState.{StoreState}
use Rattle.session_core.specs.Machine.{Places, World}

-- A store, and the sessions that are live on it.
pub record SessionsState (D : Type 0) : Type 0 where
  pub store : StoreState D
  pub places : Places

-- the machine at this moment
abbrev pub world_of : {D : Type 0} → SessionsState D → World
world_of s = record { machine = record { tree = s.store.tree; places = s.places }; is_stopped = s.store.is_stopped }
