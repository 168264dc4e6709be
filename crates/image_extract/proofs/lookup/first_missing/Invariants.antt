use Rattle.std.proofs.Common.{Ok, take}
use Rattle.store_model.specs.Trees.{IsTree}
use Rattle.disk_model.specs.DiskState.{IsObservable}
use Rattle.image_extract.specs.Extracts.{AllStand}
use Rattle.image_extract.specs.Lookups.{AsksStore}
use Rattle.image_extract.proofs.lookup.first_missing.Given as goal

-- the store goes on, and something stands at each path that was asked for
abbrev pub invariant-loop-number : goal.invariant-loop-number
invariant-loop-number g l =
    AsksStore {T = Unit {0}} g.R.Disk.state l.fn.store l.store (Ok tt)
    × (IsTree l.fn.store.tree → IsObservable (g.R.Disk.state l.fn.store.disk)
    → AllStand l.fn.store.tree (take l.number l.paths))
