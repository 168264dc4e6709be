-- What a store is asked for whether something stands at a path.
use Rattle.std.specs.Prelude.{◌≡◌, ℕ, ◌<◌, Bool, false, List, length, Option, Some, None, Result, OnOk, IfErr}
use Rattle.store_model.specs.Lists.{same_bytes}
use Rattle.store_model.specs.Pairs.{Pair}
use Rattle.store_model.specs.Paths.{Path}
use Rattle.store_model.specs.Trees.{Tree}
use Rattle.disk_model.specs.DiskState.{DiskState}
use Rattle.store_core.specs.StoreState.{StoreState}
use Rattle.image_reads.specs.declared.fault.ReadFault.{ReadFault}
use Rattle.image_reads.specs.declared.fault.ReadFault.TheVariants as reads
use Rattle.image_reads.specs.StoreReads.{IsStoreFault, IsOnlyRead}
use Rattle.image_extract.specs.Extracts.{AllStand, IsMissing}

-- A store was asked. It stands at the tree at which it stood, its disk was only read, and after an answer it goes on.
pub record AsksStore {R T : Type 0} (state : R → DiskState) (old new : StoreState R)
    (result : Result T ReadFault) : Type 0 where
  pub tree : new.tree ≡ old.tree
  pub read : IsOnlyRead (state old.disk) (state new.disk)
  pub faults : OnOk result ((state new.disk).faults ≡ (state old.disk).faults)
  pub runs : OnOk result (new.is_stopped ≡ false)
  pub fault : IfErr result (IsStoreFault (state old.disk) (state new.disk))
  pub not_output : IfErr result (λ fault. fault ≡ reads.Output → ⊥)

-- the first of the paths at which nothing stands, if there is one
abbrev pub IsFirstMissing : Tree → List Path → Option ℕ → Type 0
IsFirstMissing t paths None = AllStand t paths
IsFirstMissing t paths (Some number) = IsMissing t paths number

-- and it is one of them
abbrev pub IsNumber : List Path → Option ℕ → Type 0
IsNumber paths None = Unit {0}
IsNumber paths (Some number) = number < length paths

-- whether a pair that was found has this key
abbrev pub has_key : List ℕ → Option Pair → Bool
has_key key None = false
has_key key (Some pair) = same_bytes pair.0 key
