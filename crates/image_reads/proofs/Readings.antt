-- What reading an opened store to the end of a stream leaves.
use Rattle.std.proofs.Common.{◌≡◌, ℕ, false, Option, Some, None, Result, Ok, Err, IfErr, refl, sym, ap, subst, ◌∙◌}
use Rattle.disk_model.specs.DiskState.{DiskState, IsObservable}
use Rattle.dump_streams.specs.declared.fault.StreamFault.{StreamFault}
use Rattle.dump_streams.specs.declared.draining.DrainFault.{DrainFault}
use Rattle.dump_streams.specs.declared.draining.DrainFault.TheVariants as drains
use Rattle.dump_streams.specs.declared.taker.TakerFault.{TakerFault}
use Rattle.dump_streams.specs.declared.taker.TakerFault.TheVariants as takers
use Rattle.image_check.specs.declared.fault.ApplyFault.{ApplyFault}
use Rattle.image_check.specs.declared.fault.ApplyFault.TheVariants as apply
use Rattle.store_core.specs.StoreState.{StoreState}
use Rattle.store_stream.specs.declared.stream.StoreStream.{StoreStream}
use Rattle.store_stream.specs.StoreStreams.{ReadsStore, faults_by}
use Rattle.image_reads.specs.declared.fault.ReadFault.{ReadFault}
use Rattle.image_reads.specs.Faults.{store_fault, taker_fault, ended_by, output_faults_by}
use Rattle.image_reads.specs.StoreReads.{IsStoreFault, IsOnlyRead, LeavesDisk}

-- what is put out fails for no reason of the store
pub taker_store : (old new : DiskState) (fault : TakerFault) → IsStoreFault old new (taker_fault fault)
taker_store old new takers.Failed = tt
taker_store old new takers.NoMemory = tt

module _ {D : Type 0} (disk_of : D → DiskState) (old new : StoreStream D) (reads_store : ReadsStore disk_of old new)
    (going : old.fault ≡ None) (store after : StoreState D) (old_is : old.store ≡ store)
    (after_is : after ≡ new.store) (runs : store.is_stopped ≡ false) where
  -- its disk was only read
  pub only_read : IsOnlyRead (disk_of store.disk) (disk_of after.disk)
  only_read =
      subst (λ (s : StoreState D). IsOnlyRead (disk_of store.disk) (disk_of s.disk)) (sym after_is)
      (subst (λ (s : StoreState D). IsOnlyRead (disk_of s.disk) (disk_of new.store.disk)) old_is
      (record { observable = (reads_store.kept).observable; reads = reads_store.reads }))

  -- and where it is to blame, this was so
  pub by_fault : (f : Option ApplyFault) → f ≡ new.fault
      → (new.fault ≡ None → IsObservable (disk_of new.store.disk) → ⊥)
      → IsStoreFault (disk_of store.disk) (disk_of after.disk) (store_fault f)
  by_fault None f_is told = λ seen. told (sym f_is)
      ((reads_store.kept).observable ∙ ap (λ (s : StoreState D). (disk_of s.disk).is_observable) old_is ∙ seen)
  by_fault (Some apply.Disk) f_is told = ap (λ (s : StoreState D). (disk_of s.disk).faults) after_is
      ∙ reads_store.faults going
      ∙ ap (λ (f : Option ApplyFault). faults_by f (disk_of old.store.disk).faults) (sym f_is)
      ∙ ap (λ (s : StoreState D). faults_by (Some apply.Disk) (disk_of s.disk).faults) old_is
  by_fault (Some apply.NoMemory) f_is told = tt
  by_fault (Some apply.Stopped) f_is told =
      absurd (reads_store.not_stopped going (ap (λ (s : StoreState D). s.is_stopped) old_is ∙ runs) (sym f_is))

  pub left : {T : Type 0} (ended : Result (Unit {0}) DrainFault) (fault : Option ApplyFault) (value : T)
      (result : Result T ReadFault) → fault ≡ new.fault
      → ((cause : StreamFault) → ended ≡ Err (drains.Stream cause) → new.fault ≡ None
      → IsObservable (disk_of new.store.disk) → ⊥)
      → result ≡ ended_by ended fault value
      → LeavesDisk (disk_of store.disk) (disk_of after.disk) result
  left {T} ended fault value result fault_is told is =
      subst (λ (r : Result T ReadFault). LeavesDisk (disk_of store.disk) (disk_of after.disk) r) (sym is)
      (record { read = only_read; fault = by_end ended refl })
    where
      by_end : (e : Result (Unit {0}) DrainFault) → ended ≡ e
          → IfErr (ended_by e fault value) (IsStoreFault (disk_of store.disk) (disk_of after.disk))
      by_end (Ok done) e_is = tt
      by_end (Err (drains.Taker cause)) e_is = taker_store (disk_of store.disk) (disk_of after.disk) cause
      by_end (Err (drains.Stream cause)) e_is = by_fault fault fault_is (told cause e_is)

-- a fault of the store is none of what it was read into
pub not_output : (f : Option ApplyFault) (count : ℕ) → output_faults_by (store_fault f) count ≡ count
not_output None count = refl
not_output (Some apply.Disk) count = refl
not_output (Some apply.NoMemory) count = refl
not_output (Some apply.Stopped) count = refl
