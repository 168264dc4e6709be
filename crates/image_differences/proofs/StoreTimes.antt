-- Whether a store's tree has a time, as its stream told.
use Rattle.std.proofs.Common.{◌≡◌, Bool, true, false, ◌||◌, List, ◌++◌, Option, None, Result, Ok, Err, OnOk, IfOk}
use Rattle.std.proofs.Common.{IfErr, sym, ap, subst, ◌∙◌}
use Rattle.std.specs.List.{list_any}
use Rattle.store_model.specs.Trees.{Tree}
use Rattle.disk_model.specs.DiskState.{DiskState, IsObservable}
use Rattle.dump_streams.specs.Dumps.{DumpStep, dump}
use Rattle.dump_streams.specs.declared.fault.StreamFault.{StreamFault}
use Rattle.image_check.specs.declared.fault.ApplyFault.{ApplyFault}
use Rattle.image_check.specs.Standing.{IsFitting}
use Rattle.store_core.specs.StoreState.{StoreState}
use Rattle.store_stream.specs.declared.stream.StoreStream.{StoreStream}
use Rattle.store_stream.specs.StoreStreams.{CameOf, IsWhole, EndsBy, ReadsStore, faults_by}
use Rattle.host_builder.specs.declared.attribute.Wanted.{Wanted}
use Rattle.image_reads.specs.declared.fault.ReadFault.{ReadFault}
use Rattle.image_differences.specs.Compared.{IsStoreBlamed}
use Rattle.image_differences.specs.Timing.{TellsTimes, EndsTimes, GoesOn, has_time, sets_time, times_told, wanted_told}
use Rattle.image_differences.specs.Timing.{wanted_in}
use Rattle.image_differences.specs.declared.timing.Times.TheVariants as times
use Rattle.image_differences.proofs.StoreSides.{front_is, whole_is, reads_so, tree_is, blamed}
use Rattle.image_differences.proofs.TimeSteps.{any_parts, dump_sets}

-- a tree has a time that has one in its first steps
front_has : (t u : Tree) (rest : List DumpStep) → dump u ≡ dump t ++ rest → has_time t ≡ true → has_time u ≡ true
front_has t u rest front has =
    sym (dump_sets u) ∙ ap (list_any sets_time) front ∙ any_parts (dump t) rest
    ∙ ap (λ (b : Bool). b || list_any sets_time rest) (dump_sets t ∙ has)

module _ {D : Type 0} (disk_of : D → DiskState) (store : StoreState D) (old new : StoreStream D)
    (old_is : old.store ≡ store) (going : old.fault ≡ None) (read : ReadsStore disk_of old new)
    (fitting : IsFitting store.tree store.params) (runs : store.is_stopped ≡ false) (after : StoreState D)
    (after_is : after ≡ new.store) (fault : Option ApplyFault) (fault_is : fault ≡ new.fault) where
  has_so : (has : Bool) → TellsTimes (CameOf disk_of new) (IsWhole disk_of new) has
      → (new.fault ≡ None) × (IsObservable (disk_of store.disk) → has ≡ has_time store.tree)
  has_so true is =
      let came = is.1 in (
        came.going,
        λ seen.
            let front = front_is disk_of store old new old_is going read fitting runs is.0 came seen in
            sym (front_has is.0 store.tree front.0 front.1 is.2),
      )
  has_so false is =
      let whole = is.1 in (
        whole.going,
        λ seen.
            sym is.2 ∙ ap has_time (whole_is disk_of store old new old_is going read fitting runs is.0 whole seen),
      )

  goes_on : new.fault ≡ None → GoesOn disk_of store after
  goes_on none = record {
    read = reads_so disk_of store old new old_is going read fitting runs after after_is;
    tree = ap (λ (s : StoreState D). s.tree) after_is ∙ tree_is disk_of store old new old_is going read fitting runs;
    runs = ap (λ (s : StoreState D). s.is_stopped) after_is
        ∙ read.runs going (ap (λ (s : StoreState D). s.is_stopped) old_is ∙ runs) none;
    faults = ap (λ (s : StoreState D). (disk_of s.disk).faults) after_is ∙ read.faults going
        ∙ ap (λ (f : Option ApplyFault). faults_by f (disk_of old.store.disk).faults) none
        ∙ ap (λ (s : StoreState D). (disk_of s.disk).faults) old_is;
  }

  abbrev Tells : Result Bool StreamFault → Type 0
  Tells has = IfOk has (TellsTimes (CameOf disk_of new) (IsWhole disk_of new))

  abbrev Ends : Result Bool StreamFault → Type 0
  Ends has = IfErr has (EndsTimes (CameOf disk_of) (EndsBy disk_of) new)

  pub times_go_on : (has : Result Bool StreamFault) (told : Result Bool ReadFault) → told ≡ times_told has fault
      → Tells has → OnOk told (GoesOn disk_of store after)
  times_go_on has told is tells = subst (λ (r : Result Bool ReadFault). OnOk r (GoesOn disk_of store after)) (sym is)
      (by_case has tells)
    where
      by_case : (has : Result Bool StreamFault) → Tells has → OnOk (times_told has fault) (GoesOn disk_of store after)
      by_case (Ok has) tells = goes_on (has_so has tells).0
      by_case (Err cause) tells = tt

  pub times_so : (has : Result Bool StreamFault) (told : Result Bool ReadFault) → told ≡ times_told has fault
      → Tells has → IsObservable (disk_of store.disk) → IfOk told (λ has. has ≡ has_time store.tree)
  times_so has told is tells seen =
      subst (λ (r : Result Bool ReadFault). IfOk r (λ has. has ≡ has_time store.tree)) (sym is) (by_case has tells)
    where
      by_case : (has : Result Bool StreamFault) → Tells has
          → IfOk (times_told has fault) (λ has. has ≡ has_time store.tree)
      by_case (Ok has) tells = (has_so has tells).1 seen
      by_case (Err cause) tells = tt

  pub times_blame : (has : Result Bool StreamFault) (told : Result Bool ReadFault) → told ≡ times_told has fault
      → Ends has → IfErr told (IsStoreBlamed (disk_of store.disk) (disk_of after.disk))
  times_blame has told is ends =
      subst (λ (r : Result Bool ReadFault). IfErr r (IsStoreBlamed (disk_of store.disk) (disk_of after.disk))) (sym is)
      (by_case has ends)
    where
      by_case : (has : Result Bool StreamFault) → Ends has
          → IfErr (times_told has fault) (IsStoreBlamed (disk_of store.disk) (disk_of after.disk))
      by_case (Ok has) ends = tt
      by_case (Err cause) ends = blamed disk_of store old new old_is going read fitting runs ends.tree cause ends.why
          fault fault_is after after_is

-- ---- what is wanted then

module _ (wanted : Wanted) (told : Result Bool ReadFault) (result : Result Wanted ReadFault)
    (is : result ≡ wanted_told wanted told) where
  pub settled_ok : (A : Type 0) → OnOk told A → OnOk result A
  settled_ok A given = subst (λ (r : Result Wanted ReadFault). OnOk r A) (sym is) (by_case told given)
    where
      by_case : (t : Result Bool ReadFault) → OnOk t A → OnOk (wanted_told wanted t) A
      by_case (Ok has) given = given
      by_case (Err fault) given = tt

  pub settled_so : (t : Tree) → IfOk told (λ has. has ≡ has_time t)
      → IfOk result (λ settled. settled ≡ wanted_in times.AsInImage wanted t)
  settled_so t given =
      subst (λ (r : Result Wanted ReadFault). IfOk r (λ settled. settled ≡ wanted_in times.AsInImage wanted t)) (sym is)
      (by_case told given)
    where
      by_case : (h : Result Bool ReadFault) → IfOk h (λ has. has ≡ has_time t)
          → IfOk (wanted_told wanted h) (λ settled. settled ≡ wanted_in times.AsInImage wanted t)
      by_case (Ok has) given = ap (λ (b : Bool). record wanted { mtime = b }) given
      by_case (Err fault) given = tt

  pub settled_err : (A : ReadFault → Type 0) → IfErr told A → IfErr result A
  settled_err A given = subst (λ (r : Result Wanted ReadFault). IfErr r A) (sym is) (by_case told given)
    where
      by_case : (t : Result Bool ReadFault) → IfErr t A → IfErr (wanted_told wanted t) A
      by_case (Ok has) given = tt
      by_case (Err fault) given = given
