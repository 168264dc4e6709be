-- What a stream of a store that was read says of the store.
use Rattle.std.proofs.Common.{◌≡◌, ◌⊎◌, ◌^◌, ◌<◌, false, List, [], ◌++◌, length, Option, Some, None, inl, inr}
use Rattle.std.proofs.Common.{sym, ap, ◌∙◌, arith}
use Rattle.std.proofs.lemmas.List.{length-append, append-nil}
use Rattle.store_model.specs.Trees.{Tree}
use Rattle.disk_model.specs.DiskState.{DiskState, IsObservable}
use Rattle.dump_streams.specs.Dumps.{DumpStep, dump}
use Rattle.dump_streams.specs.Draining.{IsTooLong}
use Rattle.dump_streams.specs.declared.fault.StreamFault.{StreamFault}
use Rattle.dump_streams.proofs.Chains.{dump_chain}
use Rattle.dump_streams.proofs.DumpFronts.{empty_under}
use Rattle.image_check.specs.declared.fault.ApplyFault.{ApplyFault}
use Rattle.image_check.specs.declared.fault.ApplyFault.TheVariants as apply
use Rattle.image_check.specs.Standing.{IsFitting}
use Rattle.staged_tree.proofs.TreePages.{few_pairs}
use Rattle.store_core.specs.StoreState.{StoreState}
use Rattle.store_stream.specs.declared.stream.StoreStream.{StoreStream}
use Rattle.store_stream.specs.StoreStreams.{CameOf, IsWhole, EndsBy, ReadsStore}
use Rattle.store_stream.proofs.StreamLemmas.{under_fitting}
use Rattle.image_reads.specs.declared.fault.ReadFault.TheVariants as reads
use Rattle.image_reads.specs.Faults.{store_fault}
use Rattle.image_reads.specs.StoreReads.{IsOnlyRead}
use Rattle.image_reads.proofs.Readings.{only_read, by_fault}
use Rattle.image_reads.proofs.Unchanged.{chain_pairs, all_told}
use Rattle.image_differences.specs.Compared.{IsStoreBlamed}

-- a fault of the store is none of what it was read into
not_output : (f : Option ApplyFault) → store_fault f ≡ reads.Output → ⊥
not_output None e = cc
not_output (Some apply.Disk) e = cc
not_output (Some apply.NoMemory) e = cc
not_output (Some apply.Stopped) e = cc

module _ {D : Type 0} (disk_of : D → DiskState) (store : StoreState D) (old new : StoreStream D)
    (old_is : old.store ≡ store) (going : old.fault ≡ None) (read : ReadsStore disk_of old new)
    (fitting : IsFitting store.tree store.params) (runs : store.is_stopped ≡ false) where
  -- it still tells its bytes
  pub still : IsObservable (disk_of store.disk) → IsObservable (disk_of new.store.disk)
  still seen = (read.kept).observable ∙ ap (λ (s : StoreState D). (disk_of s.disk).is_observable) old_is ∙ seen

  -- it was only read
  pub reads_so : (after : StoreState D) → after ≡ new.store → IsOnlyRead (disk_of store.disk) (disk_of after.disk)
  reads_so after after_is = only_read disk_of old new read going store after old_is after_is runs

  pub tree_is : new.store.tree ≡ store.tree
  tree_is = read.tree ∙ ap (λ (s : StoreState D). s.tree) old_is

  -- a whole dump is that of its tree
  pub whole_is : (t : Tree) → IsWhole disk_of new t → IsObservable (disk_of store.disk) → t ≡ store.tree
  whole_is t whole seen = whole.tree (still seen) ∙ tree_is

  -- what came is the front of that
  pub front_is : (t : Tree) → CameOf disk_of new t → IsObservable (disk_of store.disk)
      → (rest : List DumpStep) × (dump store.tree ≡ dump t ++ rest)
  front_is t came seen =
      let taken = (came.stands (still seen)).taken in
      (_, ap dump (sym tree_is) ∙ (taken.after).dump_is)

  -- which has few steps
  few_steps_in : (t : Tree) (rest : List DumpStep) → dump store.tree ≡ dump t ++ rest → length (dump t) < 2 ^ 32
  few_steps_in t rest front =
      let under = under_fitting store.tree store.params fitting in
      let all = chain_pairs (dump store.tree) [] store.tree store.params (empty_under store.params)
      (dump_chain store.tree store.params under) in
      let few = few_pairs store.tree store.params fitting in
      omega (arith, all, few, ap (λ (cs : List DumpStep). length cs) front, length-append (dump t) rest)

  pub few_came : (t : Tree) → CameOf disk_of new t ⊎ IsWhole disk_of new t → IsObservable (disk_of store.disk)
      → length (dump t) < 2 ^ 32
  few_came t (inl came) seen = let front = front_is t came seen in few_steps_in t front.0 front.1
  few_came t (inr whole) seen =
      few_steps_in t [] (ap dump (sym (whole_is t whole seen)) ∙ sym (append-nil (dump t)))

  -- why it ended before
  pub blamed : (t : Tree) (cause : StreamFault) → EndsBy disk_of new t cause ⊎ IsTooLong (CameOf disk_of) new t cause
      → (fault : Option ApplyFault) → fault ≡ new.fault → (after : StoreState D) → after ≡ new.store
      → IsStoreBlamed (disk_of store.disk) (disk_of after.disk) (store_fault fault)
  blamed t cause ends fault is after after_is = record {
    store = by_fault disk_of old new read going store after old_is after_is runs fault is
        (λ none seen. all_told disk_of new t cause ends none seen);
    not_output = not_output fault;
  }
