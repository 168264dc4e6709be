-- Lemmas on what writing a part of a dump leaves of the store and the sink, one part after another.
use Rattle.std.proofs.Common.{◌≡◌, ◌⊎◌, ℕ, false, List, [], ◌++◌, Result, Ok, Err, inl, inr, refl, sym, ap}
use Rattle.std.proofs.Common.{subst, ◌∙◌}
use Rattle.std.proofs.lemmas.List.{append-nil, append_assoc}
use Rattle.disk_model.specs.DiskState.{DiskState, IsSound}
use Rattle.disk_model.specs.DiskState as disks
use Rattle.gate_journal.specs.ReadingLaws.{ReadsOnly-refl, ReadsOnly-trans}
use Rattle.script_lines.specs.SinkState.{SinkState, AppendsPrefix, PutsBytes}
use Rattle.store_core.specs.StoreState.{StoreState}
use Rattle.staged_tree.proofs.DiskLemmas.{keeps_then}
use Rattle.staged_tree.proofs.Unchanged.{keeps_itself}
use Rattle.image_subcommands.specs.declared.status.Status.{Status}
use Rattle.image_subcommands.specs.declared.status.Status.TheVariants as statuses
use Rattle.image_subcommands.specs.Statuses.{disk_faults_by, sink_faults_by}
use Rattle.listing_subcommands.specs.Dumping.{KeepsStore, KeepsSink, IsDumpFault, status_so_far}
use Rattle.listing_subcommands.specs.Dumping.IsDumpFault.{Sink, NoMemory}

-- ---- the bytes

-- Of a text a part is written, and this is left of it.
pub record HasWritten (old new text left : List ℕ) : Type 0 where
  pub part : List ℕ
  pub text_is : text ≡ part ++ left
  pub written : new ≡ old ++ part

-- or a front of what is left
pub front_written : (old mid new text left : List ℕ) → HasWritten old mid text left → AppendsPrefix mid new left
    → AppendsPrefix old new text
front_written old mid new text left has front = record {
  part = has.part ++ front.part;
  rest = front.rest;
  is_prefix = has.text_is ∙ ap (λ (xs : List ℕ). has.part ++ xs) front.is_prefix
      ∙ sym (append_assoc has.part front.part front.rest);
  appended = front.appended ∙ ap (λ (xs : List ℕ). xs ++ front.part) has.written ∙ append_assoc old has.part front.part;
}

-- a front of a part is a front of the whole
pub longer_front : (old new part rest text : List ℕ) → text ≡ part ++ rest → AppendsPrefix old new part
    → AppendsPrefix old new text
longer_front old new part rest text is front = record {
  part = front.part;
  rest = front.rest ++ rest;
  is_prefix = is ∙ ap (λ (xs : List ℕ). xs ++ rest) front.is_prefix ∙ append_assoc front.part front.rest rest;
  appended = front.appended;
}

-- the whole text is written, and no byte behind it
pub none_behind : {T E : Type 0} (first old new : SinkState) (text : List ℕ) (result : Result T E)
    → old.written ≡ first.written ++ text → PutsBytes old new [] result → PutsBytes first new text result
none_behind first old new text (Ok value) all puts = record {
  appended = puts.appended ∙ append-nil old.written ∙ all;
  cut_off = tt;
}
none_behind first old new text (Err error) all puts = record {
  appended = tt;
  cut_off = front_written first.written old.written new.written text []
      (record { part = text; text_is = sym (append-nil text); written = all }) puts.cut_off;
}

-- nothing was written
pub empty_front : (old text : List ℕ) → AppendsPrefix old old text
empty_front old text = record { part = []; rest = text; is_prefix = refl; appended = sym (append-nil old) }

-- ---- the store

module _ {D : Type 0} (disk_of : D → DiskState) where
  -- one part behind another
  pub keeps_behind : {T U : Type 0} (old mid new : StoreState D) (first between last : SinkState) (value : T)
      (result : Result U Status)
      → KeepsStore disk_of old mid first between (Ok value) → KeepsStore disk_of mid new between last result
      → KeepsStore disk_of old new first last result
  keeps_behind old mid new first between last value result one two = record {
    tree = two.tree ∙ one.tree;
    params = two.params ∙ one.params;
    fault = two.fault;
    runs = two.runs;
    disk_kept = keeps_then (disk_of old.disk) (disk_of mid.disk) (disk_of new.disk) one.disk_kept two.disk_kept;
    disk_faults = two.disk_faults ∙ ap (disk_faults_by (status_so_far result)) one.disk_faults;
    reads = λ o. ReadsOnly-trans (disk_of old.disk) (disk_of mid.disk) (disk_of new.disk) (one.reads o)
        (two.reads (one.disk_kept.observable ∙ o));
    sink_observable = two.sink_observable ∙ one.sink_observable;
    sink_faults = two.sink_faults ∙ ap (sink_faults_by (status_so_far result)) one.sink_faults;
  }

  -- ---- a line

  pub keeps_line : {T : Type 0} (store : StoreState D) (sink sink_new : SinkState) (result : Result T Status)
      → (disks.IsObservable (disk_of store.disk) → IsSound (disk_of store.disk)) → store.is_stopped ≡ false
      → KeepsSink sink sink_new result → KeepsStore disk_of store store sink sink_new result
  keeps_line store sink sink_new (Ok value) sound runs kept = record {
    tree = refl;
    params = refl;
    fault = tt;
    runs = runs;
    disk_kept = keeps_itself (disk_of store.disk);
    disk_faults = refl;
    reads = λ o. ReadsOnly-refl (disk_of store.disk) (sound o);
    sink_observable = kept.observable;
    sink_faults = kept.faults;
  }
  keeps_line {T} store sink sink_new (Err status) sound runs kept = by_fault kept.fault
    where
      stops : (s : Status) → IsDumpFault s → (disk_of store.disk).faults ≡ disk_faults_by s (disk_of store.disk).faults
          → status ≡ s → KeepsStore {T = T} disk_of store store sink sink_new (Err status)
      stops s fault disk_faults is = subst (λ e. KeepsStore {T = T} disk_of store store sink sink_new (Err e)) (sym is)
          (record {
            tree = refl;
            params = refl;
            fault = fault;
            runs = tt;
            disk_kept = keeps_itself (disk_of store.disk);
            disk_faults = disk_faults;
            reads = λ o. ReadsOnly-refl (disk_of store.disk) (sound o);
            sink_observable = kept.observable;
            sink_faults = kept.faults ∙ ap (λ e. sink_faults_by e sink.faults) is;
          })

      by_fault : (status ≡ statuses.SinkFault) ⊎ (status ≡ statuses.NoMemory)
          → KeepsStore {T = T} disk_of store store sink sink_new (Err status)
      by_fault (inl is) = stops statuses.SinkFault Sink refl is
      by_fault (inr is) = stops statuses.NoMemory NoMemory refl is
