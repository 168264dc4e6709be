-- How `dump` ends: with no store, or behind what it wrote.
use Rattle.std.proofs.Common.{◌≡◌, ◌⊎◌, ℕ, ◌+◌, List, [], Result, Ok, Err, refl, sym, ap, ◌∙◌, arith, inl, inr}
use Rattle.std.proofs.Common.{⊎_elim}
use Rattle.std.specs.Prelude.{IfErr}
use Rattle.std.proofs.lemmas.List.{append-nil}
use Rattle.store_model.specs.Parameters.{Parameters}
use Rattle.store_model.specs.Trees.{Tree}
use Rattle.store_model.specs.Images.{Represents}
use Rattle.store_base.specs.Counts.{Rose}
use Rattle.disk_model.specs.DiskState.{DiskState}
use Rattle.disk_model.specs.DiskState as disks
use Rattle.disk_model.proofs.Crashes.{LeavesOnly-trans, LeavesOnly-weaken}
use Rattle.gate_journal.specs.Costs.{opening_writes, opening_syncs}
use Rattle.gate_journal.specs.Places.{Made, ReadsOnly}
use Rattle.script_lines.specs.SourceState.{SourceState}
use Rattle.script_lines.specs.SinkState.{SinkState, PutsBytes}
use Rattle.script_lines.specs.SinkState as sinks
use Rattle.image_check.specs.declared.fault.AttachFault.{AttachFault}
use Rattle.image_check.specs.Standing.{IsFitting}
use Rattle.store_core.specs.StoreCalls.{IsRefused, IsOpened}
use Rattle.store_core.specs.StoreState.{StoreState}
use Rattle.staged_tree.proofs.CostLemmas.{made_reading, made_then, made_as, at_most}
use Rattle.staged_tree.proofs.Unchanged.{standing_represents, stands_reading}
use Rattle.image_subcommands.specs.declared.status.Status.{Status}
use Rattle.image_subcommands.specs.declared.status.Status.TheVariants as statuses
use Rattle.image_subcommands.specs.Endings.{attach_status, ended_status}
use Rattle.image_subcommands.specs.Statuses.{Subcommand as words, IsEndOf, done_of_work, disk_faults_by}
use Rattle.image_subcommands.specs.Statuses.{source_faults_by, sink_faults_by}
use Rattle.image_subcommands.proofs.ReportLemmas.{rose}
use Rattle.dump_streams.specs.Dumps.{dump_text}
use Rattle.image_work.specs.Works.{IsReady, IsUnopened, WorksOnStore}
use Rattle.image_work.proofs.OpeningEnds.{never_behind, none_done, memory_only, memory_left, quiet_unopened}
use Rattle.listing_subcommands.specs.DumpCall.{IsDumped, PutsDump, DumpsTree, KeepsDump, DumpsAt}
use Rattle.listing_subcommands.specs.Dumping.{IsDumpFault, KeepsStore, status_so_far}
use Rattle.listing_subcommands.specs.Dumping.IsDumpFault.{Sink, Disk, NoMemory}
use Rattle.listing_subcommands.proofs.DumpStores.{empty_front}

-- ---- no store was had

not_done : (fault : AttachFault) → attach_status fault ≡ statuses.Done → ⊥
not_done fault e = never_behind fault statuses.Done refl e

not_dumped : (fault : AttachFault) → IsDumped (attach_status fault) → ⊥
not_dumped fault either = ⊎_elim (not_done fault) (never_behind fault statuses.SinkFault refl) either

-- The call had no store.
pub dump_unopened : {D R W : Type 0} (disk_of : D → DiskState) (sink_of : W → SinkState) (given : R × W) (disk : D)
    (fault : AttachFault) (disk_new : D) → IsRefused (disk_of disk) fault (disk_of disk_new)
    → IsUnopened disk_of words.Dump KeepsDump (DumpsAt disk_of sink_of) given disk fault disk_new
dump_unopened disk_of sink_of given disk fault disk_new refused =
    let old = disk_of disk in
    let new = disk_of disk_new in
    record {
      fails = refl;
      refuses = refl;
      keeps = record { done = none_done fault; source = refl };
      does = λ o t p represents keeps. record {
        put = λ told. record {
          whole = λ e. absurd (not_done fault e);
          in_part = empty_front (sink_of given.1).written (dump_text t);
        };
        stands = λ either. absurd (not_dumped fault either);
        no_memory = λ e. inr (refused.unwritten o (memory_only fault e));
        crash = keeps.crash;
        reads = keeps.represents;
        made = λ either. absurd (not_dumped fault either);
        limit = keeps.limit;
        quiet = λ empty whole. quiet_unopened fault old new refused o whole;
        complete = λ disk_whole sink_whole. inr (memory_left fault old new t p refused keeps disk_whole);
      };
    }

-- ---- the tree of a store was dumped, or a part of it

ends_so : (result : Result (Unit {0}) Status) → IfErr result IsDumpFault → IsEndOf words.Dump (ended_status result)
ends_so (Ok value) fault = refl
ends_so (Err status) Sink = refl
ends_so (Err status) Disk = refl
ends_so (Err status) NoMemory = refl

so_far : (result : Result (Unit {0}) Status) → status_so_far result ≡ ended_status result
so_far (Ok value) = refl
so_far (Err status) = refl

dump_put : (t : Tree) (result : Result (Unit {0}) Status) (old new : SinkState) → IfErr result IsDumpFault
    → PutsBytes old new (dump_text t) result → PutsDump t (ended_status result) old new
dump_put t (Ok value) old new fault puts = record {
  whole = λ e. puts.appended;
  in_part = record {
    part = dump_text t;
    rest = [];
    is_prefix = sym (append-nil (dump_text t));
    appended = puts.appended;
  };
}
dump_put t (Err status) old new Sink puts = record { whole = λ e. absurd (cc); in_part = puts.cut_off }
dump_put t (Err status) old new Disk puts = record { whole = λ e. absurd (cc); in_part = puts.cut_off }
dump_put t (Err status) old new NoMemory puts = record { whole = λ e. absurd (cc); in_part = puts.cut_off }

done_or_lacks : (result : Result (Unit {0}) Status) (disk disk_new sink sink_new : ℕ) → IfErr result IsDumpFault
    → disk_new ≡ disk_faults_by (ended_status result) disk → sink_new ≡ sink_faults_by (ended_status result) sink
    → (Rose disk disk_new → ⊥) → (Rose sink sink_new → ⊥)
    → (ended_status result ≡ statuses.Done) ⊎ (ended_status result ≡ statuses.NoMemory)
done_or_lacks (Ok value) disk disk_new sink sink_new fault disk_is sink_is disk_whole sink_whole = inl refl
done_or_lacks (Err status) disk disk_new sink sink_new Sink disk_is sink_is disk_whole sink_whole =
    absurd (sink_whole (rose sink sink_new sink_is))
done_or_lacks (Err status) disk disk_new sink sink_new Disk disk_is sink_is disk_whole sink_whole =
    absurd (disk_whole (rose disk disk_new disk_is))
done_or_lacks (Err status) disk disk_new sink sink_new NoMemory disk_is sink_is disk_whole sink_whole = inr refl

source_kept : (result : Result (Unit {0}) Status) → IfErr result IsDumpFault → (count : ℕ)
    → count ≡ source_faults_by (ended_status result) count
source_kept (Ok value) fault count = refl
source_kept (Err status) Sink count = refl
source_kept (Err status) Disk count = refl
source_kept (Err status) NoMemory count = refl

-- what stands behind the opening of the image and the reading of its tree
tree_dumped : (t : Tree) (p : Parameters) (old mid new : DiskState) (sink sink_new : SinkState)
    (result : Result (Unit {0}) Status) → IsFitting t p → IsOpened t p old mid → ReadsOnly mid new
    → IfErr result IsDumpFault → new.faults ≡ disk_faults_by (ended_status result) old.faults
    → sink_new.faults ≡ sink_faults_by (ended_status result) sink.faults
    → (sinks.IsObservable sink → PutsBytes sink sink_new (dump_text t) result)
    → DumpsTree t p (ended_status result) old new sink sink_new
tree_dumped t p old mid new sink sink_new result fitting opened reads fault disk_is sink_is puts =
    let one = λ (image : List ℕ). old.crash_images image ⊎ Represents image t p in
    let writes = opening_writes p.slots old.bytes in
    let syncs = opening_syncs p.slots old.bytes in
    let made : Made writes syncs old new =
    made_as old new (writes + 0) writes (syncs + 0) syncs (omega arith) (omega arith)
    (made_then old mid new writes syncs 0 0 opened.counts (made_reading mid new reads)) in
    record {
      put = λ told. dump_put t result sink sink_new fault (puts told);
      stands = λ either. stands_reading mid new t p reads opened.stands;
      no_memory = λ e. inl (stands_reading mid new t p reads opened.stands);
      crash = LeavesOnly-trans old mid new one opened.crash
          (LeavesOnly-weaken mid new mid.crash_images one
          (λ image left. inr (standing_represents t p image fitting
          (opened.stands.durable image left ∙ opened.stands.layout_is))) reads.leaves);
      reads = standing_represents t p new.bytes fitting (reads.bytes ∙ opened.stands.layout_is);
      made = λ either. made;
      limit = at_most old new writes syncs writes syncs made (omega arith) (omega arith);
      quiet = λ empty whole.
          let opening = opened.unwritten empty in
          record { bytes = reads.bytes ∙ opening.bytes; writes = reads.write_count ∙ opening.writes };
      complete = done_or_lacks result old.faults new.faults sink.faults sink_new.faults fault disk_is sink_is;
    }

module _ {D R W : Type 0} (disk_of : D → DiskState) (sink_of : W → SinkState) (store store_new : StoreState D)
    (given : R × W) (sink_new : W) (result : Result (Unit {0}) Status)
    (kept : KeepsStore disk_of store store_new (sink_of given.1) (sink_of sink_new) result) where
  -- The tree of a store was put out, or a part of it.
  pub dump_works : (source_of : R → SourceState) → IsReady disk_of store
      → (disks.IsObservable (disk_of store.disk) → sinks.IsObservable (sink_of given.1)
      → PutsBytes (sink_of given.1) (sink_of sink_new) (dump_text store.tree) result)
      → WorksOnStore disk_of source_of sink_of words.Dump KeepsDump (DumpsAt disk_of sink_of) given store (record {
        status = ended_status result;
        done = done_of_work (ended_status result);
        disk = store_new.disk;
        source = given.0;
        sink = sink_new;
      })
  dump_works source_of ready puts =
      let disk_is = kept.disk_faults
      ∙ ap (λ status. disk_faults_by status (disk_of store.disk).faults) (so_far result) in
      let sink_is = kept.sink_faults ∙ ap (λ status. sink_faults_by status (sink_of given.1).faults) (so_far result) in
      record {
        ends = ends_so result kept.fault;
        outside = record {
          disk_kept = kept.disk_kept;
          source_observable = refl;
          sink_observable = kept.sink_observable;
          disk_faults = disk_is;
          source_faults = source_kept result kept.fault (source_of given.0).faults;
          sink_faults = sink_is;
        };
        keeps = λ disk. record { done = refl; source = refl };
        does = λ disk attached o.
            let told = attached.kept.observable ∙ o in
            tree_dumped store.tree store.params (disk_of disk) (disk_of store.disk) (disk_of store_new.disk)
            (sink_of given.1) (sink_of sink_new) result ready.fitting (attached.observed o) (kept.reads told) kept.fault
            (disk_is ∙ ap (disk_faults_by (ended_status result)) attached.faults) sink_is (puts told);
      }
