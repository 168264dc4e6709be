-- What stands of the sink of a dump whose lines were gathered for it.
use Rattle.std.proofs.Common.{◌≡◌, ℕ, List, ◌++◌, Result, Ok, Err, sym, ap, ◌∙◌, arith}
use Rattle.std.specs.Prelude.{IfErr, OnOk}
use Rattle.std.proofs.lemmas.List.{append-nil, append_assoc, append_cancel_left}
use Rattle.store_base.specs.Counts.{raised}
use Rattle.disk_model.specs.DiskState.{DiskState}
use Rattle.script_lines.specs.SinkState.{SinkState, IsObservable, PutsBytes}
use Rattle.dump_streams.specs.declared.gather.GatheredLines.{GatheredLines}
use Rattle.dump_streams.specs.Gathered.{Gathered, gathered_state, gathers_none, IsFlushed, IsFrontOf, GrewFrom}
use Rattle.dump_streams.specs.GatheredLines.{lines_state}
use Rattle.store_core.specs.StoreState.{StoreState}
use Rattle.image_subcommands.specs.declared.status.Status.{Status}
use Rattle.image_subcommands.specs.Statuses.{sink_faults_by}
use Rattle.listing_subcommands.specs.Dumping.{KeepsStore, IsDumpFault, status_so_far}
use Rattle.listing_subcommands.specs.Dumping.IsDumpFault.{Sink, Disk, NoMemory}

module _ {D W : Type 0} (disk_of : D → DiskState) (sink_of : W → SinkState) (store store_new : StoreState D)
    (old new : GatheredLines W) (sink sink_new : W) (result : Result (Unit {0}) Status)
    (none : old.gathered ≡ gathers_none sink) (same : new.gathered.first ≡ old.gathered.first)
    (grew : GrewFrom sink_of new.gathered.first sink_new new.gathered.faults) where
  first_is : new.gathered.first ≡ sink
  first_is = same ∙ ap (λ (g : Gathered W). g.first) none

  counted : (r : Result (Unit {0}) Status) → IfErr r IsDumpFault
      → new.gathered.faults ≡ sink_faults_by (status_so_far r) 0
      → (sink_of sink_new).faults ≡ sink_faults_by (status_so_far r) (sink_of sink).faults
  counted (Ok value) fault is = grew.whole is ∙ ap (λ (s : W). (sink_of s).faults) first_is
  counted (Err status) Sink is = grew.failed (omega (arith, is)) ∙ ap (λ (s : W). raised (sink_of s).faults) first_is
  counted (Err status) Disk is = grew.whole is ∙ ap (λ (s : W). (sink_of s).faults) first_is
  counted (Err status) NoMemory is = grew.whole is ∙ ap (λ (s : W). (sink_of s).faults) first_is

  -- one call on it failed at most
  pub sink_kept : KeepsStore disk_of store store_new (lines_state sink_of old) (lines_state sink_of new) result
      → KeepsStore disk_of store store_new (sink_of sink) (sink_of sink_new) result
  sink_kept kept = record {
    tree = kept.tree;
    params = kept.params;
    fault = kept.fault;
    runs = kept.runs;
    disk_kept = kept.disk_kept;
    disk_faults = kept.disk_faults;
    reads = kept.reads;
    sink_observable = grew.observable ∙ ap (λ (s : W). (sink_of s).is_observable) first_is;
    sink_faults = counted result kept.fault
        (kept.sink_faults ∙ ap (λ (g : Gathered W). sink_faults_by (status_so_far result) g.faults) none);
  }

  written_before : (lines_state sink_of old).written ≡ (sink_of sink).written
  written_before = ap (λ (g : Gathered W). (gathered_state sink_of g).written) none ∙ append-nil (sink_of sink).written

  -- the lines came there, or a front of them
  pub sink_puts : (text : List ℕ)
      → (IsObservable (sink_of sink_new) → IsFrontOf (sink_of sink_new).written (lines_state sink_of new).written)
      → sink_new ≡ new.gathered.sink → OnOk result (IsFlushed sink_of new.gathered)
      → (IsObservable (lines_state sink_of old)
      → PutsBytes (lines_state sink_of old) (lines_state sink_of new) text result) → IsObservable (sink_of sink)
      → PutsBytes (sink_of sink) (sink_of sink_new) text result
  sink_puts text front sink_is flushed puts told = by_result result flushed
      (puts (ap (λ (g : Gathered W). (sink_of g.before).is_observable) none ∙ told))
    where
      told_first : IsObservable (sink_of new.gathered.first)
      told_first = ap (λ (s : W). (sink_of s).is_observable) first_is ∙ told

      by_result : (r : Result (Unit {0}) Status) → OnOk r (IsFlushed sink_of new.gathered)
          → PutsBytes (lines_state sink_of old) (lines_state sink_of new) text r
          → PutsBytes (sink_of sink) (sink_of sink_new) text r
      by_result (Ok value) flushed puts = record {
        appended = ap (λ (s : W). (sink_of s).written) sink_is ∙ sym flushed.written ∙ puts.appended
            ∙ ap (λ (xs : List ℕ). xs ++ text) written_before;
        cut_off = tt;
      }
      by_result (Err status) flushed puts =
          let here = (sink_of sink).written in
          let cut = puts.cut_off in
          let more = grew.grew told_first in
          let held = front (grew.observable ∙ told_first) in
          let grown : (sink_of sink_new).written ≡ here ++ more.rest = more.all_is
          ∙ ap (λ (s : W). (sink_of s).written ++ more.rest) first_is in
          let part_is : cut.part ≡ more.rest ++ held.rest = append_cancel_left here cut.part (more.rest ++ held.rest)
          (ap (λ (xs : List ℕ). xs ++ cut.part) (sym written_before) ∙ sym cut.appended ∙ held.all_is
          ∙ ap (λ (xs : List ℕ). xs ++ held.rest) grown ∙ append_assoc here more.rest held.rest) in
          record {
            appended = tt;
            cut_off = record {
              part = more.rest;
              rest = held.rest ++ cut.rest;
              is_prefix = cut.is_prefix ∙ ap (λ (xs : List ℕ). xs ++ cut.rest) part_is
                  ∙ append_assoc more.rest held.rest cut.rest;
              appended = grown;
            };
          }
