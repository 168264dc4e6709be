-- What a stream of a store that was led into gathered lines leaves.
use Rattle.std.proofs.Common.{◌≡◌, ◌⊎◌, false, List, [], ◌∷◌, ◌++◌, Option, Some, None, Ok, Err, inl, inr}
use Rattle.std.proofs.Common.{refl, sym, ap, ◌∙◌, append_assoc}
use Rattle.std.proofs.lemmas.List.Concat.{flat_map-append}
use Rattle.std.specs.List.{flat_map}
use Rattle.store_model.specs.Parameters.{Parameters}
use Rattle.store_model.specs.Pairs.{Pair}
use Rattle.store_model.specs.Trees.{Tree}
use Rattle.disk_model.specs.DiskState.{DiskState}
use Rattle.disk_model.specs.DiskState as disks
use Rattle.script_lines.specs.SinkState.{AppendsPrefix, PutsBytes}
use Rattle.script_lines.specs.SinkState as sinks
use Rattle.script_lines.specs.SinkState.{SinkState}
use Rattle.dump_streams.specs.Dumps.{DumpStep, after_step, dump, step_line, steps_text, dump_text}
use Rattle.dump_streams.specs.declared.steps.PairSteps.{PairSteps}
use Rattle.dump_streams.specs.Spots.{spot_steps}
use Rattle.dump_streams.specs.Taking.{HasTaken}
use Rattle.dump_streams.specs.Draining.{IsTooLong}
use Rattle.dump_streams.specs.Streams.{Extends}
use Rattle.dump_streams.specs.GatheredLines.{lines_state, TookGathered, BreaksGathered}
use Rattle.dump_streams.specs.declared.fault.StreamFault.{StreamFault}
use Rattle.dump_streams.specs.declared.gather.GatheredLines.{GatheredLines}
use Rattle.dump_streams.specs.declared.taker.TakerFault.{TakerFault}
use Rattle.dump_streams.specs.declared.taker.TakerFault.TheVariants as takers
use Rattle.image_check.specs.declared.fault.ApplyFault.{ApplyFault}
use Rattle.image_check.specs.declared.fault.ApplyFault.TheVariants as apply
use Rattle.store_stream.specs.declared.stream.StoreStream.{StoreStream}
use Rattle.store_stream.specs.StoreStreams.{CameBy, CameOf, IsWhole, EndsBy, faults_by, ReadsStore}
use Rattle.image_subcommands.specs.declared.status.Status.{Status}
use Rattle.image_subcommands.specs.declared.status.Status.TheVariants as statuses
use Rattle.listing_subcommands.specs.Dumping.{KeepsStore, line_ended, read_ended}
use Rattle.listing_subcommands.specs.Dumping.IsDumpFault.{Disk, NoMemory}
use Rattle.listing_subcommands.proofs.DumpStores.{HasWritten, front_written, longer_front}
use Rattle.listing_subcommands.proofs.LineLemmas.{text_puts}

text_behind : (first rest : List DumpStep) → steps_text (first ++ rest) ≡ steps_text first ++ steps_text rest
unfolding steps_text
text_behind first rest = flat_map-append step_line first rest

-- the steps that are left of a dump of which these were given
abbrev rest_of : (steps : PairSteps) (u : Tree) (p : Parameters) (passed : List Pair) (t : Tree)
    → HasTaken steps u p passed t → List DumpStep
rest_of steps u p passed t has = has.after.file_steps ++ flat_map spot_steps has.after.left

text_before : (s : DumpStep) (rest : List DumpStep) → steps_text (s ∷ rest) ≡ step_line s ++ steps_text rest
unfolding steps_text
text_before s rest = refl

module _ {D W : Type 0} (disk_of : D → DiskState) (sink_of : W → SinkState) (old new : StoreStream D)
    (first now : GatheredLines W) where
  -- ---- the store

  module _ (steps : List DumpStep) (took : TookGathered sink_of first now steps) (reads : ReadsStore disk_of old new)
      (going : old.fault ≡ None) (running : old.store.is_stopped ≡ false) where
    -- no fault came of it
    pub read_kept : new.fault ≡ None → KeepsStore {T = Unit {0}} disk_of old.store new.store
        (lines_state sink_of first) (lines_state sink_of now) (Ok tt)
    read_kept none = record {
      tree = reads.tree;
      params = reads.params;
      fault = tt;
      runs = reads.runs going running none;
      disk_kept = reads.kept;
      disk_faults = reads.faults going
          ∙ ap (λ (f : Option ApplyFault). faults_by f (disk_of old.store.disk).faults) none;
      reads = reads.reads;
      sink_observable = took.appends.observable;
      sink_faults = took.appends.faults;
    }

    -- the fault that came of it tells how the dump ends
    pub fault_kept : KeepsStore {T = Unit {0}} disk_of old.store new.store
        (lines_state sink_of first) (lines_state sink_of now) (Err (read_ended new.fault))
    fault_kept = by_fault new.fault refl
      where
        counted : (f : Option ApplyFault) → new.fault ≡ f
            → (disk_of new.store.disk).faults ≡ faults_by f (disk_of old.store.disk).faults
        counted f is = reads.faults going
            ∙ ap (λ (f : Option ApplyFault). faults_by f (disk_of old.store.disk).faults) is

        by_fault : (f : Option ApplyFault) → new.fault ≡ f → KeepsStore {T = Unit {0}} disk_of old.store new.store
            (lines_state sink_of first) (lines_state sink_of now) (Err (read_ended f))
        by_fault None is = record {
          tree = reads.tree;
          params = reads.params;
          fault = NoMemory;
          runs = tt;
          disk_kept = reads.kept;
          disk_faults = counted None is;
          reads = reads.reads;
          sink_observable = took.appends.observable;
          sink_faults = took.appends.faults;
        }
        by_fault (Some apply.Disk) is = record {
          tree = reads.tree;
          params = reads.params;
          fault = Disk;
          runs = tt;
          disk_kept = reads.kept;
          disk_faults = counted (Some apply.Disk) is;
          reads = reads.reads;
          sink_observable = took.appends.observable;
          sink_faults = took.appends.faults;
        }
        by_fault (Some apply.NoMemory) is = record {
          tree = reads.tree;
          params = reads.params;
          fault = NoMemory;
          runs = tt;
          disk_kept = reads.kept;
          disk_faults = counted (Some apply.NoMemory) is;
          reads = reads.reads;
          sink_observable = took.appends.observable;
          sink_faults = took.appends.faults;
        }
        by_fault (Some apply.Stopped) is = absurd (reads.not_stopped going running is)

  -- ---- the lines

  module _ (t : Tree) (took : TookGathered sink_of first now (dump t)) (reads : ReadsStore disk_of old new)
      (o : disks.IsObservable (disk_of old.store.disk)) (told : sinks.IsObservable (lines_state sink_of first)) where
    told_new : disks.IsObservable (disk_of new.store.disk)
    told_new = reads.kept.observable ∙ o

    -- the whole dump is gathered
    pub whole_written : IsWhole disk_of new t
        → (lines_state sink_of now).written ≡ (lines_state sink_of first).written ++ dump_text old.store.tree
    whole_written whole = took.appends.written told
        ∙ ap (λ (u : Tree). (lines_state sink_of first).written ++ dump_text u) (whole.tree told_new ∙ reads.tree)

    -- of the dump this is left
    left_so : (rest : List DumpStep) → dump new.store.tree ≡ dump t ++ rest
        → HasWritten (lines_state sink_of first).written (lines_state sink_of now).written
        (dump_text old.store.tree) (steps_text rest)
    left_so rest is = record {
      part = steps_text (dump t);
      text_is = ap dump_text (sym reads.tree) ∙ ap steps_text is ∙ text_behind (dump t) rest;
      written = took.appends.written told;
    }

    -- the front of a dump
    front_puts : (rest : List DumpStep) → dump new.store.tree ≡ dump t ++ rest → (status : Status)
        → PutsBytes {T = Unit {0}} (lines_state sink_of first) (lines_state sink_of now)
        (dump_text old.store.tree) (Err status)
    front_puts rest is status =
        let left = left_so rest is in record {
          appended = tt;
          cut_off = record {
            part = left.part;
            rest = steps_text rest;
            is_prefix = left.text_is;
            appended = left.written;
          };
        }

    -- the stream ended before
    pub ended_puts : (fault : StreamFault) (status : Status)
        → EndsBy disk_of new t fault ⊎ IsTooLong (CameOf disk_of) new t fault
        → PutsBytes {T = Unit {0}} (lines_state sink_of first) (lines_state sink_of now)
        (dump_text old.store.tree) (Err status)
    ended_puts fault status (inl ends) = let front = ends.front told_new in front_puts front.0 front.1 status
    ended_puts fault status (inr long) =
        let has = (long.came_is.stands told_new).taken in
        front_puts (rest_of new.steps new.store.tree new.store.params _ t has) has.after.dump_is status

    -- the line of the next step was not gathered
    pub broken_puts : (last : GatheredLines W) (s : DumpStep) (fault : TakerFault) → Extends t s
        → CameBy disk_of new (after_step t s) 0 → BreaksGathered sink_of now last s fault
        → PutsBytes (lines_state sink_of first) (lines_state sink_of last)
        (dump_text old.store.tree) (line_ended (Err fault))
    broken_puts last s fault extends came broke = by_fault fault
        (text_puts sink_of now last (step_line s) (Err fault) broke.line (took.appends.observable ∙ told))
      where
        rest : List DumpStep
        rest = rest_of new.steps new.store.tree new.store.params _ (after_step t s) (came.stands told_new).taken

        left : HasWritten (lines_state sink_of first).written (lines_state sink_of now).written
            (dump_text old.store.tree) (steps_text (s ∷ rest))
        left = left_so (s ∷ rest) (((came.stands told_new).taken).after.dump_is
            ∙ ap (λ (steps : List DumpStep). steps ++ rest) extends.dump_is ∙ append_assoc (dump t) (s ∷ []) rest)

        by_status : (status : Status)
            → PutsBytes {T = Unit {0}} (lines_state sink_of now) (lines_state sink_of last) (step_line s) (Err status)
            → PutsBytes {T = Unit {0}} (lines_state sink_of first) (lines_state sink_of last)
            (dump_text old.store.tree) (Err status)
        by_status status puts = record {
          appended = tt;
          cut_off = front_written (lines_state sink_of first).written (lines_state sink_of now).written
              (lines_state sink_of last).written (dump_text old.store.tree) (steps_text (s ∷ rest)) left
              (longer_front (lines_state sink_of now).written (lines_state sink_of last).written (step_line s)
              (steps_text rest) (steps_text (s ∷ rest)) (text_before s rest) puts.cut_off);
        }

        by_fault : (f : TakerFault)
            → PutsBytes (lines_state sink_of now) (lines_state sink_of last) (step_line s) (line_ended (Err f))
            → PutsBytes (lines_state sink_of first) (lines_state sink_of last)
            (dump_text old.store.tree) (line_ended (Err f))
        by_fault takers.NoMemory puts = by_status statuses.NoMemory puts
        by_fault takers.Failed puts = by_status statuses.SinkFault puts
