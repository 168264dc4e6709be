-- How a making ends that stops before its end: from what a format and a run promise.
use Rattle.std.proofs.Common.{◌≡◌, length, Result, Ok, Err, IfErr, IsErrAnd, refl, sym, ap, ◌∙◌, subst, arith}
use Rattle.std.proofs.Common.{length-append}
use Rattle.store_model.specs.Parameters.{Parameters}
use Rattle.store_model.specs.Trees.{Tree}
use Rattle.store_model.specs.Images.{Represents}
use Rattle.store_base.specs.Counts.{raised}
use Rattle.script_lines.specs.Memory.{SourceMemory, SinkMemory, source_state, sink_state}
use Rattle.image_subcommands.specs.declared.status.Status.{Status}
use Rattle.image_subcommands.specs.declared.status.Status.TheVariants as statuses
use Rattle.image_subcommands.specs.Outside.{outside_of, KeepsOutside}
use Rattle.image_subcommands.specs.FormatCall.{IsFormat}
use Rattle.image_subcommands.specs.Statuses.{Subcommand as words, IsStatusOf, IsStopOf, disk_faults_by}
use Rattle.image_subcommands.specs.Statuses.{source_faults_by, sink_faults_by}
use Rattle.script_runs.specs.ScriptCall.{IsRun}
use Rattle.store_claims.specs.Machines.{Disk, Ended, bytes_of, meaning}
use Rattle.store_claims.specs.Makings.{SparesCounts, StopsRuns, StopsFormat}
use Rattle.store_claims.proofs.RunWays.{run_stop, way}

-- an error that is handed on as it is
pub handed_on : {T E : Type 0} (P : E → Type 0) (fault : E) (result : Result T E) → IsErrAnd result (λ e. e ≡ fault)
    → P fault → IfErr result P
handed_on P fault (Ok value) is holds = tt
handed_on P fault (Err e) is holds = subst P (sym is) holds

-- ---- statuses

format_stop : (status : Status) → IsStatusOf words.Format status → (status ≡ statuses.Done → ⊥)
    → IsStopOf words.Format status
format_stop status ends other = grind arith

-- ---- the counts of failed calls

module _ (disk : Disk) (source : SourceMemory) (sink : SinkMemory) (after : Ended)
    (outside : KeepsOutside after.status (meaning disk) (meaning after.disk) (source_state source)
    (source_state after.source) (sink_state sink) (sink_state after.sink)) where
  pub disk_by : (status : Status) → after.status ≡ status
      → (meaning after.disk).faults ≡ disk_faults_by status (meaning disk).faults
  disk_by status e = subst (λ (s : Status). (meaning after.disk).faults ≡ disk_faults_by s (meaning disk).faults) e
      outside.disk_faults

  source_by : (status : Status) → after.status ≡ status → after.source.faults ≡ source_faults_by status source.faults
  source_by status e = subst (λ (s : Status). after.source.faults ≡ source_faults_by s source.faults)
      e outside.source_faults

  sink_by : (status : Status) → after.status ≡ status → after.sink.faults ≡ sink_faults_by status sink.faults
  sink_by status e = subst (λ (s : Status). after.sink.faults ≡ sink_faults_by s sink.faults) e outside.sink_faults

  -- where the call is done none failed
  pub spares_counts : after.status ≡ statuses.Done → SparesCounts disk sink after
  spares_counts e = record { disk_faults = disk_by statuses.Done e; sink_faults = sink_by statuses.Done e }

  -- ---- one call

  pub run_stops : (t : Tree) (p : Parameters)
      → IsRun meaning source_state sink_state (outside_of disk source sink) after → Represents (bytes_of disk) t p
      → (after.status ≡ statuses.Done → ⊥) → StopsRuns disk (λ script. script ≡ source) sink after
  run_stops t p run represents other = record {
    ends = run_stop after.status (way (λ status ends. ends) t p disk source sink after run represents) other;
    disk_fault = disk_by statuses.DiskFault;
    sink_fault = sink_by statuses.SinkFault;
    source_fault = λ e. (source, refl, source_by statuses.SourceFault e);
    too_long = λ e.
        let many = (run.keeps refl).too_long e in (
          source,
          refl,
          omega (
            arith,
            many.count_is,
            ap length many.taken_is,
            length-append many.taken after.source.left,
          ),
        );
  }

  pub format_stops : (p : Parameters) → IsFormat meaning p (outside_of disk source sink) after
      → (after.status ≡ statuses.Done → ⊥) → StopsFormat p disk after
  format_stops p format other = record {
    ends = format_stop after.status format.ends other;
    disk_fault = disk_by statuses.DiskFault;
    already_image = λ e. ((format.observed refl).already_image.only e).first_is;
    wrong_length = format.wrong_length.only;
  }

-- there was no memory for the word `run`
pub unrun_stops : (disk : Disk) (IsScript : SourceMemory → Type 0) (sink : SinkMemory) (ended : Ended)
    → ended.status ≡ statuses.NoMemory → StopsRuns disk IsScript sink ended
unrun_stops disk IsScript sink ended is = record {
  ends = subst (IsStopOf words.Run) (sym is) refl;
  disk_fault = λ e. absurd (cc);
  sink_fault = λ e. absurd (cc);
  source_fault = λ e. absurd (cc);
  too_long = λ e. absurd (cc);
}

-- ---- runs behind calls that were done

pub stops_behind : (disk now : Disk) (IsScript IsOne : SourceMemory → Type 0) (sink sink_now : SinkMemory)
    (ended : Ended) → (meaning now).faults ≡ (meaning disk).faults → sink_now.faults ≡ sink.faults
    → ((script : SourceMemory) → IsOne script → IsScript script) → StopsRuns now IsOne sink_now ended
    → StopsRuns disk IsScript sink ended
stops_behind disk now IsScript IsOne sink sink_now ended disk_is sink_is among stops = record {
  ends = stops.ends;
  disk_fault = λ e. stops.disk_fault e ∙ ap raised disk_is;
  sink_fault = λ e. stops.sink_fault e ∙ ap raised sink_is;
  source_fault = λ e. let fault = stops.source_fault e in (fault.0, among fault.0 fault.1, fault.2);
  too_long = λ e. let long = stops.too_long e in (long.0, among long.0 long.1, long.2);
}
