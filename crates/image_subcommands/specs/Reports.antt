-- What a check and a scrub report, and how they end by it.
use Rattle.std.specs.Prelude.{◌≡◌, ◌≢◌, ◌⊎◌, ℕ, List, ◌++◌, codes, Result, Ok, Err}
use Rattle.std.specs.Fmt.{decimal}
use Rattle.store_model.specs.Commands.{line}
use Rattle.store_base.specs.Counts.{Rose}
use Rattle.store_base.specs.declared.store_fault.Fault.{Fault}
use Rattle.disk_model.specs.DiskState.{DiskState}
use Rattle.image_check.specs.declared.verdict.Verdict.{Verdict}
use Rattle.image_check.specs.declared.verdict.Verdict.TheVariants.{Clean, NotImage, Damaged}
use Rattle.image_check.specs.Verdicts.{IsNoImage}
use Rattle.script_lines.specs.SinkState.{SinkState, IsObservable, AppendsPrefix}
use Rattle.image_subcommands.specs.declared.status.Status.{Status}
use Rattle.image_subcommands.specs.declared.status.Status.TheVariants as statuses
use Rattle.image_subcommands.specs.Endings.{fault_status}
use Rattle.image_subcommands.specs.Statuses.{MayComeFirst, ComesExactly, sink_faults_by}

-- the line that a verdict prints: of a clean image its pages, directories, files and bytes
unfoldable pub report_text : Verdict → List ℕ
report_text (Clean pages dirs files bytes) =
    line (codes "clean " ++ decimal pages ++ codes " " ++ decimal dirs ++ codes " " ++ decimal files
    ++ codes " " ++ decimal bytes)
report_text NotImage = line (codes "not-image")
report_text Damaged = line (codes "damaged")

-- how a call ends whose report was printed
abbrev pub verdict_status : Verdict → Status
verdict_status (Clean pages dirs files bytes) = statuses.Done
verdict_status NotImage = statuses.NotImage
verdict_status Damaged = statuses.Damaged

-- ---- what is printed

-- The line of a verdict was put out, or where the sink failed a front of it.
pub record PrintsVerdict (verdict : Verdict) (old new : SinkState) (status : Status) : Type 0 where
  pub observable : new.is_observable ≡ old.is_observable
  pub faults : new.faults ≡ sink_faults_by status old.faults
  pub status_is : (status ≡ statuses.SinkFault) ⊎ (status ≡ verdict_status verdict)
  pub whole : IsObservable old → status ≡ verdict_status verdict → new.written ≡ old.written ++ report_text verdict
  pub in_part : IsObservable old → status ≡ statuses.SinkFault
      → AppendsPrefix old.written new.written (report_text verdict)

-- Nothing was printed, and the call ends by a fault that came in place of a verdict.
pub record PrintsNothing {W : Type 0} (fault : Fault) (old new : W) (status : Status) : Type 0 where
  pub status_is : status ≡ fault_status fault
  pub same : new ≡ old

module _ {W : Type 0} (sink_of : W → SinkState) where
  -- what is printed of a verdict, or of a fault in its place
  abbrev pub PrintsReport : Result Verdict Fault → W → W → Status → Type 0
  PrintsReport (Ok verdict) old new status = PrintsVerdict verdict (sink_of old) (sink_of new) status
  PrintsReport (Err fault) old new status = PrintsNothing fault old new status

-- The line of a verdict that has P was printed, or where the sink failed a front of it.
pub record Reports (P : Verdict → Type 0) (status : Status) (sink sink_new : SinkState) : Type 0 where
  pub verdict : Verdict
  pub verdict_is : P verdict
  pub status_is : (status ≡ statuses.SinkFault) ⊎ (status ≡ verdict_status verdict)
  pub whole : IsObservable sink → status ≢ statuses.SinkFault → sink_new.written ≡ sink.written ++ report_text verdict
  pub in_part : IsObservable sink → status ≡ statuses.SinkFault
      → AppendsPrefix sink.written sink_new.written (report_text verdict)

-- ---- how the call ends

-- it ended before its report was printed, or in the middle of it
abbrev pub IsUnreported : Status → Type 0
IsUnreported status = (status ≡ statuses.SinkFault) ⊎ MayComeFirst status

-- The call ends by the verdict on an observable disk, which may be clean or beyond repair in this sense.
pub record EndsByVerdict (IsWhole IsBroken : Type 0) (status : Status) (disk disk_new : DiskState)
    (sink sink_new : SinkState) : Type 0 where
  pub clean : ComesExactly statuses.Done IsWhole IsUnreported status
  pub not_image : ComesExactly statuses.NotImage (IsNoImage disk) IsUnreported status
  pub damaged : ComesExactly statuses.Damaged IsBroken IsUnreported status
  -- it is done where the disk is clean, no call failed and memory was there
  pub complete : IsWhole → (Rose disk.faults disk_new.faults → ⊥) → (Rose sink.faults sink_new.faults → ⊥)
      → (status ≡ statuses.Done) ⊎ (status ≡ statuses.NoMemory)
