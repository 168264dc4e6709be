-- Lemmas on calls that judge a disk and print a report: what is printed, and how they end.
use Rattle.std.proofs.Common.{◌≡◌, ◌⊎◌, ℕ, ◌≤◌, Result, Ok, Err, IfOk, refl, sym, subst, ◌∙◌, arith, inl, inr}
use Rattle.std.proofs.Common.{⊎_elim}
use Rattle.std.proofs.lemmas.Bool.{false≢true}
use Rattle.store_base.specs.Counts.{raised, Rose}
use Rattle.store_base.specs.Faults.{disk_faults_after}
use Rattle.store_base.specs.declared.store_fault.Fault.{Fault}
use Rattle.store_base.specs.declared.store_fault.Fault.TheVariants as causes
use Rattle.disk_model.specs.DiskState.{DiskState}
use Rattle.gate_journal.specs.Disks.{KeepsDisk}
use Rattle.image_check.specs.declared.verdict.Verdict.{Verdict}
use Rattle.image_check.specs.declared.verdict.Verdict.TheVariants as verdicts
use Rattle.image_check.specs.Verdicts.{IsNoImage}
use Rattle.script_lines.specs.SourceState.{SourceState}
use Rattle.script_lines.specs.SinkState.{SinkState}
use Rattle.image_subcommands.specs.declared.status.Status.{Status}
use Rattle.image_subcommands.specs.declared.status.Status.TheVariants as statuses
use Rattle.image_subcommands.specs.Endings.{fault_status}
use Rattle.image_subcommands.specs.Outside.{KeepsOutside}
use Rattle.image_subcommands.specs.Reports.{verdict_status, IsUnreported, PrintsReport, Reports}
use Rattle.image_subcommands.specs.Reports.{EndsByVerdict}
use Rattle.image_subcommands.specs.Statuses.{IsJudged, disk_faults_by, source_faults_by, sink_faults_by}
use Rattle.image_subcommands.proofs.OutsideLemmas.{kept_around}

-- a count of failed calls that was raised rose
pub rose : (old new : ℕ) → new ≡ raised old → Rose old new
rose old new is = subst (λ n. raised old ≤ n) (sym is) (omega arith)

-- ---- by status

pub is_verdict : (verdict : Verdict) → IsJudged (verdict_status verdict)
is_verdict (verdicts.Clean pages dirs files bytes) = refl
is_verdict verdicts.NotImage = refl
is_verdict verdicts.Damaged = refl

pub is_no_verdict : (fault : Fault) → IsJudged (fault_status fault) → ⊥
is_no_verdict causes.Disk h = false≢true h
is_no_verdict causes.NoMemory h = false≢true h

-- what holds of each status of a fault, of a sink's fault and of each verdict holds of that by which a call ends
pub ends_in : {W : Type 0} (sink_of : W → SinkState) (P : Status → Type 0) → ((fault : Fault) → P (fault_status fault))
    → P statuses.SinkFault → ((verdict : Verdict) → P (verdict_status verdict))
    → (result : Result Verdict Fault) (old new : W) (status : Status)
    → PrintsReport sink_of result old new status → P status
ends_in sink_of P fails sinks judges (Ok verdict) old new status prints =
    ⊎_elim (λ e. subst P (sym e) sinks) (λ e. subst P (sym e) (judges verdict)) prints.status_is
ends_in sink_of P fails sinks judges (Err fault) old new status prints = subst P (sym prints.status_is) (fails fault)

-- ---- the report

module _ {W : Type 0} (sink_of : W → SinkState) (P : Verdict → Type 0) where
  pub is_reported : (result : Result Verdict Fault) (old new : W) (status : Status) → IfOk result P
      → PrintsReport sink_of result old new status → IsJudged status → Reports P status (sink_of old) (sink_of new)
  is_reported (Ok verdict) old new status judged prints reported = record {
    verdict = verdict;
    verdict_is = judged;
    status_is = prints.status_is;
    whole = λ observable other. prints.whole observable (⊎_elim (λ e. absurd (other e)) (λ e. e) prints.status_is);
    in_part = prints.in_part;
  }
  is_reported (Err fault) old new status judged prints reported =
      absurd (is_no_verdict fault (subst IsJudged prints.status_is reported))

pub is_silent : {W : Type 0} (sink_of : W → SinkState) (result : Result Verdict Fault) (old new : W) (status : Status)
    → PrintsReport sink_of result old new status → (IsJudged status → ⊥) → new ≡ old
is_silent sink_of (Ok verdict) old new status prints silent =
    absurd (silent (⊎_elim (λ e. subst IsJudged (sym e) refl)
    (λ e. subst IsJudged (sym e) (is_verdict verdict)) prints.status_is))
is_silent sink_of (Err fault) old new status prints silent = prints.same

-- ---- how the call ends

-- what a verdict on a disk says
abbrev pub Found : Type 0 → Type 0 → DiskState → Verdict → Type 0
Found IsWhole IsBroken old (verdicts.Clean pages dirs files bytes) = IsWhole
Found IsWhole IsBroken old verdicts.NotImage = IsNoImage old
Found IsWhole IsBroken old verdicts.Damaged = IsBroken

module _ (IsWhole IsBroken : Type 0) (old new : DiskState) where
  -- by a status that is none of a verdict
  none_judged : (status : Status) → IsUnreported status → (status ≡ statuses.Done → ⊥)
      → (status ≡ statuses.NotImage → ⊥) → (status ≡ statuses.Damaged → ⊥) → (sink sink_new : SinkState)
      → ((Rose old.faults new.faults → ⊥) → (Rose sink.faults sink_new.faults → ⊥)
      → (status ≡ statuses.Done) ⊎ (status ≡ statuses.NoMemory))
      → EndsByVerdict IsWhole IsBroken status old new sink sink_new
  none_judged status before done image damage sink sink_new complete = record {
    clean = record { only = λ e. absurd (done e); always = λ whole. inr before };
    not_image = record { only = λ e. absurd (image e); always = λ none. inr before };
    damaged = record { only = λ e. absurd (damage e); always = λ broken. inr before };
    complete = λ whole. complete;
  }

  -- by a fault before the verdict
  ends_by_fault : (fault : Fault) (sink sink_new : SinkState)
      → new.faults ≡ disk_faults_after {T = Verdict} old.faults (Err fault)
      → EndsByVerdict IsWhole IsBroken (fault_status fault) old new sink sink_new
  ends_by_fault causes.Disk sink sink_new faults =
      none_judged statuses.DiskFault (inr refl) (λ e. cc) (λ e. cc) (λ e. cc) sink sink_new
      (λ disk_well sink_well. absurd (disk_well (rose old.faults new.faults faults)))
  ends_by_fault causes.NoMemory sink sink_new faults =
      none_judged statuses.NoMemory (inr refl) (λ e. cc) (λ e. cc) (λ e. cc) sink sink_new
      (λ disk_well sink_well. inr refl)

  -- by one of the sink
  ends_by_sink : (sink sink_new : SinkState) → sink_new.faults ≡ raised sink.faults
      → EndsByVerdict IsWhole IsBroken statuses.SinkFault old new sink sink_new
  ends_by_sink sink sink_new faults =
      none_judged statuses.SinkFault (inl refl) (λ e. cc) (λ e. cc) (λ e. cc) sink sink_new
      (λ disk_well sink_well. absurd (sink_well (rose sink.faults sink_new.faults faults)))

  module _ (whole_image : IsWhole → IsNoImage old → ⊥) (whole_broken : IsWhole → IsBroken → ⊥)
      (image_broken : IsNoImage old → IsBroken → ⊥) where
    -- by the verdict
    ends_so : (verdict : Verdict) (sink sink_new : SinkState) → Found IsWhole IsBroken old verdict
        → EndsByVerdict IsWhole IsBroken (verdict_status verdict) old new sink sink_new
    ends_so (verdicts.Clean pages dirs files bytes) sink sink_new found = record {
      clean = record { only = λ e. found; always = λ whole. inl refl };
      not_image = record { only = λ e. absurd (cc); always = λ none. absurd (whole_image found none) };
      damaged = record { only = λ e. absurd (cc); always = λ broken. absurd (whole_broken found broken) };
      complete = λ whole disk_well sink_well. inl refl;
    }
    ends_so verdicts.NotImage sink sink_new found = record {
      clean = record { only = λ e. absurd (cc); always = λ whole. absurd (whole_image whole found) };
      not_image = record { only = λ e. found; always = λ none. inl refl };
      damaged = record { only = λ e. absurd (cc); always = λ broken. absurd (image_broken found broken) };
      complete = λ whole disk_well sink_well. absurd (whole_image whole found);
    }
    ends_so verdicts.Damaged sink sink_new found = record {
      clean = record { only = λ e. absurd (cc); always = λ whole. absurd (whole_broken whole found) };
      not_image = record { only = λ e. absurd (cc); always = λ none. absurd (image_broken none found) };
      damaged = record { only = λ e. found; always = λ broken. inl refl };
      complete = λ whole disk_well sink_well. absurd (whole_broken whole found);
    }

    pub ends_by_verdict : {W : Type 0} (sink_of : W → SinkState) (result : Result Verdict Fault) (sink sink_new : W)
        (status : Status) → IfOk result (Found IsWhole IsBroken old) → new.faults ≡ disk_faults_after old.faults result
        → PrintsReport sink_of result sink sink_new status
        → EndsByVerdict IsWhole IsBroken status old new (sink_of sink) (sink_of sink_new)
    ends_by_verdict sink_of (Ok verdict) sink sink_new status found faults prints =
        let P : Status → Type 0 = λ s. EndsByVerdict IsWhole IsBroken s old new (sink_of sink) (sink_of sink_new) in
        ⊎_elim
        (λ e. subst P (sym e) (ends_by_sink (sink_of sink) (sink_of sink_new)
        (subst (λ (s : Status). (sink_of sink_new).faults ≡ sink_faults_by s (sink_of sink).faults) e
        prints.faults)))
        (λ e. subst P (sym e) (ends_so verdict (sink_of sink) (sink_of sink_new) found)) prints.status_is
    ends_by_verdict sink_of (Err fault) sink sink_new status found faults prints =
        let P : Status → Type 0 = λ s. EndsByVerdict IsWhole IsBroken s old new (sink_of sink) (sink_of sink_new) in
        subst P (sym prints.status_is) (ends_by_fault fault (sink_of sink) (sink_of sink_new) faults)

-- ---- what stands around it

-- no call of the disk or of the source failed
record SparesCounts (status : Status) : Type 0 where
  pub disk : (count : ℕ) → disk_faults_by status count ≡ count
  pub source : (count : ℕ) → source_faults_by status count ≡ count

spares_counts : (verdict : Verdict) → SparesCounts (verdict_status verdict)
spares_counts (verdicts.Clean pages dirs files bytes) = record { disk = λ n. refl; source = λ n. refl }
spares_counts verdicts.NotImage = record { disk = λ n. refl; source = λ n. refl }
spares_counts verdicts.Damaged = record { disk = λ n. refl; source = λ n. refl }

sink_spares_counts : SparesCounts statuses.SinkFault
sink_spares_counts = record { disk = λ n. refl; source = λ n. refl }

-- a fault came in place of a verdict
outside_fault : (fault : Fault) (old new : DiskState) (source : SourceState) (sink : SinkState) → KeepsDisk old new
    → new.faults ≡ disk_faults_after {T = Verdict} old.faults (Err fault)
    → KeepsOutside (fault_status fault) old new source source sink sink
outside_fault causes.Disk old new source sink kept faults =
    kept_around {status = statuses.DiskFault} old new source sink kept faults refl refl
outside_fault causes.NoMemory old new source sink kept faults =
    kept_around {status = statuses.NoMemory} old new source sink kept faults refl refl

-- a disk was judged, and the report printed, or not
pub outside_report : {W : Type 0} (sink_of : W → SinkState) (result : Result Verdict Fault) (old new : DiskState)
    (source : SourceState) (sink sink_new : W) (status : Status)
    → KeepsDisk old new → new.faults ≡ disk_faults_after old.faults result
    → PrintsReport sink_of result sink sink_new status
    → KeepsOutside status old new source source (sink_of sink) (sink_of sink_new)
outside_report sink_of (Ok verdict) old new source sink sink_new status kept faults prints =
    let counts : SparesCounts status =
    ⊎_elim (λ e. subst SparesCounts (sym e) sink_spares_counts)
    (λ e. subst SparesCounts (sym e) (spares_counts verdict)) prints.status_is in
    record {
      disk_kept = kept;
      source_observable = refl;
      sink_observable = prints.observable;
      disk_faults = faults ∙ sym (counts.disk old.faults);
      source_faults = sym (counts.source source.faults);
      sink_faults = prints.faults;
    }
outside_report {W} sink_of (Err fault) old new source sink sink_new status kept faults prints =
    subst (λ (s : Status). KeepsOutside s old new source source (sink_of sink) (sink_of sink_new))
    (sym prints.status_is)
    (subst (λ (w : W). KeepsOutside (fault_status fault) old new source source (sink_of sink) (sink_of w))
    (sym prints.same) (outside_fault fault old new source (sink_of sink) kept faults))
