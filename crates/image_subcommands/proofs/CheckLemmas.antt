-- How a check and a scrub end.
use Rattle.std.proofs.Common.{◌≡◌, Result, Ok, Err, IfOk, IsErrOf, refl, sym, ◌∙◌, subst, ⊎_elim}
use Rattle.store_model.specs.Parameters.{Parameters}
use Rattle.store_model.specs.Trees.{Tree}
use Rattle.store_base.specs.declared.store_fault.Fault.{Fault}
use Rattle.store_base.specs.declared.store_fault.Fault.TheVariants as causes
use Rattle.disk_model.specs.DiskState.{DiskState, IsObservable}
use Rattle.gate_journal.specs.Disks.{KeepsDisk}
use Rattle.image_check.specs.declared.verdict.Verdict.{Verdict}
use Rattle.image_check.specs.declared.verdict.Verdict.TheVariants as verdicts
use Rattle.image_check.specs.ImageCalls.{ReadsDisk, ChecksImage}
use Rattle.image_check.specs.Standing.{RepresentsSome}
use Rattle.image_check.specs.Verdicts.{IsVerdict, IsNoImage, IsDamaged}
use Rattle.script_lines.specs.SinkState.{SinkState}
use Rattle.scrub_free.specs.ScrubCalls.{ScrubsTo, IsScrubVerdict, IsBeyondScrubbing, Scrubs}
use Rattle.image_subcommands.specs.declared.status.Status.{Status}
use Rattle.image_subcommands.specs.declared.status.Status.TheVariants as statuses
use Rattle.image_subcommands.specs.CheckCall.{IsCheck}
use Rattle.image_subcommands.specs.Endings.{fault_status}
use Rattle.image_subcommands.specs.Outside.{Outside}
use Rattle.image_subcommands.specs.Reports.{verdict_status, PrintsVerdict, PrintsReport}
use Rattle.image_subcommands.specs.ScrubCall.{ScrubsToSome, ScrubsTree, IsScrub}
use Rattle.image_subcommands.specs.Statuses.{Subcommand as words, row, is_among, IsStatusOf, IsJudged, done_of_verdict}
use Rattle.image_subcommands.proofs.EachStatus.{implied}
use Rattle.image_subcommands.proofs.ReportLemmas.{is_no_verdict, ends_in, is_reported, is_silent, Found}
use Rattle.image_subcommands.proofs.ReportLemmas.{ends_by_verdict}

-- ---- memory

wants_memory : (fault : Fault) → fault_status fault ≡ statuses.NoMemory
    → IsErrOf {T = Verdict} {E = Fault} (Err fault) causes.NoMemory
wants_memory causes.Disk e = absurd (cc)
wants_memory causes.NoMemory e = refl

no_verdict : (verdict : Verdict) → verdict_status verdict ≡ statuses.NoMemory → ⊥
no_verdict (verdicts.Clean pages dirs files bytes) e = cc
no_verdict verdicts.NotImage e = cc
no_verdict verdicts.Damaged e = cc

no_sink_fault : statuses.SinkFault ≡ statuses.NoMemory → ⊥
no_sink_fault e = cc

-- printing takes no memory
printed_in_memory : (verdict : Verdict) (old new : SinkState) (status : Status) → PrintsVerdict verdict old new status
    → status ≡ statuses.NoMemory → ⊥
printed_in_memory verdict old new status prints e =
    ⊎_elim (λ s. no_sink_fault (sym s ∙ e)) (λ s. no_verdict verdict (sym s ∙ e)) prints.status_is

-- nor does what came to a verdict without
pub reported_in_memory : {W : Type 0} (sink_of : W → SinkState) (result : Result Verdict Fault)
    (sink sink_new : W) (status : Status)
    → (IsErrOf result causes.NoMemory → ⊥) → PrintsReport sink_of result sink sink_new status
    → status ≡ statuses.NoMemory → ⊥
reported_in_memory sink_of (Ok verdict) sink sink_new status memory prints e =
    printed_in_memory verdict (sink_of sink) (sink_of sink_new) status prints e
reported_in_memory sink_of (Err fault) sink sink_new status memory prints e =
    memory (wants_memory fault (sym prints.status_is ∙ e))

-- ---- check

-- what reads keep of a disk
pub read_keeps : {T : Type 0} (old new : DiskState) (result : Result T Fault) → ReadsDisk old new result
    → KeepsDisk old new
read_keeps old new result reads = record {
  size = reads.size;
  observable = reads.observable;
  faults = reads.rise;
  writes = reads.writes;
  syncs = reads.syncs;
}

fails_check : (fault : Fault) → IsStatusOf words.Check (fault_status fault)
fails_check causes.Disk = refl
fails_check causes.NoMemory = refl

judges_check : (verdict : Verdict) → IsStatusOf words.Check (verdict_status verdict)
judges_check (verdicts.Clean pages dirs files bytes) = refl
judges_check verdicts.NotImage = refl
judges_check verdicts.Damaged = refl

module _ (old : DiskState) (observable : IsObservable old) where
  found_by_check : (verdict : Verdict) → IsVerdict old verdict → Found (RepresentsSome old) (IsDamaged old) old verdict
  found_by_check (verdicts.Clean pages dirs files bytes) is = record {
    tree = (is.image observable).tree;
    params = is.params;
    represents = (is.image observable).represents;
  }
  found_by_check verdicts.NotImage is = is
  found_by_check verdicts.Damaged is = is

  found_by_check_of : (result : Result Verdict Fault) → IfOk result (IsVerdict old)
      → IfOk result (Found (RepresentsSome old) (IsDamaged old) old)
  found_by_check_of (Ok verdict) is = found_by_check verdict is
  found_by_check_of (Err fault) is = is

  image_represents : RepresentsSome old → IsNoImage old → ⊥
  image_represents some none = none observable some.params (record {
    names = some.represents.names;
    length_is = some.represents.length_is;
  })

  whole_represents : RepresentsSome old → IsDamaged old → ⊥
  whole_represents some broken = broken.no_tree observable some.tree some.params some.represents

  pub image_damaged : IsNoImage old → IsDamaged old → ⊥
  image_damaged none broken = none observable broken.params (broken.has_parameters.named observable)

module _ {D R W : Type 0} (disk_of : D → DiskState) (sink_of : W → SinkState) (before : Outside D R W) where
  pub check_ends : (disk : D) (result : Result Verdict Fault) (sink : W) (status : Status)
      → ChecksImage (disk_of before.disk) (disk_of disk) result → PrintsReport sink_of result before.sink sink status
      → IsCheck disk_of sink_of before (record {
        status = status;
        done = done_of_verdict status;
        disk = disk;
        source = before.source;
        sink = sink;
      })
  check_ends disk result sink status call prints =
      let old = disk_of before.disk in
      record {
        ends = ends_in sink_of (IsStatusOf words.Check) fails_check refl judges_check result
            before.sink sink status prints;
        done = refl;
        observed = λ observable. record {
          ends = ends_by_verdict (RepresentsSome old) (IsDamaged old) old (disk_of disk)
              (image_represents old observable) (whole_represents old observable) (image_damaged old observable)
              sink_of result before.sink sink status
              (found_by_check_of old observable result call.verdict) call.reads.faults prints;
          reads = call.reads.reads observable;
        };
        source = refl;
        no_memory = λ e. absurd (reported_in_memory sink_of result before.sink sink status call.memory prints e);
        report = is_reported sink_of (IsVerdict old) result before.sink sink status call.verdict prints;
        silent = is_silent sink_of result before.sink sink status prints;
      }

-- ---- scrub

-- it ends as a check may
ends_as_check : (status : Status) → IsStatusOf words.Check status → IsStatusOf words.Scrub status
ends_as_check = implied (λ s. is_among words.Check (row s).words) (λ s. is_among words.Scrub (row s).words) refl

module _ (old : DiskState) (observable : IsObservable old) where
  found_by_scrub : (verdict : Verdict) → IsScrubVerdict old verdict
      → Found (ScrubsToSome old) (IsBeyondScrubbing old) old verdict
  found_by_scrub (verdicts.Clean pages dirs files bytes) is = record {
    tree = (is.scrubs observable).tree;
    params = is.params;
    scrubs = (is.scrubs observable).scrubs;
  }
  found_by_scrub verdicts.NotImage is = is
  found_by_scrub verdicts.Damaged is = is

  found_by_scrub_of : (result : Result Verdict Fault) → IfOk result (IsScrubVerdict old)
      → IfOk result (Found (ScrubsToSome old) (IsBeyondScrubbing old) old)
  found_by_scrub_of (Ok verdict) is = found_by_scrub verdict is
  found_by_scrub_of (Err fault) is = is

  image_scrubs : ScrubsToSome old → IsNoImage old → ⊥
  image_scrubs some none = none observable some.params some.scrubs.image_is

  whole_scrubs : ScrubsToSome old → IsBeyondScrubbing old → ⊥
  whole_scrubs some broken = broken.no_tree observable some.tree some.params some.scrubs

  image_beyond : IsNoImage old → IsBeyondScrubbing old → ⊥
  image_beyond none broken = none observable broken.params (broken.has_parameters.named observable)

-- what a scrub does to an image of which it leaves the layout of a tree
scrubs_tree : {W : Type 0} (sink_of : W → SinkState) (t : Tree) (p : Parameters) (old new : DiskState)
    (result : Result Verdict Fault) (sink sink_new : W) (status : Status)
    → IsObservable old → Scrubs old new result → PrintsReport sink_of result sink sink_new status
    → ScrubsTo old.bytes t p → ScrubsTree t p status old new
scrubs_tree sink_of t p old new (Ok verdict) sink sink_new status observable call prints to =
    let scrubs = call.scrubs observable t p to in
    let counts = call.counts observable t p to in
    record {
      scrubbed = λ judged. record { layout_is = scrubs.done ∙ to.layout_is; durable = scrubs.durable };
      crash = scrubs.crash;
      reads = scrubs.reads;
      made = λ judged. counts.made;
      limit = counts.limit;
    }
scrubs_tree sink_of t p old new (Err fault) sink sink_new status observable call prints to =
    let scrubs = call.scrubs observable t p to in
    let counts = call.counts observable t p to in
    record {
      scrubbed = λ judged. absurd (is_no_verdict fault (subst IsJudged prints.status_is judged));
      crash = scrubs.crash;
      reads = scrubs.reads;
      made = λ judged. absurd (is_no_verdict fault (subst IsJudged prints.status_is judged));
      limit = counts.limit;
    }

module _ {D R W : Type 0} (disk_of : D → DiskState) (sink_of : W → SinkState) (before : Outside D R W) where
  pub scrub_ends : (disk : D) (result : Result Verdict Fault) (sink : W) (status : Status)
      → Scrubs (disk_of before.disk) (disk_of disk) result → PrintsReport sink_of result before.sink sink status
      → IsScrub disk_of sink_of before (record {
        status = status;
        done = done_of_verdict status;
        disk = disk;
        source = before.source;
        sink = sink;
      })
  scrub_ends disk result sink status call prints =
      let old = disk_of before.disk in
      record {
        ends = ends_as_check status (ends_in sink_of (IsStatusOf words.Check) fails_check refl judges_check result
            before.sink sink status prints);
        done = refl;
        observed = λ observable. record {
          ends = ends_by_verdict (ScrubsToSome old) (IsBeyondScrubbing old) old (disk_of disk)
              (image_scrubs old observable) (whole_scrubs old observable) (image_beyond old observable)
              sink_of result before.sink sink status
              (found_by_scrub_of old observable result call.verdict) call.faults prints;
          scrubs = λ t p to. scrubs_tree sink_of t p old
              (disk_of disk) result before.sink sink status observable call prints to;
          nothing = call.only_read observable;
        };
        source = refl;
        no_memory = λ e. absurd (reported_in_memory sink_of result before.sink sink status call.memory prints e);
        report = is_reported sink_of (IsScrubVerdict old) result before.sink sink status call.verdict prints;
        silent = is_silent sink_of result before.sink sink status prints;
      }
