-- What a check says of the bytes on a disk, and what a run of the same bytes does.
use Rattle.std.proofs.Common.{◌≡◌, ◌⊎◌, ℕ, List, ◌++◌, length, take, codes, refl, sym, ap, subst, ◌∙◌, inl, inr, arith}
use Rattle.std.proofs.Math.Seq.{take-length}
use Rattle.store_model.specs.Parameters.{Parameters}
use Rattle.store_model.specs.Trees.{Tree, empty_tree}
use Rattle.store_model.specs.Commands.{line}
use Rattle.store_model.specs.Images.{layout, Represents}
use Rattle.store_model.specs.Scripts.{lines, replies, tree_after}
use Rattle.store_model.proofs.TreesLemmasLayouts.{images_tell}
use Rattle.disk_model.specs.DiskState.{DiskState}
use Rattle.disk_model.proofs.Crashes.{LeavesOnly-weaken, LeavesOnly-trans}
use Rattle.image_check.specs.declared.verdict.Verdict.{Verdict}
use Rattle.image_check.specs.declared.verdict.Verdict.TheVariants as verdicts
use Rattle.image_check.specs.Standing.{IsFitting, RepresentsSome}
use Rattle.image_check.specs.Verdicts.{IsVerdict, IsNoImage, IsDamaged, clean_of}
use Rattle.script_lines.specs.Memory.{SourceMemory, SinkMemory, source_state, sink_state}
use Rattle.image_subcommands.specs.declared.status.Status.{Status}
use Rattle.image_subcommands.specs.declared.status.Status.TheVariants.{Done, SinkFault}
use Rattle.image_subcommands.specs.CheckCall.{IsCheck}
use Rattle.image_subcommands.specs.Outside.{outside_of}
use Rattle.image_subcommands.specs.Reports.{report_text, verdict_status, Reports, EndsByVerdict}
use Rattle.image_subcommands.specs.Statuses.{Subcommand as words, IsBetweenLines, IsJudged, ComesExactly}
use Rattle.script_runs.specs.ScriptCall.{IsRun}
use Rattle.script_runs.proofs.AnswerLemmas.{length-run_texts, texts_joined}
use Rattle.store_claims.specs.declared.machines.Machine.{Machine}
use Rattle.store_claims.specs.Machines.{Disk, Ended, HasImage, bytes_of, meaning}
use Rattle.store_claims.specs.Makings.{made_tree}
use Rattle.store_claims.proofs.MakingLemmas.{represented, made_fits}
use Rattle.store_claims.proofs.NothingLemmas.{damaged_with}
use Rattle.store_claims.proofs.RunWays.{found}
use Rattle.store_claims.specs.ImageMachines.{given}
use Rattle.store_claims.specs.Checks.{clean_line, IsNone, IsBroken, IsSome, IsLineOn, JudgesExactly}
use Rattle.store_claims.specs.Checks.{ChecksTree, AgreesWithRun, AnswersByOneTree, LeavesAlone}

-- a status comes exactly where this holds, and so exactly where the same holds in other words
pub exactly : {expected status : Status} {P Q : Type 0} {Before : Status → Type 0}
    → ComesExactly expected P Before status → (P → Q) → (Q → P) → ComesExactly expected Q Before status
exactly is to from = record { only = λ e. to (is.only e); always = λ holds. is.always (from holds) }

-- ---- a verdict and its line

text_of_clean : (t : Tree) (p : Parameters) → report_text (clean_of t p) ≡ clean_line t p
unfolding report_text clean_line
text_of_clean t p = refl

text_of_none : report_text verdicts.NotImage ≡ line (codes "not-image")
unfolding report_text
text_of_none = refl

text_of_broken : report_text verdicts.Damaged ≡ line (codes "damaged")
unfolding report_text
text_of_broken = refl

-- a verdict that is clean is that on a tree
pub record TellsTree (Holds : Tree → Parameters → Type 0) (verdict : Verdict) : Type 0 where
  pub tree : Tree
  pub params : Parameters
  pub holds : Holds tree params
  pub verdict_is : verdict ≡ clean_of tree params

-- What verdicts of this kind, and the ends of a call by them, say of the tree that a disk holds in this sense.
pub record JudgedBy (Holds : Tree → Parameters → Type 0) (disk : Disk) (Verdicts : Verdict → Type 0)
    (Whole : Type 0) : Type 0 where
  pub one : (t u : Tree) (p q : Parameters) → Holds t p → Holds u q → (t ≡ u) × (p ≡ q)
  pub clean : (pages dirs files count : ℕ) → Verdicts (verdicts.Clean pages dirs files count)
      → TellsTree Holds (verdicts.Clean pages dirs files count)
  pub none : Verdicts verdicts.NotImage → IsNoImage (meaning disk)
  pub broken : Verdicts verdicts.Damaged → IsBroken Holds (bytes_of disk)
  pub beyond : IsBroken Holds (bytes_of disk) → Verdicts verdicts.Damaged
  pub some : Whole → IsSome Holds
  pub whole : IsSome Holds → Whole

module _ {Holds : Tree → Parameters → Type 0} {disk : Disk} {Verdicts : Verdict → Type 0} {Whole : Type 0}
    (by : JudgedBy Holds disk Verdicts Whole) where
  line_on : (verdict : Verdict) → Verdicts verdict → IsLineOn Holds (bytes_of disk) (report_text verdict)
  line_on (verdicts.Clean pages dirs files count) is =
      let tells = by.clean pages dirs files count is in
      inl (
        tells.tree,
        tells.params,
        tells.holds,
        ap report_text tells.verdict_is
            ∙ text_of_clean tells.tree tells.params,
      )
  line_on verdicts.NotImage is = inr (inl (by.none is refl, text_of_none))
  line_on verdicts.Damaged is = inr (inr (by.broken is, text_of_broken))

  -- the numbers are those of the one tree
  numbers_of : (verdict : Verdict) → Verdicts verdict → verdict_status verdict ≡ Done → (t : Tree) (p : Parameters)
      → Holds t p → report_text verdict ≡ clean_line t p
  numbers_of (verdicts.Clean pages dirs files count) is e t p holds =
      let tells = by.clean pages dirs files count is in
      let same = by.one tells.tree t tells.params p tells.holds holds in
      ap report_text tells.verdict_is ∙ text_of_clean tells.tree tells.params ∙ (λ i. clean_line (same.0 i) (same.1 i))
  numbers_of verdict is e t p holds = absurd (cc)

  by_status : {status : Status} (verdict : Verdict) → (status ≡ SinkFault) ⊎ (status ≡ verdict_status verdict)
      → status ≡ Done → verdict_status verdict ≡ Done
  by_status verdict (inl fault) e = absurd (cc)
  by_status verdict (inr is) e = sym is ∙ e

  pub judges_exactly : (status : Status) (disk_new : DiskState) (sink sink_new : SinkMemory)
      → EndsByVerdict Whole (Verdicts verdicts.Damaged) status (meaning disk) disk_new (sink_state sink)
      (sink_state sink_new)
      → (IsJudged status → Reports Verdicts status (sink_state sink) (sink_state sink_new))
      → ((IsJudged status → ⊥) → sink_new ≡ sink)
      → JudgesExactly Holds (bytes_of disk) status (sink_state sink) (sink_state sink_new)
  judges_exactly status disk_new sink sink_new ends reports silent = record {
    clean = exactly ends.clean by.some by.whole;
    not_image = exactly ends.not_image (λ none. none refl) (λ none observable. none);
    damaged = exactly ends.damaged by.broken by.beyond;
    numbers = λ e t p holds.
        let report = reports (subst IsJudged (sym e) refl) in
        report.whole refl (λ fault. absurd (cc))
        ∙ ap (λ (text : List ℕ). sink.written ++ text)
        (numbers_of report.verdict report.verdict_is (by_status report.verdict report.status_is e) t p holds);
    line = λ is well.
        let report = reports is in (
          report_text report.verdict,
          line_on report.verdict report.verdict_is,
          report.whole refl well,
        );
    in_part = λ e.
        let report = reports (subst IsJudged (sym e) refl) in
        (report_text report.verdict, line_on report.verdict report.verdict_is, report.in_part refl e);
    silent = λ other. ap sink_state (silent other);
  }

-- ---- a check

pub broken : (disk : Disk) → IsDamaged (meaning disk) → IsBroken (Represents (bytes_of disk)) (bytes_of disk)
broken disk is = record { image = (is.params, is.has_parameters.named refl); none = is.no_tree refl }

pub damaged : (disk : Disk) → IsBroken (Represents (bytes_of disk)) (bytes_of disk) → IsDamaged (meaning disk)
damaged disk is = damaged_with disk is.image.0 is.none is.image.1

by_check : (disk : Disk)
    → JudgedBy (Represents (bytes_of disk)) disk (IsVerdict (meaning disk)) (RepresentsSome (meaning disk))
by_check disk = record {
  one = images_tell (bytes_of disk);
  clean = λ pages dirs files count is.
      let image = is.image refl in
      record { tree = image.tree; params = is.params; holds = image.represents; verdict_is = image.verdict_is };
  none = λ is. is;
  broken = broken disk;
  beyond = damaged disk;
  some = λ some. (some.tree, some.params, some.represents);
  whole = λ some. record { tree = some.0; params = some.1; represents = some.2 };
}

pub check_exact : (machine : Machine) (after : Ended) → IsCheck meaning sink_state (given machine) after
    → JudgesExactly (Represents (bytes_of machine.disk)) (bytes_of machine.disk) after.status (sink_state machine.sink)
    (sink_state after.sink)
check_exact machine after is =
    judges_exactly (by_check machine.disk) after.status (meaning after.disk) machine.sink after.sink
    (is.observed refl).ends is.report is.silent

-- a check of a disk with the image of the tree that scripts leave
pub check_of_made : (scripts : List SourceMemory) (p : Parameters) (machine : Machine) (after : Ended)
    → IsFitting empty_tree p → HasImage machine.disk (made_tree scripts p) p
    → IsCheck meaning sink_state (given machine) after
    → ChecksTree (made_tree scripts p) p after.status machine.sink.written after.sink.written
check_of_made scripts p machine after empty has is =
    let tree = represented machine.disk (made_tree scripts p) p (made_fits scripts p empty) has in
    let exact = check_exact machine after is in
    record {
      ends = exact.clean.always (made_tree scripts p, p, tree);
      numbers = λ done. exact.numbers done (made_tree scripts p) p tree;
    }

-- ---- a check and a run

module _ (machine : Machine) (middle : Ended) (replies_sink : SinkMemory) (after : Ended)
    (check : IsCheck meaning sink_state (given machine) middle)
    (run : IsRun meaning source_state sink_state (outside_of middle.disk middle.source replies_sink) after) where
  abbrev old : List ℕ
  old = bytes_of machine.disk

  abbrev bytes : List ℕ
  bytes = bytes_of middle.disk

  same_bytes : bytes ≡ old
  same_bytes = (check.observed refl).reads.bytes

  to_middle : (P : List ℕ → Type 0) → P old → P bytes
  to_middle P = subst P (sym same_bytes)

  from_middle : (P : List ℕ → Type 0) → P bytes → P old
  from_middle P = subst P same_bytes

  abbrev IsBrokenImage : List ℕ → Type 0
  IsBrokenImage image = IsBroken (Represents image) image

  pub check_agrees : AgreesWithRun middle.status after.status
  check_agrees =
      let ends = (check.observed refl).ends in
      let runs = run.observed refl in
      record {
        not_image = λ e.
            let none = to_middle IsNone (ends.not_image.only e refl) in
            runs.not_image.always (λ observable. none);
        not_image_run = λ e.
            let none = from_middle IsNone (runs.not_image.only e refl) in
            ends.not_image.always (λ observable. none);
        damaged = λ e. runs.damaged.always
            (damaged middle.disk (to_middle IsBrokenImage (broken machine.disk (ends.damaged.only e))));
        damaged_run = λ e. ends.damaged.always
            (damaged machine.disk (from_middle IsBrokenImage (broken middle.disk (runs.damaged.only e))));
        clean = λ e.
            let some = ends.clean.only e in
            found words.Run some.tree some.params middle.disk after.status run.ends runs.not_image runs.damaged
            (to_middle (λ (image : List ℕ). Represents image some.tree some.params) some.represents);
        clean_run = λ behind.
            let some = runs.represented behind in
            ends.clean.always (record {
              tree = some.tree;
              params = some.params;
              represents = from_middle (λ (image : List ℕ). Represents image some.tree some.params) some.represents;
            });
      }

  -- bytes that hold no tree are left alone
  pub left_alone : ((t : Tree) (p : Parameters) → Represents old t p → ⊥)
      → LeavesAlone after.done (meaning machine.disk) (meaning after.disk) machine.source after.source replies_sink
      after.sink
  left_alone none =
      let reads = (check.observed refl).reads in
      let nothing = (run.observed refl).nothing
      (λ t p is. none t p (from_middle (λ (image : List ℕ). Represents image t p) is)) in
      let behind = LeavesOnly-weaken (meaning middle.disk) (meaning after.disk)
      (meaning middle.disk).crash_images (meaning machine.disk).crash_images
      (λ image left. (reads.crash image).0 left) nothing.1.crash in
      record {
        bytes = nothing.1.synced.bytes ∙ reads.bytes;
        writes = nothing.1.synced.writes ∙ reads.write_count;
        one_sync = λ low. let limit = nothing.1.synced.sync_limit in let same = reads.sync_count in omega arith;
        crash = (LeavesOnly-trans (meaning machine.disk) (meaning middle.disk) (meaning after.disk)
            (meaning machine.disk).crash_images reads.leaves behind).each;
        done_is = nothing.0.done;
        source_is = nothing.0.source ∙ check.source;
        sink_is = nothing.0.sink;
      }

  pub answers_by_one_tree : middle.status ≡ Done
      → AnswersByOneTree old machine.source.left replies_sink.written after.status after.sink.written
      (bytes_of after.disk)
  answers_by_one_tree e =
      let some = (check.observed refl).ends.clean.only e in
      let t = some.tree in
      let p = some.params in
      let script = middle.source.left in
      let runs = (run.observed refl).does t p
      (to_middle (λ (image : List ℕ). Represents image t p) some.represents) refl in
      let answers : AnswersByOneTree old script replies_sink.written after.status after.sink.written
      (bytes_of after.disk) = record {
        tree = t;
        params = p;
        represents = some.represents;
        no_other = λ u q is. images_tell old u t q p is some.represents;
        replied = λ done. (runs.replies.written refl).written_is
            ∙ ap (λ (text : List ℕ). replies_sink.written ++ text)
            ((runs.replies.written refl).promised.all done ∙ texts_joined (replies t (lines script) p));
        left = λ done.
            let all : after.done ≡ length (lines script) =
            (runs.replies.counted.all done).1 ∙ length-run_texts t script p in
            (runs.carried.image.between (subst IsBetweenLines (sym done) refl)).layout_is
            ∙ ap (λ (k : ℕ). layout (tree_after t (take k (lines script)) p) p) all
            ∙ ap (λ (texts : List (List ℕ)). layout (tree_after t texts p) p) (take-length (lines script));
      } in
      subst (λ (source : SourceMemory). AnswersByOneTree old source.left replies_sink.written after.status
      after.sink.written (bytes_of after.disk)) check.source answers
