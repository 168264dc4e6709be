-- What mirroring one image onto another leaves, also where it is cut short, and what it costs: from what a mirror
-- promises.
use Rattle.std.proofs.Common.{◌≡◌, ◌⊎◌, ◌+◌, ◌*◌, ◌<◌, ℕ, zero, suc, if◌then◌else◌, List, length, refl, sym, ap, ◌∙◌}
use Rattle.std.proofs.Common.{subst, inl, inr, ⊎_elim, arith}
use Rattle.std.proofs.lemmas.Bool.{cases_Bool}
use Rattle.store_model.specs.Parameters.{Parameters}
use Rattle.store_model.specs.Trees.{Tree}
use Rattle.store_model.specs.Images.{recovered, Represents}
use Rattle.store_model.proofs.ImagesLemmas.{length-recovered}
use Rattle.store_model.proofs.TreesLemmasLayouts.{images_tell}
use Rattle.disk_model.specs.DiskState.{DiskState, IsObservable}
use Rattle.gate_journal.specs.Changes.{RecoversToEither}
use Rattle.gate_journal.specs.Costs.{has_journal, opening_syncs, commit_writes, commit_syncs}
use Rattle.gate_journal.specs.Headers.{IsImageWith}
use Rattle.gate_journal.specs.Phases.{HasEmptyJournal}
use Rattle.gate_journal.specs.Recovery.{redo_syncs}
use Rattle.gate_journal.proofs.Layouts.{recovered-represents}
use Rattle.gate_journal.proofs.Openings.{opening_of_empty}
use Rattle.mirror_copy.specs.Differing.{slots_differing, recovery_syncs, rewrite_writes, rewrite_syncs}
use Rattle.script_lines.specs.Memory.{SinkMemory, sink_state}
use Rattle.image_subcommands.specs.declared.mirror.PairOutcome.{PairOutcome}
use Rattle.image_subcommands.specs.declared.status.Status.{Status}
use Rattle.image_subcommands.specs.declared.status.Status.TheVariants.{DiskFault}
use Rattle.image_subcommands.specs.MirrorCall.{OutsidePair, FailsOne, IsMirror}
use Rattle.image_subcommands.specs.Statuses.{IsMirrored, disk_faults_by}
use Rattle.store_claims.specs.Machines.{Disk, bytes_of, meaning}
use Rattle.store_claims.specs.Costs.{Costs}
use Rattle.store_claims.specs.Mirrors.{MirrorsEqual, FailsApart, IsOldOrFirst, MirrorsAllOrNone, MirrorsEither}
use Rattle.store_claims.specs.Mirrors.{CostsOfMirror}
use Rattle.store_claims.proofs.Costing.{costs_so}

image_of_tree : (image : List ℕ) (t : Tree) (p : Parameters) → Represents image t p → IsImageWith image p
image_of_tree image t p is = record { names = is.names; length_is = is.length_is }

-- ---- which disk failed

-- a count that rose was raised
rose_by_fault : (status : Status) (old new : ℕ) → new ≡ disk_faults_by status old → old < new → status ≡ DiskFault
rose_by_fault DiskFault old new is rose = refl
rose_by_fault status old new is rose = absurd (omega (arith, is, rose))

fails_apart : (status : Status) (from from_new to to_new : DiskState) → IsObservable from → IsObservable to
    → FailsOne status from from_new to to_new → FailsApart from from_new to to_new
fails_apart status from from_new to to_new told to_told (inl first) = record {
  first_failed = λ rose. first.spared (rose_by_fault status from.faults from_new.faults first.from_faults rose) to_told;
  second_failed = λ rose. absurd (omega (arith, rose, first.to_faults));
}
fails_apart status from from_new to to_new told to_told (inr second) = record {
  first_failed = λ rose. absurd (omega (arith, rose, second.from_faults));
  second_failed = λ rose.
      let some = second.holds (rose_by_fault status to.faults to_new.faults second.to_faults rose) in
      let under = some.holds.tree told in
      (under.tree, some.params, under.represents);
}

-- ---- what a crash leaves

module _ (p : Parameters) (first second image : List ℕ) (of_second : IsImageWith second p)
    (either : RecoversToEither p.slots (recovered p.slots second) (recovered p.slots first) image) where
  as_long : length image ≡ length second
  as_long = either.same_length ∙ length-recovered p.slots second of_second.length_is ∙ sym of_second.length_is

  -- an image that recovers to what the first does represents its tree
  of_first : (t : Tree) → Represents first t p
      → recovered p.slots image ≡ recovered p.slots first → Represents image t p
  of_first t is same = recovered-represents image t p
      is.names.in_range is.tree is.fits (as_long ∙ of_second.length_is) (same ∙ is.layout_is)

  old_or_first : (t : Tree) → Represents first t p → IsOldOrFirst t p second image
  old_or_first t is = elim either.recovers [
    | inl old ↦ inl (record { same_length = as_long; recovers = old })
    | inr new
        ↦ inr (of_first t is new)
  ]

  one_of_both : (t u : Tree) → Represents first t p → Represents second u p
      → Represents image u p ⊎ Represents image t p
  one_of_both t u is other = elim either.recovers [
    | inl old
        ↦ inl (recovered-represents image u p other.names.in_range other.tree other.fits (as_long ∙ of_second.length_is)
        (old ∙ other.layout_is))
    | inr new ↦ inr (of_first t is new)
  ]

-- ---- what it costs

some_committed : (count : ℕ) → 0 < count → (commit_writes count ≡ 5 * count + 2) × (commit_syncs count ≡ 5)
some_committed zero some = absurd (omega (arith, some))
some_committed (suc n) some = (refl, refl)

none_committed : (count : ℕ) → count ≡ 0 → (commit_writes count ≡ 0) × (commit_syncs count ≡ 0)
none_committed zero none = (refl, refl)
none_committed (suc n) none = absurd (omega (arith, none))

-- recovering an image with an empty journal makes one sync
recovery_of_empty : (slots : ℕ) (image : List ℕ) → HasEmptyJournal slots image → recovery_syncs slots image ≡ 1
recovery_of_empty slots image empty = elim (cases_Bool (has_journal slots image)) [
  | inl is ↦
      let three : opening_syncs slots image ≡ redo_syncs image + 3 =
      ap (λ b. if b then redo_syncs image + 3 else 2) is in
      absurd (omega (arith, three, (opening_of_empty slots image empty).1))
  | inr is ↦ ap (λ b. if b then redo_syncs image + 2 else 1) is
]

-- ---- disks in memory

module _ (before : OutsidePair Disk Disk SinkMemory) (after : PairOutcome Disk Disk SinkMemory)
    (is : IsMirror meaning meaning sink_state before after) where
  abbrev from : List ℕ
  from = bytes_of before.from

  abbrev to : DiskState
  to = meaning before.to

  abbrev to_new : DiskState
  to_new = meaning after.to

  pub mirror_fails : FailsApart (meaning before.from) (meaning after.from) to to_new
  mirror_fails = fails_apart after.status (meaning before.from) (meaning after.from) to to_new refl refl is.disk_faults

  -- they are a pair under the parameters of the one tree that the first holds
  pub mirror_equal : (t : Tree) (p : Parameters) → Represents from t p → IsMirrored after.status
      → MirrorsEqual t p from after.status to to_new (sink_state before.sink) (sink_state after.sink)
  mirror_equal t p represents so =
      let pair = (is.judged refl refl).mirrored so in
      let under = pair.are.first.tree refl in
      let same = (images_tell from under.tree t pair.params p under.represents represents).1 in
      let mirrors = is.mirrors refl refl p (image_of_tree from t p represents)
      (subst (IsImageWith to.bytes) same (pair.are.second.named refl)) in
      record {
        bytes = mirrors.bytes so;
        stands = record { layout_is = mirrors.bytes so ∙ represents.layout_is; durable = mirrors.durable so };
        line = (mirrors.prints so).whole refl;
        in_part = (mirrors.prints so).in_part refl;
      }

  pub mirror_cut_short : (t : Tree) (p : Parameters) → Represents from t p → IsImageWith to.bytes p
      → MirrorsAllOrNone t p to to_new
  mirror_cut_short t p represents image =
      let mirrors = is.mirrors refl refl p (image_of_tree from t p represents) image in
      record {
        reads = old_or_first p from to.bytes to_new.bytes image mirrors.reads t represents;
        crash = λ left might. ⊎_elim (λ old. inl old)
            (λ either. inr (old_or_first p from to.bytes left image either t represents))
            (mirrors.crash.each left might);
      }

  pub mirror_either : (t u : Tree) (p : Parameters) → Represents from t p → Represents to.bytes u p
      → MirrorsEither t u p to to_new
  mirror_either t u p represents other =
      let image = image_of_tree to.bytes u p other in
      let mirrors = is.mirrors refl refl p (image_of_tree from t p represents) image in
      record {
        reads = one_of_both p from to.bytes to_new.bytes image mirrors.reads t u represents other;
        crash = λ may left might. ⊎_elim (λ old. inl (may left old))
            (λ either. one_of_both p from to.bytes left image either t u represents other)
            (mirrors.crash.each left might);
      }

  pub mirror_costs : (p : Parameters) → IsImageWith from p → IsImageWith to.bytes p
      → CostsOfMirror p from after.status to to_new
  mirror_costs p first second =
      let mirrors = is.mirrors refl refl p first second in
      let count = slots_differing p.slots to.bytes from in
      let costs : Costs (rewrite_writes p.slots to.bytes count) (rewrite_syncs p.slots to.bytes count)
      (IsMirrored after.status) to to_new = record { just = mirrors.made; limit = mirrors.limit } in
      record {
        some = λ empty differ.
            let commit = some_committed count differ in
            costs_so {writes_so = 5 * count + 2} {syncs_so = 6}
            (omega (arith, commit.0, (opening_of_empty p.slots to.bytes empty).0))
            (omega (arith, commit.1, recovery_of_empty p.slots to.bytes empty)) costs;
        none = λ empty same.
            let commit = none_committed count same in
            costs_so {writes_so = 0} {syncs_so = 1}
            (omega (arith, commit.0, (opening_of_empty p.slots to.bytes empty).0))
            (omega (arith, commit.1, recovery_of_empty p.slots to.bytes empty)) costs;
      }
