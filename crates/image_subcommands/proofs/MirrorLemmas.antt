-- How a mirror ends, and what stands then.
use Rattle.std.proofs.Common.{◌≡◌, ◌⊎◌, ℕ, Result, Ok, Err, MatchResult, refl, sym, ap, ◌∙◌, subst, inl, inr, ⊎_elim}
use Rattle.std.proofs.lemmas.Bool.{false≢true}
use Rattle.store_model.specs.Parameters.{Parameters}
use Rattle.disk_model.specs.DiskState.{DiskState, IsObservable}
use Rattle.gate_journal.specs.Places.{ReadsOnly}
use Rattle.image_check.specs.Verdicts.{IsNoImage, IsDamaged}
use Rattle.image_check.proofs.Images.{one_name}
use Rattle.script_lines.specs.SinkState.{SinkState}
use Rattle.mirror_copy.specs.declared.fault.MirrorFault.{MirrorFault}
use Rattle.mirror_copy.specs.declared.fault.MirrorFault.TheVariants as faults
use Rattle.mirror_copy.specs.Faults.{from_faults_after, to_faults_after}
use Rattle.mirror_copy.specs.MirrorCalls.{Mirrors, BecomesFirst}
use Rattle.mirror_copy.specs.Pairs.{HoldsSome, ArePairOfSome, AreUnequalOfSome, IsCause}
use Rattle.image_subcommands.specs.declared.status.Status.{Status}
use Rattle.image_subcommands.specs.declared.status.Status.TheVariants as statuses
use Rattle.image_subcommands.specs.Endings.{mirror_status}
use Rattle.image_subcommands.specs.MirrorCall.{OutsidePair, PrintsCount, PrintsLine, PrintsMirror, PrintsSome}
use Rattle.image_subcommands.specs.MirrorCall.{LacksImage, NothingFails, EndsByFirst, EndsByPair, MirrorsDisk, FailsOne}
use Rattle.image_subcommands.specs.MirrorCall.{IsMirror}
use Rattle.image_subcommands.specs.Statuses.{Subcommand as words, IsStatusOf, IsMirrored, SparesSecond, done_of_mirror}
use Rattle.image_subcommands.specs.Statuses.{disk_faults_by, sink_faults_by}
use Rattle.image_subcommands.proofs.CheckLemmas.{image_damaged}
use Rattle.image_subcommands.proofs.ReportLemmas.{rose}

-- ---- by status

fails_mirror : (fault : MirrorFault) → IsStatusOf words.Mirror (mirror_status fault)
fails_mirror faults.NoMemory = refl
fails_mirror fault = refl

-- none of a fault is that of a mirror that was carried out
is_not_mirrored : (fault : MirrorFault) → IsMirrored (mirror_status fault) → ⊥
is_not_mirrored faults.NoMemory h = false≢true h
is_not_mirrored fault h = false≢true h

-- nor is it that of a sink
spares_sink : (fault : MirrorFault) (count : ℕ) → sink_faults_by (mirror_status fault) count ≡ count
spares_sink faults.NoMemory count = refl
spares_sink fault count = refl

-- a fault whose status spares the second disk is none of that
is_of_first : (fault : MirrorFault) → SparesSecond (mirror_status fault) → fault ≡ faults.ToDisk → ⊥
is_of_first fault spared is = false≢true (subst (λ (f : MirrorFault). SparesSecond (mirror_status f)) is spared)

-- ---- how it ends by the first disk

module _ (from : DiskState) (observable : IsObservable from) where
  whole_none : HoldsSome from → IsNoImage from → ⊥
  whole_none some none = none observable some.params (some.holds.has_parameters.named observable)

  whole_damaged : HoldsSome from → IsDamaged from → ⊥
  whole_damaged some broken = let is = some.holds.tree observable
      in broken.no_tree observable is.tree some.params is.represents

  -- where it holds a tree
  by_whole : (status : Status) → (status ≡ statuses.Damaged → ⊥) → HoldsSome from → EndsByFirst status from
  by_whole status other some = record {
    no_image = λ none. absurd (whole_none some none);
    damaged = record { only = λ e. absurd (other e); always = λ broken. absurd (whole_damaged some broken) };
  }

  by_first : (to : DiskState) (fault : MirrorFault) → IsCause from to fault → EndsByFirst (mirror_status fault) from
  by_first to faults.FromNotImage none = record {
    no_image = λ other. inl refl;
    damaged = record { only = λ e. absurd (cc); always = λ broken. absurd (image_damaged from observable none broken) };
  }
  by_first to faults.FromDamaged broken = record {
    no_image = λ none. absurd (image_damaged from observable none broken);
    damaged = record { only = λ e. broken; always = λ other. inl refl };
  }
  by_first to faults.ToNotImage lacks = by_whole statuses.NotImage (λ e. cc) lacks.first
  by_first to (faults.Unequal p q) unequal =
      by_whole statuses.Unequal (λ e. cc) (record { params = p; holds = unequal.first })
  by_first to faults.FromDisk cause = record {
    no_image = λ none. inr refl;
    damaged = record { only = λ e. absurd (cc); always = λ broken. inr refl };
  }
  by_first to faults.ToDisk some = by_whole statuses.DiskFault (λ e. cc) some
  by_first to faults.NoMemory pair =
      by_whole statuses.NoMemory (λ e. cc) (record { params = pair.params; holds = pair.are.first })

  ends_by_first : {W : Type 0} (sink_of : W → SinkState) (to : DiskState) (result : Result ℕ MirrorFault)
      (sink sink_new : W) (status : Status) → MatchResult result (λ count. ArePairOfSome from to) (IsCause from to)
      → PrintsCount sink_of result sink sink_new status → EndsByFirst status from
  ends_by_first sink_of to (Ok count) sink sink_new status pair prints =
      by_whole status (λ e. ⊎_elim (λ s. cc) (λ s. cc) prints.status_is)
      (record { params = pair.params; holds = pair.are.first })
  ends_by_first sink_of to (Err fault) sink sink_new status cause prints =
      subst (λ (s : Status). EndsByFirst s from) (sym prints.status_is) (by_first to fault cause)

-- ---- how it ends by both

module _ (from to : DiskState) (from_observable : IsObservable from) (to_observable : IsObservable to) where
  pair_whole : ArePairOfSome from to → HoldsSome from
  pair_whole pair = record { params = pair.params; holds = pair.are.first }

  unequal_whole : AreUnequalOfSome from to → HoldsSome from
  unequal_whole unequal = record { params = unequal.first_params; holds = unequal.are.first }

  -- the second is an image
  pair_second : ArePairOfSome from to → IsNoImage to → ⊥
  pair_second pair none = none to_observable pair.params (pair.are.second.named to_observable)

  unequal_second : AreUnequalOfSome from to → IsNoImage to → ⊥
  unequal_second unequal none = none to_observable unequal.second_params (unequal.are.second.named to_observable)

  pair_unequal : ArePairOfSome from to → AreUnequalOfSome from to → ⊥
  pair_unequal pair unequal =
      let first : unequal.first_params ≡ pair.params =
      one_name from.bytes pair.params unequal.first_params (pair.are.first.has_parameters.named from_observable)
      (unequal.are.first.has_parameters.named from_observable) in
      let second : unequal.second_params ≡ pair.params =
      one_name to.bytes pair.params unequal.second_params (pair.are.second.named to_observable)
      (unequal.are.second.named to_observable) in
      unequal.are.other (first ∙ sym second)

  lacks_whole : LacksImage from to → IsDamaged from → ⊥
  lacks_whole lacks broken = ⊎_elim (λ none. image_damaged from from_observable none broken)
      (λ second. whole_damaged from from_observable second.first broken) lacks

  lacks_pair : LacksImage from to → ArePairOfSome from to → ⊥
  lacks_pair lacks pair = ⊎_elim (λ none. whole_none from from_observable (pair_whole pair) none)
      (λ second. pair_second pair second.second) lacks

  lacks_unequal : LacksImage from to → AreUnequalOfSome from to → ⊥
  lacks_unequal lacks unequal = ⊎_elim (λ none. whole_none from from_observable (unequal_whole unequal) none)
      (λ second. unequal_second unequal second.second) lacks

  module _ (from_new to_new : DiskState) (sink sink_new : SinkState) where
    abbrev Ends : Status → Type 0
    Ends status = EndsByPair status from from_new to to_new sink sink_new

    -- where they are a pair
    by_pair : (status : Status) → (status ≡ statuses.NotImage → ⊥) → (status ≡ statuses.Unequal → ⊥)
        → ArePairOfSome from to
        → (NothingFails from from_new to to_new sink sink_new → (status ≡ statuses.Done) ⊎ (status ≡ statuses.NoMemory))
        → Ends status
    by_pair status image equal pair complete = record {
      not_image = record { only = λ e. absurd (image e); always = λ lacks. absurd (lacks_pair lacks pair) };
      unequal = record { only = λ e. absurd (equal e); always = λ unequal. absurd (pair_unequal pair unequal) };
      mirrored = λ h. pair;
      no_memory = λ e. pair;
      complete = λ are nothing. complete nothing;
    }

    -- where one of them lacks an image
    by_lack : LacksImage from to → Ends statuses.NotImage
    by_lack lacks = record {
      not_image = record { only = λ e. lacks; always = λ other. inl refl };
      unequal = record { only = λ e. absurd (cc); always = λ unequal. absurd (lacks_unequal lacks unequal) };
      mirrored = λ h. absurd (false≢true h);
      no_memory = λ e. absurd (cc);
      complete = λ pair nothing. absurd (lacks_pair lacks pair);
    }

    -- where a disk failed
    by_disk : (NothingFails from from_new to to_new sink sink_new → ⊥) → Ends statuses.DiskFault
    by_disk failed = record {
      not_image = record { only = λ e. absurd (cc); always = λ lacks. inr refl };
      unequal = record { only = λ e. absurd (cc); always = λ unequal. inr refl };
      mirrored = λ h. absurd (false≢true h);
      no_memory = λ e. absurd (cc);
      complete = λ pair nothing. absurd (failed nothing);
    }

    by_fault : (fault : MirrorFault) → IsCause from to fault
        → from_new.faults ≡ from_faults_after {T = ℕ} from.faults (Err fault)
        → to_new.faults ≡ to_faults_after {T = ℕ} to.faults (Err fault) → Ends (mirror_status fault)
    by_fault faults.FromNotImage none from_faults to_faults = by_lack (inl none)
    by_fault faults.FromDamaged broken from_faults to_faults = record {
      not_image = record { only = λ e. absurd (cc); always = λ lacks. absurd (lacks_whole lacks broken) };
      unequal = record {
        only = λ e. absurd (cc);
        always = λ unequal. absurd (whole_damaged from from_observable (unequal_whole unequal) broken);
      };
      mirrored = λ h. absurd (false≢true h);
      no_memory = λ e. absurd (cc);
      complete = λ pair nothing. absurd (whole_damaged from from_observable (pair_whole pair) broken);
    }
    by_fault faults.ToNotImage lacks from_faults to_faults = by_lack (inr lacks)
    by_fault (faults.Unequal p q) unequal from_faults to_faults =
        let some : AreUnequalOfSome from to = record { first_params = p; second_params = q; are = unequal } in
        record {
          not_image = record { only = λ e. absurd (cc); always = λ lacks. absurd (lacks_unequal lacks some) };
          unequal = record { only = λ e. some; always = λ other. inl refl };
          mirrored = λ h. absurd (false≢true h);
          no_memory = λ e. absurd (cc);
          complete = λ pair nothing. absurd (pair_unequal pair some);
        }
    by_fault faults.FromDisk cause from_faults to_faults =
        by_disk (λ nothing. nothing.from_calls (rose from.faults from_new.faults from_faults))
    by_fault faults.ToDisk some from_faults to_faults =
        by_disk (λ nothing. nothing.to_calls (rose to.faults to_new.faults to_faults))
    by_fault faults.NoMemory pair from_faults to_faults =
        by_pair statuses.NoMemory (λ e. cc) (λ e. cc) pair (λ nothing. inr refl)

    by_line : (count : ℕ) (status : Status) → ArePairOfSome from to
        → PrintsLine count sink sink_new status → Ends status
    by_line count status pair prints =
        ⊎_elim
        (λ e. subst Ends (sym e) (by_pair statuses.SinkFault (λ other. cc) (λ other. cc) pair
        (λ nothing.
        absurd (nothing.sink_calls
        (rose sink.faults sink_new.faults
        (subst (λ (s : Status). sink_new.faults ≡ sink_faults_by s sink.faults) e prints.faults))))))
        (λ e. subst Ends (sym e) (by_pair statuses.Done (λ other. cc) (λ other. cc) pair (λ nothing. inl refl)))
        prints.status_is

  ends_by_pair : {W : Type 0} (sink_of : W → SinkState) (from_new to_new : DiskState) (result : Result ℕ MirrorFault)
      (sink sink_new : W) (status : Status) → MatchResult result (λ count. ArePairOfSome from to) (IsCause from to)
      → from_new.faults ≡ from_faults_after from.faults result → to_new.faults ≡ to_faults_after to.faults result
      → PrintsCount sink_of result sink sink_new status
      → EndsByPair status from from_new to to_new (sink_of sink) (sink_of sink_new)
  ends_by_pair sink_of from_new to_new (Ok count) sink sink_new status pair from_faults to_faults prints =
      by_line from_new to_new (sink_of sink) (sink_of sink_new) count status pair prints
  ends_by_pair sink_of from_new to_new (Err fault) sink sink_new status cause from_faults to_faults prints =
      subst (λ (s : Status). EndsByPair s from from_new to to_new (sink_of sink) (sink_of sink_new))
      (sym prints.status_is)
      (by_fault from_new to_new (sink_of sink) (sink_of sink_new) fault cause from_faults to_faults)

-- ---- what stands then

module _ (from from_new to to_new : DiskState) where
  -- no call of a disk failed
  fails_none : (status : Status) → ((count : ℕ) → disk_faults_by status count ≡ count)
      → (status ≡ statuses.DiskFault → ⊥) → from_new.faults ≡ from.faults → to_new.faults ≡ to.faults
      → FailsOne status from from_new to to_new
  fails_none status spares other from_faults to_faults =
      inl (record {
        from_faults = from_faults ∙ sym (spares from.faults);
        to_faults = to_faults;
        spared = λ e. absurd (other e);
      })

  fails_by : (fault : MirrorFault) → IsCause from to fault
      → from_new.faults ≡ from_faults_after {T = ℕ} from.faults (Err fault)
      → to_new.faults ≡ to_faults_after {T = ℕ} to.faults (Err fault)
      → (IsObservable to → (fault ≡ faults.ToDisk → ⊥) → ReadsOnly to to_new)
      → FailsOne (mirror_status fault) from from_new to to_new
  fails_by faults.FromDisk cause from_faults to_faults refused =
      inl (record {
        from_faults = from_faults;
        to_faults = to_faults;
        spared = λ e observable. refused observable (λ is. cc);
      })
  fails_by faults.ToDisk some from_faults to_faults refused =
      inr (record { from_faults = from_faults; to_faults = to_faults; holds = λ e. some })
  fails_by fault cause from_faults to_faults refused =
      fails_none (mirror_status fault) (λ count. refl) (λ e. cc) from_faults to_faults

module _ {W : Type 0} (sink_of : W → SinkState) (from from_new to to_new : DiskState) where
  fails_one : (result : Result ℕ MirrorFault) (sink sink_new : W) (status : Status)
      → Mirrors from from_new to to_new result → PrintsCount sink_of result sink sink_new status
      → FailsOne status from from_new to to_new
  fails_one (Ok count) sink sink_new status call prints =
      let P : Status → Type 0 = λ s. FailsOne s from from_new to to_new in
      ⊎_elim
      (λ e. subst P (sym e) (fails_none from from_new to to_new statuses.SinkFault (λ n. refl)
      (λ other. cc) call.calls.from_faults call.calls.to_faults))
      (λ e. subst P (sym e) (fails_none from from_new to to_new statuses.Done (λ n. refl)
      (λ other. cc) call.calls.from_faults call.calls.to_faults)) prints.status_is
  fails_one (Err fault) sink sink_new status call prints =
      subst (λ (s : Status). FailsOne s from from_new to to_new) (sym prints.status_is)
      (fails_by from from_new to to_new fault call.cause call.calls.from_faults call.calls.to_faults call.refused)

  -- the second disk is spared
  spares : (result : Result ℕ MirrorFault) (sink sink_new : W) (status : Status)
      → Mirrors from from_new to to_new result → PrintsCount sink_of result sink sink_new status → IsObservable to
      → SparesSecond status → ReadsOnly to to_new
  spares (Ok count) sink sink_new status call prints observable spared =
      absurd (⊎_elim (λ e. false≢true (subst SparesSecond e spared))
      (λ e. false≢true (subst SparesSecond e spared)) prints.status_is)
  spares (Err fault) sink sink_new status call prints observable spared =
      call.refused observable (is_of_first fault (subst SparesSecond prints.status_is spared))

  -- the second becomes the first
  mirrors_disk : (p : Parameters) (result : Result ℕ MirrorFault) (sink sink_new : W) (status : Status)
      → BecomesFirst p.slots from.bytes to to_new result → PrintsCount sink_of result sink sink_new status
      → MirrorsDisk p from.bytes status to to_new (sink_of sink) (sink_of sink_new)
  mirrors_disk p (Ok count) sink sink_new status becomes prints = record {
    bytes = λ mirrored. becomes.rewrites.done;
    durable = λ mirrored. becomes.rewrites.durable;
    crash = becomes.rewrites.crash;
    reads = becomes.rewrites.reads;
    made = λ mirrored. becomes.rewrites.made;
    limit = becomes.rewrites.limit;
    prints = λ mirrored. subst (λ (n : ℕ). PrintsMirror n status (sink_of sink) (sink_of sink_new))
        becomes.count prints.prints;
  }
  mirrors_disk p (Err fault) sink sink_new status becomes prints =
      let never : IsMirrored status → ⊥ = λ mirrored. is_not_mirrored fault (subst IsMirrored prints.status_is mirrored)
      in
      record {
        bytes = λ mirrored. absurd (never mirrored);
        durable = λ mirrored. absurd (never mirrored);
        crash = becomes.rewrites.crash;
        reads = becomes.rewrites.reads;
        made = λ mirrored. absurd (never mirrored);
        limit = becomes.rewrites.limit;
        prints = λ mirrored. absurd (never mirrored);
      }

-- ---- what is printed

module _ {W : Type 0} (sink_of : W → SinkState) where
  ends_mirror : (result : Result ℕ MirrorFault) (sink sink_new : W) (status : Status)
      → PrintsCount sink_of result sink sink_new status → IsStatusOf words.Mirror status
  ends_mirror (Ok count) sink sink_new status prints =
      ⊎_elim (λ e. subst (IsStatusOf words.Mirror) (sym e) refl)
      (λ e. subst (IsStatusOf words.Mirror) (sym e) refl) prints.status_is
  ends_mirror (Err fault) sink sink_new status prints =
      subst (IsStatusOf words.Mirror) (sym prints.status_is) (fails_mirror fault)

  sink_tells : (result : Result ℕ MirrorFault) (sink sink_new : W) (status : Status)
      → PrintsCount sink_of result sink sink_new status
      → (sink_of sink_new).is_observable ≡ (sink_of sink).is_observable
  sink_tells (Ok count) sink sink_new status prints = prints.observable
  sink_tells (Err fault) sink sink_new status prints = ap (λ (w : W). (sink_of w).is_observable) prints.same

  sink_counts : (result : Result ℕ MirrorFault) (sink sink_new : W) (status : Status)
      → PrintsCount sink_of result sink sink_new status
      → (sink_of sink_new).faults ≡ sink_faults_by status (sink_of sink).faults
  sink_counts (Ok count) sink sink_new status prints = prints.faults
  sink_counts (Err fault) sink sink_new status prints =
      ap (λ (w : W). (sink_of w).faults) prints.same
      ∙ sym (ap (λ (s : Status). sink_faults_by s (sink_of sink).faults) prints.status_is
      ∙ spares_sink fault (sink_of sink).faults)

  prints_some : (result : Result ℕ MirrorFault) (sink sink_new : W) (status : Status)
      → PrintsCount sink_of result sink sink_new status → IsMirrored status
      → PrintsSome status (sink_of sink) (sink_of sink_new)
  prints_some (Ok count) sink sink_new status prints mirrored = record { count = count; prints = prints.prints }
  prints_some (Err fault) sink sink_new status prints mirrored =
      absurd (is_not_mirrored fault (subst IsMirrored prints.status_is mirrored))

  prints_none : (result : Result ℕ MirrorFault) (sink sink_new : W) (status : Status)
      → PrintsCount sink_of result sink sink_new status → (IsMirrored status → ⊥) → sink_new ≡ sink
  prints_none (Ok count) sink sink_new status prints never =
      absurd (never (⊎_elim (λ e. subst IsMirrored (sym e) refl) (λ e. subst IsMirrored (sym e) refl) prints.status_is))
  prints_none (Err fault) sink sink_new status prints never = prints.same

module _ {A B W : Type 0} (from_of : A → DiskState) (to_of : B → DiskState) (sink_of : W → SinkState)
    (before : OutsidePair A B W) where
  pub mirror_ends : (from : A) (to : B) (result : Result ℕ MirrorFault) (sink : W) (status : Status)
      → Mirrors (from_of before.from) (from_of from) (to_of before.to) (to_of to) result
      → PrintsCount sink_of result before.sink sink status
      → IsMirror from_of to_of sink_of before (record {
        status = status;
        done = done_of_mirror status;
        from = from;
        to = to;
        sink = sink;
      })
  mirror_ends from to result sink status call prints =
      let first = from_of before.from in
      let second = to_of before.to in
      record {
        ends = ends_mirror sink_of result before.sink sink status prints;
        done = refl;
        judged_first = λ observable. ends_by_first first observable sink_of second result before.sink sink
            status call.cause prints;
        judged = λ from_observable to_observable. ends_by_pair first second from_observable to_observable sink_of
            (from_of from) (to_of to) result before.sink sink status
            call.cause call.calls.from_faults call.calls.to_faults prints;
        from_kept = call.calls.from_kept;
        to_kept = call.calls.to_kept;
        disk_faults = fails_one sink_of first (from_of from) second
            (to_of to) result before.sink sink status call prints;
        sink_observable = sink_tells sink_of result before.sink sink status prints;
        sink_faults = sink_counts sink_of result before.sink sink status prints;
        from_reads = call.calls.from_reads;
        refused = λ observable spared. spares sink_of first (from_of from) second
            (to_of to) result before.sink sink status call prints observable spared;
        apart = call.apart;
        mirrors = λ from_observable to_observable p from_is to_is.
            mirrors_disk sink_of first (from_of from) second (to_of to) p result before.sink sink status
            (call.becomes from_observable to_observable p from_is to_is) prints;
        prints = λ mirrored. prints_some sink_of result before.sink sink status prints mirrored;
        silent = λ never. prints_none sink_of result before.sink sink status prints never;
      }
