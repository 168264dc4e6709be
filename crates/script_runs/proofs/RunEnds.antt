-- How a call ends that answers the lines of a script, or carries out the commands of a number: before the first of
-- them, or behind them.
use Rattle.std.proofs.Common.{◌≡◌, ◌⊎◌, ℕ, ◌≤◌, ◌&&◌, not, false, List, [], ◌∷◌, length, refl, sym, ap, ◌∙◌, subst}
use Rattle.std.proofs.Common.{arith, inl, inr, length-append, ⊎_elim}
use Rattle.std.proofs.lemmas.Bool.{false≢true}
use Rattle.std.proofs.lemmas.List.{append-nil}
use Rattle.store_model.specs.Parameters.{Parameters}
use Rattle.store_model.specs.Trees.{Tree}
use Rattle.store_model.specs.Scripts.{script_limit}
use Rattle.store_model.specs.Images.{Represents}
use Rattle.disk_model.specs.DiskState.{DiskState, IsSound}
use Rattle.disk_model.specs.DiskState as disks
use Rattle.disk_model.specs.DiskCalls.{LeavesOnly}
use Rattle.script_lines.specs.SourceState.{SourceState}
use Rattle.script_lines.specs.SinkState.{SinkState}
use Rattle.script_lines.specs.LineState.{LineState}
use Rattle.image_check.specs.declared.fault.AttachFault.{AttachFault}
use Rattle.image_check.specs.declared.fault.AttachFault.TheVariants as faults
use Rattle.store_core.specs.StoreCalls.{IsRefused, KeepsImage, IsOpened}
use Rattle.store_core.specs.StoreState.{StoreState}
use Rattle.image_subcommands.specs.declared.status.Status.{Status}
use Rattle.image_subcommands.specs.declared.status.Status.TheVariants as statuses
use Rattle.image_subcommands.specs.Endings.{attach_status}
use Rattle.image_subcommands.specs.Statuses.{Row, row, Subcommand as words, is_among, IsOneOf, IsEndOf, IsBetweenLines}
use Rattle.image_subcommands.specs.Statuses.{IsSummed, MayComeFirst, disk_faults_by, source_faults_by}
use Rattle.image_subcommands.proofs.EachStatus.{ends_in, implied}
use Rattle.image_subcommands.proofs.StatusLemmas.{other_than}
use Rattle.image_work.specs.Works.{IsUnopened, WorksOnStore, IsReady}
use Rattle.image_work.proofs.OpeningEnds.{memory_only, comes_first, none_taken, memory_left, quiet_unopened}
use Rattle.image_work.proofs.WorkEnds.{no_disk_fault, no_source_fault, no_sink_fault}
use Rattle.script_runs.specs.declared.script.Answering.{Answering}
use Rattle.script_runs.specs.Generations.{generated_trees, AnswersGenerated}
use Rattle.script_runs.specs.Runs.{RepliesKept, LeavesByLines, ChangesByLines}
use Rattle.script_runs.specs.ScriptCall.{KeepsScript, AnswersAt, KeepsBig, GeneratesFrom, word_of, texts_by, trees_by}
use Rattle.script_runs.specs.ScriptLines.{AnswersLines}
use Rattle.script_runs.proofs.DiskTurns.{leaves_none, leaves_behind}
use Rattle.script_runs.proofs.GenerationLemmas.{no_command}
use Rattle.script_runs.proofs.AnswerLemmas.{may_end, ends_as_run, run_ends_as, may_fail, may_refuse, none_by}
use Rattle.script_runs.proofs.AnswerLemmas.{each_by}
use Rattle.script_runs.proofs.StoreTurns.{store_start, store_ends}

-- ---- no store was had

-- so it did not end between two lines, and nothing was summed up
pub not_between : (fault : AttachFault) → IsBetweenLines (attach_status fault) → ⊥
not_between faults.Disk h = false≢true h
not_between faults.NoMemory h = false≢true h
not_between faults.NotImage h = false≢true h
not_between faults.Damaged h = false≢true h

between_summed : (status : Status) → IsSummed status → IsBetweenLines status
between_summed = implied (λ s. is_among words.Big (row s).words && (row s).is_between_lines)
    (λ s. (row s).is_between_lines) refl

-- no line was answered
none_answered : (status : Status) → MayComeFirst status → (texts : List (List ℕ)) (source : SourceState)
    (sink : SinkState) → RepliesKept status 0 texts source source sink sink
none_answered status first texts source sink =
    let never : (other : Status) → (row other).may_come_first ≡ false → status ≡ other
    → ⊥ = λ other no. other_than (λ (r : Row). r.may_come_first) status other first no in
    record {
      taken = [];
      taken_is = refl;
      counted = record {
        all = λ e. absurd (never statuses.Done refl e);
        ended = λ e. absurd (never statuses.SourceFault refl e);
        ended_in_limit = λ e. absurd (never statuses.TooLong refl e);
        counted = omega arith;
        some_line = λ e. absurd (never statuses.SinkFault refl e);
      };
      written = λ o. record {
        written = [];
        written_is = sym (append-nil sink.written);
        promised = record {
          all = λ e. absurd (never statuses.Done refl e);
          answered = λ c. refl;
          in_part = λ e. absurd (never statuses.SinkFault refl e);
        };
      };
    }

-- what stands of an image, over any trees of which it represents the first: where it was not opened
carries_unopened : (fault : AttachFault) (old new : DiskState) → IsRefused old fault new → disks.IsObservable old
    → IsSound new → (t : Tree) (p : Parameters) → KeepsImage t p old fault new → (trees : ℕ → Tree) → trees 0 ≡ t
    → LeavesByLines t trees p (attach_status fault) 0 old new
carries_unopened fault old new refused o sound t p keeps trees here =
    subst (λ (u : Tree). LeavesByLines u trees p (attach_status fault) 0 old new) here
    (leaves_none (not_between fault) sound (subst (λ (u : Tree). Represents new.bytes u p) (sym here) keeps.represents)
    (λ e. (refused.unwritten o (memory_only fault e)).synced) (quiet_unopened fault old new refused o) keeps.limit
    (subst (λ (u : Tree). LeavesOnly old new (λ image. old.crash_images image ⊎ Represents image u p)) (sym here)
    keeps.crash))

-- and behind its opening and the lines
carries_behind : (status : Status) (done : ℕ) (t : Tree) (p : Parameters) (trees : ℕ → Tree)
    (old mid new : DiskState) → IsOpened t p old mid → ChangesByLines status done trees p mid new → trees 0 ≡ t
    → LeavesByLines t trees p status done old new
carries_behind status done t p trees old mid new opened changes here =
    subst (λ (u : Tree). LeavesByLines u trees p status done old new) here
    (leaves_behind (subst (λ (u : Tree). IsOpened u p old mid) (sym here) opened) changes)

module _ {D R W : Type 0} (disk_of : D → DiskState) (source_of : R → SourceState) (sink_of : W → SinkState)
    (sound : (disk : D) → disks.IsObservable (disk_of disk) → IsSound (disk_of disk)) (given : R × W)
    (disk : D) (fault : AttachFault) (disk_new : D) (refused : IsRefused (disk_of disk) fault (disk_of disk_new)) where
  -- The call had no store.
  pub script_unopened : (kind : Answering) → IsUnopened disk_of (word_of kind) (KeepsScript source_of)
      (AnswersAt (texts_by kind) (trees_by kind) disk_of source_of sink_of) given disk fault disk_new
  script_unopened kind =
      let script : List ℕ = (source_of given.0).left in
      record {
        fails = may_fail kind;
        refuses = may_refuse kind;
        keeps = λ os. none_taken fault (source_of given.0);
        does = λ o t p represents keeps os. record {
          replies = none_answered (attach_status fault) (comes_first fault keeps.not_image keeps.damaged)
              (texts_by kind t script p) (source_of given.0) (sink_of given.1);
          carried = carries_unopened fault (disk_of disk) (disk_of disk_new) refused o
              (sound disk_new (refused.kept.observable ∙ o)) t p keeps (trees_by kind t script p)
              (none_by kind t script p);
          complete = λ within disk_whole source_whole sink_whole.
              inr (memory_left fault (disk_of disk) (disk_of disk_new) t p refused keeps disk_whole);
        };
      }

  pub big_unopened : (number count : ℕ) → IsUnopened disk_of words.Big (KeepsBig count)
      (GeneratesFrom disk_of sink_of number count) given disk fault disk_new
  big_unopened number count =
      let not_summed : IsSummed (attach_status fault) → ⊥ =
      λ h. not_between fault (between_summed (attach_status fault) h) in
      record {
        fails = refl;
        refuses = refl;
        keeps = record {
          all_done = λ h. absurd (not_summed h);
          done_limit = omega arith;
          source = refl;
          silent = λ h. refl;
        };
        does = λ o t p represents keeps. record {
          carried = carries_unopened fault (disk_of disk) (disk_of disk_new) refused o
              (sound disk_new (refused.kept.observable ∙ o)) t p keeps (generated_trees t number count p)
              (no_command t number count p);
          summary = λ h. absurd (not_summed h);
          complete = λ disk_whole sink_whole.
              inr (memory_left fault (disk_of disk) (disk_of disk_new) t p refused keeps disk_whole);
        };
      }

-- ---- lines were answered, or commands carried out

-- a call that ended otherwise than by a fault of the source has its count of failed calls as it was
source_spared : (status : Status) (old new : ℕ) → (status ≡ statuses.SourceFault → ⊥)
    → source_faults_by status old ≡ new → old ≡ new
source_spared status old new other e = grind arith

-- how such a call ends
abbrev run_endings : List Status
run_endings = statuses.Done ∷ statuses.NoMemory ∷ statuses.TooLong ∷ statuses.DiskFault ∷ statuses.SourceFault
    ∷ statuses.SinkFault ∷ []

-- where no call failed
ends_whole : (status : Status) → IsEndOf words.Run status → (status ≡ statuses.DiskFault → ⊥)
    → (status ≡ statuses.SourceFault → ⊥) → (status ≡ statuses.SinkFault → ⊥)
    → (status ≡ statuses.Done) ⊎ (status ≡ statuses.NoMemory) ⊎ (status ≡ statuses.TooLong)
ends_whole status ends disk source sink =
    by (ends_in (may_end words.Run) run_endings refl status ends)
  where
    by : IsOneOf status run_endings
        → (status ≡ statuses.Done) ⊎ (status ≡ statuses.NoMemory) ⊎ (status ≡ statuses.TooLong)
    by (inl e) = inl e
    by (inr (inl e)) = inr (inl e)
    by (inr (inr (inl e))) = inr (inr e)
    by (inr (inr (inr (inl e)))) = absurd (disk e)
    by (inr (inr (inr (inr (inl e))))) = absurd (source e)
    by (inr (inr (inr (inr (inr (inl e)))))) = absurd (sink e)
    by (inr (inr (inr (inr (inr (inr never)))))) = absurd never

module _ {D R W : Type 0} (disk_of : D → DiskState) (source_of : R → SourceState) (sink_of : W → SinkState)
    (store store_new : StoreState D) (sink sink_new : W) (status : Status) (done : ℕ) where
  -- Lines were answered, with a store.
  pub script_works : (kind : Answering) (reader reader_new : LineState R)
      → AnswersLines (word_of kind) (texts_by kind) (trees_by kind) disk_of source_of sink_of status done store
      store_new reader reader_new sink sink_new
      → WorksOnStore disk_of source_of sink_of (word_of kind) (KeepsScript source_of)
      (AnswersAt (texts_by kind) (trees_by kind) disk_of source_of sink_of) (reader.source, sink) store (record {
        status = status;
        done = done;
        disk = store_new.disk;
        source = reader_new.source;
        sink = sink_new;
      })
  script_works kind reader reader_new answered =
      let source = source_of reader.source in
      let work = answered.work in
      record {
        ends = work.ends;
        outside = record {
          disk_kept = answered.store.kept;
          source_observable = work.kept.source_observable;
          sink_observable = work.kept.sink_observable;
          disk_faults = answered.store.faults;
          source_faults = work.kept.source_faults;
          sink_faults = work.kept.sink_faults;
        };
        keeps = λ disk. work.limit;
        does = λ disk attached o os.
            let observable = attached.kept.observable ∙ o in
            let replies = work.replies os observable in
            record {
              replies = replies;
              carried = carries_behind status done store.tree store.params
                  (trees_by kind store.tree source.left store.params)
                  (disk_of disk) (disk_of store.disk) (disk_of store_new.disk) (attached.observed o)
                  (answered.store.changes os observable) (none_by kind store.tree source.left store.params);
              complete = λ within disk_whole source_whole sink_whole.
                  ⊎_elim (λ e. inl (e, (replies.counted.all e).1 ∙ each_by kind store.tree source.left store.params))
                  (λ other. ⊎_elim (λ e. inr e) (λ e. let taken = (work.limit os).too_long e in absurd (
                  omega (
                    arith,
                    ap length taken.taken_is,
                    length-append taken.taken (source_of reader_new.source).left,
                    taken.count_is,
                    within,
                  ))) other)
                  (ends_whole status (run_ends_as kind status work.ends)
                  (no_disk_fault status (disk_of disk).faults (disk_of store_new.disk).faults disk_whole
                  (answered.store.faults ∙ ap (disk_faults_by status) attached.faults))
                  (no_source_fault status source.faults (source_of reader_new.source).faults source_whole
                  work.kept.source_faults)
                  (no_sink_fault status (sink_of sink).faults (sink_of sink_new).faults sink_whole
                  work.kept.sink_faults));
            };
      }

  -- Commands were carried out, with a store.
  pub big_works : (number count : ℕ) (source : R)
      → AnswersGenerated disk_of sink_of number count status done store store_new sink sink_new
      → WorksOnStore disk_of source_of sink_of words.Big (KeepsBig count) (GeneratesFrom disk_of sink_of number count)
      (source, sink) store (record {
        status = status;
        done = done;
        disk = store_new.disk;
        source = source;
        sink = sink_new;
      })
  big_works number count source answered =
      let work = answered.work in
      let never : (other : Status) → may_end words.Big other ≡ false → status ≡ other → ⊥ =
      λ other no. other_than (λ (r : Row). is_among words.Big r.words && not r.refuses_image) status other work.ends no
      in
      record {
        ends = work.ends;
        outside = record {
          disk_kept = answered.store.kept;
          source_observable = refl;
          sink_observable = work.sink_observable;
          disk_faults = answered.store.faults;
          source_faults = source_spared status (source_of source).faults _ (never statuses.SourceFault refl) refl;
          sink_faults = work.sink_faults;
        };
        keeps = λ disk. record {
          all_done = work.all_done;
          done_limit = work.done_limit;
          source = refl;
          silent = work.silent;
        };
        does = λ disk attached o.
            let observable = attached.kept.observable ∙ o in
            record {
              carried = carries_behind status done store.tree store.params
                  (generated_trees store.tree number count store.params) (disk_of disk) (disk_of store.disk)
                  (disk_of store_new.disk) (attached.observed o) (answered.store.changes tt observable)
                  (no_command store.tree number count store.params);
              summary = λ h so. work.summary h so observable;
              complete = λ disk_whole sink_whole.
                  ⊎_elim (λ e. inl e)
                  (λ other. ⊎_elim (λ e. inr e) (λ e. absurd (never statuses.TooLong refl e)) other)
                  (ends_whole status (implied (may_end words.Big) (may_end words.Run) refl status work.ends)
                  (no_disk_fault status (disk_of disk).faults (disk_of store_new.disk).faults disk_whole
                  (answered.store.faults ∙ ap (disk_faults_by status) attached.faults))
                  (never statuses.SourceFault refl)
                  (no_sink_fault status (sink_of sink).faults (sink_of sink_new).faults sink_whole work.sink_faults));
            };
      }

-- there was no room to answer lines
pub no_room : {D R W : Type 0} (disk_of : D → DiskState) (source_of : R → SourceState) (sink_of : W → SinkState)
    → ((disk : D) → disks.IsObservable (disk_of disk) → IsSound (disk_of disk))
    → (kind : Answering) (store : StoreState D) (reader : LineState R) (sink : W) → IsReady disk_of store
    → AnswersLines (word_of kind) (texts_by kind) (trees_by kind) disk_of source_of sink_of statuses.NoMemory 0 store
    store reader reader sink sink
no_room disk_of source_of sink_of sound kind store reader sink ready =
    let script = (source_of reader.source).left in
    record {
      work = record {
        ends = ends_as_run kind statuses.NoMemory refl;
        kept = record { source_observable = refl; sink_observable = refl; source_faults = refl; sink_faults = refl };
        limit = λ o. none_taken faults.NoMemory (source_of reader.source);
        replies = λ o tells. none_answered statuses.NoMemory refl (texts_by kind store.tree script store.params)
            (source_of reader.source) (sink_of sink);
      };
      store = store_ends (store_start sound ready (none_by kind store.tree script store.params)) statuses.NoMemory
          (λ e. cc);
    }
