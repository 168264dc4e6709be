-- What a call of `load` promises, whether it had a store or not.
use Rattle.std.proofs.Common.{◌≡◌, ℕ, ◌<◌, ◌≤◌, Bool, List, [], ◌++◌, length, Result, Ok, Err, IfOk, refl}
use Rattle.std.proofs.Common.{sym, ap, subst, ◌∙◌, arith, inl, inr, ⊎_elim, length-append}
use Rattle.std.proofs.lemmas.Bool.{false≢true, cases_lt}
use Rattle.store_model.specs.declared.refusal.Refusal.TheVariants.{Full}
use Rattle.store_model.specs.Trees.{Tree, empty_tree}
use Rattle.store_model.specs.Commands.{reply_text}
use Rattle.store_model.specs.Commands.Reply.{Refused}
use Rattle.store_model.specs.Pages.{IsTreeUnder, page_count}
use Rattle.store_model.specs.Scripts.{script_limit}
use Rattle.store_base.specs.Counts.{raised}
use Rattle.disk_model.specs.DiskState.{DiskState, IsSound}
use Rattle.disk_model.specs.DiskState as disks
use Rattle.gate_journal.specs.Disks.{KeepsDisk}
use Rattle.gate_journal.specs.Places.{ReadsOnly}
use Rattle.gate_journal.specs.ReadingLaws.{ReadsOnly-refl}
use Rattle.script_lines.specs.declared.fault.SinkFault.{SinkFault}
use Rattle.script_lines.specs.SourceState.{SourceState}
use Rattle.script_lines.specs.SourceState as sources
use Rattle.script_lines.specs.SinkState.{SinkState, AppendsPrefix, IsPut}
use Rattle.image_check.specs.declared.fault.ApplyFault.{ApplyFault}
use Rattle.image_check.specs.declared.fault.ApplyFault.TheVariants as apply
use Rattle.image_check.specs.declared.fault.AttachFault.{AttachFault}
use Rattle.image_check.specs.declared.fault.AttachFault.TheVariants as faults
use Rattle.image_check.specs.Standing.{IsFitting}
use Rattle.staged_tree.specs.declared.load.LoadAnswer.{LoadAnswer}
use Rattle.staged_tree.specs.declared.load.LoadAnswer.TheVariants as answers
use Rattle.staged_tree.specs.Loads.{loaded_tree, IsLoadAnswer}
use Rattle.store_core.specs.Loads.{Loads}
use Rattle.store_core.specs.StoreCalls.{IsAttached, IsRefused, IsOpened}
use Rattle.staged_tree.specs.ImageChanges.{ChangesImage}
use Rattle.store_core.specs.StoreState.{StoreState}
use Rattle.staged_tree.proofs.LoadSteps.{fitting_under, loaded_room, loaded_full}
use Rattle.staged_tree.proofs.UsedLemmas.{used_between}
use Rattle.staged_tree.proofs.Unchanged.{keeps_itself, stands_reading}
use Rattle.staged_tree.proofs.Unchanged.{reads_change}
use Rattle.image_subcommands.specs.declared.outcome.Outcome.{Outcome}
use Rattle.image_subcommands.specs.declared.status.Status.{Status}
use Rattle.image_subcommands.specs.declared.status.Status.TheVariants as statuses
use Rattle.image_subcommands.specs.Endings.{attach_status}
use Rattle.image_subcommands.specs.Limits.{KeepsLimit}
use Rattle.image_subcommands.specs.Outside.{outside_of}
use Rattle.image_subcommands.specs.Statuses.{Subcommand as words, IsDone, IsEndOf, IsReadWhole, done_of_work}
use Rattle.image_subcommands.specs.Statuses.{disk_faults_by, source_faults_by, sink_faults_by}
use Rattle.image_subcommands.proofs.ReportLemmas.{rose}
use Rattle.image_work.specs.Works.{IsReady, around, idle_with, IsUnopened, WorksOnStore}
use Rattle.image_work.proofs.OpeningEnds.{none_done, memory_only, comes_first, none_taken, memory_left}
use Rattle.listing_subcommands.specs.Filling.{SparesStore, EndsReading, LoadsRead, FillsStore, filled_by}
use Rattle.listing_subcommands.specs.Filling.{full_status, PrintsFilled}
use Rattle.listing_subcommands.specs.Filling.{FillsStore as fills}
use Rattle.listing_subcommands.specs.Listings.{HoldsListing, IsReadFault}
use Rattle.listing_subcommands.specs.LoadCall.{Lists, TellsLoad, full_text, LoadsTree, LoadsFrom}
use Rattle.listing_subcommands.specs.LoadCall.{KeepsLoad, LoadsAt}
use Rattle.listing_subcommands.proofs.LoadEnds.{keeps_opened, keeps_unopened, loads_tree, tells_first, tells_not_empty}
use Rattle.listing_subcommands.proofs.LoadEnds.{tells_source_fault, tells_too_long, tells_bad, tells_done}
use Rattle.listing_subcommands.proofs.LoadEnds.{tells_too_full, tells_unprinted, from_kept, from_loaded}

-- ---- a tree that is too large

-- the tree of a listing has more pages than there are slots, and nothing is called
pub too_large : {D : Type 0} (disk_of : D → DiskState) (sound : (disk : D) → disks.IsObservable (disk_of disk)
    → IsSound (disk_of disk)) (store : StoreState D) (t : Tree) (need slots : ℕ) → IsReady disk_of store
    → store.params.slots < page_count t store.params → need ≡ page_count t store.params → slots ≡ store.params.slots
    → Loads disk_of t store store (Ok (answers.Full need slots))
too_large disk_of sound store t need slots ready more need_is slots_are =
    let disk = disk_of store.disk in
    let same = loaded_full store.params store.tree t more in
    record {
      params = refl;
      kept = keeps_itself disk;
      faults = refl;
      stopped = (λ e. absurd (cc), λ stopped. absurd (false≢true (sym ready.runs ∙ stopped)));
      still = λ stopped. refl;
      answer = λ o. (need_is, slots_are, more);
      tree = λ o. sym same;
      fault = tt;
      hidden = λ h. refl;
      runs = λ runs other. runs;
      observed =
          λ o runs. subst (λ (b : Bool). ChangesImage store.tree (loaded_tree store.params store.tree t)
          store.params disk disk b (Ok (answers.Full need slots))) (sym runs)
          (reads_change store.tree (loaded_tree store.params store.tree t) store.params ready.fitting disk disk
          (Ok (answers.Full need slots)) (ready.stands o) (ReadsOnly-refl disk (sound store.disk o)) same);
    }

-- ---- no store was had

not_done : (fault : AttachFault) → IsDone (attach_status fault) → ⊥
not_done faults.Disk e = false≢true e
not_done faults.NoMemory e = false≢true e
not_done faults.NotImage e = false≢true e
not_done faults.Damaged e = false≢true e

not_whole : (fault : AttachFault) → IsReadWhole (attach_status fault) → ⊥
not_whole faults.Disk whole = false≢true whole
not_whole faults.NoMemory whole = false≢true whole
not_whole faults.NotImage whole = false≢true whole
not_whole faults.Damaged whole = false≢true whole

module _ {D R W : Type 0} (disk_of : D → DiskState) (source_of : R → SourceState) (sink_of : W → SinkState) where
  -- The call had no store.
  pub load_unopened : (given : R × W) (disk : D) (fault : AttachFault) (disk_new : D)
      → IsRefused (disk_of disk) fault (disk_of disk_new)
      → IsUnopened disk_of words.Load (KeepsLoad disk_of source_of sink_of) (LoadsAt disk_of source_of sink_of) given
      disk fault disk_new
  load_unopened given disk fault disk_new refused =
      let old = disk_of disk in
      let new = disk_of disk_new in
      let source = source_of given.0 in
      let sink = sink_of given.1 in
      record {
        fails = refl;
        refuses = refl;
        keeps = record {
          done = none_done fault;
          limit = λ os. none_taken fault source;
          whole = λ os whole. absurd (not_whole fault whole);
          not_taken = λ e. record { done = refl; source = refl; sink = refl };
          silent = λ full sink_fault. refl;
        };
        does = λ o u p represents keeps os.
            from_kept disk_of source_of sink_of u p source.left (around disk given)
            (idle_with (attach_status fault) disk_new given)
            (tells_first u p source.left old new source source sink sink (attach_status fault)
            (comes_first fault keeps.not_image keeps.damaged) (memory_left fault old new u p refused keeps))
            (not_done fault) (keeps_unopened u p fault old new o refused keeps)
            (λ e. inr (refused.unwritten o (memory_only fault e)));
      }

-- ---- the cases

-- nothing was written behind the opening of an image
record Still (mid new : DiskState) : Type 0 where
  pub kept : KeepsDisk mid new
  pub faults : new.faults ≡ mid.faults
  pub reads : disks.IsObservable mid → ReadsOnly mid new

still_itself : (disk : DiskState) → (disks.IsObservable disk → IsSound disk) → Still disk disk
still_itself disk sound = record { kept = keeps_itself disk; faults = refl; reads = λ o. ReadsOnly-refl disk (sound o) }

-- a script that was read to its end is within its limit
limit_read : (status : Status) (old new : SourceState) → (status ≡ statuses.TooLong → ⊥)
    → KeepsLimit statuses.Done old new → KeepsLimit status old new
limit_read status old new other keeps = record {
  too_long = λ e. absurd (other e);
  within = λ h. keeps.within (λ e. cc);
  whole = λ e. keeps.whole refl;
}

too_long_by : (old new : SourceState) → KeepsLimit statuses.TooLong old new → length old.left ≤ script_limit → ⊥
too_long_by old new keeps within =
    let taken = keeps.too_long refl in
    omega (arith, ap length taken.taken_is, length-append taken.taken new.left, taken.count_is, within)

module _ {D R W : Type 0} (disk_of : D → DiskState) (source_of : R → SourceState) (sink_of : W → SinkState)
    (sound : (disk : D) → disks.IsObservable (disk_of disk) → IsSound (disk_of disk))
    (store : StoreState D) (source : R) (sink : W) (ready : IsReady disk_of store) where
  abbrev script : List ℕ
  script = (source_of source).left

  abbrev Attached : D → Type 0
  Attached disk = IsAttached disk_of (disk_of disk) store

  abbrev after_load : Status → StoreState D → R → W → Outcome D R W
  after_load status store_new source_new sink_new = record {
    status = status;
    done = done_of_work status;
    disk = store_new.disk;
    source = source_new;
    sink = sink_new;
  }

  abbrev Ends : Status → StoreState D → R → W → Type 0
  Ends status store_new source_new sink_new =
      WorksOnStore disk_of source_of sink_of words.Load (KeepsLoad disk_of source_of sink_of)
      (LoadsAt disk_of source_of sink_of) (source, sink) store (after_load status store_new source_new sink_new)

  abbrev Loaded : D → Status → StoreState D → R → W → Type 0
  Loaded disk status store_new source_new sink_new =
      LoadsFrom disk_of source_of sink_of store.tree store.params script (outside_of disk source sink)
      (after_load status store_new source_new sink_new)

  abbrev TellsOf : D → Status → StoreState D → R → W → Type 0
  TellsOf disk status store_new source_new sink_new =
      TellsLoad store.tree store.params script status (disk_of disk) (disk_of store_new.disk) (source_of source)
      (source_of source_new) (sink_of sink) (sink_of sink_new)

  -- the disk that was opened tells its bytes where that before did
  told : (disk : D) → Attached disk → disks.IsObservable (disk_of disk) → disks.IsObservable (disk_of store.disk)
  told disk attached o = attached.kept.observable ∙ o

  module _ (status : Status) (store_new : StoreState D) (source_new : R) (sink_new : W) where
    -- nothing was written
    kept_loads : Still (disk_of store.disk) (disk_of store_new.disk) → (IsDone status → ⊥) → (disk : D)
        → Attached disk → TellsOf disk status store_new source_new sink_new → disks.IsObservable (disk_of disk)
        → Loaded disk status store_new source_new sink_new
    kept_loads still not_done disk attached tells o =
        let mid = disk_of store.disk in
        let new = disk_of store_new.disk in
        let opened = attached.observed o in
        let reads = still.reads (told disk attached o) in
        from_kept disk_of source_of sink_of store.tree store.params script (outside_of disk source sink)
        (after_load status store_new source_new sink_new) tells not_done
        (keeps_opened store.tree store.params status (disk_of disk) new mid ready.fitting opened reads)
        (λ e. inl (stands_reading mid new store.tree store.params reads opened.stands))

    -- nor was anything printed
    quiet_ends : IsEndOf words.Load status → Still (disk_of store.disk) (disk_of store_new.disk) → sink_new ≡ sink
        → (disk_of store.disk).faults ≡ disk_faults_by status (disk_of store.disk).faults
        → (sink_of sink).faults ≡ sink_faults_by status (sink_of sink).faults
        → (source_of source_new).is_observable ≡ (source_of source).is_observable
        → (source_of source_new).faults ≡ source_faults_by status (source_of source).faults
        → (sources.IsObservable (source_of source)
        → KeepsLimit status (source_of source) (source_of source_new))
        → (sources.IsObservable (source_of source) → IsReadWhole status
        → (source_of source_new).left ≡ [])
        → (status ≡ statuses.NotEmpty → source_new ≡ source) → (IsDone status → ⊥)
        → ((disk : D) → Attached disk → disks.IsObservable (disk_of disk)
        → sources.IsObservable (source_of source) → TellsOf disk status store_new source_new sink_new)
        → Ends status store_new source_new sink_new
    quiet_ends ends still printed disk_count sink_count observable count limit whole not_taken not_done tells = record {
      ends = ends;
      outside = record {
        disk_kept = still.kept;
        source_observable = observable;
        sink_observable = ap (λ w. (sink_of w).is_observable) printed;
        disk_faults = still.faults ∙ disk_count;
        source_faults = count;
        sink_faults = ap (λ w. (sink_of w).faults) printed ∙ sink_count;
      };
      keeps = λ disk. record {
        done = refl;
        limit = limit;
        whole = whole;
        not_taken = λ e. record { done = ap done_of_work e; source = not_taken e; sink = printed };
        silent = λ full fault. printed;
      };
      does = λ disk attached o os. kept_loads still not_done disk attached (tells disk attached o os) o;
    }

  -- the tree of a listing was loaded, or the disk failed
  load_changed : {T : Type 0} (status : Status) (store_new : StoreState D) (loaded : Result T ApplyFault) (t : Tree)
      → store.tree ≡ empty_tree → IsTreeUnder t store.params → page_count t store.params ≤ store.params.slots
      → (disk : D) → Attached disk → disks.IsObservable (disk_of disk)
      → ChangesImage store.tree (loaded_tree store.params store.tree t) store.params (disk_of store.disk)
      (disk_of store_new.disk) store_new.is_stopped loaded
      → (IsDone status → (value : T) × (loaded ≡ Ok value))
      → LoadsTree t store.params status (disk_of disk) (disk_of store_new.disk)
  load_changed {T} status store_new loaded t empty under room disk attached o changes was_ok =
      let mid = disk_of store.disk in
      let new = disk_of store_new.disk in
      let empty_fits = subst (λ (v : Tree). IsFitting v store.params) empty ready.fitting in
      let to_tree = subst (λ (v : Tree). ChangesImage store.tree v store.params mid new store_new.is_stopped loaded)
      (loaded_room store.params store.tree t room) changes in
      loads_tree t store.params status (disk_of disk) mid new store_new.is_stopped loaded empty_fits
      (subst (λ (v : Tree). IsOpened v store.params (disk_of disk) mid) empty (attached.observed o))
      (subst (λ (v : Tree). ChangesImage v t store.params mid new store_new.is_stopped loaded) empty to_tree) was_ok
      (λ e. room) (used_between t store.params (fitting_under t store.params empty_fits under room))

  -- the status and the sink of an end, by other names
  at_end : (store_new : StoreState D) (source_new : R) (known status : Status) (sink_new : W) → status ≡ known
      → sink_new ≡ sink → Ends known store_new source_new sink → Ends status store_new source_new sink_new
  at_end store_new source_new known status sink_new same printed ends =
      subst (λ (s : Status). Ends s store_new source_new sink_new) (sym same)
      (subst (λ (w : W). Ends known store_new source_new w) (sym printed) ends)

  still_here : Still (disk_of store.disk) (disk_of store.disk)
  still_here = still_itself (disk_of store.disk) (sound store.disk)

  -- the store holds a tree, and nothing was called
  spared : SparesStore disk_of source_of store store source source → Ends statuses.NotEmpty store source sink
  spared spares =
      quiet_ends statuses.NotEmpty store source sink refl still_here refl refl refl refl refl
      (λ os. record {
        too_long = λ e. absurd (cc);
        within = λ h. (0, omega arith, record { taken = []; taken_is = refl; count_is = refl });
        whole = λ e. absurd (cc);
      })
      (λ os whole. absurd (false≢true whole))
      (λ e. refl) false≢true
      (λ disk attached o os. tells_not_empty store.tree store.params script (disk_of disk) (disk_of store.disk)
      (source_of source) (source_of source) (sink_of sink) (sink_of sink)
      (spares.holds (told disk attached o)))

  -- the reading came to nothing: a take failed, the script is too long, memory ran out, or it is no listing
  abbrev Stops : Status → R → Type 0
  Stops status source_new = EndsReading disk_of source_of store store source source_new status

  stopped_source : (source_new : R) → Stops statuses.SourceFault source_new
      → Ends statuses.SourceFault store source_new sink
  stopped_source source_new ended =
      let reads = ended.reads in
      quiet_ends statuses.SourceFault store source_new sink refl still_here refl refl refl
      reads.observable reads.faults reads.limit
      (λ os whole. absurd (false≢true whole))
      (λ e. absurd (cc)) false≢true
      (λ disk attached o os. tells_source_fault store.tree store.params script (disk_of disk) (disk_of store.disk)
      (source_of source) (source_of source_new) (sink_of sink) (sink_of sink) ended.empty
      (rose (source_of source).faults (source_of source_new).faults reads.faults))

  stopped_long : (source_new : R) → Stops statuses.TooLong source_new
      → Ends statuses.TooLong store source_new sink
  stopped_long source_new ended =
      let reads = ended.reads in
      quiet_ends statuses.TooLong store source_new sink refl still_here refl refl refl
      reads.observable reads.faults reads.limit
      (λ os whole. absurd (false≢true whole))
      (λ e. absurd (cc)) false≢true
      (λ disk attached o os. tells_too_long store.tree store.params script (disk_of disk) (disk_of store.disk)
      (source_of source) (source_of source_new) (sink_of sink) (sink_of sink) ended.empty
      (too_long_by (source_of source) (source_of source_new) (reads.limit os)))

  stopped_short : (source_new : R) → Stops statuses.NoMemory source_new
      → Ends statuses.NoMemory store source_new sink
  stopped_short source_new ended =
      let reads = ended.reads in
      quiet_ends statuses.NoMemory store source_new sink refl still_here refl refl refl
      reads.observable reads.faults reads.limit
      (λ os whole. absurd (false≢true whole))
      (λ e. absurd (cc)) false≢true
      (λ disk attached o os. tells_first store.tree store.params script (disk_of disk) (disk_of store.disk)
      (source_of source)
      (source_of source_new) (sink_of sink) (sink_of sink) statuses.NoMemory refl (λ whole. refl))

  -- it is no listing
  refused : (source_new : R) → Stops statuses.BadListing source_new → Ends statuses.BadListing store source_new sink
  refused source_new ended =
      let reads = ended.reads in
      quiet_ends statuses.BadListing store source_new sink refl still_here refl refl refl
      reads.observable reads.faults reads.limit
      (λ os whole. (reads.bad os refl).0)
      (λ e. absurd (cc)) false≢true
      (λ disk attached o os. tells_bad store.tree store.params script (disk_of disk) (disk_of store.disk)
      (source_of source)
      (source_of source_new) (sink_of sink) (sink_of sink) ended.empty
      (reads.bad os refl).1)

  stopped_by : (status known : Status) (source_new : R) → status ≡ known
      → (Stops known source_new → Ends known store source_new sink) → Stops status source_new
      → Ends status store source_new sink
  stopped_by status known source_new same ends ended =
      subst (λ (s : Status). Ends s store source_new sink) (sym same)
      (ends (subst (λ (s : Status). Stops s source_new) same ended))

  stopped : (status : Status) (source_new : R) → IsReadFault status → Stops status source_new
      → Ends status store source_new sink
  stopped status source_new (inl same) ended =
      stopped_by status statuses.SourceFault source_new same (stopped_source source_new) ended
  stopped status source_new (inr (inl same)) ended =
      stopped_by status statuses.TooLong source_new same (stopped_long source_new) ended
  stopped status source_new (inr (inr (inl same))) ended =
      stopped_by status statuses.NoMemory source_new same (stopped_short source_new) ended
  stopped status source_new (inr (inr (inr same))) ended =
      stopped_by status statuses.BadListing source_new same (refused source_new) ended

  -- it is one, with whose tree the store was to be loaded
  module _ (store_new : StoreState D) (source_new : R) where
    module _ (loaded : Result LoadAnswer ApplyFault)
        (read : LoadsRead disk_of source_of store store_new source source_new loaded) where
      some_steps : Loads disk_of read.reads.some.0 store store_new loaded
      some_steps = read.loads read.reads.some.0 read.reads.some.1

      -- where the source tells its bytes, it is known which
      module _ (os : sources.IsObservable (source_of source)) where
        abbrev listed : HoldsListing store.params script read.listed
        listed = read.reads.listed os

        lists : Lists listed.tree store.params script
        lists = listed.lists

        steps : Loads disk_of listed.tree store store_new loaded
        steps = read.loads listed.tree (record { under = (listed.lists).under; held = listed.held })

      -- the store was not stopped
      ran : loaded ≡ Err apply.Stopped → ⊥
      ran e = false≢true (sym ready.runs ∙ some_steps.stopped.0 e)

      -- the disk is as it was, where nothing was written
      still_by : (disk_of store_new.disk).faults ≡ (disk_of store.disk).faults
          → ((t : Tree) → ChangesImage store.tree (loaded_tree store.params store.tree t)
          store.params (disk_of store.disk) (disk_of store_new.disk) store_new.is_stopped loaded
          → (disks.IsObservable (disk_of store.disk) → IfOk loaded (IsLoadAnswer store.params t))
          → disks.IsObservable (disk_of store.disk) → ReadsOnly (disk_of store.disk) (disk_of store_new.disk))
          → Still (disk_of store.disk) (disk_of store_new.disk)
      still_by same reads = record {
        kept = some_steps.kept;
        faults = same;
        reads = λ o. reads read.reads.some.0 (some_steps.observed o ready.runs) some_steps.answer o;
      }

    -- it was done
    done : LoadsRead disk_of source_of store store_new source source_new (Ok answers.Done)
        → Ends statuses.Done store_new source_new sink
    done read =
        let reads = read.reads in
        let some = some_steps (Ok answers.Done) read in
        record {
          ends = refl;
          outside = record {
            disk_kept = some.kept;
            source_observable = reads.observable;
            sink_observable = refl;
            disk_faults = some.faults;
            source_faults = reads.faults;
            sink_faults = refl;
          };
          keeps = λ disk. record {
            done = refl;
            limit = reads.limit;
            whole = λ os whole. (reads.limit os).whole refl;
            not_taken = λ e. absurd (cc);
            silent = λ full fault. refl;
          };
          does = λ disk attached o os.
              let t = (listed (Ok answers.Done) read os).tree in
              let step = steps (Ok answers.Done) read os in
              let room : page_count t store.params ≤ store.params.slots = step.answer (told disk attached o) in
              from_loaded disk_of source_of sink_of store.tree store.params script (outside_of disk source sink)
              (after_load statuses.Done store_new source_new sink)
              (tells_done store.tree store.params script (disk_of disk) (disk_of store_new.disk)
              (source_of source) (source_of source_new) (sink_of sink) (sink_of sink) read.empty t
              (lists (Ok answers.Done) read os) room)
              false≢true t (record { empty = read.empty; lists = lists (Ok answers.Done) read os; room = room })
              (load_changed statuses.Done store_new (Ok answers.Done) t
              read.empty (lists (Ok answers.Done) read os).under room disk attached o
              (step.observed (told disk attached o) ready.runs)
              (λ e. (answers.Done, refl)));
        }

    -- the tree has more pages than there are slots, which was put out or not
    module _ (need slots : ℕ) (read : LoadsRead disk_of source_of store store_new source source_new
        (Ok (answers.Full need slots))) where
      full_still : Still (disk_of store.disk) (disk_of store_new.disk)
      full_still = still_by (Ok (answers.Full need slots)) read (some_steps (Ok (answers.Full need slots)) read).faults
          (λ t changes answer o. changes.still (loaded_full store.params store.tree t (answer o).2))

      module _ (o : disks.IsObservable (disk_of store.disk)) (os : sources.IsObservable (source_of source)) where
        abbrev full_tree : Tree
        full_tree = (listed (Ok (answers.Full need slots)) read os).tree

        full_told : IsLoadAnswer store.params full_tree (answers.Full need slots)
        full_told = (steps (Ok (answers.Full need slots)) read os).answer o

        full_line : reply_text (Refused (Full need slots)) ≡ full_text full_tree store.params
        full_line = ap (λ n. reply_text (Refused (Full n slots))) full_told.0
            ∙ ap (λ n. reply_text (Refused (Full (page_count full_tree store.params) n))) full_told.1

      full_ends : (sink_new : W) (put : Result (Unit {0}) SinkFault)
          → IsPut (sink_of sink) (sink_of sink_new) (reply_text (Refused (Full need slots))) put
          → Ends (full_status put) store_new source_new sink_new
      full_ends sink_new (Ok value) puts =
          let reads = read.reads in
          record {
            ends = refl;
            outside = record {
              disk_kept = full_still.kept;
              source_observable = reads.observable;
              sink_observable = puts.observable;
              disk_faults = full_still.faults;
              source_faults = reads.faults;
              sink_faults = puts.faults;
            };
            keeps = λ disk. record {
              done = refl;
              limit = λ os. limit_read statuses.TooFull (source_of source) (source_of source_new)
                  (λ e. cc) (reads.limit os);
              whole = λ os whole. (reads.limit os).whole refl;
              not_taken = λ e. absurd (cc);
              silent = λ full fault. absurd (full refl);
            };
            does = λ disk attached o os.
                let here = told disk attached o in
                kept_loads statuses.TooFull store_new source_new sink_new full_still false≢true disk attached
                (tells_too_full store.tree store.params script (disk_of disk) (disk_of store_new.disk)
                (source_of source) (source_of source_new) (sink_of sink) (sink_of sink_new) read.empty
                (full_tree here os) (lists (Ok (answers.Full need slots)) read os) (full_told here os).2
                (λ shown. (puts.observed shown).appended
                ∙ ap (λ xs. (sink_of sink).written ++ xs) (full_line here os))) o;
          }
      full_ends sink_new (Err fault) puts =
          let reads = read.reads in
          record {
            ends = refl;
            outside = record {
              disk_kept = full_still.kept;
              source_observable = reads.observable;
              sink_observable = puts.observable;
              disk_faults = full_still.faults;
              source_faults = reads.faults;
              sink_faults = puts.faults;
            };
            keeps = λ disk. record {
              done = refl;
              limit = λ os. limit_read statuses.SinkFault (source_of source) (source_of source_new)
                  (λ e. cc) (reads.limit os);
              whole = λ os whole. (reads.limit os).whole refl;
              not_taken = λ e. absurd (cc);
              silent = λ full fault. absurd (fault refl);
            };
            does = λ disk attached o os.
                let here = told disk attached o in
                kept_loads statuses.SinkFault store_new source_new sink_new full_still false≢true disk attached
                (tells_unprinted store.tree store.params script (disk_of disk) (disk_of store_new.disk)
                (source_of source) (source_of source_new) (sink_of sink) (sink_of sink_new) read.empty
                (full_tree here os) (lists (Ok (answers.Full need slots)) read os) (full_told here os).2
                (λ shown. subst (AppendsPrefix (sink_of sink).written (sink_of sink_new).written) (full_line here os)
                (puts.observed shown).cut_off)) o;
          }

    -- memory ran out
    short : LoadsRead disk_of source_of store store_new source source_new (Err apply.NoMemory)
        → Ends statuses.NoMemory store_new source_new sink
    short read =
        let reads = read.reads in
        quiet_ends statuses.NoMemory store_new source_new sink refl
        (still_by (Err apply.NoMemory) read (some_steps (Err apply.NoMemory) read).faults
        (λ t changes answer o. changes.no_memory refl)) refl refl refl reads.observable reads.faults
        (λ os. limit_read statuses.NoMemory (source_of source) (source_of source_new)
        (λ e. cc) (reads.limit os))
        (λ os whole. (reads.limit os).whole refl) (λ e. absurd (cc)) false≢true
        (λ disk attached o os. tells_first store.tree store.params script (disk_of disk) (disk_of store_new.disk)
        (source_of source) (source_of source_new) (sink_of sink)
        (sink_of sink) statuses.NoMemory refl (λ whole. refl))

    abbrev disk_failed : Result LoadAnswer ApplyFault
    disk_failed = Err apply.Disk

    -- the disk failed
    module _ (read : LoadsRead disk_of source_of store store_new source source_new (Err apply.Disk)) where
      module _ (disk : D) (attached : Attached disk) (o : disks.IsObservable (disk_of disk)) (t : Tree)
          (lists : Lists t store.params script)
          (changes : ChangesImage store.tree (loaded_tree store.params store.tree t) store.params (disk_of store.disk)
          (disk_of store_new.disk) store_new.is_stopped disk_failed) where
        abbrev FaultLoads : Type 0
        FaultLoads = Loaded disk statuses.DiskFault store_new source_new sink

        fault_tells : TellsOf disk statuses.DiskFault store_new source_new sink
        fault_tells =
            tells_first store.tree store.params script (disk_of disk) (disk_of store_new.disk)
            (source_of source) (source_of source_new) (sink_of sink) (sink_of sink)
            statuses.DiskFault refl
            (λ whole.
            absurd (whole (rose (disk_of disk).faults (disk_of store_new.disk).faults
            ((some_steps (Err apply.Disk) read).faults ∙ ap raised attached.faults))))

        -- with a tree that has no room, and with one that has
        fault_large : store.params.slots < page_count t store.params → FaultLoads
        fault_large more =
            from_kept disk_of source_of sink_of store.tree store.params script
            (outside_of disk source sink) (after_load statuses.DiskFault store_new source_new sink) fault_tells
            false≢true
            (keeps_opened store.tree store.params statuses.DiskFault (disk_of disk) (disk_of store_new.disk)
            (disk_of store.disk) ready.fitting (attached.observed o)
            (changes.still (loaded_full store.params store.tree t more)))
            (λ e. absurd (cc))

        fault_fits : page_count t store.params ≤ store.params.slots → FaultLoads
        fault_fits room =
            from_loaded disk_of source_of sink_of store.tree store.params script
            (outside_of disk source sink) (after_load statuses.DiskFault store_new source_new sink) fault_tells
            false≢true t (record { empty = read.empty; lists = lists; room = room })
            (load_changed statuses.DiskFault store_new (Err apply.Disk) t read.empty lists.under room disk attached o
            changes (λ e. absurd (false≢true e)))

        fault_loads : FaultLoads
        fault_loads = ⊎_elim fault_large fault_fits (cases_lt store.params.slots (page_count t store.params))

      faulted : Ends statuses.DiskFault store_new source_new sink
      faulted =
          let reads = read.reads in
          let some = some_steps (Err apply.Disk) read in
          record {
            ends = refl;
            outside = record {
              disk_kept = some.kept;
              source_observable = reads.observable;
              sink_observable = refl;
              disk_faults = some.faults;
              source_faults = reads.faults;
              sink_faults = refl;
            };
            keeps = λ disk. record {
              done = refl;
              limit = λ os. limit_read statuses.DiskFault (source_of source) (source_of source_new)
                  (λ e. cc) (reads.limit os);
              whole = λ os whole. (reads.limit os).whole refl;
              not_taken = λ e. absurd (cc);
              silent = λ full fault. refl;
            };
            does = λ disk attached o os.
                fault_loads disk attached o (listed (Err apply.Disk) read os).tree (lists (Err apply.Disk) read os)
                ((steps (Err apply.Disk) read os).observed (told disk attached o) ready.runs);
          }

    -- a listing was read, the store was to be loaded, and what is to be printed was put out
    loaded_ends : (loaded : Result LoadAnswer ApplyFault)
        → LoadsRead disk_of source_of store store_new source source_new loaded → (status : Status) (sink_new : W)
        → PrintsFilled sink_of (filled_by loaded) sink sink_new status → Ends status store_new source_new sink_new
    loaded_ends (Ok answers.Done) read status sink_new prints =
        at_end store_new source_new statuses.Done status sink_new prints.0 prints.1 (done read)
    loaded_ends (Ok (answers.Full need slots)) read status sink_new prints =
        subst (λ (s : Status). Ends s store_new source_new sink_new) (sym prints.status_is)
        (full_ends need slots read sink_new prints.put prints.puts)
    loaded_ends (Err apply.Disk) read status sink_new prints =
        at_end store_new source_new statuses.DiskFault status sink_new prints.0 prints.1 (faulted read)
    loaded_ends (Err apply.NoMemory) read status sink_new prints =
        at_end store_new source_new statuses.NoMemory status sink_new prints.0 prints.1 (short read)
    loaded_ends (Err apply.Stopped) read status sink_new prints = absurd (ran (Err apply.Stopped) read refl)

  same_store : (status : Status) (store_new : StoreState D) (source_new : R) (sink_new : W)
      → store_new ≡ store → Ends status store source_new sink_new → Ends status store_new source_new sink_new
  same_store status store_new source_new sink_new same ends =
      subst (λ (s : StoreState D). Ends status s source_new sink_new) (sym same) ends

  -- a store was filled or not, and what is to be printed was put out
  pub filled_ends : (store_new : StoreState D) (source_new : R) (sink_new : W)
      (result : Result LoadAnswer Status) (status : Status)
      → FillsStore disk_of source_of store store_new source source_new result
      → PrintsFilled sink_of result sink sink_new status
      → Ends status store_new source_new sink_new
  filled_ends store_new source_new sink_new result status (fills.Spares is spares) prints =
      let p = subst (λ (r : Result LoadAnswer Status). PrintsFilled sink_of r sink sink_new status) is prints in
      same_store status store_new source_new sink_new spares.store_same
      (subst (λ (s : R). Ends status store s sink_new) (sym spares.source_same)
      (at_end store source statuses.NotEmpty status sink_new p.0 p.1
      (spared (record { holds = spares.holds; store_same = refl; source_same = refl }))))
  filled_ends store_new source_new sink_new result status (fills.Stops fault is ended) prints =
      let p = subst (λ (r : Result LoadAnswer Status). PrintsFilled sink_of r sink sink_new status) is prints in
      same_store status store_new source_new sink_new ended.store_same
      (at_end store source_new fault status sink_new p.0 p.1
      (stopped fault source_new ended.reads.fault
      (record { empty = ended.empty; store_same = refl; reads = ended.reads })))
  filled_ends store_new source_new sink_new result status (fills.Fills loaded is read) prints =
      loaded_ends store_new source_new loaded read status sink_new
      (subst (λ (r : Result LoadAnswer Status). PrintsFilled sink_of r sink sink_new status) is prints)
