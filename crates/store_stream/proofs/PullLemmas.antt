-- What one more pair of a store leaves of its stream, and gives it.
use Rattle.std.proofs.Common.{◌≡◌, ℕ, ◌<◌, Bool, true, false, List, ◌++◌, length, Option, Some, None}
use Rattle.std.proofs.Common.{Result, Ok, Err, inl, inr, refl, sym, ap, subst, ◌∙◌}
use Rattle.std.specs.List.{flat_map}
use Rattle.std.proofs.lemmas.Bool.{false≢true}
use Rattle.store_model.specs.Parameters.{Parameters}
use Rattle.store_model.specs.Trees.{Tree}
use Rattle.store_model.specs.Pairs.{Pair, pairs}
use Rattle.disk_model.specs.DiskState.{DiskState, IsObservable, IsSound}
use Rattle.gate_journal.specs.Places.{ReadsOnly}
use Rattle.gate_journal.specs.ReadingLaws.{ReadsOnly-refl, ReadsOnly-trans}
use Rattle.tree_pairs.specs.TreeCalls.{pairs_limit}
use Rattle.dump_streams.specs.Dumps.{DumpStep, dump}
use Rattle.dump_streams.specs.Taking.{HasGiven, HasTaken}
use Rattle.dump_streams.specs.declared.steps.PairSteps.{PairSteps}
use Rattle.dump_streams.specs.Spots.{spot_steps}
use Rattle.dump_streams.specs.declared.fault.StreamFault.{StreamFault}
use Rattle.image_check.specs.declared.fault.ApplyFault.{ApplyFault}
use Rattle.image_check.specs.declared.fault.ApplyFault.TheVariants as apply
use Rattle.image_check.specs.Faults.{apply_faults_after}
use Rattle.staged_tree.specs.Walks.{IsNextIn}
use Rattle.staged_tree.proofs.DiskLemmas.{keeps_then}
use Rattle.staged_tree.proofs.Unchanged.{keeps_itself}
use Rattle.store_core.specs.StoreState.{StoreState}
use Rattle.store_core.specs.StoreCalls.{StepsStore}
use Rattle.store_core.specs.Walks.{StandsAfter, WalksOn}
use Rattle.store_core.specs.declared.walks.PairsWalk.{PairsWalk}
use Rattle.store_stream.specs.declared.stream.StoreStream.{StoreStream}
use Rattle.store_stream.specs.StoreStreams.{stream_fault_of, CameBy, IsCause, EndsBy, faults_by, ReadsStore}
use Rattle.store_stream.specs.Pulling.{StandsWith, Pulled}

-- what of a dump is left where some of its pairs came
pub front_of : (steps : PairSteps) (u : Tree) (p : Parameters) (passed : List Pair) (t : Tree)
    → HasTaken steps u p passed t → (rest : List DumpStep) × (dump u ≡ dump t ++ rest)
front_of steps u p passed t has = (has.after.file_steps ++ flat_map spot_steps has.after.left, has.after.dump_is)

-- the fault of a store that a call tells
abbrev pub fault_after : Result (Option Pair) ApplyFault → Option ApplyFault
fault_after (Ok pair) = None
fault_after (Err fault) = Some fault

counted : (count : ℕ) (result : Result (Option Pair) ApplyFault)
    → apply_faults_after count result ≡ faults_by (fault_after result) count
counted count (Ok pair) = refl
counted count (Err apply.Disk) = refl
counted count (Err apply.NoMemory) = refl
counted count (Err apply.Stopped) = refl

stopped_so : (result : Result (Option Pair) ApplyFault) → fault_after result ≡ Some apply.Stopped
    → result ≡ Err apply.Stopped
stopped_so (Ok pair) is = absurd (cc)
stopped_so (Err fault) is = let same : fault ≡ apply.Stopped = cc in ap Err same

module _ {D : Type 0} (disk_of : D → DiskState) where
  -- the fault that a stream tells is that of its store
  told_cause : (stream : StoreStream D) (fault : ApplyFault) → stream.fault ≡ Some fault
      → IsCause disk_of stream (stream_fault_of fault)
  told_cause stream apply.Disk is = inl is
  told_cause stream apply.NoMemory is = is
  told_cause stream apply.Stopped is = inr is

  -- it stays as it is where nothing is called
  pub reads_none : (stream : StoreStream D)
      → (IsObservable (disk_of stream.store.disk) → IsSound (disk_of stream.store.disk)) → stream.fault ≡ None
      → ReadsStore disk_of stream stream
  reads_none stream sound none = record {
    tree = refl;
    params = refl;
    kept = keeps_itself (disk_of stream.store.disk);
    reads = λ o. ReadsOnly-refl (disk_of stream.store.disk) (sound o);
    faults = λ e. ap (λ (f : Option ApplyFault). faults_by f (disk_of stream.store.disk).faults) (sym none);
    runs = λ e running f. running;
    not_stopped = λ e running f. let same : None ≡ Some apply.Stopped = sym e ∙ f in cc;
  }

  -- one part behind another
  reads_behind : (start old new : StoreStream D) → ReadsStore disk_of start old → old.fault ≡ None
      → ReadsStore disk_of old new → ReadsStore disk_of start new
  reads_behind start old new one going two = record {
    tree = two.tree ∙ one.tree;
    params = two.params ∙ one.params;
    kept = keeps_then (disk_of start.store.disk) (disk_of old.store.disk) (disk_of new.store.disk) one.kept two.kept;
    reads = λ o. ReadsOnly-trans (disk_of start.store.disk) (disk_of old.store.disk) (disk_of new.store.disk)
        (one.reads o) (two.reads (one.kept.observable ∙ o));
    faults = λ e. two.faults going ∙ ap (faults_by new.fault) (one.faults e
        ∙ ap (λ (f : Option ApplyFault). faults_by f (disk_of start.store.disk).faults) going);
    runs = λ e running f. two.runs going (one.runs e running going) f;
    not_stopped = λ e running f. two.not_stopped going (one.runs e running going) f;
  }

  -- ---- one call of the store

  module _ (old : StoreStream D) (store : StoreState D) (walk : PairsWalk)
      (result : Result (Option Pair) ApplyFault)
      (walks : WalksOn disk_of old.store store old.walk walk result) where
    abbrev new : Option ApplyFault → StoreStream D
    new fault = record { store = store; walk = walk; steps = old.steps; fault = fault }

    told : IsObservable (disk_of store.disk) → IsObservable (disk_of old.store.disk)
    told o = sym walks.store.kept.observable ∙ o

    params_is : store.params ≡ old.store.params
    params_is = walks.store.params

    tree_same : {A : Type 0} (IsAnswer : A → Type 0) (r : Result A ApplyFault)
        → StepsStore disk_of old.store.tree IsAnswer old.store store r → store.tree ≡ old.store.tree
    tree_same IsAnswer (Ok value) steps = by_told (disk_of old.store.disk).is_observable refl
      where
        by_told : (b : Bool) → (disk_of old.store.disk).is_observable ≡ b → store.tree ≡ old.store.tree
        by_told true o = steps.tree o
        by_told false h = steps.hidden (λ o. false≢true (sym h ∙ o))
    tree_same IsAnswer (Err fault) steps = steps.fault

    tree_is : store.tree ≡ old.store.tree
    tree_is = tree_same (λ pair. (passed : List Pair) → StandsAfter old.store.tree old.store.params passed old.walk
        → IsNextIn (pairs old.store.tree old.store.params) passed pair) result walks.store

    -- what held of the store's tree holds of it still
    still : (P : Tree → Parameters → Type 0) → P old.store.tree old.store.params → P store.tree store.params
    still P holds = subst (λ (u : Tree). P u store.params) (sym tree_is)
        (subst (λ (p : Parameters). P old.store.tree p) (sym params_is) holds)

    read_so : (IsObservable (disk_of old.store.disk) → IsSound (disk_of old.store.disk))
        → IsObservable (disk_of old.store.disk) → ReadsOnly (disk_of old.store.disk) (disk_of store.disk)
    read_so sound o = by_stopped old.store.is_stopped refl
      where
        by_stopped : (b : Bool) → old.store.is_stopped ≡ b
            → ReadsOnly (disk_of old.store.disk) (disk_of store.disk)
        by_stopped true is = subst (λ (s : StoreState D). ReadsOnly (disk_of old.store.disk) (disk_of s.disk))
            (sym (walks.store.still is)) (ReadsOnly-refl (disk_of old.store.disk) (sound o))
        by_stopped false is = (walks.store.observed o is).still refl

    reads_one : (fault : Option ApplyFault)
        → (IsObservable (disk_of old.store.disk) → IsSound (disk_of old.store.disk)) → fault ≡ fault_after result
        → ReadsStore disk_of old (new fault)
    reads_one fault sound is = record {
      tree = tree_is;
      params = params_is;
      kept = walks.store.kept;
      reads = read_so sound;
      faults = λ e. walks.store.faults ∙ counted (disk_of old.store.disk).faults result
          ∙ ap (λ (f : Option ApplyFault). faults_by f (disk_of old.store.disk).faults) (sym is);
      runs = λ e running f. walks.store.runs running
          (λ failed. let same : None ≡ Some apply.Disk = sym f ∙ is ∙ ap fault_after failed in cc);
      not_stopped = λ e running f. false≢true (sym running ∙ walks.store.stopped.0 (stopped_so result (sym is ∙ f)));
    }

    -- The call leaves of the stream what a stream leaves.
    pub reads_more : (start : StoreStream D) (fault : Option ApplyFault)
        → (IsObservable (disk_of old.store.disk) → IsSound (disk_of old.store.disk)) → fault ≡ fault_after result
        → old.fault ≡ None → ReadsStore disk_of start old → ReadsStore disk_of start (new fault)
    reads_more start fault sound is going kept =
        reads_behind start old (new fault) kept going (reads_one fault sound is)

  -- A pair came, or none is left.
  pub pulled_so : (old : StoreStream D) (store : StoreState D) (walk : PairsWalk) (t : Tree) (count : ℕ)
      (answer : Option Pair) → WalksOn disk_of old.store store old.walk walk (Ok answer)
      → CameBy disk_of old t count → Pulled disk_of (record old { store = store; walk = walk }) t count (Ok answer)
  pulled_so old store walk t count (Some pair) walks came =
      let keep = still old store walk (Ok (Some pair)) walks in
      record {
        going = came.going;
        few = keep (λ u p. length (pairs u p) < pairs_limit) came.few;
        given = keep (λ u p. HasGiven old.steps t p) came.given;
        stands = λ o.
            let o_before = told old store walk (Ok (Some pair)) walks o in
            let at = came.stands o_before in
            let next = walks.store.answer o_before at.passed at.walk_is in
            keep (λ u p. StandsWith old.steps walk t count pair u p) (record {
              passed = at.passed;
              rest = (next.some).0;
              many = at.many;
              walk_is = walks.stands o_before at.passed at.walk_is;
              taken = at.taken;
              pairs_are = (next.some).1;
            });
      }
  pulled_so old store walk t count None walks came =
      let keep = still old store walk (Ok None) walks in
      record {
        going = came.going;
        given = keep (λ u p. HasGiven old.steps t p) came.given;
        all = λ o.
            let o_before = told old store walk (Ok None) walks o in
            let at = came.stands o_before in
            let next = walks.store.answer o_before at.passed at.walk_is in
            keep (λ u p. HasTaken old.steps u p (pairs u p) t)
            (subst (λ (passed : List Pair). HasTaken old.steps old.store.tree old.store.params passed t)
            (next.none.0 refl) at.taken);
      }

  -- The store told a fault.
  pub pulled_none : (old : StoreStream D) (store : StoreState D) (walk : PairsWalk) (t : Tree) (count : ℕ)
      (fault : ApplyFault) (told_fault : StreamFault)
      → WalksOn disk_of old.store store old.walk walk (Err fault) → told_fault ≡ stream_fault_of fault
      → CameBy disk_of old t count
      → EndsBy disk_of (record { store = store; walk = walk; steps = old.steps; fault = Some fault }) t told_fault
  pulled_none old store walk t count fault told_fault walks is came =
      let ended : StoreStream D = record { store = store; walk = walk; steps = old.steps; fault = Some fault } in
      subst (λ (f : StreamFault). EndsBy disk_of ended t f) (sym is) (record {
        front = λ o.
            let o_before = told old store walk (Err fault) walks o in
            let at = came.stands o_before in
            still old store walk (Err fault) walks (λ u p. (rest : List DumpStep) × (dump u ≡ dump t ++ rest))
            (front_of old.steps old.store.tree old.store.params at.passed t at.taken);
        cause = told_cause ended fault refl;
      })
