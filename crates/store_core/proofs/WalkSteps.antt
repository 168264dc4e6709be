-- What a call for the next pair of a walk comes to, and a search for where one starts.
use Rattle.std.proofs.Common.{◌≡◌, ℕ, Bool, List, Option, Result, Ok, Err, refl, sym, subst, ◌∙◌}
use Rattle.store_model.specs.Parameters.{Parameters}
use Rattle.store_model.specs.Trees.{Tree}
use Rattle.store_model.specs.Pairs.{Pair, pairs}
use Rattle.disk_model.specs.DiskState.{DiskState, IsObservable}
use Rattle.skip_levels.specs.SearchPath.{below}
use Rattle.pair_stream.specs.declared.places.PairStream.{PairStream}
use Rattle.image_check.specs.declared.fault.ApplyFault.{ApplyFault}
use Rattle.image_check.specs.declared.fault.ApplyFault.TheVariants as apply
use Rattle.image_check.specs.Faults.{apply_faults_after}
use Rattle.staged_tree.specs.ImageChanges.{ChangesImage}
use Rattle.staged_tree.specs.StagedTree.{TreeList}
use Rattle.staged_tree.specs.Walks.{StandsIn, passed_after, IsNextFor}
use Rattle.store_core.specs.declared.walks.PairsWalk.{PairsWalk}
use Rattle.store_core.specs.Known.{KnownState}
use Rattle.store_core.specs.StoreState.{StoreState}
use Rattle.store_core.specs.Walks.{StandsAfter, WalksOn, StartsWalk}
use Rattle.store_core.proofs.StoreSteps.{Answers, next_tree, Goes, store_of}

-- what is given to a walk, whose stream stands so
abbrev pub WalkReply : PairStream → Answers (Option Pair)
WalkReply stream p t = IsNextFor t p stream

-- where a stream of a store's tree stands behind a call that was made in the list of the known tree
abbrev pub GoesIn : {D : Type 0} → (D → DiskState) → StoreState D → PairStream → PairStream
    → Result (Option Pair) ApplyFault → Type 0
GoesIn state store before after result = IsObservable (state store.disk) → (passed : List Pair)
    → StandsIn store.tree store.params passed before
    → StandsIn store.tree store.params (passed_after passed result) after

pub walk_seen : {D : Type 0} (state : D → DiskState) (known : KnownState D) (list : TreeList D) (now : StoreState D)
    (before after : PairStream) (result : Result (Option Pair) ApplyFault) → store_of known list ≡ now
    → GoesIn state (store_of known list) before after result → GoesIn state now before after result
walk_seen {D} state known list now before after result seen goes =
    subst (λ (x : StoreState D). GoesIn state x before after result) seen goes

pub walks_on : {D : Type 0} (state : D → DiskState) (old new : StoreState D) (before after : PairsWalk)
    (result : Result (Option Pair) ApplyFault) → Goes state next_tree (WalkReply before.stream) old new result
    → GoesIn state old before.stream after.stream result → WalksOn state old new before after result
unfolding StandsAfter
walks_on state old new before after result goes stands = record { store = goes; stands = stands }

-- ---- where a walk starts

-- what such a search tells of a stream
abbrev pub StartReply : List ℕ → Answers PairStream
StartReply key p t = StandsIn t p (below key (pairs t p))

-- an answer is no fault, and one fault is another where both are told of another answer
not_failed : {A : Type 0} (value : A) {fault : ApplyFault} → ◌≡◌ {A = Result A ApplyFault} (Ok value) (Err fault) → ⊥
not_failed value e = cc

same_error : {A B : Type 0} (f e : ApplyFault) → ◌≡◌ {A = Result A ApplyFault} (Err f) (Err e)
    → ◌≡◌ {A = Result B ApplyFault} (Err f) (Err e)
same_error {A} {B} f e is =
    let same : f ≡ e = cc in subst (λ (x : ApplyFault). ◌≡◌ {A = Result B ApplyFault} (Err f) (Err x)) same refl

same_faults : (A B : Type 0) (count : ℕ) (fault : ApplyFault)
    → apply_faults_after {T = A} count (Err fault) ≡ apply_faults_after {T = B} count (Err fault)
same_faults A B count apply.Disk = refl
same_faults A B count apply.NoMemory = refl
same_faults A B count apply.Stopped = refl

-- a step, told with another answer
image_told : {A B : Type 0} (t next : Tree) (p : Parameters) (old new : DiskState) (is_stopped : Bool) (a : A) (b : B)
    → ChangesImage t next p old new is_stopped (Ok a) → ChangesImage t next p old new is_stopped (Ok b)
image_told t next p old new is_stopped a b image = record {
  stands = image.stands;
  crash = image.crash;
  reads = image.reads;
  still = image.still;
  no_memory = λ e. absurd (not_failed b e);
  counts = record { made = image.counts.made; limit = image.counts.limit };
  stops = λ e. let stops = image.stops e in absurd (not_failed a stops.0);
  goes_on = λ e f. absurd (not_failed b f);
}

image_failed : {A B : Type 0} (t next : Tree) (p : Parameters) (old new : DiskState) (is_stopped : Bool)
    (fault : ApplyFault) → ChangesImage {T = A} t next p old new is_stopped (Err fault)
    → ChangesImage {T = B} t next p old new is_stopped (Err fault)
image_failed {A} {B} t next p old new is_stopped fault image = record {
  stands = tt;
  crash = image.crash;
  reads = image.reads;
  still = image.still;
  no_memory = λ e. image.no_memory (same_error {A = B} {B = A} fault apply.NoMemory e);
  counts = record { made = tt; limit = image.counts.limit };
  stops = λ e. let stops = image.stops e in (same_error {A = A} {B = B} fault apply.Disk stops.0, stops.1);
  goes_on = λ e f. image.goes_on e (same_error {A = B} {B = A} fault apply.Disk f);
}

module _ {D : Type 0} (state : D → DiskState) (key : List ℕ) (old new : StoreState D) where
  pub started : (stream : PairStream) (walk : PairsWalk) → walk.stream ≡ stream
      → Goes state next_tree (StartReply key) old new (Ok stream) → StartsWalk state key old new (Ok walk)
  unfolding StandsAfter
  started stream walk same goes = record {
    params = goes.params;
    kept = goes.kept;
    faults = goes.faults;
    stopped = (λ e. absurd (not_failed walk e), λ e. absurd (not_failed stream (goes.stopped.1 e)));
    still = goes.still;
    answer = λ observable. subst
        (λ (x : PairStream). StandsIn old.tree old.params (below key (pairs old.tree old.params)) x)
        (sym same) (goes.answer observable);
    tree = goes.tree;
    fault = tt;
    hidden = goes.hidden;
    runs = λ runs other. goes.runs runs (λ e. not_failed stream e);
    observed = λ observable runs. image_told old.tree old.tree old.params (state old.disk) (state new.disk)
        new.is_stopped
        stream walk (goes.observed observable runs);
  }

  pub not_started : (fault : ApplyFault) → Goes state next_tree (StartReply key) old new (Err fault)
      → StartsWalk state key old new (Err fault)
  unfolding StandsAfter
  not_started fault goes = record {
    params = goes.params;
    kept = goes.kept;
    faults = goes.faults ∙ same_faults PairStream PairsWalk (state old.disk).faults fault;
    stopped = (
      λ e. goes.stopped.0 (same_error fault apply.Stopped e),
      λ e. same_error fault apply.Stopped
          (goes.stopped.1 e),
    );
    still = goes.still;
    answer = λ observable. tt;
    tree = λ observable. tt;
    fault = goes.fault;
    hidden = goes.hidden;
    runs = λ runs other. goes.runs runs (λ e. other (same_error fault apply.Disk e));
    observed = λ observable runs. image_failed old.tree old.tree old.params (state old.disk) (state new.disk)
        new.is_stopped fault (goes.observed observable runs);
  }
