-- What building from a stream of a store makes of the store's tree.
use Rattle.std.proofs.Common.{◌≡◌, ℕ, List, [], ◌∷◌, ◌++◌, length, ◌==◌, true, false, Option, Some, None, Result}
use Rattle.std.proofs.Common.{Ok, Err, IfErr, OnOk, IsTrue}
use Rattle.std.proofs.Common.{inl, inr, refl, sym, ap, ap₂, subst, ◌∙◌, arith}
use Rattle.std.specs.List.{list_all}
use Rattle.std.proofs.lemmas.Bool.Decides.{nat_tests}
use Rattle.store_model.specs.Paths.{Path}
use Rattle.store_model.specs.Trees.{Tree, IsTree, exists}
use Rattle.disk_model.specs.DiskState.{DiskState, IsObservable}
use Rattle.dump_streams.specs.Dumps.{DumpStep, after_step, dump}
use Rattle.dump_streams.specs.declared.fault.StreamFault.{StreamFault}
use Rattle.dump_streams.specs.declared.taker.TakerFault.{TakerFault}
use Rattle.dump_streams.specs.declared.taker.TakerFault.TheVariants as takers
use Rattle.host_names.specs.Reading.{has_host_text}
use Rattle.host_builder.specs.declared.attribute.Wanted.{Wanted}
use Rattle.host_builder.specs.declared.making.BuildFault.{BuildFault}
use Rattle.host_builder.specs.declared.making.BuildFault.TheVariants as builds
use Rattle.host_builder.specs.Builders.{BuilderState, risen, faults_after}
use Rattle.host_builder.specs.Views.{host_view, count_left_out, Makes, MakesFront, Unmakes}
use Rattle.image_check.specs.declared.fault.ApplyFault.{ApplyFault}
use Rattle.image_check.specs.declared.fault.ApplyFault.TheVariants as apply
use Rattle.image_check.specs.declared.fault.AttachFault.{AttachFault}
use Rattle.image_check.specs.declared.fault.AttachFault.TheVariants as attach
use Rattle.store_core.specs.StoreState.{StoreState}
use Rattle.store_stream.specs.Parts.{parts_at}
use Rattle.store_stream.specs.PartsStreams.{PartsOf, ReadsParts, parts_of}
use Rattle.store_stream.specs.StoreStreams.{CameOf, IsWhole, ReadsStore}
use Rattle.store_stream.specs.declared.parts.PartsStream.{PartsStream}
use Rattle.store_stream.specs.declared.stream.StoreStream.{StoreStream}
use Rattle.store_stream.proofs.PullLemmas.{front_of}
use Rattle.image_reads.specs.declared.fault.ReadFault.{ReadFault}
use Rattle.image_reads.specs.declared.fault.ReadFault.TheVariants as reads
use Rattle.image_reads.specs.Faults.{store_fault, taker_fault, unopened_fault}
use Rattle.image_reads.specs.StoreReads.{IsStoreFault, IsOnlyRead}
use Rattle.image_reads.proofs.Readings.{not_output, taker_store}
use Rattle.image_extract.specs.declared.fault.ExtractFault.{ExtractFault}
use Rattle.image_extract.specs.declared.fault.ExtractFault.TheVariants as extracts
use Rattle.image_extract.specs.Extracts.{asked, AllStand, IsMadeOf, IsUncalled, IsUnbuilt, MakesStore, IsStoreUnmade}
use Rattle.image_extract.specs.Faults.{built_by, extract_faults_by}
use Rattle.image_extract.proofs.Lookups.{fault_then}
use Rattle.image_extract.proofs.Obstacles.{stands_there}

-- ---- where the builder was not called

not_counted : (old : BuilderState) (fault : ExtractFault) → extract_faults_by fault old.faults ≡ old.faults
    → Unmakes old old (extract_faults_by fault old.faults) 0
not_counted old fault same = record {
  observable = refl;
  faults = sym same;
  holds = λ told none gone. none;
}

pub never_built : (old : BuilderState) (fault : ExtractFault) → extract_faults_by fault old.faults ≡ old.faults
    → IsUnbuilt old old 0 fault
never_built old fault same = record { unmakes = not_counted old fault same; uncalled = λ u. (refl, refl) }

not_opened_count : (fault : AttachFault) (count : ℕ)
    → extract_faults_by (extracts.Read (unopened_fault fault)) count ≡ count
not_opened_count attach.Disk count = refl
not_opened_count attach.NoMemory count = refl
not_opened_count attach.NotImage count = refl
not_opened_count attach.Damaged count = refl

-- the image was not opened
pub not_opened : (old : BuilderState) (fault : AttachFault) (told : ReadFault) → told ≡ unopened_fault fault
    → IsUnbuilt old old 0 (extracts.Read told)
not_opened old fault told is =
    subst (λ (f : ReadFault). IsUnbuilt old old 0 (extracts.Read f)) (sym is)
    (never_built old (extracts.Read (unopened_fault fault)) (not_opened_count fault old.faults))

-- ---- what is built

was_called : (fault : ReadFault) → (fault ≡ reads.NotImage → ⊥) → (fault ≡ reads.Damaged → ⊥) → {A : Type 0}
    → IsUncalled (extracts.Read fault) → A
was_called fault one two (inl e) = absurd (one e)
was_called fault one two (inr e) = absurd (two e)

store_called : (f : Option ApplyFault) → (store_fault f ≡ reads.NotImage → ⊥) × (store_fault f ≡ reads.Damaged → ⊥)
store_called None = (λ e. cc, λ e. cc)
store_called (Some apply.Disk) = (λ e. cc, λ e. cc)
store_called (Some apply.NoMemory) = (λ e. cc, λ e. cc)
store_called (Some apply.Stopped) = (λ e. cc, λ e. cc)

taker_called : (f : TakerFault) → (taker_fault f ≡ reads.NotImage → ⊥) × (taker_fault f ≡ reads.Damaged → ⊥)
taker_called takers.Failed = (λ e. cc, λ e. cc)
taker_called takers.NoMemory = (λ e. cc, λ e. cc)

taker_count : (f : TakerFault) (count : ℕ)
    → faults_after {T = Unit {0}} count (Err f) ≡ extract_faults_by (extracts.Read (taker_fault f)) count
taker_count takers.Failed count = refl
taker_count takers.NoMemory count = refl

module _ {S : Type 0} (came whole : S → Tree → Type 0) (fails : S → Tree → StreamFault → Type 0) (stream : S)
    (part : Tree → Tree) (wanted : Wanted) (disk : DiskState) (t : Tree) (old new : BuilderState) (stays : ℕ)
    (fault : Option ApplyFault)
    (is_part : (u : Tree) → whole stream u → IsTree t → IsObservable disk → (u ≡ part t) × IsTree u) where
  by_end : (e : Result (Unit {0}) BuildFault) → Makes came whole fails stream old new wanted stays e
      → MakesStore part wanted disk t old new stays (built_by e fault)
  by_end (Ok done) m = record {
    built = record { observable = m.observable; faults = m.faults; stays_is = m.stays_is };
    made = λ tree seen.
        let same = is_part m.tree m.whole_is tree seen in
        record {
          left_out = m.left_out same.1 ∙ ap (λ (u : Tree). risen old.left_out (count_left_out wanted u)) same.0;
          named = λ none. subst (λ (u : Tree). IsTrue (list_all (λ e. has_host_text e.0) u)) same.0 (m.named none);
          holds = λ told none. m.holds same.1 told none ∙ ap (λ (u : Tree). host_view wanted u) same.0;
        };
  }
  by_end (Err (builds.Stream cause)) m = record {
    unmakes = subst (λ (n : ℕ). Unmakes old new n stays) (sym (not_output fault old.faults)) m.unmakes;
    uncalled = was_called (store_fault fault) (store_called fault).0 (store_called fault).1;
  }
  by_end (Err (builds.Builder cause)) m = record {
    unmakes = subst (λ (n : ℕ). Unmakes old new n stays) (taker_count cause old.faults) m;
    uncalled = was_called (taker_fault cause) (taker_called cause).0 (taker_called cause).1;
  }
  by_end (Err (builds.NoName path)) m = record { unmakes = m.unmakes; uncalled = λ u. absurd u }

  pub built_so : (e : Result (Unit {0}) BuildFault) (result : Result (Unit {0}) ExtractFault)
      → Makes came whole fails stream old new wanted stays e → result ≡ built_by e fault
      → MakesStore part wanted disk t old new stays result
  built_so e result makes is =
      subst (λ (r : Result (Unit {0}) ExtractFault). MakesStore part wanted disk t old new stays r) (sym is)
      (by_end e makes)

-- and why nothing was made
module _ {S : Type 0} (came whole : S → Tree → Type 0) (fails : S → Tree → StreamFault → Type 0) (stream : S)
    (part : Tree → Tree) (wanted : Wanted) (before after : DiskState) (t : Tree) (old new : BuilderState) (stays : ℕ)
    (fault : Option ApplyFault)
    (is_front : (u : Tree) → came stream u → IsObservable before
    → (rest : List DumpStep) × (dump (part t) ≡ dump u ++ rest))
    (blamed : (cause : StreamFault) → MakesFront came whole fails stream old new stays cause
    → IsStoreFault before after (store_fault fault)) where
  by_fault : (b : Result (Unit {0}) BuildFault) → Makes came whole fails stream old new wanted stays b
      → IfErr (built_by b fault) (IsStoreUnmade part wanted [] t before after)
  by_fault (Ok done) m = tt
  by_fault (Err (builds.Stream cause)) m = blamed cause m
  by_fault (Err (builds.Builder cause)) m = taker_store before after cause
  by_fault (Err (builds.NoName path)) m = (
    record { text = m.text; skips = m.skips },
    λ tree seen.
        let front = is_front (after_step m.tree m.step) m.came_is seen in (
          tt,
          ap (λ (x : Path). exists (part t) x) m.path_is
              ∙ stands_there (part t) m.tree m.step front.0 front.1 (m.extends).dump_is,
        ),
  )

  pub unmade_so : (e : Result (Unit {0}) BuildFault) (result : Result (Unit {0}) ExtractFault)
      → Makes came whole fails stream old new wanted stays e → result ≡ built_by e fault
      → IfErr result (IsStoreUnmade part wanted [] t before after)
  unmade_so e result makes is =
      subst (λ (r : Result (Unit {0}) ExtractFault). IfErr r (IsStoreUnmade part wanted [] t before after)) (sym is)
      (by_fault e makes)

-- the whole dump of a store's stream is that of its tree
pub all_is : {D : Type 0} (disk_of : D → DiskState) (old new : StoreStream D) → ReadsStore disk_of old new
    → (store : StoreState D) → old.store ≡ store
    → (u : Tree) → IsWhole disk_of new u → IsTree store.tree → IsObservable (disk_of store.disk)
    → (u ≡ store.tree) × IsTree u
all_is {D} disk_of old new reads store store_is u whole tree seen =
    let same : u ≡ store.tree =
    whole.tree (reads.kept.observable ∙ ap (λ (s : StoreState D). (disk_of s.disk).is_observable) store_is ∙ seen)
    ∙ reads.tree ∙ ap (λ (s : StoreState D). s.tree) store_is in
    (same, subst IsTree (sym same) tree)

-- and what came of it is a front of that
pub all_front_is : {D : Type 0} (disk_of : D → DiskState) (old new : StoreStream D) → ReadsStore disk_of old new
    → (store : StoreState D) → old.store ≡ store → (u : Tree) → CameOf disk_of new u → IsObservable (disk_of store.disk)
    → (rest : List DumpStep) × (dump store.tree ≡ dump u ++ rest)
all_front_is {D} disk_of old new reads store store_is u came seen =
    let at = came.stands
    (reads.kept.observable ∙ ap (λ (s : StoreState D). (disk_of s.disk).is_observable) store_is ∙ seen) in
    let front = front_of new.steps new.store.tree new.store.params at.passed u at.taken in
    (front.0, ap dump (sym (reads.tree ∙ ap (λ (s : StoreState D). s.tree) store_is)) ∙ front.1)

-- so of a stream of parts
pub parts_front_is : {D : Type 0} (disk_of : D → DiskState) (old new : PartsStream D) → ReadsParts disk_of old new
    → (store : StoreState D) (paths : List Path) → old.stream.store ≡ store → old.parts.paths.now ≡ paths
    → (u : Tree) → PartsOf disk_of new u → IsObservable (disk_of store.disk)
    → (rest : List DumpStep) × (dump (parts_at store.tree paths) ≡ dump u ++ rest)
parts_front_is {D} disk_of old new reads store paths store_is paths_are u came seen =
    let at = came.stands
    ((reads.store).kept.observable ∙ ap (λ (s : StoreState D). (disk_of s.disk).is_observable) store_is ∙ seen) in
    let front = front_of new.stream.steps (parts_of new) new.stream.store.params _ u at.made in
    let tree_is : store.tree ≡ new.stream.store.tree =
    sym ((reads.store).tree ∙ ap (λ (s : StoreState D). s.tree) store_is) in
    let same : parts_at store.tree paths ≡ parts_of new =
    ap₂ (λ (t : Tree) (qs : List Path). parts_at t qs) tree_is (sym (reads.paths ∙ paths_are)) in
    (front.0, ap dump same ∙ front.1)

-- ---- of a store that was asked before

module _ {R : Type 0} (state : R → DiskState) (old mid : StoreState R) (tree_is : mid.tree ≡ old.tree)
    (read : IsOnlyRead (state old.disk) (state mid.disk)) where
  pub made_before : (part other : Tree → Tree) (wanted : Wanted) (before after : BuilderState) (stays : ℕ)
      (result : Result (Unit {0}) ExtractFault) → ((t : Tree) → part t ≡ other t)
      → MakesStore part wanted (state mid.disk) mid.tree before after stays result
      → MakesStore other wanted (state old.disk) old.tree before after stays result
  made_before part other wanted before after stays (Ok done) same m = record {
    built = m.built;
    made = λ tree seen.
        subst (λ (u : Tree). IsMadeOf wanted before after u) (ap part tree_is ∙ same old.tree)
        (m.made (subst IsTree (sym tree_is) tree) (read.observable ∙ seen));
  }
  made_before part other wanted before after stays (Err fault) same m = m

  pub unmade_before : (part other : Tree → Tree) (wanted : Wanted) (paths : List Path) (new : DiskState)
      (result : Result (Unit {0}) ExtractFault) → (state mid.disk).faults ≡ (state old.disk).faults
      → ((t : Tree) → part t ≡ other t) → (IsTree old.tree → IsObservable (state old.disk) → AllStand old.tree paths)
      → IfErr result (IsStoreUnmade part wanted [] mid.tree (state mid.disk) new)
      → IfErr result (IsStoreUnmade other wanted paths old.tree (state old.disk) new)
  unmade_before part other wanted paths new (Ok done) faults same stand m = tt
  unmade_before part other wanted paths new (Err (extracts.Missing number)) faults same stand m =
      absurd (omega (arith, m.0))
  unmade_before part other wanted paths new (Err (extracts.NoName path)) faults same stand m = (
    m.0,
    λ tree seen. (
      stand tree seen,
      subst (λ (u : Tree). exists u path ≡ true) (ap part tree_is ∙ same old.tree)
          (m.1 (subst IsTree (sym tree_is) tree) (read.observable ∙ seen)).1,
    ),
  )
  unmade_before part other wanted paths new (Err (extracts.Read fault)) faults same stand m =
      fault_then state (state old.disk) (state mid.disk) new read faults fault m

-- ---- what paths ask for

-- where there are none
pub none_given : (paths : List Path) → (length paths == 0) ≡ true → paths ≡ []
none_given [] is = refl
none_given (q ∷ paths) is = absurd (grind (arith, nat_tests))

-- and where there are some
pub some_asked : (paths : List Path) → (length paths == 0) ≡ false → (t : Tree) → parts_at t paths ≡ asked t paths
some_asked [] is t = cc
some_asked (q ∷ paths) is t = refl

pub at_ok : {T E A : Type 0} (result : Result T E) → A → OnOk result A
at_ok (Ok value) a = a
at_ok (Err fault) a = tt

-- ---- where a store that was asked told a fault

pub store_count : (old new : DiskState) (fault : ReadFault) → IsStoreFault old new fault
    → (fault ≡ reads.Output → ⊥) → (count : ℕ) → extract_faults_by (extracts.Read fault) count ≡ count
store_count old new reads.NotImage is other count = refl
store_count old new reads.Damaged is other count = refl
store_count old new reads.Disk is other count = refl
store_count old new reads.NoMemory is other count = refl
store_count old new reads.Changed is other count = refl
store_count old new reads.Output is other count = absurd (other refl)

pub nothing_made : (part : Tree → Tree) (wanted : Wanted) (disk : DiskState) (t : Tree) (old new : BuilderState)
    (stays : ℕ) (result : Result (Unit {0}) ExtractFault) (fault : ExtractFault) → new ≡ old → stays ≡ 0
    → result ≡ Err fault → extract_faults_by fault old.faults ≡ old.faults
    → MakesStore part wanted disk t old new stays result
nothing_made part wanted disk t old new stays result fault new_is stays_is is same =
    subst (λ (r : Result (Unit {0}) ExtractFault). MakesStore part wanted disk t old new stays r) (sym is)
    (subst (λ (n : ℕ). IsUnbuilt old new n fault) (sym stays_is)
    (subst (λ (b : BuilderState). IsUnbuilt old b 0 fault) (sym new_is) (never_built old fault same)))
