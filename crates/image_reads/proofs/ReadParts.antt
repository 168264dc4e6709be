-- What reading the part of a store at a path to its end gives.
use Rattle.std.proofs.Common.{◌≡◌, ℕ, List, [], ◌∷◌, ◌++◌, Option, None, Result, Ok, Err, MatchResult, ◌⊎◌, IsTrue}
use Rattle.std.proofs.Common.{true, sym, ap, ap₂, subst, ◌∙◌}
use Rattle.store_model.specs.Paths.{Path}
use Rattle.store_model.specs.Trees.{Tree, IsTree, empty_tree, node_at, contents, contents_of}
use Rattle.disk_model.specs.DiskState.{DiskState, IsObservable}
use Rattle.script_lines.specs.SinkState.{SinkState, AppendsPrefix}
use Rattle.dump_streams.specs.Dumps.{DumpStep, dump}
use Rattle.dump_streams.specs.Draining.{TakesWhole, StopsBy, IsTooLong}
use Rattle.dump_streams.specs.declared.fault.StreamFault.{StreamFault}
use Rattle.dump_streams.specs.declared.taker.TakerFault.{TakerFault}
use Rattle.dump_streams.specs.declared.taker.TakerFault.TheVariants as takers
use Rattle.dump_streams.specs.declared.draining.DrainFault.{DrainFault}
use Rattle.dump_streams.specs.declared.draining.DrainFault.TheVariants as drains
use Rattle.image_check.specs.declared.fault.ApplyFault.{ApplyFault}
use Rattle.store_core.specs.StoreState.{StoreState}
use Rattle.store_stream.specs.declared.parts.PartsStream.{PartsStream}
use Rattle.store_stream.specs.PartsStreams.{IsWholeParts, ReadsParts}
use Rattle.store_stream.specs.Parts.{parts_at}
use Rattle.store_stream.proofs.PartTrees.{IsTree-parts_at, node_in_part}
use Rattle.dump_views.specs.Contents.{bytes_at, standing_of, written_at}
use Rattle.dump_views.proofs.ContentLemmas.{written_contents}
use Rattle.image_reads.specs.declared.fault.ReadFault.{ReadFault}
use Rattle.image_reads.specs.declared.found.FileFound.{FileFound}
use Rattle.image_reads.specs.declared.found.FileTaker.{FileTaker}
use Rattle.image_reads.specs.Founds.{found_at}
use Rattle.image_reads.specs.FileTakers.{TookFile, BreaksFile, found_by}
use Rattle.image_reads.specs.Faults.{ended_by, output_faults_by}
use Rattle.image_reads.specs.StoreReads.{PutsFile}
use Rattle.image_reads.proofs.Readings.{not_output}
use Rattle.image_reads.proofs.FileLemmas.{took_found, found_in_part}
use Rattle.image_reads.proofs.CutOff.{BeginsWith, front_written, step_cut}
use Rattle.store_base.specs.Counts.{raised}

-- whole parts are those of the store's tree
pub parts_are : {D : Type 0} (disk_of : D → DiskState) (old new : PartsStream D) → ReadsParts disk_of old new
    → (store : StoreState D) (paths : List Path) → old.stream.store ≡ store → old.parts.paths.now ≡ paths
    → (u : Tree) → IsWholeParts disk_of new u → IsTree store.tree → IsObservable (disk_of store.disk)
    → (u ≡ parts_at store.tree paths) × IsTree u
parts_are {D} disk_of old new reads store paths store_is paths_are u whole tree seen =
    let same : u ≡ parts_at store.tree paths =
    whole.tree ((reads.store).kept.observable ∙ ap (λ (s : StoreState D). (disk_of s.disk).is_observable) store_is
    ∙ seen)
    ∙ ap (λ (t : Tree). parts_at t new.parts.paths.now)
    ((reads.store).tree ∙ ap (λ (s : StoreState D). s.tree) store_is)
    ∙ ap (λ (qs : List Path). parts_at store.tree qs) (reads.paths ∙ paths_are) in
    (same, subst IsTree (sym same) (IsTree-parts_at paths store.tree tree))

IsNoMemory : TakerFault → Type 0
IsNoMemory takers.NoMemory = Unit {0}
IsNoMemory takers.Failed = ⊥

no_memory : takers.NoMemory ≡ takers.Failed → ⊥
unfolding IsNoMemory
no_memory is = subst IsNoMemory is tt

-- what a taker of one file put into its sink
pub put : {S W : Type 0} (sink_of : W → SinkState) (came whole : S → Tree → Type 0)
    (fails : S → Tree → StreamFault → Type 0) (stream : S) (first now : FileTaker W) (path : Path)
    (disk : DiskState) (t : Tree) (before after : W)
    → first.contents.sink ≡ before → after ≡ now.contents.sink → first.contents.path ≡ path
    → first.contents.standing ≡ standing_of (node_at empty_tree path) → first.path ≡ path → first.is_empty ≡ true
    → first.target ≡ None
    → ((u : Tree) → whole stream u → IsTree t → IsObservable disk → (u ≡ parts_at t (path ∷ [])) × IsTree u)
    → ((u : Tree) → came stream u → IsObservable disk → BeginsWith (parts_at t (path ∷ [])) u)
    → ((u : Tree) (cause : StreamFault) → fails stream u cause ⊎ IsTooLong came stream u cause → IsObservable disk
    → BeginsWith (parts_at t (path ∷ [])) u)
    → (ended : Result (Unit {0}) DrainFault) (fault : Option ApplyFault) (found : FileFound)
    (result : Result FileFound ReadFault)
    → MatchResult ended (λ done. TakesWhole came whole fails (TookFile sink_of) (BreaksFile sink_of) stream first now)
    (StopsBy came whole fails (TookFile sink_of) (BreaksFile sink_of) stream first now)
    → found ≡ found_by now.contents.standing now.is_empty now.target → result ≡ ended_by ended fault found
    → PutsFile path disk t (sink_of before) (sink_of after) result
put {W = W} sink_of came whole fails stream first now path disk t before after first_is after_is contents_path standing
    path_is is_empty target is_part front_is ends_is ended fault found result drained now_is is =
    subst (λ (r : Result FileFound ReadFault). PutsFile path disk t (sink_of before) (sink_of after) r) (sym is)
    (by_end ended drained)
  where
    counted : (sink_of after).faults ≡ (sink_of now.contents.sink).faults
    counted = ap (λ (w : W). (sink_of w).faults) after_is

    before_is : (sink_of first.contents.sink).faults ≡ (sink_of before).faults
    before_is = ap (λ (w : W). (sink_of w).faults) first_is

    -- the bytes of the part at the path are those of the file
    part : Tree
    part = parts_at t (path ∷ [])

    same_contents : contents part path ≡ contents t path
    same_contents = ap contents_of (node_in_part t path)

    part_tree : IsTree t → IsTree part
    part_tree = IsTree-parts_at (path ∷ []) t

    -- what was written behind steps that were taken
    written_behind : (middle : FileTaker W) (steps : List DumpStep) → TookFile sink_of first middle steps
        → IsTrue (sink_of before).is_observable
        → (sink_of middle.contents.sink).written ≡ (sink_of before).written ++ written_at path steps
    written_behind middle steps took told =
        (took.contents).written (ap (λ (w : W). (sink_of w).is_observable) first_is ∙ told)
        ∙ ap₂ (λ (w : W) (q : Path). (sink_of w).written ++ written_at q steps) first_is contents_path

    none_read : (f : ReadFault) → (sink_of after).faults ≡ output_faults_by f (sink_of before).faults
        → (IsTree t → IsObservable disk → IsTrue (sink_of before).is_observable
        → AppendsPrefix (sink_of before).written (sink_of after).written (contents part path))
        → PutsFile path disk t (sink_of before) (sink_of after) (Err f)
    none_read f is cut = record {
      faults = is;
      observable = tt;
      read = λ tree seen. tt;
      cut_off = λ tree seen told. subst (AppendsPrefix (sink_of before).written (sink_of after).written) same_contents
          (cut tree seen told);
    }

    by_end : (e : Result (Unit {0}) DrainFault)
        → MatchResult e (λ done. TakesWhole came whole fails (TookFile sink_of) (BreaksFile sink_of) stream first now)
        (StopsBy came whole fails (TookFile sink_of) (BreaksFile sink_of) stream first now)
        → PutsFile path disk t (sink_of before) (sink_of after) (ended_by e fault found)
    by_end (Ok done) all =
        let took = (all.took_is).contents in
        record {
          faults = ap (λ (w : W). (sink_of w).faults) after_is ∙ took.faults
              ∙ ap (λ (w : W). (sink_of w).faults) first_is;
          observable = ap (λ (w : W). (sink_of w).is_observable) after_is ∙ took.observable
              ∙ ap (λ (w : W). (sink_of w).is_observable) first_is;
          read = λ tree seen.
              let same = is_part all.tree all.whole_is tree seen in
              let node_is : node_at all.tree path ≡ node_at t path =
              ap (λ (u : Tree). node_at u path) same.0 ∙ node_in_part t path in
              record {
                found_is = now_is
                    ∙ took_found sink_of first now path all.tree same.1 contents_path standing path_is is_empty target
                    all.took_is
                    ∙ ap (λ (u : Tree). found_at u path) same.0 ∙ found_in_part t path;
                written = λ told.
                    ap (λ (w : W). (sink_of w).written) after_is
                    ∙ took.written (ap (λ (w : W). (sink_of w).is_observable) first_is ∙ told)
                    ∙ ap₂ (λ (w : W) (xs : List ℕ). (sink_of w).written ++ xs) first_is
                    (ap (λ (q : Path). written_at q (dump all.tree)) contents_path
                    ∙ written_contents all.tree path same.1 ∙ ap contents_of node_is);
              };
          cut_off = λ tree seen told. tt;
        }
    by_end (Err (drains.Taker takers.Failed)) stop =
        let broke = (stop.broke_is).taken in
        let took = (stop.took_is).contents in
        none_read _ (counted ∙ broke.faults ∙ ap raised (took.faults ∙ before_is))
        (λ tree seen told.
        let front = front_is _ stop.came_is seen in
        let here = ap (λ (w : W). (sink_of w).is_observable) first_is ∙ told in
        step_cut path part (dump stop.tree) stop.step front.0 (sink_of before).written
        (sink_of (stop.before).contents.sink).written (sink_of after).written (part_tree tree)
        (front.1 ∙ ap (λ (xs : List DumpStep). xs ++ front.0) (stop.extends).dump_is)
        (written_behind stop.before (dump stop.tree) stop.took_is told)
        (subst (λ (w : W). AppendsPrefix (sink_of (stop.before).contents.sink).written (sink_of w).written
        (bytes_at path stop.step)) (sym after_is)
        (subst (λ (q : Path). AppendsPrefix (sink_of (stop.before).contents.sink).written
        (sink_of now.contents.sink).written (bytes_at q stop.step)) (took.path ∙ contents_path)
        ((broke.observed (took.observable ∙ here)).cut_off))))
    by_end (Err (drains.Taker takers.NoMemory)) stop = absurd (no_memory (stop.broke_is).fault_is)
    by_end (Err (drains.Stream cause)) stop = none_read _
        (counted ∙ ((stop.took_is).contents).faults ∙ before_is ∙ sym (not_output fault (sink_of before).faults))
        (λ tree seen told.
        let front = ends_is _ cause stop.why seen in
        front_written path part (dump stop.tree) front.0 (sink_of before).written (sink_of after).written
        (part_tree tree) front.1
        (ap (λ (w : W). (sink_of w).written) after_is ∙ written_behind now (dump stop.tree) stop.took_is told))
