-- What the steps of a dump say of one path.
use Rattle.std.specs.Prelude.{◌≡◌, ℕ, List, [], ◌++◌, fold, Option, Some, None, Result, Err, if◌then◌else◌}
use Rattle.std.specs.List.{flat_map}
use Rattle.store_model.specs.Paths.{Path, same_path}
use Rattle.store_model.specs.Trees.{Node}
use Rattle.store_model.specs.Trees.Node.{Directory, File}
use Rattle.dump_streams.specs.Dumps.{DumpStep}
use Rattle.dump_streams.specs.Dumps.DumpStep.{Make, Write, Set}
use Rattle.dump_streams.specs.declared.taker.TakerFault.{TakerFault}
use Rattle.dump_streams.specs.declared.taker.TakerFault.TheVariants as faults
use Rattle.store_base.specs.Counts.{faults_after}
use Rattle.script_lines.specs.SinkState.{SinkState, IsObservable, PutsBytes}
use Rattle.dump_views.specs.declared.content.Standing.{Standing}
use Rattle.dump_views.specs.declared.content.Standing.TheVariants as standings
use Rattle.dump_views.specs.declared.content.ContentTaker.{ContentTaker}

-- the bytes that a step writes at a path
abbrev pub bytes_at : Path → DumpStep → List ℕ
bytes_at p (Make q) = []
bytes_at p (Write q at bytes) = if same_path p q then bytes else []
bytes_at p (Set q name bytes) = []

-- the bytes that steps write at a path, one after another
unfoldable pub written_at : Path → List DumpStep → List ℕ
written_at p steps = flat_map (bytes_at p) steps

-- what stands at a path behind a step
abbrev pub standing_by : Path → Standing → DumpStep → Standing
standing_by p before (Make q) = if same_path p q then standings.Directory else before
standing_by p before (Write q at bytes) = if same_path p q then standings.File else before
standing_by p before (Set q name bytes) = before

-- the same, for steps one after another
unfoldable pub standing_after : Path → Standing → List DumpStep → Standing
standing_after p before steps = fold (standing_by p) before steps

-- what a tree has at a path
abbrev pub standing_of : Option Node → Standing
standing_of None = standings.Nothing
standing_of (Some Directory) = standings.Directory
standing_of (Some (File bytes)) = standings.File

-- From one moment to a later one the bytes that these steps write at the path were put into the sink, and nothing
-- else.
pub record TookContents {W : Type 0} (sink_of : W → SinkState) (first now : ContentTaker W)
    (steps : List DumpStep) : Type 0 where
  pub path : now.path ≡ first.path
  pub standing : now.standing ≡ standing_after first.path first.standing steps
  pub observable : (sink_of now.sink).is_observable ≡ (sink_of first.sink).is_observable
  pub faults : (sink_of now.sink).faults ≡ (sink_of first.sink).faults
  pub written : IsObservable (sink_of first.sink)
      → (sink_of now.sink).written ≡ (sink_of first.sink).written ++ written_at first.path steps

-- A step was taken, or the sink failed: then a prefix of the step's bytes was put.
pub record TakesOne {W T E : Type 0} (sink_of : W → SinkState) (old new : ContentTaker W) (c : DumpStep)
    (result : Result T E) : Type 0 where
  pub path : new.path ≡ old.path
  pub standing : new.standing ≡ standing_by old.path old.standing c
  pub observable : (sink_of new.sink).is_observable ≡ (sink_of old.sink).is_observable
  pub faults : (sink_of new.sink).faults ≡ faults_after (sink_of old.sink).faults result
  pub observed : IsObservable (sink_of old.sink)
      → PutsBytes (sink_of old.sink) (sink_of new.sink) (bytes_at old.path c) result

-- A step was not taken: the sink failed, and a prefix of the step's bytes was put.
pub record BreaksOne {W : Type 0} (sink_of : W → SinkState) (old new : ContentTaker W) (c : DumpStep)
    (fault : TakerFault) : Type 0 where
  pub fault_is : fault ≡ faults.Failed
  pub taken : TakesOne {T = Unit {0}} sink_of old new c (Err fault)
