-- What leading a stream into a taker does.
use Rattle.std.specs.Prelude.{◌≡◌, ◌⊎◌, ◌-◌, ◌^◌, ◌≤◌, List, [], ◌++◌, length, Result, Err, MatchResult}
use Rattle.store_model.specs.Trees.{Tree, empty_tree}
use Rattle.script_lines.specs.SinkState.{SinkState, IsObservable, IsPut}
use Rattle.dump_streams.specs.Dumps.{DumpStep, after_step, dump, dump_text, step_line}
use Rattle.dump_streams.specs.Streams.{Extends}
use Rattle.dump_streams.specs.declared.fault.StreamFault.{StreamFault}
use Rattle.dump_streams.specs.declared.fault.StreamFault.TheVariants as streams
use Rattle.dump_streams.specs.declared.taker.TakerFault.{TakerFault}
use Rattle.dump_streams.specs.declared.draining.DrainFault.{DrainFault}
use Rattle.dump_streams.specs.declared.draining.DrainFault.TheVariants as drains

-- the steps of the dump of the tree came, and they are as many as are led on at most
pub record IsTooLong {S : Type 0} (came : S → Tree → Type 0) (stream : S) (t : Tree)
    (fault : StreamFault) : Type 0 where
  pub came_is : came stream t
  pub fault_is : fault ≡ streams.TooLong
  pub many : 2 ^ 64 - 1 ≤ length (dump t)

module _ {S T : Type 0} (came whole : S → Tree → Type 0) (fails : S → Tree → StreamFault → Type 0)
    (took : T → T → List DumpStep → Type 0) (broke : T → T → DumpStep → TakerFault → Type 0) where
  -- the stream told that its dump is whole, and just its steps were taken
  pub record TakesWhole (stream : S) (first taker : T) : Type 0 where
    pub tree : Tree
    pub whole_is : whole stream tree
    pub took_is : took first taker (dump tree)

  -- the stream told a fault after the dump of a tree, or gave too many steps, and just the steps that it gave
  -- were taken
  pub record TakesFront (stream : S) (first taker : T) (fault : StreamFault) : Type 0 where
    pub tree : Tree
    pub why : fails stream tree fault ⊎ IsTooLong came stream tree fault
    pub took_is : took first taker (dump tree)

  -- a step that goes on with the dump of a tree was not taken, for this fault, and just those before it were
  pub record RefusesStep (stream : S) (first taker : T) (fault : TakerFault) : Type 0 where
    pub tree : Tree
    pub step : DumpStep
    pub came_is : came stream (after_step tree step)
    pub extends : Extends tree step
    pub before : T
    pub took_is : took first before (dump tree)
    pub broke_is : broke before taker step fault

  abbrev pub StopsBy : S → T → T → DrainFault → Type 0
  StopsBy stream first taker (drains.Stream fault) = TakesFront stream first taker fault
  StopsBy stream first taker (drains.Taker fault) = RefusesStep stream first taker fault

  -- A stream from which nothing came is led into a taker that took nothing yet.
  abbrev pub Drains : S → S → T → T → Result (Unit {0}) DrainFault → Type 0
  Drains old new first taker result = came old empty_tree → took first first []
      → MatchResult result (λ done. TakesWhole new first taker) (StopsBy new first taker)

-- The sink tells that just the lines of the dump of the tree were written.
abbrev pub HasWritten : {W : Type 0} → (W → SinkState) → W → W → Tree → Type 0
HasWritten sink_of old new t = IsObservable (sink_of old) → (sink_of new).written ≡ (sink_of old).written ++ dump_text t

module _ {S W : Type 0} (came whole : S → Tree → Type 0) (fails : S → Tree → StreamFault → Type 0)
    (sink_of : W → SinkState) where
  -- the stream told that its dump is whole, and its lines were written
  pub record WritesWhole (stream : S) (old new : W) : Type 0 where
    pub tree : Tree
    pub whole_is : whole stream tree
    pub written : HasWritten sink_of old new tree
    pub faults : (sink_of new).faults ≡ (sink_of old).faults

  -- the stream told a fault after the dump of a tree, or gave too many steps, and the lines of those that it gave
  -- were written
  pub record WritesFront (stream : S) (old new : W) (fault : StreamFault) : Type 0 where
    pub tree : Tree
    pub why : fails stream tree fault ⊎ IsTooLong came stream tree fault
    pub written : HasWritten sink_of old new tree
    pub faults : (sink_of new).faults ≡ (sink_of old).faults

  -- the line of a step that goes on with the dump of a tree was not written, or a prefix of it, and those before it
  -- were
  pub record BreaksDump (stream : S) (old new : W) (fault : TakerFault) : Type 0 where
    pub tree : Tree
    pub step : DumpStep
    pub came_is : came stream (after_step tree step)
    pub extends : Extends tree step
    pub before : W
    pub written : HasWritten sink_of old before tree
    pub broken : IsPut {T = Unit {0}} (sink_of before) (sink_of new) (step_line step) (Err fault)

  abbrev pub WritesUntil : S → W → W → DrainFault → Type 0
  WritesUntil stream old new (drains.Stream fault) = WritesFront stream old new fault
  WritesUntil stream old new (drains.Taker fault) = BreaksDump stream old new fault

  -- the listing of the stream is written
  abbrev pub WritesDump : S → W → W → Result (Unit {0}) DrainFault → Type 0
  WritesDump stream old new result = MatchResult result (λ done. WritesWhole stream old new)
      (WritesUntil stream old new)
