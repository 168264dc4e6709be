-- What is written where a stream is led into a writer of lines.
use Rattle.std.proofs.Common.{◌≡◌, [], Result, Ok, Err, sym, ap, subst, ◌∙◌}
use Rattle.store_model.specs.Trees.{Tree, empty_tree}
use Rattle.script_lines.specs.SinkState.{SinkState}
use Rattle.dump_streams.specs.Dumps.{dump}
use Rattle.dump_streams.specs.Lines.{TookLines, BreaksLine}
use Rattle.dump_streams.specs.Draining.{Drains, WritesDump, HasWritten}
use Rattle.dump_streams.specs.declared.fault.StreamFault.{StreamFault}
use Rattle.dump_streams.specs.declared.draining.DrainFault.{DrainFault}
use Rattle.dump_streams.specs.declared.draining.DrainFault.TheVariants as drains
use Rattle.dump_streams.specs.declared.lines.LineTaker.{LineTaker}

module _ {W : Type 0} (sink_of : W → SinkState) where
  lines_written : (sink : W) (first now : LineTaker W) (t : Tree) → first.sink ≡ sink
      → TookLines sink_of first now (dump t) → HasWritten sink_of sink now.sink t
  lines_written sink first now t is took = subst (λ (s : W). HasWritten sink_of s now.sink t) is took.written

  module _ {S : Type 0} (came whole : S → Tree → Type 0) (fails : S → Tree → StreamFault → Type 0) where
    to_taker : (old stream : S) (sink : W) (first now : LineTaker W) (result : Result (Unit {0}) DrainFault)
        → came old empty_tree → first.sink ≡ sink → TookLines sink_of first first []
        → Drains came whole fails (TookLines sink_of) (BreaksLine sink_of) old stream first now result
        → WritesDump came whole fails sink_of stream sink now.sink result
    to_taker old stream sink first now (Ok done) none is took drains = let all = drains none took in record {
      tree = all.tree;
      whole_is = all.whole_is;
      written = lines_written sink first now all.tree is all.took_is;
      faults = (all.took_is).faults ∙ ap (λ (s : W). (sink_of s).faults) is;
    }
    to_taker old stream sink first now (Err (drains.Stream fault)) none is took drains = let front =
        drains none took in record {
          tree = front.tree;
          why = front.why;
          written = lines_written sink first now front.tree is front.took_is;
          faults = (front.took_is).faults ∙ ap (λ (s : W). (sink_of s).faults) is;
        }
    to_taker old stream sink first now (Err (drains.Taker fault)) none is took drains = let stop =
        drains none took in record {
          tree = stop.tree;
          step = stop.step;
          came_is = stop.came_is;
          extends = stop.extends;
          before = (stop.before).sink;
          written = lines_written sink first stop.before stop.tree is stop.took_is;
          broken = stop.broke_is;
        }

module _ {S W : Type 0} (came whole : S → Tree → Type 0) (fails : S → Tree → StreamFault → Type 0)
    (sink_of : W → SinkState) where
  pub dump_written : (old stream : S) (sink : W) (first now : LineTaker W) (given : W)
      (result : Result (Unit {0}) DrainFault) → came old empty_tree → first.sink ≡ sink
      → TookLines sink_of first first [] → given ≡ now.sink
      → Drains came whole fails (TookLines sink_of) (BreaksLine sink_of) old stream first now result
      → WritesDump came whole fails sink_of stream sink given result
  dump_written old stream sink first now given result none is took same drains =
      subst (λ (s : W). WritesDump came whole fails sink_of stream sink s result) (sym same)
      (to_taker sink_of came whole fails old stream sink first now result none is took drains)
