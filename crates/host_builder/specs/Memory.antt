-- A builder in memory, as its clauses see it.
use Rattle.std.specs.Prelude.{◌≡◌, ℕ, true, List, [], ◌∷◌, ◌++◌, Result, OnOk, IfErr}
use Rattle.std.specs.Fmt.{decimal}
use Rattle.store_model.specs.Trees.{Tree, without}
use Rattle.dump_streams.specs.Dumps.{DumpStep, after_step}
use Rattle.dump_streams.specs.Dumps.DumpStep.{Make, Write, Set}
use Rattle.dump_streams.specs.declared.taker.TakerFault.{TakerFault}
use Rattle.host_builder.specs.declared.memory.BuiltStep.{BuiltStep}
use Rattle.host_builder.specs.declared.memory.BuiltStep.TheVariants as built
use Rattle.host_builder.specs.declared.memory.MemBuilder.{MemBuilder}
use Rattle.host_builder.specs.Builders.{BuilderState, faults_after}
use Rattle.host_builder.specs.HostAttributes.{mode_name, mode_byte, mtime_name, link_name}

-- the tree behind what was carried out
abbrev pub after_built : Tree → BuiltStep → Tree
after_built t (built.Folder path) = after_step t (Make path)
after_built t (built.Bytes path at bytes) = after_step t (Write path at bytes.items)
after_built t (built.Ended path) = t
after_built t (built.Executes path) = after_step t (Set path mode_name mode_byte)
after_built t (built.Time path seconds) = after_step t (Set path mtime_name (decimal seconds))
after_built t (built.Link path target) = after_step t (Set path link_name target.items)
after_built t (built.Removed path) = without t path
after_built t built.RemovedRoot = t
after_built t (built.LeftOut path why) = t

abbrev pub built_tree : Tree → List BuiltStep → Tree
built_tree t [] = t
built_tree t (step ∷ steps) = built_tree (after_built t step) steps

-- it holds the tree to which its steps lead
abbrev pub memory_state : MemBuilder → BuilderState
memory_state builder = record {
  is_observable = true;
  holds = built_tree [] builder.steps.items;
  has_links = builder.has_links;
  faults = builder.faults;
  left_out = builder.left_out;
}

-- the step was kept behind the others, or a call failed and nothing was
pub record Keeps (old new : MemBuilder) (step : BuiltStep) (result : Result (Unit {0}) TakerFault) : Type 0 where
  pub faults : new.faults ≡ faults_after old.faults result
  pub links : new.has_links ≡ old.has_links
  pub left_out : new.left_out ≡ old.left_out
  pub kept : OnOk result (new.steps.items ≡ old.steps.items ++ step ∷ [])
  pub same : IfErr result (λ fault. new.steps.items ≡ old.steps.items)
