-- What a builder in memory holds behind one more step.
use Rattle.std.proofs.Common.{◌≡◌, Bool, true, false, if◌then◌else◌, IsTrue, List, [], ◌∷◌, ◌++◌, Result, Ok, Err, OnOk}
use Rattle.std.proofs.Common.{IfErr, refl, sym, ap, subst, ◌∙◌}
use Rattle.std.specs.List.{list_all}
use Rattle.store_base.specs.Counts.{raised}
use Rattle.store_model.specs.Paths.{Path}
use Rattle.store_model.specs.Trees.{Tree, without}
use Rattle.dump_streams.specs.Dumps.{DumpStep}
use Rattle.dump_streams.specs.declared.taker.TakerFault.{TakerFault}
use Rattle.host_builder.specs.declared.memory.BuiltStep.{BuiltStep}
use Rattle.host_builder.specs.declared.memory.BuiltStep.TheVariants as built
use Rattle.host_builder.specs.declared.memory.MemBuilder.{MemBuilder}
use Rattle.host_builder.specs.declared.attribute.LeftOut.{LeftOut}
use Rattle.host_builder.specs.Builders.{BringsNone, CarriesOut, Builds, Removes, RemovesRoot, steps_after, told_of_one}
use Rattle.host_builder.specs.Memory.{after_built, built_tree, memory_state, Keeps}

built_more : (t : Tree) (steps : List BuiltStep) (s : BuiltStep)
    → built_tree t (steps ++ s ∷ []) ≡ after_built (built_tree t steps) s
built_more t [] s = refl
built_more t (first ∷ steps) s = built_more (after_built t first) steps s

module _ (old new : MemBuilder) (step : BuiltStep) where
  holds_more : new.steps.items ≡ old.steps.items ++ step ∷ []
      → (memory_state new).holds ≡ after_built (memory_state old).holds step
  holds_more is = ap (built_tree []) is ∙ built_more [] old.steps.items step

  holds_same : new.steps.items ≡ old.steps.items → (memory_state new).holds ≡ (memory_state old).holds
  holds_same is = ap (built_tree []) is

  brings_none : (memory_state new).holds ≡ (memory_state old).holds
      → BringsNone (memory_state old).holds (memory_state new).holds
  brings_none same test all = subst (λ (t : Tree). IsTrue (list_all (λ e. test e.0) t)) (sym same) all

  -- a call that keeps a step carries out the steps that it stands for
  pub carried : (more : List DumpStep) (result : Result (Unit {0}) TakerFault)
      → ((t : Tree) → after_built t step ≡ steps_after t more) → Keeps old new step result
      → CarriesOut (memory_state old) (memory_state new) more result
  carried more (Ok value) means keeps = record {
    observable = refl;
    faults = keeps.faults;
    left_out = keeps.left_out;
    holds = λ seen. holds_more keeps.kept ∙ means (memory_state old).holds;
    brings = λ seen. tt;
  }
  carried more (Err fault) means keeps = record {
    observable = refl;
    faults = keeps.faults;
    left_out = keeps.left_out;
    holds = λ seen. tt;
    brings = λ seen. brings_none (holds_same keeps.same);
  }

  pub built_by : (more : List DumpStep) (result : Result (Unit {0}) TakerFault)
      → ((t : Tree) → after_built t step ≡ steps_after t more) → Keeps old new step result
      → Builds (memory_state old) (memory_state new) more result
  built_by more result means keeps = record { carries_out = carried more result means keeps; links = keeps.links }

  module _ (gone : Bool) (faults_are : new.faults ≡ (if gone then old.faults else raised old.faults))
      (kept : gone ≡ true → new.steps.items ≡ old.steps.items ++ step ∷ [])
      (same : gone ≡ false → new.steps.items ≡ old.steps.items) where
    pub removed : (path : Path) → ((t : Tree) → after_built t step ≡ without t path)
        → new.has_links ≡ old.has_links → new.left_out ≡ old.left_out
        → Removes (memory_state old) (memory_state new) path gone
    removed path means links left = record {
      observable = refl;
      faults = faults_are;
      left_out = left;
      links = links;
      holds = λ seen is. holds_more (kept is) ∙ means (memory_state old).holds;
      brings = λ seen is. brings_none (holds_same (same is));
    }

    pub removed_root : ((t : Tree) → after_built t step ≡ t) → new.has_links ≡ old.has_links
        → RemovesRoot (memory_state old) (memory_state new) gone
    removed_root means links = record {
      observable = refl;
      faults = faults_are;
      links = links;
      brings = λ seen. by_gone gone refl;
    }
      where
        by_gone : (b : Bool) → gone ≡ b → BringsNone (memory_state old).holds (memory_state new).holds
        by_gone true is = brings_none (holds_more (kept is) ∙ means (memory_state old).holds)
        by_gone false is = brings_none (holds_same (same is))

-- it is told of an entry that is left out
pub told : (old new : MemBuilder) (path : Path) (why : LeftOut) (result : Result (Unit {0}) TakerFault)
    → OnOk result (new.steps.items ≡ old.steps.items ++ built.LeftOut path why ∷ [])
    → IfErr result (λ fault. new.steps.items ≡ old.steps.items) → new.faults ≡ old.faults
    → new.has_links ≡ old.has_links → new.left_out ≡ raised old.left_out
    → memory_state new ≡ told_of_one (memory_state old)
told old new path why result kept same faults_are links left = λ i. record {
  is_observable = true;
  holds = by_result result kept same i;
  has_links = links i;
  faults = faults_are i;
  left_out = left i;
}
  where
    by_result : (r : Result (Unit {0}) TakerFault)
        → OnOk r (new.steps.items ≡ old.steps.items ++ built.LeftOut path why ∷ [])
        → IfErr r (λ fault. new.steps.items ≡ old.steps.items)
        → (memory_state new).holds ≡ (memory_state old).holds
    by_result (Ok value) kept same = holds_more old new (built.LeftOut path why) kept
    by_result (Err fault) kept same = holds_same old new (built.LeftOut path why) same
