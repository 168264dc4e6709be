-- What a stream of the steps of a dump gives, and what is taken of it.
use Rattle.std.specs.Prelude.{◌≡◌, [], ◌∷◌, ◌++◌, Bool, Result, IfOk, IfErr}
use Rattle.std.specs.Bool.{OnTrue, OnFalse}
use Rattle.store_model.specs.Trees.{Tree, IsTree}
use Rattle.dump_streams.specs.Dumps.{DumpStep, after_step, dump}
use Rattle.dump_streams.specs.declared.fault.StreamFault.{StreamFault}

-- the dump of the tree and the step are the dump of the tree that the step leads to
pub record Extends (t : Tree) (s : DumpStep) : Type 0 where
  pub is_tree : IsTree (after_step t s)
  pub dump_is : dump (after_step t s) ≡ dump t ++ s ∷ []

-- one more step came, or the dump is whole, or it ends before
pub record IsNext (old new done : Tree → Type 0) (failed_by : Tree → StreamFault → Type 0) (s : DumpStep)
    (result : Result Bool StreamFault) : Type 0 where
  pub came : (t : Tree) → old t → IfOk result (λ is_there. OnTrue is_there (new (after_step t s)))
  pub extends : (t : Tree) → old t → IfOk result (λ is_there. OnTrue is_there (Extends t s))
  pub whole : (t : Tree) → old t → IfOk result (λ is_there. OnFalse is_there (done t))
  pub failed : (t : Tree) → old t → IfErr result (failed_by t)
