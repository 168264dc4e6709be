-- What the pairs of a tree make, one after another: the dump of the tree.
use Rattle.std.specs.Prelude.{◌≡◌, List, [], ◌∷◌, ◌++◌}
use Rattle.store_model.specs.Parameters.{Parameters}
use Rattle.store_model.specs.Trees.{Tree}
use Rattle.store_model.specs.Pairs.{Pair, pairs}
use Rattle.store_model.specs.Pages.{IsTreeUnder}
use Rattle.dump_streams.specs.Dumps.{DumpStep, after_step, dump}
use Rattle.dump_streams.specs.Reading.{HasRead, GoesOn}
use Rattle.dump_streams.specs.declared.steps.PairSteps.{PairSteps}
use Rattle.dump_streams.specs.declared.taken.Taken.{Taken}
use Rattle.dump_streams.specs.declared.taken.Taken.TheVariants as takens
use Rattle.dump_streams.specs.Making.{IsAfter}

-- The steps that were given are the dump of this tree, whatever pairs came.
unfoldable pub HasGiven : PairSteps → Tree → Parameters → Type 0
HasGiven steps t p = HasRead steps.reader t p

-- Of the pairs of the tree u these first ones came, and the steps that were given of them are the dump of t.
pub record HasTaken (steps : PairSteps) (u : Tree) (p : Parameters) (passed : List Pair) (t : Tree) : Type 0 where
  pub under : IsTreeUnder u p
  pub given : HasGiven steps t p
  pub after : IsAfter steps.maker u p passed (dump t)

-- the tree whose dump was given behind a pair
abbrev pub tree_after : Taken → Tree → DumpStep → Tree
tree_after takens.Step t s = after_step t s
tree_after takens.More t s = t
tree_after takens.Refused t s = t

-- A pair is taken. Where it is the next one of a tree, it is never refused. A step that it gives goes on with the dump
-- of the tree that was given before, whatever pairs came.
pub record TakesPair (old new : PairSteps) (pair : Pair) (s : DumpStep) (result : Taken) : Type 0 where
  pub given : (t : Tree) (p : Parameters) → HasGiven old t p → HasGiven new (tree_after result t s) p
  pub goes_on : (t : Tree) (p : Parameters) → HasGiven old t p → result ≡ takens.Step → GoesOn t s p
  pub taken : (u : Tree) (p : Parameters) (passed rest : List Pair) (t : Tree) → HasTaken old u p passed t
      → pairs u p ≡ passed ++ pair ∷ rest → HasTaken new u p (passed ++ pair ∷ []) (tree_after result t s)
  pub refused : (u : Tree) (p : Parameters) (passed rest : List Pair) (t : Tree) → HasTaken old u p passed t
      → pairs u p ≡ passed ++ pair ∷ rest → result ≡ takens.Refused → ⊥
