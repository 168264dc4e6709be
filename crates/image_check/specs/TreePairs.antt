-- Which pairs were taken, by a reader that may have refused one of them.
use Rattle.std.specs.Prelude.{◌≡◌, ◌≤◌, List, ◌++◌, length, Option, MatchOption}
use Rattle.std.specs.Bool.{MatchBool}
use Rattle.store_model.specs.Parameters.{Parameters}
use Rattle.store_model.specs.Pairs.{Pair}
use Rattle.tree_pairs.specs.TreeCalls.{pairs_limit}
use Rattle.tree_pairs.specs.declared.counts.Counts.{Counts}
use Rattle.tree_pairs.specs.Fronts.{AreOfTree, BeginTree}
use Rattle.tree_pairs.specs.ReaderCalls.{AreCounted}
use Rattle.tree_pairs.specs.Seen.{HasSeen}
use Rattle.image_check.specs.declared.pairs.TreePairs.{TreePairs}

-- Some first ones of the pairs begin no tree's pairs, unless they are more than any list has.
pub record BeginNoTree (s : List Pair) (p : Parameters) : Type 0 where
  pub first : List Pair
  pub rest : List Pair
  pub split : s ≡ first ++ rest
  pub none : length first ≤ pairs_limit → BeginTree first p → ⊥

-- just these pairs were taken, by a reader of one version
abbrev pub TookPairs : TreePairs → List Pair → Type 0
TookPairs pairs s = (p : Parameters) → p.version ≡ pairs.reader.version
    → MatchBool pairs.is_refused (BeginNoTree s p) (HasSeen pairs.reader s p)

-- what the tree holds whose pairs were taken, and nothing exactly where they are no tree's under the reader's version
abbrev pub TellsTree : TreePairs → Option Counts → Type 0
TellsTree pairs found = (s : List Pair) (p : Parameters) → p.version ≡ pairs.reader.version → TookPairs pairs s
    → length s ≤ pairs_limit → MatchOption found (AreOfTree s p → ⊥) (AreCounted s p)
