-- What the calls of a reader promise.
use Rattle.std.specs.Prelude.{◌≡◌, ◌<◌, IsTrue, ◌↔◌, List, [], ◌∷◌, ◌++◌, length, Bool, false}
use Rattle.std.specs.Bool.{OnTrue, OnFalse}
use Rattle.store_model.specs.Parameters.{Parameters}
use Rattle.store_model.specs.Trees.{Tree, IsTree}
use Rattle.store_model.specs.Pairs.{Pair, has_attributes, pairs}
use Rattle.store_model.specs.Pages.{IsBare}
use Rattle.tree_pairs.specs.TreeCalls.{pairs_limit}
use Rattle.tree_pairs.specs.declared.counts.Counts.{Counts}
use Rattle.tree_pairs.specs.declared.reader.TreeReader.{TreeReader}
use Rattle.tree_pairs.specs.Counts.{AreCounts}
use Rattle.tree_pairs.specs.Fronts.{AreOfTree, BeginTree}
use Rattle.tree_pairs.specs.Seen.{HasSeen}

-- A pair behind those that a reader has seen. It is taken where some tree's pairs begin so under the reader's version,
-- and just there; but after more pairs than any list has, it may be refused.
pub record AddsPair (old new : TreeReader) (pair : Pair) (result : Bool) : Type 0 where
  pub seen : (s : List Pair) (p : Parameters) → HasSeen old s p → OnTrue result (HasSeen new (s ++ pair ∷ []) p)
  pub begins : (s : List Pair) (p : Parameters) → HasSeen old s p → OnTrue result (BeginTree (s ++ pair ∷ []) p)
  pub refused : (s : List Pair) (p : Parameters) → HasSeen old s p → length s < pairs_limit
      → OnFalse result (BeginTree (s ++ pair ∷ []) p → ⊥)
  pub unchanged : OnFalse result (new ≡ old)
  pub version : new.version ≡ old.version

-- whether the pairs that a reader has seen are those of a tree
abbrev pub TellsWhole : TreeReader → Bool → Type 0
TellsWhole reader result = (s : List Pair) (p : Parameters) → HasSeen reader s p → (IsTrue result ↔ AreOfTree s p)

-- how many entries a tree has whose pairs the reader has seen
abbrev pub TellsCounts : TreeReader → Counts → Type 0
TellsCounts reader counts = (s : List Pair) (p : Parameters) → HasSeen reader s p
    → (t : Tree) → IsTree t → s ≡ pairs t p → AreCounts t counts

-- the pairs are those of a tree, which has no attributes where the version has none, and the counts are that tree's
pub record AreCounted (s : List Pair) (p : Parameters) (counts : Counts) : Type 0 where
  pub tree : Tree
  pub is_tree : IsTree tree
  pub bare : has_attributes p.version ≡ false → IsBare tree
  pub pairs_are : s ≡ pairs tree p
  pub counts_are : AreCounts tree counts
