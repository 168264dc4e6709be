-- Pairs that are taken one after another by a reader that may refuse one.
use Rattle.std.proofs.Common.{◌≡◌, ◌≤◌, List, [], ◌∷◌, ◌++◌, length, Bool, true, false, not, refl, sym, ap, subst, ◌∙◌}
use Rattle.std.proofs.Common.{arith, append_assoc, append-nil, length-append}
use Rattle.std.specs.Bool.{MatchBool, OnFalse}
use Rattle.store_model.specs.Parameters.{Parameters}
use Rattle.store_model.specs.Pairs.{Pair}
use Rattle.tree_pairs.specs.TreeCalls.{pairs_limit}
use Rattle.tree_pairs.specs.declared.counts.Counts.{Counts}
use Rattle.tree_pairs.specs.declared.reader.TreeReader.{TreeReader}
use Rattle.tree_pairs.specs.Fronts.{AreOfTree, BeginTree}
use Rattle.tree_pairs.specs.Seen.{HasSeen}
use Rattle.tree_pairs.specs.ReaderCalls.{AddsPair, TellsWhole, TellsCounts, AreCounted}
use Rattle.image_check.specs.TreePairs.{BeginNoTree}

-- pairs behind some that no tree's begin with
pub begin_none : (s : List Pair) (pair : Pair) (p : Parameters) → BeginNoTree s p → BeginNoTree (s ++ pair ∷ []) p
begin_none s pair p none = record {
  first = none.first;
  rest = none.rest ++ pair ∷ [];
  split = ap (λ xs. xs ++ pair ∷ []) none.split ∙ append_assoc none.first none.rest (pair ∷ []);
  none = none.none;
}

-- a pair that the reader refuses
pub begin_refused : (old new : TreeReader) (s : List Pair) (pair : Pair) (p : Parameters) (result : Bool)
    → AddsPair old new pair result → HasSeen old s p → result ≡ false → BeginNoTree (s ++ pair ∷ []) p
begin_refused old new s pair p result adds seen is = record {
  first = s ++ pair ∷ [];
  rest = [];
  split = sym (append-nil (s ++ pair ∷ []));
  none = λ few. subst (λ b. OnFalse b (BeginTree (s ++ pair ∷ []) p → ⊥)) is
      (adds.refused s p seen (omega (arith, few, length-append s (pair ∷ []))));
}

-- what was taken where one pair more came
pub took_more : (old new : TreeReader) (s : List Pair) (pair : Pair) (p : Parameters) (result : Bool)
    → AddsPair old new pair result → HasSeen old s p
    → MatchBool (not result) (BeginNoTree (s ++ pair ∷ []) p) (HasSeen new (s ++ pair ∷ []) p)
took_more old new s pair p true adds seen = adds.seen s p seen
took_more old new s pair p false adds seen = begin_refused old new s pair p false adds seen refl

-- pairs of which the first are no tree's are none
pub none_of_tree : (s : List Pair) (p : Parameters) → BeginNoTree s p → length s ≤ pairs_limit → AreOfTree s p → ⊥
none_of_tree s p none few are =
    none.none (omega (arith, few, ap length none.split, length-append none.first none.rest))
    (record {
      tree = are.tree;
      is_tree = are.is_tree;
      bare = are.bare;
      rest = none.rest;
      pairs_are = sym are.pairs_are ∙ none.split;
    })

-- what a reader tells of whole pairs
pub counted_of : (reader : TreeReader) (s : List Pair) (p : Parameters) (result : Bool) (counts : Counts)
    → TellsWhole reader result → TellsCounts reader counts → HasSeen reader s p → result ≡ true → AreCounted s p counts
counted_of reader s p result counts whole counted seen is =
    let are = (whole s p seen).0 is in
    record {
      tree = are.tree;
      is_tree = are.is_tree;
      bare = are.bare;
      pairs_are = are.pairs_are;
      counts_are = counted s p seen are.tree are.is_tree are.pairs_are;
    }
