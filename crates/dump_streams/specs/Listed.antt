-- Which pairs are kept of a listing.
use Rattle.std.specs.Prelude.{◌≡◌, ℕ, ◌+◌, ◌/◌, ◌≤◌, ◌<◌, List, [], ◌∷◌, ◌++◌, map, length, get_or, slice_set, Option}
use Rattle.std.specs.Prelude.{MatchOption, Result, OnOk, false}
use Rattle.std.specs.List.{enumerate_from}
use Rattle.store_model.specs.Lists.{runs}
use Rattle.store_model.specs.Parameters.{Parameters}
use Rattle.store_model.specs.Trees.{Tree, Entry, IsAttribute, file_limit}
use Rattle.store_model.specs.Paths.{Path, Name, is_root, key, attribute_key}
use Rattle.store_model.specs.Draws.{Draw, draw_of}
use Rattle.store_model.specs.Pairs.{Pair, file_block, file_value, attribute_value, pairs}
use Rattle.store_model.specs.Pages.{page_count}
use Rattle.store_model.specs.Pages.{IsTreeUnder}
use Rattle.layout_scratch.specs.Counting.{HasCounted}
use Rattle.layout_scratch.specs.Sorting.{sorted_limit}
use Rattle.dump_streams.specs.Dumps.{DumpStep, after_step, dump}
use Rattle.dump_streams.specs.Reading.{GoesOn}
use Rattle.dump_streams.specs.declared.listed_pairs.ListedPairs.{ListedPairs}
use Rattle.dump_streams.specs.declared.listed_pairs.PairsFault.{PairsFault}

-- the keys of pairs
abbrev pub keys_of : List Pair → List (List ℕ)
keys_of s = map (λ pair. pair.0) s

-- the pairs of the paths before a tree's last one are so many
abbrev pub IsFirstOfLast : Tree → Parameters → ℕ → Type 0
IsFirstOfLast t p first = (front : Tree) (last : Path × Entry) → t ≡ front ++ last ∷ [] → first ≡ length (pairs front p)

-- The pages of the tree are counted; where they are no more than the slots, its pairs are kept, and it is known which
-- is the first one of its last path.
pub record HoldsListed (listed : ListedPairs) (t : Tree) (p : Parameters) : Type 0 where
  pub params_are : listed.params ≡ p
  pub counted : HasCounted (draw_of p) (keys_of (pairs t p)) listed.counter
  pub few : listed.counter.keys ≤ sorted_limit
  pub kept : listed.counter.pages ≤ p.slots → listed.pairs ≡ pairs t p
  pub first : listed.counter.pages ≤ p.slots → IsFirstOfLast t p listed.first

-- Where nothing was held at first, and these steps are the dump of a tree, the pairs of that tree are held now.
abbrev pub TookSteps : ListedPairs → ListedPairs → List DumpStep → Type 0
TookSteps first now steps = (p : Parameters) → HoldsListed first [] p → (t : Tree) → IsTreeUnder t p → dump t ≡ steps
    → HoldsListed now t p

-- the pairs of a step are taken that goes on with the dump of a tree
pub record TakesPairs (old new : ListedPairs) (s : DumpStep) (result : Result (Unit {0}) PairsFault) : Type 0 where
  pub taken : (t : Tree) (p : Parameters) → HoldsListed old t p → IsTreeUnder t p → GoesOn t s p
      → OnOk result (HoldsListed new (after_step t s) p)

-- these pairs stand behind those that there were, and are counted behind them
pub record AddsPairs (d : Draw) (before added : List Pair) (old new : ListedPairs) : Type 0 where
  pub pairs_are : new.pairs ≡ before ++ added
  pub counted : (keys : List (List ℕ)) → HasCounted d keys old.counter
      → HasCounted d (keys ++ keys_of added) new.counter
  pub few : old.counter.keys ≤ sorted_limit → new.counter.keys ≤ sorted_limit
  pub grows : old.counter.pages ≤ new.counter.pages

-- the blocks of bytes of a file, the first of them under this number
abbrev pub blocks_from : Path → ℕ → List ℕ → List Pair
blocks_from path first bytes = map (λ b. (key path b.0, b.1)) (enumerate_from first (runs file_block bytes))

-- the pairs in which a file has this length that has its first pair there; each pair keeps its key
abbrev pub with_length : List Pair → ℕ → ℕ → List Pair
with_length s first len = slice_set s first ((get_or s first ([], [])).0, file_value len)

-- the blocks of more bytes of a file are added, which had so many bytes, and its length is set
abbrev pub AddsPiece : Draw → Path → ℕ → List ℕ → ListedPairs → ListedPairs → Type 0
AddsPiece d path at bytes old new =
    at + length bytes ≤ file_limit → AddsPairs d (with_length old.pairs old.first (at + length bytes))
    (blocks_from path (at / file_block + 1) bytes) old new

-- the pair of an attribute is added, which a path may have
abbrev pub AddsAttribute : Draw → Path → Name → List ℕ → ListedPairs → ListedPairs → Type 0
AddsAttribute d path name bytes old new =
    is_root path ≡ false → IsAttribute path (name, bytes)
    → AddsPairs d old.pairs ((attribute_key path name, attribute_value bytes) ∷ []) old new

-- the pages of the tree are more than the slots
abbrev pub IsTooLarge : Tree → Parameters → Type 0
IsTooLarge t p = p.slots < page_count t p

-- the pairs are those of the tree, which has no more pages than there are slots
pub record ArePairsOf (t : Tree) (p : Parameters) (s : List Pair) : Type 0 where
  pub pairs_are : s ≡ pairs t p
  pub room : page_count t p ≤ p.slots
  pub few : length s ≤ sorted_limit

-- what is told of the pairs of a tree: all of them, or nothing where it is too large
abbrev pub TellsPairs : Tree → Parameters → Option (List Pair) → Type 0
TellsPairs t p told = MatchOption told (IsTooLarge t p) (ArePairsOf t p)
