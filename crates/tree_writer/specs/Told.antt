-- The pairs of a tree whose last file was told to have so many bytes, of which not all may have come.
use Rattle.std.specs.Prelude.{◌≡◌, ◌≢◌, ◌⊎◌, ℕ, zero, suc, ◌<◌, List, [], ◌∷◌, ◌++◌, length, true, false}
use Rattle.store_model.specs.Parameters.{Parameters}
use Rattle.store_model.specs.Paths.{Path, key}
use Rattle.store_model.specs.Trees.{Tree}
use Rattle.store_model.specs.Trees.Node.{File}
use Rattle.store_model.specs.Pairs.{Pair, file_value, is_inline, pairs}
use Rattle.tree_pairs.specs.Seen.{bare_entry}
use Rattle.dump_streams.specs.Dumps.{DumpStep, dump_piece}
use Rattle.dump_streams.specs.Dumps.DumpStep.{Make, Write, Set}
use Rattle.dump_streams.specs.Listed.{blocks_from}

-- the last path of the tree is a file with these bytes, and has no attribute
abbrev pub EndsInFile : Tree → Tree → Path → List ℕ → Type 0
EndsInFile t front path bytes = t ≡ front ++ (path, bare_entry (File bytes)) ∷ []

-- the pairs of a file in blocks that was told to have so many bytes, of which these came
abbrev pub told_pairs : Path → ℕ → List ℕ → List Pair
told_pairs path told bytes = (key path 0, file_value told) ∷ blocks_from path 1 bytes

-- The last path of the tree is a file in blocks, which was told to have so many bytes. So many came, and maybe more do:
-- these pairs are those of the tree, but for the length in the file's first pair, which is the told one.
pub record IsInFile (t : Tree) (p : Parameters) (got told : ℕ) (s : List Pair) : Type 0 where
  pub front : Tree
  pub path : Path
  pub bytes : List ℕ
  pub ends : EndsInFile t front path bytes
  pub in_blocks : is_inline p.version (length bytes) ≡ false
  pub got_is : got ≡ length bytes
  pub pairs_are : s ≡ pairs front p ++ told_pairs path told bytes

-- The last path of the tree is no file that more bytes may come to: if it is a file without attributes, then one whose
-- bytes stand in its first pair, and are so many as were told. These pairs are those of the tree.
pub record IsPastFile (t : Tree) (p : Parameters) (got told : ℕ) (s : List Pair) : Type 0 where
  pub got_is : got ≡ told
  pub last : (front : Tree) (path : Path) (bytes : List ℕ) → EndsInFile t front path bytes
      → (is_inline p.version (length bytes) ≡ true) × (length bytes ≡ told)
  pub pairs_are : s ≡ pairs t p

-- the pairs of the tree, in either case
abbrev pub AreTold : Tree → Parameters → ℕ → ℕ → List Pair → Type 0
AreTold t p got told s = IsPastFile t p got told s ⊎ IsInFile t p got told s

-- the last path of the tree is a file of other than so many bytes
pub record LastDiffers (t : Tree) (told : ℕ) : Type 0 where
  pub front : Tree
  pub path : Path
  pub bytes : List ℕ
  pub ends : EndsInFile t front path bytes
  pub differs : length bytes ≢ told

-- The step begins a file that has other than so many bytes, whatever comes: they are more already, or no whole piece,
-- behind which no more come.
pub record FirstDiffers (s : DumpStep) (told : ℕ) : Type 0 where
  pub path : Path
  pub bytes : List ℕ
  pub step_is : s ≡ Write path 0 bytes
  pub differs : length bytes ≢ told
  pub last : (told < length bytes) ⊎ (length bytes < dump_piece)

-- what the last file was told to have, behind a step with which so many bytes are told
abbrev pub told_after : DumpStep → ℕ → ℕ → ℕ
told_after (Make path) told before = before
told_after (Write path zero bytes) told before = told
told_after (Write path (suc at) bytes) told before = before
told_after (Set path name bytes) told before = before
