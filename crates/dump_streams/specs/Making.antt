-- Steps that are made of pairs: what is left of a file while its blocks come, and what one more pair makes.
use Rattle.std.specs.Prelude.{◌≡◌, ℕ, ◌+◌, ◌*◌, ◌/◌, ◌<◌, ◌≤◌, length, List, [], ◌∷◌, ◌++◌, map, Option, Some, None}
use Rattle.std.specs.List.{enumerate_from, flat_map, AllByRecursion}
use Rattle.store_model.specs.Lists.{runs}
use Rattle.store_model.specs.Parameters.{Parameters}
use Rattle.store_model.specs.Paths.{Path}
use Rattle.store_model.specs.Trees.{Tree, file_limit}
use Rattle.store_model.specs.Pairs.{Pair, file_block, pairs}
use Rattle.dump_streams.specs.Dumps.{DumpStep, dump_piece, dump}
use Rattle.dump_streams.specs.Dumps.DumpStep.{Write}
use Rattle.dump_streams.specs.Listed.{blocks_from}
use Rattle.dump_streams.specs.declared.maker.OpenFile.{OpenFile}
use Rattle.dump_streams.specs.declared.maker.StepMaker.{StepMaker}
use Rattle.dump_streams.specs.declared.taken.Taken.{Taken}
use Rattle.dump_streams.specs.declared.taken.Taken.TheVariants as takens
use Rattle.dump_streams.specs.Spots.{Spot, IsSpot, spot_pairs, spot_steps}

-- the steps that write bytes of a file, the first piece of them under this number
abbrev pub pieces_from : Path → ℕ → List ℕ → List DumpStep
pieces_from path first bytes = map (λ piece. Write path (dump_piece * piece.0) piece.1)
    (enumerate_from first (runs dump_piece bytes))

-- Of a file whole pieces were given, whole blocks came after them, and this content is to come.
pub record IsInFile (file : OpenFile) (piece content : List ℕ) : Type 0 where
  pub pieces : ℕ
  pub at_is : file.at ≡ dump_piece * pieces
  pub blocks : ℕ
  pub piece_is : length piece ≡ file_block * blocks
  pub room : length piece < dump_piece
  pub left_is : file.left ≡ length content
  pub some : 0 < file.left
  pub short : file.at + length piece + file.left ≤ file_limit

abbrev pub IsOpen : Option OpenFile → List ℕ → List ℕ → Type 0
IsOpen None piece content = Unit {0}
IsOpen (Some file) piece content = IsInFile file piece content

-- the pairs of the file that are to come, and the steps that are to be given of it
abbrev pub open_pairs : Option OpenFile → List ℕ → List ℕ → List Pair
open_pairs None piece content = []
open_pairs (Some file) piece content = blocks_from file.path ((file.at + length piece) / file_block + 1) content

abbrev pub open_steps : Option OpenFile → List ℕ → List DumpStep
open_steps None bytes = []
open_steps (Some file) bytes = pieces_from file.path (file.at / dump_piece) bytes

-- Of the file that is open these pairs are to come, and these steps are to be given; none where no file is open.
pub record IsLeft (maker : StepMaker) (some : List Pair) (steps : List DumpStep) : Type 0 where
  pub content : List ℕ
  pub is_open : IsOpen maker.file maker.piece.items content
  pub pairs_are : some ≡ open_pairs maker.file maker.piece.items content
  pub steps_are : steps ≡ open_steps maker.file (maker.piece.items ++ content)

-- the first of these steps is given, and the others are left
pub record GivesStep (some : List Pair) (steps : List DumpStep) (maker : StepMaker) (s : DumpStep) : Type 0 where
  pub rest : List DumpStep
  pub steps_are : steps ≡ s ∷ rest
  pub left : IsLeft maker some rest

-- what becomes of these steps by the pair before these others
abbrev pub Makes : List Pair → List DumpStep → StepMaker → DumpStep → Taken → Type 0
Makes some steps maker s takens.Step = GivesStep some steps maker s
Makes some steps maker s takens.More = IsLeft maker some steps
Makes some steps maker s takens.Refused = ⊥

-- Of the pairs of a tree these first ones came, and these steps, the first of its dump, were given.
pub record IsAfter (maker : StepMaker) (u : Tree) (p : Parameters) (passed : List Pair)
    (given : List DumpStep) : Type 0 where
  pub file_pairs : List Pair
  pub file_steps : List DumpStep
  pub file_left : IsLeft maker file_pairs file_steps
  pub left : List Spot
  pub valid : AllByRecursion IsSpot left
  pub pairs_are : pairs u p ≡ passed ++ (file_pairs ++ flat_map (spot_pairs p) left)
  pub dump_is : dump u ≡ given ++ (file_steps ++ flat_map spot_steps left)

-- the steps that were given behind a pair
abbrev pub given_after : Taken → List DumpStep → DumpStep → List DumpStep
given_after takens.Step given s = given ++ s ∷ []
given_after takens.More given s = given
given_after takens.Refused given s = given

-- A pair is taken. Where it is the next one of a tree, it is not refused, and the steps go on with the tree's dump.
pub record MakesOn (old new : StepMaker) (pair : Pair) (s : DumpStep) (result : Taken) : Type 0 where
  pub after : (u : Tree) (p : Parameters) (passed rest : List Pair) (given : List DumpStep)
      → IsAfter old u p passed given
      → pairs u p ≡ passed ++ pair ∷ rest → IsAfter new u p (passed ++ pair ∷ []) (given_after result given s)
  pub refused : (u : Tree) (p : Parameters) (passed rest : List Pair) (given : List DumpStep)
      → IsAfter old u p passed given → pairs u p ≡ passed ++ pair ∷ rest → result ≡ takens.Refused → ⊥
