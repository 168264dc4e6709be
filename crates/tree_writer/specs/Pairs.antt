-- Pairs that are written one after another, whatever they spell.
use Rattle.std.specs.Prelude.{◌≡◌, ℕ, ◌<◌, Bool, true, false, List, [], ◌∷◌, ◌++◌, length, Result}
use Rattle.std.specs.Prelude.{OnOk, IfErr, ⊤}
use Rattle.store_model.specs.Parameters.{Parameters}
use Rattle.store_model.specs.Paths.{Path, key}
use Rattle.store_model.specs.Pairs.{Pair, IsPairs, inline_value}
use Rattle.disk_model.specs.DiskState.{DiskState}
use Rattle.gate_journal.specs.Places.{AreCalls}
use Rattle.layout_scratch.specs.Sorting.{sorted_limit}
use Rattle.image_writer.specs.Writing.{IsWriting, StaysNone}
use Rattle.tree_writer.specs.declared.fault.TreeFault.{TreeFault}
use Rattle.tree_writer.specs.declared.fault.TreeFault.TheVariants as faults
use Rattle.tree_writer.specs.declared.pairs.PairWriter.{PairWriter}
use Rattle.tree_writer.specs.Faults.{tree_answer, WasNone}
use Rattle.tree_writer.specs.Told.{told_pairs}

-- Just these pairs came to the writer since the first moment. It counts them, draws their levels as the parameters say,
-- and has written at the second moment what no later pair changes.
pub record HasPairs (p : Parameters) (s : List Pair) (start now : DiskState) (writer : PairWriter) : Type 0 where
  pub params_are : writer.params ≡ p
  pub levels_are : writer.levels ≡ p
  pub count_is : writer.count ≡ length s
  pub writing : IsWriting p s start now writer.image

-- these pairs may come behind those: with them they are pairs of an image
pub record MayCome (p : Parameters) (s added : List Pair) (start now : DiskState) (writer : PairWriter) : Type 0 where
  pub has : HasPairs p s start now writer
  pub pairs : IsPairs (s ++ added)

-- why pairs are not written behind others
abbrev pub FailsBehind : List Pair → List Pair → TreeFault → Type 0
FailsBehind s added faults.Disk = ⊤
FailsBehind s added faults.NoMemory = ⊤
FailsBehind s added (faults.Full need slots) = ⊥
FailsBehind s added faults.Changed = ⊥
FailsBehind s added faults.TooMany = sorted_limit < length (s ++ added)

-- What writing these pairs does behind those that came: they came too. Whatever the answer, the disk stays no image.
pub record WritesPairs {D : Type 0} (state : D → DiskState) (added : List Pair) (old_disk new_disk : D)
    (old new : PairWriter) (result : Result (Unit {0}) TreeFault) : Type 0 where
  pub calls : AreCalls (state old_disk) (state new_disk) (tree_answer result)
  pub writes : (p : Parameters) (start : D) (s : List Pair)
      → MayCome p s added (state start) (state old_disk) old
      → OnOk result (HasPairs p (s ++ added) (state start) (state new_disk) new)
  pub none : (p : Parameters) (start : D) (s : List Pair)
      → MayCome p s added (state start) (state old_disk) old → WasNone (state start)
      → StaysNone (state start) (state new_disk)
  pub faults : (p : Parameters) (start : D) (s : List Pair)
      → MayCome p s added (state start) (state old_disk) old → IfErr result (FailsBehind s added)

-- the pairs with which a file begins: its first pair with its bytes, or with the told length and behind it the blocks
-- of these bytes
abbrev pub begun_pairs : Bool → Path → ℕ → List ℕ → List Pair
begun_pairs true path told bytes = (key path 0, inline_value bytes) ∷ []
begun_pairs false path told bytes = told_pairs path told bytes
