-- What the inner calls on the pairs of a subtree do.
use Rattle.std.specs.Prelude.{◌≡◌, ◌-◌, ℕ, true, false, cond, List, slice_set, Option, None, IsTrue, IsSome}
use Rattle.std.specs.Prelude.{MatchOption, Result, IfOk, OnOk}
use Rattle.std.specs.Ordering.{is_le}
use Rattle.std.specs.FinMap.{find}
use Rattle.std.specs.declared.cmp.Ordering.TheVariants.{Less}
use Rattle.store_model.specs.Paths.{Path, root, is_root, is_path, is_at_or_inside, field_len, key, key_cmp}
use Rattle.store_model.specs.Pairs.{Pair}
use Rattle.store_base.specs.declared.store_fault.Fault.{Fault}
use Rattle.store_base.specs.Faults.{disk_faults_after}
use Rattle.ordered_pairs.specs.PairsState.{PairsState, IsObservable}
use Rattle.tree_pairs.specs.Blocks.{BlockMap, HasBlocks}
use Rattle.tree_pairs.specs.TreeCalls.{KeepsPairs}

-- the list has these blocks, and the root has none
pub record HasPathBlocks (blocks : BlockMap) (s : List Pair) : Type 0 where
  pub has : HasBlocks blocks s
  pub bare : (block : ℕ) → blocks root block ≡ None

-- the key past all of a subtree: the path's first key with 1 for the last name's 0
abbrev pub end_of : Path → List ℕ
end_of top = slice_set (key top 0) (field_len top - 1) 1

-- the key stands before the end of the subtree at the path; the root's subtree has no end
abbrev pub IsBeforeEnd : Path → List ℕ → Type 0
IsBeforeEnd top k = is_root top ≡ false → key_cmp k (end_of top) ≡ Less

-- there is no key of the subtree from a key on
abbrev pub LacksFrom : List ℕ → Path → List Pair → Type 0
LacksFrom from top s = (k : List ℕ) → is_le (key_cmp from k) ≡ true → IsBeforeEnd top k → find key_cmp k s ≡ None

-- the list has the key, which is from another on and before the subtree's end, and none between
pub record IsFirstFrom (from : List ℕ) (top : Path) (s : List Pair) (k : List ℕ) : Type 0 where
  pub there : IsSome (find key_cmp k s)
  pub behind : is_le (key_cmp from k) ≡ true
  pub before : IsBeforeEnd top k
  pub first : (other : List ℕ) → is_le (key_cmp from other) ≡ true → key_cmp other k ≡ Less
      → find key_cmp other s ≡ None

-- a call that finds the first key from one on, where it stands before the end of the subtree
pub record FindsKey (from : List ℕ) (top : Path) (old new : PairsState)
    (result : Result (Option (List ℕ)) Fault) : Type 0 where
  pub faults : new.faults ≡ disk_faults_after old.faults result
  pub keeps : KeepsPairs old new
  pub found : IsObservable old
      → IfOk result (λ found. MatchOption found (LacksFrom from top old.pairs) (IsFirstFrom from top old.pairs))

-- the blocks without those of a subtree
abbrev pub blocks_outside : Path → BlockMap → BlockMap
blocks_outside top blocks path block = cond (is_at_or_inside path top) None (blocks path block)

-- a call that takes the blocks of a subtree away
pub record TakesSubtree {T : Type 0} (top : Path) (old new : PairsState) (result : Result T Fault) : Type 0 where
  pub faults : new.faults ≡ disk_faults_after old.faults result
  pub valid : IsTrue (is_path top)
  pub observable : IsObservable old → OnOk result (IsObservable new)
  pub taken : IsObservable old → (blocks : BlockMap) → HasPathBlocks blocks old.pairs
      → OnOk result (HasPathBlocks (blocks_outside top blocks) new.pairs)
