-- Lemmas on the first key from a key on: which block stands under it, and which do not stand before it.
use Rattle.std.proofs.Common.{◌≡◌, ℕ, ◌<◌, List, [], ◌∷◌, Bool, true, false, cond, IsTrue, Option, Some, None, refl}
use Rattle.std.proofs.Common.{sym, ap, subst, ◌∙◌, Less}
use Rattle.std.specs.List.{AllByRecursion}
use Rattle.std.specs.Ordering.{is_le, eq_by_cmp}
use Rattle.std.specs.Prelude.{IsSome, IfSome, MatchOption}
use Rattle.std.specs.FinMap.{find, is_sorted}
use Rattle.store_model.specs.Paths.{Path, is_root, is_path, is_place, is_at_or_inside, key, key_cmp}
use Rattle.store_model.specs.Pairs.{Pair}
use Rattle.store_model.proofs.ListsLemmas.{rising_from_is_sorted}
use Rattle.ordered_pairs.specs.PairsState.{next_pair}
use Rattle.tree_pairs.specs.Blocks.{BlockMap, IsBlockPair, HasBlocks}
use Rattle.tree_pairs.proofs.NextLemmas.{IsNextFrom, next_some, next_none}
use Rattle.dir_tree.specs.SubtreeCalls.{HasPathBlocks, IsBeforeEnd, LacksFrom, IsFirstFrom}
use Rattle.dir_tree.proofs.OrderLemmas.{same_key_from_test, le_le, behind_end, before_end, within_stretch}

-- ---- the next pair of a list

pub some_is : {X : Type 0} (o : Option X) (x : X) → o ≡ Some x → IsSome o
some_is None x e = cc
some_is (Some y) x e = refl

-- what holds of a value that was found
pub of_found : {X : Type 0} (P : X → Type 0) (found : Option X) (x : X) → found ≡ Some x → IfSome found P → P x
of_found P None x is h = cc
of_found P (Some y) x is h = let same : y ≡ x = cc in subst P same h

-- there is none
pub found_none : (from : List ℕ) (top : Path) (s : List Pair) (found : Option Pair) → found ≡ next_pair from s
    → found ≡ None → LacksFrom from top s
found_none from top s found is none k behind before = next_none from s (sym is ∙ none) k behind

module _ (from : List ℕ) (top : Path) (s : List Pair) (found : Option Pair) (e : Pair)
    (sorted : IsTrue (is_sorted key_cmp s)) (is : found ≡ next_pair from s) (some : found ≡ Some e) where
  next : IsNextFrom from s e
  next = next_some from s e (rising_from_is_sorted key_cmp s sorted) (sym is ∙ some)

  -- it is one of the subtree
  pub found_within : IsBeforeEnd top e.0 → IsFirstFrom from top s e.0
  found_within before = record {
    there = some_is (find key_cmp e.0 s) e.1 next.found;
    behind = next.not_below;
    before = before;
    first = next.none_between;
  }

  -- it stands behind the subtree
  pub found_behind : (IsBeforeEnd top e.0 → ⊥) → LacksFrom from top s
  found_behind outside k behind before = next.none_between k behind (behind_end top e.0 k outside before)

-- ---- the blocks of a list

-- the key is that of a block that is there
pub record IsBlockAt (blocks : BlockMap) (k : List ℕ) : Type 0 where
  pub place : Path
  pub block : ℕ
  pub valid : IsTrue (is_place place)
  pub in_range : block < 4294967296
  pub key_is : k ≡ key place block
  pub there : IsSome (blocks place block)

-- what holds of each pair holds of one that has the key
pair_of_key : (P : Pair → Type 0) (k : List ℕ) (s : List Pair) → AllByRecursion P s → IsSome (find key_cmp k s)
    → (pair : Pair) × P pair × (k ≡ pair.0)
pair_of_key P k [] h there = cc
pair_of_key P k (e ∷ s) h there =
    (elim (eq_by_cmp key_cmp k e.0) as (λ b. eq_by_cmp key_cmp k e.0 ≡ b → IsSome (cond b (Some e.1) (find key_cmp k s))
    → (pair : Pair) × P pair × (k ≡ pair.0)) [
      | true ↦ λ same there. (e, h.0, same_key_from_test k e.0 same)
      | false ↦ λ other there. pair_of_key P k s h.1 there
    ]) refl there

-- each key of a list that has blocks is a block's
pub block_at : (blocks : BlockMap) (s : List Pair) (k : List ℕ) → HasBlocks blocks s
    → IsSome (find key_cmp k s) → IsBlockAt blocks k
block_at blocks s k h there =
    let pair = pair_of_key IsBlockPair k s h.only there in
    let of = pair.1 in
    let key_is : k ≡ key of.path of.block = pair.2 ∙ of.key_is in
    record {
      place = of.path;
      block = of.block;
      valid = of.valid;
      in_range = of.in_range;
      key_is = key_is;
      there = subst IsSome (ap (λ q. find key_cmp q s) key_is ∙ h.each of.path of.block of.valid of.in_range) there;
    }

-- the key is that of a block of a subtree; the root has none
pub record IsBlockWithin (top : Path) (blocks : BlockMap) (k : List ℕ) : Type 0 where
  pub at : IsBlockAt blocks k
  pub within : is_at_or_inside at.place top ≡ true
  pub below_root : is_root at.place ≡ false

-- a key of the stretch is a block's of the subtree
pub block_within : (top : Path) (blocks : BlockMap) (s : List Pair) (k : List ℕ) → HasPathBlocks blocks s
    → IsTrue (is_path top) → is_le (key_cmp (key top 0) k) ≡ true → IsBeforeEnd top k → IsSome (find key_cmp k s)
    → IsBlockWithin top blocks k
block_within top blocks s k h path low before there =
    let at = block_at blocks s k h.has there in
    record {
      at = at;
      within = within_stretch top at.place at.block path
          at.valid at.in_range (ap (λ q. is_le (key_cmp (key top 0) q)) (sym at.key_is) ∙ low)
          (subst (IsBeforeEnd top) at.key_is before);
      below_root = by_root at.place at.block at.there (is_root at.place) refl;
    }
  where
    by_root : (y : Path) (i : ℕ) → IsSome (blocks y i) → (b : Bool) → is_root y ≡ b → is_root y ≡ false
    by_root y i some false e = e
    by_root [] i some true e = let none = h.bare i in cc
    by_root (n ∷ y) i some true e = refl

-- the first key found is one, where it is sought from the first of the subtree on
pub first_within : (from : List ℕ) (top : Path) (blocks : BlockMap) (s : List Pair) (k : List ℕ)
    → HasPathBlocks blocks s → IsTrue (is_path top) → is_le (key_cmp (key top 0) from) ≡ true → IsFirstFrom from top s k
    → IsBlockWithin top blocks k
first_within from top blocks s k h path low first =
    block_within top blocks s k h path (le_le (key top 0) from k low first.behind) first.before first.there

-- where no key is found, there is no block of the subtree from there on
pub lacks_block : (from : List ℕ) (top : Path) (blocks : BlockMap) (s : List Pair) (x : Path) (j : ℕ)
    → HasBlocks blocks s → LacksFrom from top s → IsTrue (is_place x) → j < 4294967296 → is_at_or_inside x top ≡ true
    → is_le (key_cmp from (key x j)) ≡ true
    → blocks x j ≡ None
lacks_block from top blocks s x j h lacks valid l inside behind =
    sym (h.each x j valid l) ∙ lacks (key x j) behind (before_end top x j inside)

-- and none stands before the first that is found
pub none_before : (from : List ℕ) (top : Path) (blocks : BlockMap) (s : List Pair) (k : List ℕ) (x : Path) (j : ℕ)
    → HasBlocks blocks s → IsFirstFrom from top s k → IsTrue (is_place x) → j < 4294967296
    → is_le (key_cmp from (key x j)) ≡ true → key_cmp (key x j) k ≡ Less
    → blocks x j ≡ None
none_before from top blocks s k x j h first valid l behind less =
    sym (h.each x j valid l) ∙ first.first (key x j) behind less

-- ---- what a search answered

-- the answer of a search from a key on
abbrev pub Searched : List ℕ → Path → List Pair → Option (List ℕ) → Type 0
Searched from top s found = MatchOption found (LacksFrom from top s) (IsFirstFrom from top s)

-- the key that it found
pub found_first : (from : List ℕ) (top : Path) (s : List Pair) (found : Option (List ℕ)) (k : List ℕ) → found ≡ Some k
    → Searched from top s found → IsFirstFrom from top s k
found_first from top s None k is h = cc
found_first from top s (Some q) k is h = let same : q ≡ k = cc in subst (IsFirstFrom from top s) same h

-- and where it found none
pub found_nothing : (from : List ℕ) (top : Path) (s : List Pair) (found : Option (List ℕ))
    → ((k : List ℕ) → found ≡ Some k → ⊥) → Searched from top s found → LacksFrom from top s
found_nothing from top s None none h = h
found_nothing from top s (Some q) none h = absurd (none q refl)
