-- Lemmas on the pairs of a subtree that are taken away one after another.
use Rattle.std.proofs.Common.{◌≡◌, ℕ, suc, ◌+◌, ◌<◌, ◌≤◌, List, [], ◌∷◌, length, Bool, true, false, not, cond, IsTrue}
use Rattle.std.proofs.Common.{Option, Some, None, refl, sym, ap, subst, ◌∙◌, arith, nat_cmp}
use Rattle.std.specs.Prelude.{IsSome}
use Rattle.std.specs.Ordering.{eq_by_cmp}
use Rattle.std.specs.FinMap.{find}
use Rattle.std.proofs.lemmas.Bool.{both_ways}
use Rattle.store_model.specs.Paths.{Path, is_root, is_path, is_place, same_path, is_at_or_inside, key, key_cmp}
use Rattle.store_model.specs.Pairs.{Pair}
use Rattle.store_model.proofs.PathsLemmas.{place_of_path}
use Rattle.store_model.proofs.TreesLemmasPaths.{same_from_test}
use Rattle.ordered_pairs.specs.PairsState.{without, most_pairs}
use Rattle.tree_pairs.specs.Blocks.{BlockMap, with_blocks}
use Rattle.tree_pairs.proofs.BlocksLemmas.{blocks_alike, tied_number, other_numbers}
use Rattle.tree_pairs.proofs.ChangesLemmas.{take_block}
use Rattle.dir_tree.specs.SubtreeCalls.{HasPathBlocks, LacksFrom, blocks_outside}
use Rattle.dir_tree.proofs.OrderLemmas.{top_is_lowest, le_itself}
use Rattle.dir_tree.proofs.NextLemmas.{IsBlockWithin, first_within, lacks_block, Searched, found_first, found_nothing}

-- ---- the number of pairs

length-without_le : (k : List ℕ) (s : List Pair) → length (without k s) ≤ length s
length-without_le k [] = omega arith
length-without_le k (e ∷ s) =
    let rest = length-without_le k s in
    elim (eq_by_cmp key_cmp k e.0) as (λ b. length (cond (not b) (e ∷ without k s) (without k s)) ≤ suc (length s)) [
      | true ↦ omega arith
      | false ↦ omega arith
    ]

-- one that is found is one less
pub length-without : (k : List ℕ) (s : List Pair) → IsSome (find key_cmp k s) → length (without k s) < length s
length-without k [] h = cc
length-without k (e ∷ s) h =
    let rest = length-without_le k s in
    (elim (eq_by_cmp key_cmp k e.0) as (λ b. IsSome (cond b (Some e.1) (find key_cmp k s))
    → length (cond (not b) (e ∷ without k s) (without k s)) < suc (length s)) [
      | true ↦ λ h. omega arith
      | false ↦ λ h. let less = length-without k s h in omega arith
    ]) h

-- ---- one block is taken

-- the blocks without one
abbrev pub without_block : Path → ℕ → BlockMap → BlockMap
without_block y i blocks = with_blocks y (λ j. cond (eq_by_cmp nat_cmp j i) None (blocks y j)) blocks

-- blocks, said with those at one path apart
pub same_split : (blocks : BlockMap) (y x : Path) (j : ℕ) → blocks x j ≡ with_blocks y (blocks y) blocks x j
same_split blocks y x j = by_test (same_path x y) refl
  where
    by_test : (b : Bool) → same_path x y ≡ b → blocks x j ≡ cond b (blocks y j) (blocks x j)
    by_test true e = ap (λ z. blocks z j) (same_from_test x y e)
    by_test false e = refl

-- other paths keep theirs
pub other_blocks : (y x : Path) (values : ℕ → Option (List ℕ)) (blocks : BlockMap) (j : ℕ) → (x ≡ y → ⊥)
    → with_blocks y values blocks x j ≡ blocks x j
other_blocks y x values blocks j apart = by_test (same_path x y) refl
  where
    by_test : (b : Bool) → same_path x y ≡ b → cond b (values j) (blocks x j) ≡ blocks x j
    by_test true e = absurd (apart (same_from_test x y e))
    by_test false e = refl

-- the root is none of the other paths
pub root_apart : (y : Path) → is_root y ≡ false → [] ≡ y → ⊥
root_apart [] e is = cc
root_apart (n ∷ y) e is = cc

pub take_one : (blocks : BlockMap) (s : List Pair) (y : Path) (i : ℕ) → IsTrue (is_place y) → is_root y ≡ false
    → i < 4294967296 → HasPathBlocks blocks s → HasPathBlocks (without_block y i blocks) (without (key y i) s)
take_one blocks s y i path below l h = record {
  has = take_block y (blocks y) (λ j. cond (eq_by_cmp nat_cmp j i) None (blocks y j)) blocks i s path l
      (ap (λ b. cond b None (blocks y i)) (tied_number i))
      (λ j apart. ap (λ b. cond b None (blocks y j)) (other_numbers j i apart))
      (blocks_alike blocks (with_blocks y (blocks y) blocks) s (same_split blocks y) h.has);
  bare = λ j. other_blocks y [] (λ k. cond (eq_by_cmp nat_cmp k i) None (blocks y k)) blocks j (root_apart y below)
      ∙ h.bare j;
}

-- ---- a part of the subtree is taken

-- after so many turns, what stands outside the subtree is as it was
pub record IsPartTaken (top : Path) (blocks : BlockMap) (turns : ℕ) (s : List Pair) : Type 0 where
  pub rest : BlockMap
  pub holds : HasPathBlocks rest s
  pub outside : (x : Path) (j : ℕ) → is_at_or_inside x top ≡ false → rest x j ≡ blocks x j
  pub counted : turns + length s ≤ most_pairs

pub none_taken : (top : Path) (blocks : BlockMap) (s : List Pair) → HasPathBlocks blocks s → length s ≤ most_pairs
    → IsPartTaken top blocks 0 s
none_taken top blocks s h few = record { rest = blocks; holds = h; outside = λ x j e. refl; counted = omega arith }

-- a path of the subtree is none outside
pub apart_from_outside : (top x y : Path) → is_at_or_inside y top ≡ true → is_at_or_inside x top ≡ false → x ≡ y → ⊥
apart_from_outside top x y inside outside is = both_ways _ outside (ap (λ z. is_at_or_inside z top) is ∙ inside)

one_more_taken : (top : Path) (blocks : BlockMap) (turns : ℕ) (s after : List Pair) (k : List ℕ)
    (h : IsPartTaken top blocks turns s) → IsSome (find key_cmp k s) → IsBlockWithin top h.rest k → after ≡ without k s
    → IsPartTaken top blocks (turns + 1) after
one_more_taken top blocks turns s after k h there within is =
    let less = length-without k s there in
    let y = within.at.place in
    let i = within.at.block in
    let list : after ≡ without (key y i) s = is ∙ ap (λ q. without q s) within.at.key_is in
    let few = h.counted in
    record {
      rest = without_block y i h.rest;
      holds = subst (HasPathBlocks (without_block y i h.rest)) (sym list)
          (take_one h.rest s y i within.at.valid within.below_root within.at.in_range h.holds);
      outside = λ x j e. other_blocks y x (λ n. cond (eq_by_cmp nat_cmp n i) None (h.rest y n)) h.rest j
          (apart_from_outside top x y within.within e) ∙ h.outside x j e;
      counted = omega (arith, ap length is);
    }

-- no block of the subtree is left
all_taken : (top : Path) (blocks : BlockMap) (turns : ℕ) (s : List Pair) (h : IsPartTaken top blocks turns s)
    → IsTrue (is_path top) → LacksFrom (key top 0) top s → HasPathBlocks (blocks_outside top blocks) s
all_taken top blocks turns s h path lacks = record {
  has = record {
    sorted = h.holds.has.sorted;
    each = λ x j valid l. h.holds.has.each x j valid l ∙ by_test x j valid l (is_at_or_inside x top) refl;
    only = h.holds.has.only;
  };
  bare = λ j. bare_outside j (is_at_or_inside [] top) refl;
}
  where
    by_test : (x : Path) (j : ℕ) → IsTrue (is_place x) → j < 4294967296 → (b : Bool) → is_at_or_inside x top ≡ b
        → h.rest x j ≡ cond b None (blocks x j)
    by_test x j valid l true e = lacks_block (key top 0) top h.rest s x j h.holds.has lacks valid l e
        (top_is_lowest top x j (place_of_path top path) valid l e)
    by_test x j valid l false e = h.outside x j e

    bare_outside : (j : ℕ) (b : Bool) → is_at_or_inside [] top ≡ b → cond b None (blocks [] j) ≡ None
    bare_outside j true e = refl
    bare_outside j false e = sym (h.outside [] j e) ∙ h.holds.bare j

-- ---- the same, by what a search answered

-- a search from the first key of a subtree on, said of that key
pub searched_first : (from : List ℕ) (top : Path) (s : List Pair) (found : Option (List ℕ)) → from ≡ key top 0
    → Searched from top s found → Searched (key top 0) top s found
searched_first from top s found is h = subst (λ (k : List ℕ). Searched k top s found) is h

pub next_taken : (top : Path) (blocks : BlockMap) (turns : ℕ) (s between after : List Pair) (found : Option (List ℕ))
    (k : List ℕ) → IsTrue (is_path top) → IsPartTaken top blocks turns s
    → found ≡ Some k → Searched (key top 0) top s found → between ≡ s → after ≡ without k between
    → IsPartTaken top blocks (turns + 1) after
next_taken top blocks turns s between after found k path h is searched kept taken =
    let first = found_first (key top 0) top s found k is searched in
    one_more_taken top blocks turns s after k h
    first.there (first_within (key top 0) top h.rest s k h.holds path (le_itself (key top 0)) first)
    (taken ∙ ap (without k) kept)

pub none_left : (top : Path) (blocks : BlockMap) (turns : ℕ) (s between : List Pair) (found : Option (List ℕ))
    → IsTrue (is_path top) → IsPartTaken top blocks turns s
    → ((k : List ℕ) → found ≡ Some k → ⊥) → Searched (key top 0) top s found → between ≡ s
    → HasPathBlocks (blocks_outside top blocks) between
none_left top blocks turns s between found path h none searched kept =
    subst (HasPathBlocks (blocks_outside top blocks)) (sym kept)
    (all_taken top blocks turns s h path (found_nothing (key top 0) top s found none searched))
