-- Lemmas on a subtree of which some pairs are moved and others are not yet.
use Rattle.std.proofs.Common.{◌≡◌, ℕ, ◌+◌, ◌<◌, ◌≤◌, List, [], length, drop, Bool, true, false, cond, ◌&&◌, ◌||◌}
use Rattle.std.proofs.Common.{IsTrue, Option, Some, None, refl, sym, ap, ap₂, subst, ◌∙◌, arith, nat_cmp}
use Rattle.std.specs.Prelude.{IsSome}
use Rattle.std.specs.List.{list_all}
use Rattle.std.specs.Ordering.{eq_by_cmp}
use Rattle.std.specs.FinMap.{find, put}
use Rattle.std.proofs.lemmas.Bool.{both_ways, and_parts, and_from, false_from_ne_true}
use Rattle.std.proofs.lemmas.List.Folds.{list_all-append}
use Rattle.store_model.specs.Parameters.{Parameters}
use Rattle.store_model.specs.Paths.{Path, is_root, is_part, is_path, is_place, same_path, is_at_or_inside, fits_field}
use Rattle.store_model.specs.Paths.{replanted, key, key_cmp}
use Rattle.store_model.specs.Pairs.{Pair, pairs}
use Rattle.store_model.specs.Trees.{Tree, IsTree, moved}
use Rattle.store_model.specs.Commands.Command.{Rename}
use Rattle.store_model.specs.Steps.{refusal_of, next_tree}
use Rattle.store_model.proofs.PathsLemmas.{place_of_path}
use Rattle.store_model.proofs.TreesLemmasPaths.{same_from_test, same_path-itself, same_path-from_equal}
use Rattle.store_model.proofs.TreesLemmasPaths.{at_or_inside-split}
use Rattle.store_model.proofs.TreesLemmasSteps.{IsTree-next_tree}
use Rattle.ordered_pairs.specs.PairsState.{without, most_pairs}
use Rattle.tree_pairs.specs.Blocks.{BlockMap, with_blocks}
use Rattle.tree_pairs.proofs.TreeBlocks.{tree_blocks}
use Rattle.tree_pairs.proofs.BlocksLemmas.{blocks_alike, pairs_from_blocks, tied_number, other_numbers, same_numbers}
use Rattle.tree_pairs.proofs.ChangesLemmas.{put_block}
use Rattle.dir_tree.specs.SubtreeCalls.{HasPathBlocks, LacksFrom}
use Rattle.dir_tree.proofs.OrderLemmas.{le_itself, top_is_lowest}
use Rattle.dir_tree.proofs.NextLemmas.{IsBlockWithin, first_within, lacks_block, Searched, found_first, found_nothing}
use Rattle.dir_tree.proofs.OwnerLemmas.{owner_of, owned_place}
use Rattle.dir_tree.proofs.TakingLemmas.{without_block, take_one, same_split, other_blocks, root_apart}
use Rattle.dir_tree.proofs.StretchLemmas.{count, count_le, count_put, count_without, in_stretch, stretch_within}
use Rattle.dir_tree.proofs.StretchLemmas.{stretch_outside}
use Rattle.dir_tree.proofs.MovedLemmas.{back_again, replanted_within, replanted_below, IsMove, new_not_old}
use Rattle.dir_tree.proofs.MovedLemmas.{nothing_at, tree_blocks-moved}
use Rattle.dir_tree.proofs.TestLemmas.{place_fits}

-- ---- one block is put

abbrev pub with_block : Path → ℕ → List ℕ → BlockMap → BlockMap
with_block y i v blocks = with_blocks y (λ j. cond (eq_by_cmp nat_cmp j i) (Some v) (blocks y j)) blocks

put_one : (blocks : BlockMap) (s : List Pair) (y : Path) (i : ℕ) (v : List ℕ) → IsTrue (is_place y) → is_root y ≡ false
    → i < 4294967296 → HasPathBlocks blocks s → HasPathBlocks (with_block y i v blocks) (put key_cmp (key y i) v s)
put_one blocks s y i v path below l h = record {
  has = put_block y (blocks y) (λ j. cond (eq_by_cmp nat_cmp j i) (Some v) (blocks y j)) blocks i v s path l
      (ap (λ b. cond b (Some v) (blocks y i)) (tied_number i))
      (λ j apart. ap (λ b. cond b (Some v) (blocks y j)) (other_numbers j i apart))
      (blocks_alike blocks (with_blocks y (blocks y) blocks) s (same_split blocks y) h.has);
  bare = λ j. other_blocks y [] (λ k. cond (eq_by_cmp nat_cmp k i) (Some v) (blocks y k)) blocks j (root_apart y below)
      ∙ h.bare j;
}

-- ---- replanted places

-- a replanted place is one
replanted_valid : (from to y : Path) → IsTrue (is_path to) → IsTrue (is_place y) → is_at_or_inside y from ≡ true
    → fits_field (replanted from to y) ≡ true → IsTrue (is_place (replanted from to y))
unfolding replanted
replanted_valid from to y path valid at fits =
    let parts : list_all is_part to ≡ true = (and_parts (list_all is_part to) (fits_field to) (place_of_path to path)).0
    in
    let all : (list_all is_part from && list_all is_part (drop (length from) y)) ≡ true =
    sym (list_all-append is_part from (drop (length from) y))
    ∙ ap (list_all is_part) (sym (at_or_inside-split y from at))
    ∙ (and_parts (list_all is_part y) (fits_field y) valid).0 in
    and_from _ _ (list_all-append is_part to (drop (length from) y)
    ∙ ap₂ (λ a b. a && b) parts (and_parts (list_all is_part from) (list_all is_part (drop (length from) y)) all).1)
    fits

-- ---- the blocks while some are moved

-- those that are done stand at the new place, and the others at the old one
abbrev pub half_moved : Path → Path → (Path → ℕ → Bool) → BlockMap → BlockMap
half_moved from to done blocks y j =
    cond (is_at_or_inside y from) (cond (done y j) None (blocks y j))
    (cond (is_at_or_inside y to) (cond (done (replanted to from y) j) (blocks (replanted to from y) j) None)
    (blocks y j))

-- one more is done
abbrev pub also_done : (Path → ℕ → Bool) → Path → ℕ → Path → ℕ → Bool
also_done done y i x j = done x j || (same_path x y && eq_by_cmp nat_cmp j i)

-- what one more moved block makes of the blocks
module _ (from to : Path) (done : Path → ℕ → Bool) (blocks : BlockMap) (y : Path) (i : ℕ) (v : List ℕ)
    (at : is_at_or_inside y from ≡ true) (new_outside : is_at_or_inside (replanted from to y) from ≡ false)
    (value : blocks y i ≡ Some v) (z : Path) (j : ℕ) where
  -- at the old place
  old_place : is_at_or_inside z from ≡ true → without_block y i (half_moved from to done blocks) z j
      ≡ cond (also_done done y i z j) None (blocks z j)
  old_place f = by_same (same_path z y) refl
    where
      here : (x : Path) → is_at_or_inside x from ≡ true
          → half_moved from to done blocks x j ≡ cond (done x j) None (blocks x j)
      here x g =
          ap (λ b. cond b (cond (done x j) None (blocks x j))
          (cond (is_at_or_inside x to) (cond (done (replanted to from x) j) (blocks (replanted to from x) j) None)
          (blocks x j))) g

      by_number : (e d : Bool) (o : Option (List ℕ)) → cond e None (cond d None o) ≡ cond (d || e) None o
      by_number true true o = refl
      by_number true false o = refl
      by_number false true o = refl
      by_number false false o = refl

      none_more : (d : Bool) (o : Option (List ℕ)) → cond d None o ≡ cond (d || false) None o
      none_more true o = refl
      none_more false o = refl

      by_same : (c : Bool) → same_path z y ≡ c
          → cond c (cond (eq_by_cmp nat_cmp j i) None (half_moved from to done blocks y j))
          (half_moved from to done blocks z j) ≡ cond (done z j || (c && eq_by_cmp nat_cmp j i)) None (blocks z j)
      by_same true s = ap (cond (eq_by_cmp nat_cmp j i) None)
          (ap (λ w. half_moved from to done blocks w j) (sym (same_from_test z y s)) ∙ here z f)
          ∙ by_number (eq_by_cmp nat_cmp j i) (done z j) (blocks z j)
      by_same false s = here z f ∙ none_more (done z j) (blocks z j)

  -- elsewhere the block that is taken is not missed
  taken_elsewhere : is_at_or_inside z from ≡ false
      → without_block y i (half_moved from to done blocks) z j ≡ half_moved from to done blocks z j
  taken_elsewhere f = other_blocks y z (λ n. cond (eq_by_cmp nat_cmp n i) None (half_moved from to done blocks y n))
      (half_moved from to done blocks) j (λ e. both_ways _ f (ap (λ w. is_at_or_inside w from) e ∙ at))

  -- at the new place of the block's path
  new_place : (z ≡ replanted from to y) → cond (eq_by_cmp nat_cmp j i) (Some v) (cond (done y j) (blocks y j) None)
      ≡ cond (also_done done y i y j) (blocks y j) None
  new_place e = by_number (eq_by_cmp nat_cmp j i) (done y j) refl
      ∙ ap (λ c. cond (done y j || (c && eq_by_cmp nat_cmp j i)) (blocks y j) None) (sym (same_path-itself y))
    where
      by_number : (e d : Bool) → eq_by_cmp nat_cmp j i ≡ e
          → cond e (Some v) (cond d (blocks y j) None) ≡ cond (d || (true && e)) (blocks y j) None
      by_number true true f = sym (ap (blocks y) (same_numbers j i f) ∙ value)
      by_number true false f = sym (ap (blocks y) (same_numbers j i f) ∙ value)
      by_number false true f = refl
      by_number false false f = refl

  -- at the other paths of the new place
  other_place : (x : Path) → same_path x y ≡ false
      → cond (done x j) (blocks x j) None ≡ cond (also_done done y i x j) (blocks x j) None
  other_place x apart = by_done (done x j)
      ∙ ap (λ c. cond (done x j || (c && eq_by_cmp nat_cmp j i)) (blocks x j) None) (sym apart)
    where
      by_done : (d : Bool) → cond d (blocks x j) None ≡ cond (d || false) (blocks x j) None
      by_done true = refl
      by_done false = refl

  -- all together
  pub one_more_half : with_block (replanted from to y) i v (without_block y i (half_moved from to done blocks)) z j
      ≡ half_moved from to (also_done done y i) blocks z j
  one_more_half = by_places (is_at_or_inside z from) (is_at_or_inside z to)
      (same_path z (replanted from to y)) refl refl refl
    where
      half_at : (a b : Bool) → is_at_or_inside z from ≡ a → is_at_or_inside z to ≡ b
          → half_moved from to done blocks z j ≡ cond a (cond (done z j) None (blocks z j))
          (cond b (cond (done (replanted to from z) j) (blocks (replanted to from z) j) None) (blocks z j))
      half_at a b f g =
          ap₂ (λ a b. cond a (cond (done z j) None (blocks z j))
          (cond b (cond (done (replanted to from z) j) (blocks (replanted to from z) j) None) (blocks z j))) f g

      by_places : (a b c : Bool) → is_at_or_inside z from ≡ a → is_at_or_inside z to ≡ b
          → same_path z (replanted from to y) ≡ c
          → cond c (cond (eq_by_cmp nat_cmp j i) (Some v)
          (without_block y i (half_moved from to done blocks) (replanted from to y) j))
          (without_block y i (half_moved from to done blocks) z j)
          ≡ cond a (cond (also_done done y i z j) None (blocks z j))
          (cond b (cond (also_done done y i (replanted to from z) j) (blocks (replanted to from z) j) None)
          (blocks z j))
      by_places true b true f g s =
          absurd (both_ways _ new_outside
          (ap (λ w. is_at_or_inside w from) (sym (same_from_test z (replanted from to y) s)) ∙ f))
      by_places true b false f g s = old_place f
      by_places false true true f g s =
          let is : z ≡ replanted from to y = same_from_test z (replanted from to y) s in
          let x : replanted to from z ≡ y = ap (replanted to from) is ∙ back_again from to y at in
          let there : without_block y i (half_moved from to done blocks) (replanted from to y) j
          ≡ cond (done y j) (blocks y j) None =
          ap (λ w. without_block y i (half_moved from to done blocks) w j) (sym is) ∙ taken_elsewhere f
          ∙ half_at false true f g ∙ ap (λ w. cond (done w j) (blocks w j) None) x in
          ap (λ o. cond (eq_by_cmp nat_cmp j i) (Some v) o) there ∙ new_place is
          ∙ ap (λ w. cond (also_done done y i w j) (blocks w j) None) (sym x)
      by_places false true false f g s =
          taken_elsewhere f ∙ half_at false true f g
          ∙ other_place (replanted to from z)
          (false_from_ne_true _ (λ same. both_ways _ s
          (same_path-from_equal z (replanted from to y)
          (sym (back_again to from z g) ∙ ap (replanted from to) (same_from_test (replanted to from z) y same)))))
      by_places false false true f g s =
          absurd (both_ways _ g (ap (λ w. is_at_or_inside w to) (same_from_test z (replanted from to y) s)
          ∙ replanted_within from to y))
      by_places false false false f g s = taken_elsewhere f ∙ half_at false false f g

-- ---- how far the move has come

-- after so many turns: which blocks are done, and how many pairs of the old stretch are left
pub record IsPartMoved (t : Tree) (p : Parameters) (from to : Path) (turns : ℕ) (s : List Pair) : Type 0 where
  pub done : Path → ℕ → Bool
  pub holds : HasPathBlocks (half_moved from to done (tree_blocks t p)) s
  pub counted : turns + count (in_stretch from) s ≤ most_pairs

pub none_moved : (t : Tree) (p : Parameters) (from to : Path) (s : List Pair) → IsTree t → IsTrue (is_path to)
    → IsMove t from to → HasPathBlocks (tree_blocks t p) s → length s ≤ most_pairs → IsPartMoved t p from to 0 s
none_moved t p from to s h path_to m has few = record {
  done = λ x j. false;
  holds = record {
    has = blocks_alike (tree_blocks t p) (half_moved from to (λ x j. false) (tree_blocks t p)) s alike has.has;
    bare = λ j. sym (alike [] j) ∙ has.bare j;
  };
  counted = let l = count_le (in_stretch from) s in omega arith;
}
  where
    alike : (y : Path) (j : ℕ) → tree_blocks t p y j ≡ half_moved from to (λ x j. false) (tree_blocks t p) y j
    alike y j = by_tests (is_at_or_inside y from) (is_at_or_inside y to) refl
      where
        by_tests : (a b : Bool) → is_at_or_inside y to ≡ b
            → tree_blocks t p y j ≡ cond a (tree_blocks t p y j) (cond b None (tree_blocks t p y j))
        by_tests true b g = refl
        by_tests false false g = refl
        by_tests false true g = nothing_at t p to y j h path_to m.free g

-- the value of a block that is there
there_is : (o : Option (List ℕ)) → IsSome o → (v : List ℕ) × (o ≡ Some v)
there_is None h = cc
there_is (Some v) h = (v, refl)

-- a block of the old place that is there is one of the tree's, and not done
not_done : (d : Bool) (o : Option (List ℕ)) (v : List ℕ) → cond d None o ≡ Some v → o ≡ Some v
not_done true o v e = cc
not_done false o v e = e

-- what the move of the pair under a key does
abbrev pub Moves : List ℕ → Path → Path → List Pair → List Pair → Type 0
Moves k from to s after = (y : Path) (i : ℕ) (v : List ℕ) → IsTrue (is_place y) → is_at_or_inside y from ≡ true
    → i < 4294967296 → k ≡ key y i → find key_cmp k s ≡ Some v → fits_field (replanted from to y) ≡ true
    → after ≡ put key_cmp (key (replanted from to y) i) v (without k s)

one_more_moved : (t : Tree) (p : Parameters) (from to : Path) (turns : ℕ) (s after : List Pair) (k : List ℕ) → IsTree t
    → IsMove t from to → IsTrue (is_path from) → IsTrue (is_path to) → (part : IsPartMoved t p from to turns s)
    → IsBlockWithin from (half_moved from to part.done (tree_blocks t p)) k → Moves k from to s after
    → IsPartMoved t p from to (turns + 1) after
one_more_moved t p from to turns s after k h m path path_to part within moves =
    let at = within.at in
    let y = at.place in
    let i = at.block in
    let half : half_moved from to part.done (tree_blocks t p) y i ≡ cond (part.done y i) None (tree_blocks t p y i) =
    ap (λ b. cond b (cond (part.done y i) None (tree_blocks t p y i))
    (cond (is_at_or_inside y to)
    (cond (part.done (replanted to from y) i) (tree_blocks t p (replanted to from y) i) None)
    (tree_blocks t p y i))) within.within in
    let value = there_is (half_moved from to part.done (tree_blocks t p) y i) at.there in
    let in_tree : tree_blocks t p y i ≡ Some value.0 =
    not_done (part.done y i) (tree_blocks t p y i) value.0 (sym half ∙ value.1) in
    let found : find key_cmp (key y i) s ≡ Some value.0 = part.holds.has.each y i at.valid at.in_range ∙ value.1 in
    let fits = place_fits t p from to y i h path m.short (subst IsSome (sym in_tree) refl) within.within in
    let new : Path = replanted from to y in
    let valid : IsTrue (is_place new) = replanted_valid from to y path_to at.valid within.within fits in
    let outside : is_at_or_inside new from ≡ false = new_not_old t from to h m new (replanted_within from to y) in
    let list : after ≡ put key_cmp (key new i) value.0 (without (key y i) s) =
    moves y i value.0 at.valid within.within at.in_range at.key_is (ap (λ q. find key_cmp q s) at.key_is ∙ found) fits
    ∙ ap (λ q. put key_cmp (key new i) value.0 (without q s)) at.key_is in
    let taken = take_one (half_moved from to part.done (tree_blocks t p)) s y i
    at.valid within.below_root at.in_range part.holds in
    let put_back = put_one (without_block y i (half_moved from to part.done (tree_blocks t p)))
    (without (key y i) s) new i value.0 valid (replanted_below from to y m.to_below) at.in_range taken in
    let alike = λ (z : Path) (j : ℕ). one_more_half from to part.done (tree_blocks t p) y i
    value.0 within.within outside in_tree z j in
    let less = count_without (in_stretch from) (key y i) s
    (stretch_within from y i m.from_below path at.valid at.in_range within.within) (subst IsSome (sym found) refl)
    in
    let kept = count_put (in_stretch from) (key new i) value.0 (without (key y i) s)
    (stretch_outside from new i path valid at.in_range outside) in
    let counted = part.counted in
    record {
      done = also_done part.done y i;
      holds = subst (HasPathBlocks (half_moved from to (also_done part.done y i) (tree_blocks t p))) (sym list)
          (record {
            has = blocks_alike (with_block new i
                value.0 (without_block y i (half_moved from to part.done (tree_blocks t p))))
                (half_moved from to (also_done part.done y i) (tree_blocks t p))
                (put key_cmp (key new i) value.0 (without (key y i) s)) alike put_back.has;
            bare = λ j. sym (alike [] j) ∙ put_back.bare j;
          });
      counted = let same = ap (count (in_stretch from)) list in omega arith;
    }

-- nothing is left at the old place
all_moved : (t : Tree) (p : Parameters) (from to : Path) (turns : ℕ) (s : List Pair) → IsTree t → IsTrue (is_path from)
    → IsTrue (is_path to) → IsMove t from to → refusal_of t (Rename from to) ≡ None
    → (part : IsPartMoved t p from to turns s)
    → LacksFrom (key from 0) from s → s ≡ pairs (next_tree t (Rename from to)) p
unfolding next_tree
all_moved t p from to turns s h path path_to m none part lacks =
    let next = IsTree-next_tree t (Rename from to) h (path, path_to) none in
    pairs_from_blocks (moved t from to) p s next
    (record {
      sorted = part.holds.has.sorted;
      each = λ x j valid l. part.holds.has.each x j valid l
          ∙ by_tests x j valid l (is_at_or_inside x from) (is_at_or_inside x to) refl refl
          ∙ tree_blocks-moved t from to h m path path_to next p x j;
      only = part.holds.has.only;
    })
  where
    gone : (x : Path) (j : ℕ) → IsTrue (is_place x) → j < 4294967296 → is_at_or_inside x from ≡ true
        → cond (part.done x j) None (tree_blocks t p x j) ≡ None
    gone x j valid l f =
        sym (ap (λ b. cond b (cond (part.done x j) None (tree_blocks t p x j))
        (cond (is_at_or_inside x to)
        (cond (part.done (replanted to from x) j) (tree_blocks t p (replanted to from x) j) None)
        (tree_blocks t p x j))) f)
        ∙ lacks_block (key from 0) from (half_moved from to part.done (tree_blocks t p)) s x j part.holds.has lacks
        valid l f (top_is_lowest from x j (place_of_path from path) valid l f)

    all_there : (x : Path) (j : ℕ) → j < 4294967296 → is_at_or_inside x from ≡ true → (d : Bool) → part.done x j ≡ d
        → (o : Option (List ℕ)) → tree_blocks t p x j ≡ o → cond d (tree_blocks t p x j) None ≡ tree_blocks t p x j
    all_there x j l f true e o is = refl
    all_there x j l f false e None is = sym is
    all_there x j l f false e (Some v) is =
        sym (ap (λ d. cond d None (tree_blocks t p x j)) (sym e)
        ∙ gone x j (owned_place t x j (owner_of t p x j h (subst IsSome (sym is) refl))) l f)

    by_tests : (x : Path) (j : ℕ) → IsTrue (is_place x) → j < 4294967296 → (a b : Bool) → is_at_or_inside x from ≡ a
        → is_at_or_inside x to ≡ b
        → cond a (cond (part.done x j) None (tree_blocks t p x j))
        (cond b (cond (part.done (replanted to from x) j) (tree_blocks t p (replanted to from x) j) None)
        (tree_blocks t p x j))
        ≡ cond a None (cond b (tree_blocks t p (replanted to from x) j) (tree_blocks t p x j))
    by_tests x j valid l true b f g = gone x j valid l f
    by_tests x j valid l false true f g =
        all_there (replanted to from x) j l (replanted_within to from x) (part.done (replanted to from x) j) refl
        (tree_blocks t p (replanted to from x) j) refl
    by_tests x j valid l false false f g = refl

-- ---- the same, by what a search answered

pub next_moved : (t : Tree) (p : Parameters) (from to : Path) (turns : ℕ) (s between after : List Pair)
    (found : Option (List ℕ)) (k : List ℕ) → IsTree t → IsMove t from to → IsTrue (is_path from) → IsTrue (is_path to)
    → IsPartMoved t p from to turns s
    → found ≡ Some k → Searched (key from 0) from s found → between ≡ s → Moves k from to between after
    → IsPartMoved t p from to (turns + 1) after
next_moved t p from to turns s between after found k h m path path_to part is searched kept moves =
    one_more_moved t p from to turns s after k h m path path_to part
    (first_within (key from 0) from (half_moved from to part.done (tree_blocks t p)) s k part.holds path
    (le_itself (key from 0)) (found_first (key from 0) from s found k is searched))
    (subst (λ (l : List Pair). Moves k from to l after) kept moves)

pub none_left : (t : Tree) (p : Parameters) (from to : Path) (turns : ℕ) (s between : List Pair)
    (found : Option (List ℕ)) → IsTree t → IsTrue (is_path from) → IsTrue (is_path to) → IsMove t from to
    → refusal_of t (Rename from to) ≡ None → IsPartMoved t p from to turns s
    → ((k : List ℕ) → found ≡ Some k → ⊥) → Searched (key from 0) from s found → between ≡ s
    → between ≡ pairs (next_tree t (Rename from to)) p
none_left t p from to turns s between found h path path_to m free part none searched kept =
    kept ∙ all_moved t p from to turns s h path path_to m free part
    (found_nothing (key from 0) from s found none searched)
