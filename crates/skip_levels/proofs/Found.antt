-- What the lowest group on the search path of a key says of the key's value.
use Rattle.std.proofs.Common.{◌≡◌, inl, inr, ℕ, List, [], ◌∷◌, ◌++◌, map, filter, Bool, true, false, cond, nat_le, Some}
use Rattle.std.proofs.Common.{None, Less, Equal, Greater, refl, sym, ap, subst, ◌∙◌, arith}
use Rattle.std.specs.Ordering.{is_le, is_eq}
use Rattle.std.specs.List.Sorted.{IsStrictlySortedBy}
use Rattle.std.specs.FinMap.{find}
use Rattle.std.proofs.lemmas.Bool.{le-leb}
use Rattle.store_model.specs.Paths.{key_cmp}
use Rattle.store_model.specs.Draws.{Draw}
use Rattle.store_model.specs.Pairs.{Pair}
use Rattle.store_model.specs.Pages.{Cell, cell_on, level_list, leads_group}
use Rattle.store_model.proofs.ListsLemmas.{all_weaker, rising_head, rising_tail}
use Rattle.node_pages.proofs.PlaceLemmas.{same_key, reversed}
use Rattle.skip_groups.specs.Floors.{last_of, floor_of, value_at}
use Rattle.skip_levels.specs.SearchPath.{above, not_above}
use Rattle.skip_levels.proofs.Around.{IsLed, LastPart, last_part}
use Rattle.skip_levels.proofs.PlaceGroups.{group_of_place}
use Rattle.skip_levels.proofs.Descents.{floor_of_place}
use Rattle.skip_levels.proofs.PathLemmas.{none_below, side_passes, side_fails}

-- all pairs stand on level 0
pub cells_of_all : (d : Draw) (s : List Pair) → level_list d s 0 ≡ map (cell_on 0) s
unfolding level_list
cells_of_all d [] = refl
cells_of_all d (pair ∷ s) =
    ap (λ b. map (cell_on 0) (cond b (pair ∷ filter (λ p. nat_le 0 (d.level p.0)) s)
    (filter (λ p. nat_le 0 (d.level p.0)) s))) (le-leb 0 (d.level pair.0) (omega arith))
    ∙ ap (λ cells. cell_on 0 pair ∷ cells) (cells_of_all d s)

-- the last of two lists of cells is that of the second, unless it is empty
last_of-append : (xs ys : List Cell) (y : Cell) → last_of (xs ++ y ∷ ys) ≡ last_of (y ∷ ys)
unfolding last_of
last_of-append [] ys y = refl
last_of-append (x ∷ []) ys y = refl
last_of-append (x ∷ other ∷ xs) ys y = last_of-append (other ∷ xs) ys y

last_of_whole : (cuts : Cell → Bool) (cells : List Cell) (l : LastPart cuts cells) → last_of cells ≡ last_of l.part
last_of_whole cuts cells l = ap last_of l.whole
    ∙ elim l.begins [ inl led ↦ by_led l.before l.part led | inr alone ↦ ap (λ xs. last_of (xs ++ l.part)) alone.0 ]
  where
    by_led : (before part : List Cell) → IsLed cuts part → last_of (before ++ part) ≡ last_of part
    by_led before [] led = absurd led
    by_led before (y ∷ part) led = last_of-append before part y

-- the last of cells with one more in front
value_past : (key : List ℕ) (cell : Cell) (cells : List Cell) → is_eq (key_cmp key cell.key) ≡ false
    → value_at key (last_of (cell ∷ cells)) ≡ value_at key (last_of cells)
unfolding last_of
value_past key cell [] other = ap (λ b. cond b cell.value None) other
value_past key cell (c ∷ cells) other = refl

-- the value of a key is with the last pair that is not above it
pub value_of_last : (key : List ℕ) (s : List Pair) → IsStrictlySortedBy (λ a b. key_cmp a.0 b.0) s
    → find key_cmp key s ≡ value_at key (last_of (map (cell_on 0) (not_above key s)))
unfolding last_of
value_of_last key [] rising = refl
value_of_last key (e ∷ s) rising =
    let rest = value_of_last key s (rising_tail (λ (a b : Pair). key_cmp a.0 b.0) e s rising) in
    elim (key_cmp key e.0) as (λ o. key_cmp key e.0 ≡ o
    → find key_cmp key (e ∷ s) ≡ value_at key (last_of (map (cell_on 0) (not_above key (e ∷ s))))) [
      | Less ↦ λ less.
          let higher : is_le (key_cmp e.0 key) ≡ false = ap is_le (reversed key e.0 Less less) in
          ap (λ o. cond (is_eq o) (Some e.1) (find key_cmp key s)) less ∙ rest
          ∙ ap (λ b. value_at key (last_of (map (cell_on 0) (cond b (e ∷ not_above key s) (not_above key s)))))
          (sym higher)
      | Equal ↦ λ equal.
          let here : is_le (key_cmp e.0 key) ≡ true = ap is_le (reversed key e.0 Equal equal) in
          let fails = all_weaker (λ (f : Pair). key_cmp e.0 f.0 ≡ Less) (λ f. is_le (key_cmp f.0 key) ≡ false)
          (λ f less. ap is_le (reversed key f.0 Less
          (subst (λ k. key_cmp k f.0 ≡ Less) (sym (same_key key e.0 equal)) less))) s
          (rising_head (λ (a b : Pair). key_cmp a.0 b.0) e s rising) in
          ap (λ o. cond (is_eq o) (Some e.1) (find key_cmp key s)) equal
          ∙ sym (ap (λ b. value_at key (last_of (map (cell_on 0) (cond b (e ∷ not_above key s) (not_above key s)))))
          here
          ∙ ap (λ xs. value_at key (last_of (map (cell_on 0) (e ∷ xs)))) (none_below key s fails)
          ∙ ap (λ o. cond (is_eq o) (Some e.1) None) equal)
      | Greater ↦ λ greater.
          let lower : is_le (key_cmp e.0 key) ≡ true = ap is_le (reversed key e.0 Greater greater) in
          ap (λ o. cond (is_eq o) (Some e.1) (find key_cmp key s)) greater ∙ rest
          ∙ sym (ap (λ b. value_at key (last_of (map (cell_on 0) (cond b (e ∷ not_above key s) (not_above key s)))))
          lower
          ∙ value_past key (cell_on 0 e) (map (cell_on 0) (not_above key s)) (ap is_eq greater))
    ] refl

-- the floor of the lowest group on the search path is the last pair that is not above the key
pub floor_is_last : (d : Draw) (key : List ℕ) (s : List Pair)
    → floor_of key (group_of_place d 0 (not_above key s) (above key s)) ≡ last_of (map (cell_on 0) (not_above key s))
floor_is_last d key s =
    let low = not_above key s in
    let cuts = leads_group d 0 in
    floor_of_place d 0 key low (above key s) (side_passes d 0 key s) (side_fails d 0 key s)
    ∙ sym (last_of_whole cuts (level_list d low 0) (last_part cuts (level_list d low 0)))
    ∙ ap last_of (cells_of_all d low)

-- so it is with the floor of the lowest group on the search path
pub value_of_floor : (d : Draw) (key : List ℕ) (s : List Pair) → IsStrictlySortedBy (λ a b. key_cmp a.0 b.0) s
    → value_at key (floor_of key (group_of_place d 0 (not_above key s) (above key s))) ≡ find key_cmp key s
value_of_floor d key s rising = ap (value_at key) (floor_is_last d key s) ∙ sym (value_of_last key s rising)
