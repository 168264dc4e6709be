-- How many cells from the front on are not above a key: what one comparison says of it.
use Rattle.std.proofs.Common.{◌≡◌, ℕ, zero, suc, ◌+◌, ◌<◌, ◌≤◌, List, [], ◌∷◌, map, length, Bool, true, false, cond}
use Rattle.std.proofs.Common.{Some, IfSome, Less, Equal, Greater, refl, sym, ap, subst, ◌∙◌, arith}
use Rattle.std.specs.Ordering.{is_le}
use Rattle.std.specs.List.{AllByRecursion, prefix_len, slice_get}
use Rattle.std.specs.List.Sorted.{IsStrictlySortedBy}
use Rattle.std.specs.Cmp.Lexicographic.{nat_list_cmp_total}
use Rattle.store_model.specs.Paths.{key_cmp}
use Rattle.store_model.specs.Pages.{Cell}
use Rattle.store_model.proofs.ListsLemmas.{rising_head, rising_tail}
use Rattle.node_pages.proofs.PlaceLemmas.{same_key}
use Rattle.skip_groups.specs.Floors.{is_not_above}

pub same_cell : (a b : Cell) → Some a ≡ Some b → a ≡ b
same_cell a b e = cc

pub prefix_len-le : {X : Type 0} (p : X → Bool) (xs : List X) → prefix_len p xs ≤ length xs
prefix_len-le p [] = omega arith
prefix_len-le p (x ∷ xs) = let rest = prefix_len-le p xs
    in elim (p x) as (λ b. cond b (1 + prefix_len p xs) 0 ≤ length (x ∷ xs))
    [ true ↦ omega arith | false ↦ omega arith ]

-- a cell above the key is not among them
pub stops_at : (p : Cell → Bool) (cells : List Cell) (i : ℕ) (cell : Cell) → slice_get cells i ≡ Some cell
    → p cell ≡ false → prefix_len p cells ≤ i
stops_at p [] i cell at fails = absurd (cc)
stops_at p (c ∷ cells) zero cell at fails =
    let here : p c ≡ false = ap p (same_cell c cell at) ∙ fails in
    subst (λ b. cond b (1 + prefix_len p cells) 0 ≤ 0) (sym here) (omega arith)
stops_at p (c ∷ cells) (suc i) cell at fails =
    let rest = stops_at p cells i cell at fails in
    elim (p c) as (λ b. cond b (1 + prefix_len p cells) 0 ≤ suc i) [ true ↦ omega arith | false ↦ omega arith ]

-- a key below one that is not above the key is not above it
below_floor : (a b key : List ℕ) → key_cmp a b ≡ Less → is_le (key_cmp b key) ≡ true → is_le (key_cmp a key) ≡ true
below_floor a b key less le =
    elim (key_cmp b key) as (λ o. key_cmp b key ≡ o → is_le o ≡ true → is_le (key_cmp a key) ≡ true) [
      | Less ↦ λ e h. ap is_le (nat_list_cmp_total.trans a b key less e)
      | Equal ↦ λ e h. ap is_le (subst (λ k. key_cmp a k ≡ Less) (same_key b key e) less)
      | Greater ↦ λ e h. absurd (cc)
    ] refl le

-- a cell that is not above the key is among them, with all before it
pub goes_past : (key : List ℕ) (cells : List Cell) (i : ℕ) (cell : Cell)
    → IsStrictlySortedBy key_cmp (map (λ c. c.key) cells) → slice_get cells i ≡ Some cell → is_not_above key cell ≡ true
    → i + 1 ≤ prefix_len (is_not_above key) cells
goes_past key [] i cell rising at passes = absurd (cc)
goes_past key (c ∷ cells) zero cell rising at passes =
    let here : is_not_above key c ≡ true = ap (is_not_above key) (same_cell c cell at) ∙ passes in
    subst (λ b. 0 + 1 ≤ cond b (1 + prefix_len (is_not_above key) cells) 0) (sym here) (omega arith)
goes_past key (c ∷ cells) (suc i) cell rising at passes =
    let rest = goes_past key cells i cell (rising_tail key_cmp c.key (map (λ x. x.key) cells) rising) at passes in
    let less : key_cmp c.key cell.key ≡ Less =
    key_at cells i (rising_head key_cmp c.key (map (λ x. x.key) cells) rising) at in
    subst (λ b. suc i + 1 ≤ cond b (1 + prefix_len (is_not_above key) cells) 0)
    (sym (below_floor c.key cell.key key less passes)) (omega arith)
  where
    key_at : (xs : List Cell) (j : ℕ) → AllByRecursion (λ k. key_cmp c.key k ≡ Less) (map (λ x. x.key) xs)
        → slice_get xs j ≡ Some cell → key_cmp c.key cell.key ≡ Less
    key_at [] j h at = absurd (cc)
    key_at (x ∷ xs) zero h at = subst (λ (y : Cell). key_cmp c.key y.key ≡ Less) (same_cell x cell at) h.0
    key_at (x ∷ xs) (suc j) h at = key_at xs j h.1 at

pub cell_at : (cells : List Cell) (i : ℕ) → i < length cells → (cell : Cell) × (slice_get cells i ≡ Some cell)
cell_at [] i below = absurd (omega arith)
cell_at (c ∷ cells) zero below = (c, refl)
cell_at (c ∷ cells) (suc i) below = cell_at cells i (omega arith)

-- what the key at a place says
pub key_passes : (key found : List ℕ) (cells : List Cell) (i : ℕ) → IsStrictlySortedBy key_cmp (map (λ c. c.key) cells)
    → i < length cells → IfSome (slice_get cells i) (λ cell. cell.key ≡ found) → is_le (key_cmp found key) ≡ true
    → i + 1 ≤ prefix_len (is_not_above key) cells
key_passes key found cells i rising below is passes =
    let at = cell_at cells i below in
    let same : at.0.key ≡ found = subst (λ o. IfSome o (λ (cell : Cell). cell.key ≡ found)) at.1 is in
    goes_past key cells i at.0 rising at.1 (subst (λ k. is_le (key_cmp k key) ≡ true) (sym same) passes)

pub key_stops : (key found : List ℕ) (cells : List Cell) (i : ℕ) → i < length cells
    → IfSome (slice_get cells i) (λ cell. cell.key ≡ found) → is_le (key_cmp found key) ≡ false
    → prefix_len (is_not_above key) cells ≤ i
key_stops key found cells i below is fails =
    let at = cell_at cells i below in
    let same : at.0.key ≡ found = subst (λ o. IfSome o (λ (cell : Cell). cell.key ≡ found)) at.1 is in
    stops_at (is_not_above key) cells i at.0 at.1 (subst (λ k. is_le (key_cmp k key) ≡ false) (sym same) fails)
