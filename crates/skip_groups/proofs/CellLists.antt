-- Cells that rise, one more behind them, and the cells on the sides of a key.
use Rattle.std.proofs.Common.{◌≡◌, ℕ, suc, ◌+◌, ◌-◌, ◌<◌, List, [], ◌∷◌, ◌++◌, map, length, take, drop, get_or, Bool}
use Rattle.std.proofs.Common.{true, false, cond, Some, None, Ordering, Less, Equal, Greater, refl, sym, ap, subst, ◌∙◌}
use Rattle.std.proofs.Common.{append_assoc, arith}
use Rattle.std.specs.Ordering.{is_lt}
use Rattle.std.specs.List.{slice_get}
use Rattle.std.specs.List.Sorted.{IsStrictlySortedBy}
use Rattle.std.specs.Cmp.Lexicographic.{nat_list_cmp_total}
use Rattle.std.proofs.lemmas.List.{map-append, take_more, take-append-drop, append-nil}
use Rattle.std.proofs.lemmas.List.Elements.{filter-append}
use Rattle.store_model.specs.Paths.{key_cmp}
use Rattle.store_model.specs.Pages.{Cell, IsCell}
use Rattle.store_model.proofs.ListsLemmas.{all_append, all_front, all_back, all_weaker, rising_one, rising_nil}
use Rattle.store_model.proofs.ListsLemmas.{rising_cons, rising_head, rising_tail, rising_front, rising_back}
use Rattle.node_pages.specs.Cells.{CellList}
use Rattle.skip_groups.specs.Floors.{last_of}
use Rattle.skip_groups.specs.GroupCells.{AreCells, IsRisingList, last_key_of, is_behind, compares, side, merged}

-- the last cell stands at the last place
pub last_at : (cells : List Cell) (cell : Cell) → slice_get cells (length cells - 1) ≡ Some cell
    → last_of cells ≡ Some cell
unfolding last_of
last_at [] cell e = absurd (cc)
last_at (c ∷ []) cell e = e
last_at (c ∷ d ∷ cells) cell e =
    let here : length (c ∷ d ∷ cells) - 1 ≡ suc (length (d ∷ cells) - 1) = omega arith in
    last_at (d ∷ cells) cell (subst (λ n. slice_get (c ∷ d ∷ cells) n ≡ Some cell) here e)

pub no_last : (cells : List Cell) → cells ≡ [] → None ≡ last_key_of cells
unfolding last_of
no_last cells e = sym (ap last_key_of e)

pub less_from_test : (o : Ordering) → is_lt o ≡ true → o ≡ Less
less_from_test Less e = refl
less_from_test Equal e = absurd (cc)
less_from_test Greater e = absurd (cc)

-- a key above the last one goes behind keys that rise
rising_push : (cells : List Cell) (cell : Cell) → IsStrictlySortedBy key_cmp (map (λ c. c.key) cells)
    → is_behind cell.key (last_key_of cells) ≡ true → IsStrictlySortedBy key_cmp (map (λ c. c.key) (cells ++ cell ∷ []))
unfolding last_of
rising_push [] cell rising above = rising_one key_cmp cell.key
rising_push (c ∷ []) cell rising above =
    rising_cons key_cmp c.key (cell.key ∷ []) (less_from_test (key_cmp c.key cell.key) above, tt)
    (rising_one key_cmp cell.key)
rising_push (c ∷ d ∷ cells) cell rising above =
    let keys : List Cell → List (List ℕ) = map (λ x. x.key) in
    let rest = rising_push (d ∷ cells) cell (rising_tail key_cmp c.key (keys (d ∷ cells)) rising) above in
    let next = rising_head key_cmp c.key (keys (d ∷ cells)) rising in
    let further = rising_head key_cmp d.key (keys (cells ++ cell ∷ [])) rest in
    rising_cons key_cmp c.key (keys (d ∷ cells ++ cell ∷ [])) (
      next.0,
      all_weaker (λ k. key_cmp d.key k ≡ Less) (λ k. key_cmp c.key k ≡ Less)
          (λ k less. nat_list_cmp_total.trans c.key d.key k next.0 less) (keys (cells ++ cell ∷ [])) further,
    ) rest

-- and the last of keys that rise is above the one before it
behind_last : (cells : List Cell) (cell : Cell) → IsStrictlySortedBy key_cmp (map (λ c. c.key) (cells ++ cell ∷ []))
    → is_behind cell.key (last_key_of cells) ≡ true
unfolding last_of
behind_last [] cell rising = refl
behind_last (c ∷ []) cell rising = ap is_lt (rising_head key_cmp c.key (cell.key ∷ []) rising).0
behind_last (c ∷ d ∷ cells) cell rising =
    behind_last (d ∷ cells) cell (rising_tail key_cmp c.key (map (λ x. x.key) (d ∷ cells ++ cell ∷ [])) rising)

-- ---- cells of a level

module _ (level : ℕ) where
  pub no_list : {list : CellList} → list ≡ record { level = level; cells = [] } → IsRisingList level list
  no_list same = subst (IsRisingList level) (sym same)
      (record { level_is = refl; cells = record { each = tt; rising = rising_nil key_cmp } })

  pub front_cells : (xs ys : List Cell) → AreCells level (xs ++ ys) → AreCells level xs
  front_cells xs ys h = record {
    each = all_front (IsCell level) xs ys h.each;
    rising = rising_front key_cmp (map (λ c. c.key) xs) (map (λ c. c.key) ys)
        (subst (IsStrictlySortedBy key_cmp) (map-append (λ (c : Cell). c.key) xs ys) h.rising);
  }

  pub back_cells : (xs ys : List Cell) → AreCells level (xs ++ ys) → AreCells level ys
  back_cells xs ys h = record {
    each = all_back (IsCell level) xs ys h.each;
    rising = rising_back key_cmp (map (λ c. c.key) xs) (map (λ c. c.key) ys)
        (subst (IsStrictlySortedBy key_cmp) (map-append (λ (c : Cell). c.key) xs ys) h.rising);
  }

  -- one cell more
  pub cells_push : (cells : List Cell) (cell : Cell) → AreCells level cells → IsCell level cell
      → is_behind cell.key (last_key_of cells) ≡ true → AreCells level (cells ++ cell ∷ [])
  cells_push cells cell h is above = record {
    each = all_append (IsCell level) cells (cell ∷ []) h.each (is, tt);
    rising = rising_push cells cell h.rising above;
  }

  -- what makes cells of the level with those before it is one, and is above them
  pub last_is_cell : (cells : List Cell) (cell : Cell) → AreCells level (cells ++ cell ∷ []) → IsCell level cell
  last_is_cell cells cell h = (all_back (IsCell level) cells (cell ∷ []) h.each).0

  pub last_is_above : (cells : List Cell) (cell : Cell) → AreCells level (cells ++ cell ∷ [])
      → is_behind cell.key (last_key_of cells) ≡ true
  last_is_above cells cell h = behind_last cells cell h.rising

-- ---- the cells on a side of a key

module _ (order : Ordering) (key : List ℕ) where
  side_one : (cell : Cell) → compares order key cell ≡ true → side order key (cell ∷ []) ≡ cell ∷ []
  side_one cell e = ap (λ b. cond b (cell ∷ []) []) e

  side_none : (cell : Cell) → compares order key cell ≡ false → side order key (cell ∷ []) ≡ []
  side_none cell e = ap (λ b. cond b (cell ∷ []) []) e

  side_next : (from : List Cell) (i : ℕ) (cell : Cell) → i < length from → cell ≡ get_or from i cell
      → side order key (take (i + 1) from) ≡ side order key (take i from) ++ side order key (cell ∷ [])
  side_next from i cell below is =
      ap (side order key) (take_more from i cell below ∙ ap (λ x. take i from ++ x ∷ []) (sym is))
      ∙ filter-append (compares order key) (take i from) (cell ∷ [])

  pub side_goes_on : (from : List Cell) (i : ℕ) (cell : Cell) → i < length from → cell ≡ get_or from i cell
      → compares order key cell ≡ true → side order key (take (i + 1) from) ≡ side order key (take i from) ++ cell ∷ []
  side_goes_on from i cell below is e = side_next from i cell below is
      ∙ ap (λ xs. side order key (take i from) ++ xs) (side_one cell e)

  pub side_stays : (from : List Cell) (i : ℕ) (cell : Cell) → i < length from → cell ≡ get_or from i cell
      → compares order key cell ≡ false → side order key (take (i + 1) from) ≡ side order key (take i from)
  side_stays from i cell below is e = side_next from i cell below is
      ∙ ap (λ xs. side order key (take i from) ++ xs) (side_none cell e) ∙ append-nil (side order key (take i from))

  -- one more of them behind the cells so far
  pub side_step : (old from cells : List Cell) (i : ℕ) (item : Cell) → i < length from → item ≡ get_or from i item
      → compares order key item ≡ true → cells ≡ old ++ side order key (take i from)
      → old ++ side order key (take (i + 1) from) ≡ cells ++ item ∷ []
  side_step old from cells i item below is e so_far =
      ap (λ xs. old ++ xs) (side_goes_on from i item below is e)
      ∙ sym (append_assoc old (side order key (take i from)) (item ∷ [])) ∙ ap (λ xs. xs ++ item ∷ []) (sym so_far)

  -- the cells so far, where all of them are cells of the level
  pub side_within : (level : ℕ) (front from : List Cell) (i : ℕ) → AreCells level (front ++ side order key from)
      → AreCells level (front ++ side order key (take i from))
  side_within level front from i h =
      let parts : front ++ side order key from ≡ (front ++ side order key (take i from))
      ++ side order key (drop i from) =
      ap (λ xs. front ++ xs) (ap (side order key) (sym (take-append-drop i from))
      ∙ filter-append (compares order key) (take i from) (drop i from))
      ∙ sym (append_assoc front (side order key (take i from)) (side order key (drop i from))) in
      front_cells level (front ++ side order key (take i from)) (side order key (drop i from))
      (subst (AreCells level) parts h)

-- no test both holds and fails
pub not_both : (b : Bool) → b ≡ true → b ≡ false → ⊥
not_both b holds fails = let e : true ≡ false = sym holds ∙ fails in cc

-- ---- the cells of two groups on the sides of a key

-- what was added step by step
pub merged_cells : (level : ℕ) (key : List ℕ) (start own low high first second third : List Cell) → start ≡ []
    → AreCells level (merged key low own high)
    → (AreCells level (start ++ side Less key low) → first ≡ start ++ side Less key low)
    → (AreCells level (first ++ side Equal key own) → second ≡ first ++ side Equal key own)
    → (AreCells level (second ++ side Greater key high) → third ≡ second ++ side Greater key high)
    → (first ≡ side Less key low) × (third ≡ merged key low own high)
merged_cells level key start own low high first second third start_is valid one two three =
    let below = side Less key low in
    let same = side Equal key own in
    let above = side Greater key high in
    let both : AreCells level (below ++ same) = front_cells level (below ++ same) above valid in
    let s1 : start ++ below ≡ below = ap (λ a. a ++ below) start_is in
    let e1 : first ≡ below = one (subst (AreCells level) (sym s1) (front_cells level below same both)) ∙ s1 in
    let s2 : first ++ same ≡ below ++ same = ap (λ a. a ++ same) e1 in
    let e2 : second ≡ below ++ same = two (subst (AreCells level) (sym s2) both) ∙ s2 in
    let s3 : second ++ above ≡ merged key low own high = ap (λ a. a ++ above) e2 in
    (e1, three (subst (AreCells level) (sym s3) valid) ∙ s3)
