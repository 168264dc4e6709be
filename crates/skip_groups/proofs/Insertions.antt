-- The cell of a key that comes into a page with room.
use Rattle.std.proofs.Common.{◌≡◌, ℕ, zero, suc, ◌+◌, ◌-◌, ◌<◌, ◌≤◌, List, [], ◌∷◌, ◌++◌, length, take, drop, get_or}
use Rattle.std.proofs.Common.{true, false, cond, Some, IfSome, Ordering, Less, Equal, Greater, refl, sym, ap, subst}
use Rattle.std.proofs.Common.{◌∙◌, arith}
use Rattle.std.specs.Bool.{◌==◌}
use Rattle.std.specs.Ordering.{ordering_index}
use Rattle.std.specs.List.{AllByRecursion, slice_get}
use Rattle.std.specs.List.Sorted.{IsStrictlySortedBy}
use Rattle.std.specs.Cmp.Lexicographic.{nat_list_cmp_total}
use Rattle.std.proofs.lemmas.List.{length-append, length-take, take-append-drop}
use Rattle.store_model.specs.Paths.{key_cmp}
use Rattle.store_model.specs.Labels.{Lead}
use Rattle.store_model.specs.Labels.Lead.{Leader}
use Rattle.store_model.specs.Pages.{Cell, Page, IsCell, IsPage, page_room}
use Rattle.store_model.proofs.ListsLemmas.{all_append, all_weaker, rising_append, rising_back, rising_cons}
use Rattle.store_model.proofs.ListsLemmas.{rising_front, rising_from_map, rising_to_map}
use Rattle.node_pages.proofs.EntryLemmas.{all_drop, all_take}
use Rattle.node_pages.proofs.PlaceLemmas.{reversed, same_key}
use Rattle.skip_groups.specs.Floors.{last_of, lead_from}
use Rattle.skip_groups.specs.GroupCells.{AreBetween, compares, side}
use Rattle.skip_groups.specs.InsertPlaces.{IsInsertPlace}
use Rattle.skip_groups.proofs.CellLists.{last_at}
use Rattle.skip_groups.proofs.Halving.{cell_at}
use Rattle.skip_groups.proofs.Sides.{merged_are, side_all}

same_order : (a b : Ordering) → (ordering_index a == ordering_index b) ≡ true → a ≡ b
same_order Less Less e = refl
same_order Less Equal e = absurd (cc)
same_order Less Greater e = absurd (cc)
same_order Equal Less e = absurd (cc)
same_order Equal Equal e = refl
same_order Equal Greater e = absurd (cc)
same_order Greater Less e = absurd (cc)
same_order Greater Equal e = absurd (cc)
same_order Greater Greater e = refl

-- a list of one cell
pub one_cell : (cells : List Cell) (cell : Cell) → length cells ≡ 1 → cell ≡ get_or cells 0 cell → cells ≡ cell ∷ []
one_cell [] cell one is = absurd (omega arith)
one_cell (c ∷ []) cell one is = ap (λ x. x ∷ []) (sym is)
one_cell (c ∷ d ∷ cells) cell one is = absurd (omega arith)

-- what leads on behind the cells before a place
pub lead_at : (cells : List Cell) (at : ℕ) (key : List ℕ) (lead : Lead) → 0 < at → at ≤ length cells
    → IfSome (slice_get cells (at - 1)) (λ c. c.key ≡ key) → Leader key ≡ lead_from (last_of (take at cells)) lead
lead_at cells at key lead some within is =
    let cell = cell_at cells (at - 1) (omega arith) in
    let key_is : cell.0.key ≡ key = subst (λ o. IfSome o (λ (c : Cell). c.key ≡ key)) cell.1 is in
    let long : length (take at cells) ≡ at = omega (arith, length-take at cells) in
    let there : slice_get (take at cells) (length (take at cells) - 1) ≡ Some cell.0 =
    ap (λ n. slice_get (take at cells) (n - 1)) long ∙ get_taken cells (at - 1) at (omega arith) ∙ cell.1 in
    ap Leader (sym key_is) ∙ ap (λ o. lead_from o lead) (sym (last_at (take at cells) cell.0 there))
  where
    get_taken : (xs : List Cell) (i n : ℕ) → i < n → slice_get (take n xs) i ≡ slice_get xs i
    get_taken xs i zero below = absurd (omega arith)
    get_taken [] i (suc n) below = refl
    get_taken (x ∷ xs) zero (suc n) below = refl
    get_taken (x ∷ xs) (suc i) (suc n) below = get_taken xs i n (omega arith)

pub lead_at_start : (cells : List Cell) (lead : Lead) → lead ≡ lead_from (last_of (take 0 cells)) lead
unfolding last_of
lead_at_start cells lead = refl

-- the cells of a side compare so
side_compares : (order : Ordering) (key : List ℕ) (cells : List Cell)
    → AllByRecursion (λ c. key_cmp c.key key ≡ order) (side order key cells)
side_compares order key [] = tt
side_compares order key (c ∷ cells) =
    elim (compares order key c) as (λ b. compares order key c ≡ b
    → AllByRecursion (λ c. key_cmp c.key key ≡ order) (cond b (c ∷ side order key cells) (side order key cells))) [
      | true ↦ λ e. (same_order (key_cmp c.key key) order e, side_compares order key cells)
      | false ↦ λ e. side_compares order key cells
    ] refl

module _ (level : ℕ) (key : List ℕ) (page : Page) (cell : Cell) (at : ℕ) (valid : IsPage page)
    (same : page.label.level ≡ level) (room : length page.cells < page_room level) (is : IsCell level cell)
    (tie : key_cmp cell.key key ≡ Equal) (between : AreBetween key page.cells at at) where
  abbrev low : List Cell
  low = take at page.cells

  abbrev high : List Cell
  high = drop at page.cells

  parts : low ++ high ≡ page.cells
  parts = take-append-drop at page.cells

  longer : length (low ++ cell ∷ high) ≡ length page.cells + 1
  longer = omega (arith, length-append low (cell ∷ high), length-append low high, ap length parts)

  rises : IsStrictlySortedBy (λ (a b : Cell). key_cmp a.key b.key) (low ++ cell ∷ high)
  rises =
      let cmp = λ (a b : Cell). key_cmp a.key b.key in
      let own_key = same_key cell.key key tie in
      let rising = subst (IsStrictlySortedBy cmp) (sym parts)
      (rising_from_map key_cmp (λ (c : Cell). c.key) page.cells valid.rising) in
      let lows = subst (AllByRecursion (λ (c : Cell). key_cmp c.key key ≡ Less)) (sym between.low)
      (side_compares Less key page.cells) in
      let highs = subst (AllByRecursion (λ (c : Cell). key_cmp c.key key ≡ Greater)) (sym between.high)
      (side_compares Greater key page.cells) in
      let above = all_weaker (λ (c : Cell). key_cmp c.key key ≡ Greater) (λ (c : Cell). key_cmp cell.key c.key ≡ Less)
      (λ c e. ap (λ k. key_cmp k c.key) own_key ∙ reversed c.key key Greater e) high highs in
      let below = all_weaker (λ (c : Cell). key_cmp c.key key ≡ Less)
      (λ (c : Cell). AllByRecursion (λ (d : Cell). key_cmp c.key d.key ≡ Less) (cell ∷ high))
      (λ c e.
      let less = ap (key_cmp c.key) own_key ∙ e in (
        less,
        all_weaker (λ (d : Cell). key_cmp cell.key d.key ≡ Less) (λ (d : Cell). key_cmp c.key d.key ≡ Less)
            (λ d further. nat_list_cmp_total.trans c.key cell.key d.key less further) high above,
      )) low lows in
      rising_append cmp low (cell ∷ high) (rising_front cmp low high rising)
      (rising_cons cmp cell high above (rising_back cmp low high rising)) below

  pub is_place : (own : List Cell) → own ≡ cell ∷ [] → IsInsertPlace level key own page at
  is_place own own_is = record {
    room = room;
    cell = cell;
    own_is = own_is;
    takes = record {
      within = between.within;
      valid = record {
        label = valid.label;
        some_cell = omega (arith, longer);
        room = omega (arith, longer, room, ap page_room same);
        cells = all_append (IsCell page.label.level) low (cell ∷ high)
            (all_take (IsCell page.label.level) at page.cells valid.cells)
            (subst (λ n. IsCell n cell) (sym same) is, all_drop (IsCell page.label.level) at page.cells valid.cells);
        rising = rising_to_map key_cmp (λ (c : Cell). c.key) (low ++ cell ∷ high) rises;
      };
    };
    low = between.low;
    made = sym (ap (λ xs. (side Less key page.cells ++ side Equal key xs) ++ side Greater key page.cells) own_is
        ∙ merged_are key page.cells (cell ∷ []) page.cells low (cell ∷ []) high (sym between.low)
        (side_all Equal key (cell ∷ []) (tie, tt)) (sym between.high));
  }
