-- Ranges of the cells of a page: those on a side of a key, and how they go behind other cells.
use Rattle.std.proofs.Common.{◌≡◌, ℕ, zero, suc, ◌+◌, ◌-◌, ◌<◌, ◌≤◌, List, [], ◌∷◌, ◌++◌, map, length, take, drop, true}
use Rattle.std.proofs.Common.{cond, Option, Some, None, IfSome, Result, Ok, Err, OnOk, OnErr, Ordering, Less, Equal}
use Rattle.std.proofs.Common.{Greater, refl, sym, ap, ap₂, subst, ◌∙◌, ◌↔◌, append_assoc, arith}
use Rattle.std.specs.Bool.{◌==◌}
use Rattle.std.specs.Ordering.{is_eq, is_le, ordering_index}
use Rattle.std.specs.List.{AllByRecursion, prefix_len, slice_get}
use Rattle.std.specs.List.Sorted.{IsStrictlySortedBy}
use Rattle.std.specs.Option.{option_map}
use Rattle.std.specs.Cmp.Lexicographic.{nat_list_cmp_total}
use Rattle.std.proofs.Math.Seq.{take-append_seam, drop-append_seam}
use Rattle.std.proofs.lemmas.List.{take-append-drop, length-append, length-take, length-drop, append-nil}
use Rattle.store_model.specs.Paths.{key_cmp}
use Rattle.store_model.specs.Pages.{Cell, Page, IsCell, IsCellValue, IsPage}
use Rattle.store_model.proofs.ListsLemmas.{all_append, all_back, all_weaker, rising_append, rising_head, rising_tail}
use Rattle.store_model.proofs.ListsLemmas.{rising_from_map, rising_to_map}
use Rattle.node_pages.proofs.PlaceLemmas.{same_key, reversed}
use Rattle.skip_groups.specs.Floors.{is_not_above}
use Rattle.skip_groups.specs.GroupCells.{AreCells, AreBetween, last_key_of, is_behind, side}
use Rattle.skip_groups.proofs.CellLists.{front_cells, back_cells, cells_push, last_at, last_is_above}
use Rattle.skip_groups.proofs.Sides.{rising_split, AreAround, low_side, own_side, high_side}
use Rattle.skip_groups.proofs.Halving.{same_cell, cell_at}

-- ---- where the cells of a key stand among cells that rise

-- cells below a key, its own, one at most, and cells above it; so many are not above it
pub record Place (key : List ℕ) (cells : List Cell) (count : ℕ) : Type 0 where
  pub low : List Cell
  pub own : List Cell
  pub high : List Cell
  pub parts : cells ≡ low ++ (own ++ high)
  pub around : AreAround key low own high
  pub counted : count ≡ length low + length own
  pub one : length own ≤ 1

none_counted : (key : List ℕ) (cells : List Cell) → AllByRecursion (λ c. key_cmp c.key key ≡ Greater) cells
    → prefix_len (is_not_above key) cells ≡ 0
none_counted key [] h = refl
none_counted key (c ∷ cells) h = ap (λ o. cond (is_le o) (1 + prefix_len (is_not_above key) cells) 0) h.0

place : (key : List ℕ) (cells : List Cell) → IsStrictlySortedBy (λ (a b : Cell). key_cmp a.key b.key) cells
    → Place key cells (prefix_len (is_not_above key) cells)
place key [] rising = record {
  low = [];
  own = [];
  high = [];
  parts = refl;
  around = record { below = tt; same = tt; above = tt };
  counted = refl;
  one = omega arith;
}
place key (c ∷ cells) rising =
    let cmp = λ (a b : Cell). key_cmp a.key b.key in
    let further = rising_head cmp c cells rising in
    let count = λ (o : Ordering) (e : key_cmp c.key key ≡ o).
    ap (λ x. cond (is_le x) (1 + prefix_len (is_not_above key) cells) 0) e in
    elim (key_cmp c.key key) as (λ o. key_cmp c.key key ≡ o
    → Place key (c ∷ cells) (prefix_len (is_not_above key) (c ∷ cells))) [
      | Less ↦ λ e.
          let rest = place key cells (rising_tail cmp c cells rising) in
          record {
            low = c ∷ rest.low;
            own = rest.own;
            high = rest.high;
            parts = ap (λ xs. c ∷ xs) rest.parts;
            around = record { below = (e, rest.around.below); same = rest.around.same; above = rest.around.above };
            counted = omega (arith, count Less e, rest.counted);
            one = rest.one;
          }
      | Equal ↦ λ e.
          let above = all_weaker (λ (x : Cell). key_cmp c.key x.key ≡ Less) (λ x. key_cmp x.key key ≡ Greater)
          (λ x less. reversed key x.key Less (subst (λ k. key_cmp k x.key ≡ Less) (same_key c.key key e) less))
          cells further in
          record {
            low = [];
            own = c ∷ [];
            high = cells;
            parts = refl;
            around = record { below = tt; same = (e, tt); above = above };
            counted = omega (arith, count Equal e, none_counted key cells above);
            one = omega arith;
          }
      | Greater ↦ λ e.
          let less = reversed c.key key Greater e in
          let above = all_weaker (λ (x : Cell). key_cmp c.key x.key ≡ Less) (λ x. key_cmp x.key key ≡ Greater)
          (λ x more. reversed key x.key Less (nat_list_cmp_total.trans key c.key x.key less more)) cells further in
          record {
            low = [];
            own = [];
            high = c ∷ cells;
            parts = refl;
            around = record { below = tt; same = tt; above = (e, above) };
            counted = count Greater e;
            one = omega arith;
          }
    ] refl

at_low : (P : Cell → Type 0) (low rest : List Cell) (i : ℕ) (c : Cell) → AllByRecursion P low → i < length low
    → slice_get (low ++ rest) i ≡ Some c → P c
at_low P [] rest i c h below at = absurd (omega arith)
at_low P (x ∷ low) rest zero c h below at = subst P (same_cell x c at) h.0
at_low P (x ∷ low) rest (suc i) c h below at = at_low P low rest i c h.1 (omega arith) at

at_seam : (low rest : List Cell) (x c : Cell) → slice_get (low ++ x ∷ rest) (length low) ≡ Some c → x ≡ c
at_seam [] rest x c at = same_cell x c at
at_seam (y ∷ low) rest x c at = at_seam low rest x c at

pub place_in : (key : List ℕ) (cells : List Cell) (count : ℕ) → IsStrictlySortedBy key_cmp (map (λ c. c.key) cells)
    → count ≡ prefix_len (is_not_above key) cells → Place key cells count
place_in key cells count rising is =
    subst (Place key cells) (sym is) (place key cells (rising_from_map key_cmp (λ (c : Cell). c.key) cells rising))

module _ (key : List ℕ) (cells : List Cell) (count : ℕ) (p : Place key cells count) where
  pub between : (at : ℕ) → length p.low ≡ at → AreBetween key cells at count
  between at long =
      let both = p.parts ∙ sym (append_assoc p.low p.own p.high) in
      let past : length (p.low ++ p.own) ≡ count = omega (arith, length-append p.low p.own, p.counted) in
      let taken : take count cells ≡ p.low ++ p.own =
      ap (take count) both ∙ subst (λ n. take n ((p.low ++ p.own) ++ p.high) ≡ p.low ++ p.own) past
      (take-append_seam (p.low ++ p.own) p.high) in
      let dropped : drop count cells ≡ p.high = ap (drop count) both
      ∙ subst (λ n. drop n ((p.low ++ p.own) ++ p.high) ≡ p.high) past (drop-append_seam (p.low ++ p.own) p.high) in
      record {
        within = omega (
          arith,
          ap length p.parts,
          length-append p.low (p.own ++ p.high),
          length-append p.own p.high,
          p.counted,
        );
        low = ap (take at) p.parts ∙ subst (λ n. take n (p.low ++ (p.own ++ p.high)) ≡ p.low) long
            (take-append_seam p.low (p.own ++ p.high))
            ∙ sym (ap (side Less key) p.parts ∙ low_side key p.low p.own p.high p.around);
        own = ap (drop at) taken ∙ subst (λ n. drop n (p.low ++ p.own) ≡ p.own) long (drop-append_seam p.low p.own)
            ∙ sym (ap (side Equal key) p.parts ∙ own_side key p.low p.own p.high p.around);
        high = dropped ∙ sym (ap (side Greater key) p.parts ∙ high_side key p.low p.own p.high p.around);
      }

  -- the last cell that is not above the key tells whether the key has one
  module _ (found : List ℕ) (some : 0 < count) (within : count ≤ length cells)
      (is : IfSome (slice_get cells (count - 1)) (λ c. c.key ≡ found)) where
    last_one : (c : Cell) × ((slice_get (p.low ++ (p.own ++ p.high)) (count - 1) ≡ Some c) × (c.key ≡ found))
    last_one =
        let at = cell_at cells (count - 1) (omega arith) in (
          at.0,
          (
            sym (ap (λ xs. slice_get xs (count - 1)) p.parts)
                ∙ at.1,
            subst (λ o. IfSome o (λ (c : Cell). c.key ≡ found)) at.1 is,
          ),
        )

    pub has_own : key_cmp found key ≡ Equal → AreBetween key cells (count - 1) count
    has_own equal = between (count - 1) (long p.own p.one refl)
      where
        long : (own : List Cell) → length own ≤ 1 → p.own ≡ own → length p.low ≡ count - 1
        long [] few e =
            let c = last_one in
            let here : count - 1 < length p.low = omega (arith, p.counted, ap length e, some) in
            let less : key_cmp c.0.key key ≡ Less =
            at_low (λ (x : Cell). key_cmp x.key key ≡ Less) p.low (p.own ++ p.high)
            (count - 1) c.0 p.around.below here c.1.0 in
            let tie : key_cmp c.0.key key ≡ Equal = ap (λ k. key_cmp k key) c.1.1 ∙ equal in
            let clash : Less ≡ Equal = sym less ∙ tie in
            absurd (cc)
        long (x ∷ []) few e = omega (arith, p.counted, ap length e)
        long (x ∷ y ∷ own) few e = absurd (omega arith)

    pub lacks_own : (key_cmp found key ≡ Equal → ⊥) → AreBetween key cells count count
    lacks_own other = between count (long p.own p.one refl)
      where
        long : (own : List Cell) → length own ≤ 1 → p.own ≡ own → length p.low ≡ count
        long [] few e = omega (arith, p.counted, ap length e)
        long (x ∷ []) few e =
            let c = last_one in
            let here : count - 1 ≡ length p.low = omega (arith, p.counted, ap length e) in
            let at : slice_get (p.low ++ (x ∷ p.high)) (length p.low) ≡ Some c.0 =
            ap₂ (λ own n. slice_get (p.low ++ (own ++ p.high)) n) (sym e) (sym here) ∙ c.1.0 in
            let same : AllByRecursion (λ c. key_cmp c.key key ≡ Equal) (x ∷ []) =
            subst (AllByRecursion (λ c. key_cmp c.key key ≡ Equal)) e p.around.same in
            absurd (other (ap (λ k. key_cmp k key)
            (sym (ap (λ (y : Cell). y.key) (at_seam p.low p.high x c.0 at) ∙ c.1.1)) ∙ same.0))
        long (x ∷ y ∷ own) few e = absurd (omega arith)

  pub has_none : count ≡ 0 → AreBetween key cells count count
  has_none none = between count (omega (arith, p.counted))

-- cells that are all below the key
pub all_between : (key : List ℕ) (cells : List Cell) → AllByRecursion (λ c. key_cmp c.key key ≡ Less) cells
    → AreBetween key cells (length cells) (length cells)
all_between key cells below =
    let counted : length cells ≡ length cells + 0 = omega arith in
    between key cells (length cells) (record {
      low = cells;
      own = [];
      high = [];
      parts = sym (append-nil cells);
      around = record { below = below; same = tt; above = tt };
      counted = counted;
      one = omega arith;
    })
    (length cells) refl

-- the key at the last place
pub last_key_at : (cells : List Cell) (key : List ℕ) → (cells ≡ [] → ⊥)
    → IfSome (slice_get cells (length cells - 1)) (λ c. c.key ≡ key) → Some key ≡ last_key_of cells
last_key_at [] key some is = absurd (some refl)
last_key_at (x ∷ cells) key some is =
    let at = cell_at (x ∷ cells) (length (x ∷ cells) - 1) (omega arith) in
    let same : at.0.key ≡ key = subst (λ o. IfSome o (λ (c : Cell). c.key ≡ key)) at.1 is in
    sym (ap (option_map (λ (c : Cell). c.key)) (last_at (x ∷ cells) at.0 at.1) ∙ ap (λ k. Some k) same)

-- a call that leaves one thing where it succeeds, and another one where it fails
pub either_way : {T E A B P : Type 0} (result : Result T E) → OnOk result A → OnErr result B → (A → P) → (B → P) → P
either_way (Ok x) ok err f g = f ok
either_way (Err e) ok err f g = g err

-- the cells of a key are those that tie with it
pub tied : (order : Ordering) → (ordering_index order == ordering_index Equal) ≡ is_eq order
tied Less = refl
tied Equal = refl
tied Greater = refl

-- ---- a range behind other cells

-- cells that rise behind others, the first of them above the last of those
pub cells_join : (level : ℕ) (xs ys : List Cell) (y : Cell) → AreCells level xs → AreCells level ys
    → slice_get ys 0 ≡ Some y → is_behind y.key (last_key_of xs) ≡ true → AreCells level (xs ++ ys)
cells_join level xs [] y front back first above = absurd (cc)
cells_join level xs (z ∷ ys) y front back first above =
    let same : z ≡ y = cc in
    let over : is_behind z.key (last_key_of xs) ≡ true =
    subst (λ (c : Cell). is_behind c.key (last_key_of xs) ≡ true) (sym same) above in
    let cmp = λ (a b : Cell). key_cmp a.key b.key in
    let pushed = cells_push level xs z front back.each.0 over in
    let lows = (rising_split cmp xs z [] (rising_from_map key_cmp (λ (c : Cell). c.key) (xs ++ z ∷ []) pushed.rising)).0
    in
    let behind = rising_from_map key_cmp (λ (c : Cell). c.key) (z ∷ ys) back.rising in
    let below = all_weaker (λ (x : Cell). key_cmp x.key z.key ≡ Less)
    (λ (x : Cell). AllByRecursion (λ (c : Cell). key_cmp x.key c.key ≡ Less) (z ∷ ys))
    (λ x less. (
      less,
      all_weaker (λ (c : Cell). key_cmp z.key c.key ≡ Less) (λ (c : Cell). key_cmp x.key c.key ≡ Less)
          (λ c further. nat_list_cmp_total.trans x.key z.key c.key less further) ys (rising_head cmp z ys behind),
    )) xs
    lows in
    record {
      each = all_append (IsCell level) xs (z ∷ ys) front.each back.each;
      rising = rising_to_map key_cmp (λ (c : Cell). c.key) (xs ++ z ∷ ys)
          (rising_append cmp xs (z ∷ ys) (rising_from_map key_cmp (λ (c : Cell). c.key) xs front.rising) behind below);
    }

-- the same by the key of the first of them
pub cells_behind : (level : ℕ) (xs ys : List Cell) (k : List ℕ) → AreCells level xs → AreCells level ys → 1 ≤ length ys
    → IfSome (slice_get ys 0) (λ cell. cell.key ≡ k) → is_behind k (last_key_of xs) ≡ true → AreCells level (xs ++ ys)
cells_behind level xs ys k front back some first above =
    let at = cell_at ys 0 (omega arith) in
    let same : at.0.key ≡ k = subst (λ o. IfSome o (λ (cell : Cell). cell.key ≡ k)) at.1 first in
    cells_join level xs ys at.0 front back at.1 (subst (λ q. is_behind q (last_key_of xs) ≡ true) (sym same) above)

-- the first cell of a range
range_first : (cells : List Cell) (first past : ℕ) → first < past
    → slice_get (drop first (take past cells)) 0 ≡ slice_get cells first
range_first cells first zero below = absurd (omega arith)
range_first [] zero (suc past) below = refl
range_first [] (suc first) (suc past) below = refl
range_first (c ∷ cells) zero (suc past) below = refl
range_first (c ∷ cells) (suc first) (suc past) below = range_first cells first past (omega arith)

pub no_range : (cells : List Cell) (first past : ℕ) → first ≡ past → drop first (take past cells) ≡ []
no_range cells first past same = subst (λ n. drop first (take n cells) ≡ []) same (nothing first cells)
  where
    nothing : (n : ℕ) (xs : List Cell) → drop n (take n xs) ≡ []
    nothing zero xs = refl
    nothing (suc n) [] = refl
    nothing (suc n) (x ∷ xs) = nothing n xs

range_length : (cells : List Cell) (first past : ℕ) → first ≤ past → past ≤ length cells
    → length (drop first (take past cells)) ≡ past - first
range_length cells first past order within = omega (arith, length-drop first (take past cells), length-take past cells)

-- the cells of a level are those of each other level that has values or has none, as it does
value_on : (level other : ℕ) → ((level ≡ 0) ↔ (other ≡ 0)) → (value : Option (List ℕ)) → IsCellValue other value
    → IsCellValue level value
value_on level other same (Some v) h = (same.1 h.0, h.1)
value_on zero other same None h = absurd (let none = same.0 refl in omega arith)
value_on (suc level) other same None h = omega arith

cell_on_level : (level other : ℕ) → ((level ≡ 0) ↔ (other ≡ 0)) → (cell : Cell) → IsCell other cell → IsCell level cell
cell_on_level level other same cell h = record {
  key_length = h.key_length;
  key_bytes = h.key_bytes;
  value = value_on level other same cell.value h.value;
}

value_tells : (level other : ℕ) (value : Option (List ℕ)) → IsCellValue level value → IsCellValue other value
    → (level ≡ 0) ↔ (other ≡ 0)
value_tells level other (Some v) h h' = (λ e. h'.0, λ e. h.0)
value_tells level other None h h' = (λ e. absurd (omega arith), λ e. absurd (omega arith))

module _ (level : ℕ) (page : Page) (first past : ℕ) (order : first ≤ past) (within : past ≤ length page.cells)
    (valid : IsPage page) where
  abbrev pub range : List Cell
  range = drop first (take past page.cells)

  range_cells : AreCells page.label.level range
  range_cells =
      let all : AreCells page.label.level page.cells = record { each = valid.cells; rising = valid.rising } in
      let front = front_cells page.label.level (take past page.cells) (drop past page.cells)
      (subst (AreCells page.label.level) (sym (take-append-drop past page.cells)) all) in
      back_cells page.label.level (take first (take past page.cells)) range
      (subst (AreCells page.label.level) (sym (take-append-drop first (take past page.cells))) front)

  pub range_fits : ((level ≡ 0) ↔ (page.label.level ≡ 0)) → AreCells level range
  range_fits same = record {
    each = all_weaker (IsCell page.label.level) (IsCell level)
        (λ c is. cell_on_level level page.label.level same c is) range range_cells.each;
    rising = range_cells.rising;
  }

  module _ (below : first < past) (cells : List Cell) where
    -- cells of the level that go on with the range
    pub same_level : AreCells level (cells ++ range) → (level ≡ 0) ↔ (page.label.level ≡ 0)
    same_level all =
        let at = cell_at range 0 (omega (arith, range_length page.cells first past order within)) in
        let here = all_at range at.0 at.1 in
        value_tells level page.label.level at.0.value
        (here (IsCell level) (all_back (IsCell level) cells range all.each)).value
        (here (IsCell page.label.level) range_cells.each).value
      where
        all_at : (xs : List Cell) (c : Cell) → slice_get xs 0 ≡ Some c → (P : Cell → Type 0) → AllByRecursion P xs → P c
        all_at [] c at P h = absurd (cc)
        all_at (x ∷ xs) c at P h = subst P (same_cell x c at) h.0

    module _ (key : List ℕ) (is : IfSome (slice_get page.cells first) (λ c. c.key ≡ key)) where
      first_key : IfSome (slice_get range 0) (λ c. c.key ≡ key)
      first_key = subst (λ o. IfSome o (λ (c : Cell). c.key ≡ key)) (sym (range_first page.cells first past below)) is

      pub goes_behind : AreCells level cells → ((level ≡ 0) ↔ (page.label.level ≡ 0))
          → is_behind key (last_key_of cells) ≡ true → AreCells level (cells ++ range)
      goes_behind are same above = cells_behind level cells range key are (range_fits same)
          (omega (arith, range_length page.cells first past order within)) first_key above

      pub stands_above : AreCells level (cells ++ range) → is_behind key (last_key_of cells) ≡ true
      stands_above all = above range all first_key (omega (arith, range_length page.cells first past order within))
        where
          above : (xs : List Cell) → AreCells level (cells ++ xs) → IfSome (slice_get xs 0) (λ c. c.key ≡ key)
              → 1 ≤ length xs → is_behind key (last_key_of cells) ≡ true
          above [] h at some = absurd (omega arith)
          above (x ∷ xs) h at some =
              subst (λ k. is_behind k (last_key_of cells) ≡ true) at
              (last_is_above level cells x
              (front_cells level (cells ++ x ∷ []) xs
              (subst (AreCells level) (sym (append_assoc cells (x ∷ []) xs)) h)))
