-- What one pair more at the end of a list makes of the groups and pages of each level, and of all pages.
use Rattle.std.proofs.Common.{◌≡◌, ℕ, zero, suc, ◌+◌, ◌%◌, ◌≤◌, ◌<◌, inl, inr, List, [], ◌∷◌, ◌++◌, length, refl, ap}
use Rattle.std.proofs.Common.{subst, ◌∙◌, cond, arith, Bool, true, false, nat_lt, nat_eq, append-nil, ◌==◌}
use Rattle.std.specs.List.{flat_map}
use Rattle.std.proofs.Math.Nat.{eq-or-lt_of_le, pos_of_ne-zero}
use Rattle.std.proofs.lemmas.Bool.{lt-leb, eqb-true, eqb-false}
use Rattle.store_model.specs.Lists.{numbers_below, numbers_from, run_count, cut_before, onto_part}
use Rattle.store_model.specs.Draws.{Draw}
use Rattle.store_model.specs.Pairs.{Pair}
use Rattle.store_model.specs.Pages.{Cell, Page, page_room, cell_on, level_list, leads_group, groups, level_pages}
use Rattle.store_model.proofs.PagesLemmasOrder.{cell_on-key}
use Rattle.store_model.proofs.PagesLemmasSplits.{level_list-append, level_list-there, groups-split, groups-above}
use Rattle.store_model.proofs.PagesLemmasSplits.{level_pages-above}
use Rattle.layout_scratch.specs.Counting.{last_length}
use Rattle.layout_scratch.proofs.AllLevels.{made_of_levels}
use Rattle.layout_scratch.proofs.LevelCounts.{length-group_pages}
use Rattle.layout_scratch.proofs.LevelPages.{pages_of_group}
use Rattle.layout_scratch.proofs.LastGroup.{onto_last, cut_before-last, last_length-more, last_length-new}
use Rattle.layout_scratch.proofs.LastGroup.{CountsByLength, made_of_more, made_of_new}
use Rattle.std.proofs.lemmas.List.{length-append}

-- ---- one level

-- a group has so many pages as its cells need
group_counts : (d : Draw) (level : ℕ) → CountsByLength (run_count (page_room level)) (pages_of_group d level)
group_counts d level = record {
  none = elim (level == 0) as (λ b. run_count (cond b 10 31) 0 ≡ 0) [ true ↦ refl | false ↦ refl ];
  each = λ cells. length-group_pages level _ cells;
}

-- one cell needs one page
one_run : (level : ℕ) → run_count (page_room level) 1 ≡ 1
one_run level = elim (level == 0) as (λ b. run_count (cond b 10 31) 1 ≡ 1) [ true ↦ refl | false ↦ refl ]

-- a pair by itself is a group, where its key stands on the level
one_group : (d : Draw) (y : Pair) (level : ℕ) → level ≤ d.level y.0
    → groups d (y ∷ []) level ≡ (cell_on level y ∷ []) ∷ []
unfolding groups level_list cut_before onto_part
one_group d y level there = ap (cut_before (leads_group d level)) (level_list-there d y [] level there)

-- below the level of its key the pair begins a group
pub groups_below : (d : Draw) (s : List Pair) (y : Pair) (level : ℕ) → level < d.level y.0
    → groups d (s ++ y ∷ []) level ≡ groups d s level ++ (cell_on level y ∷ []) ∷ []
groups_below d s y level low = groups-split d s y [] level low
    ∙ ap (λ parts. groups d s level ++ parts) (one_group d y level (omega arith))

-- on it the pair comes into the last group
pub groups_at : (d : Draw) (s : List Pair) (y : Pair) (level : ℕ) → level ≡ d.level y.0
    → groups d (s ++ y ∷ []) level ≡ onto_last (groups d s level) (cell_on level y)
unfolding groups level_list
groups_at d s y level top =
    let cuts = leads_group d level in
    let follows : cuts (cell_on level y) ≡ false =
    ap (λ k. nat_lt level (d.level k)) (cell_on-key level y) ∙ lt-leb (suc level) (d.level y.0) (omega arith) in
    ap (cut_before cuts) (level_list-append d s (y ∷ []) level
    ∙ ap (λ cells. level_list d s level ++ cells) (level_list-there d y [] level (omega arith)))
    ∙ cut_before-last cuts (level_list d s level) (cell_on level y) follows

-- so many pages has a level, and so many cells its last group, behind one pair more
pub record TakesPair (level top : ℕ) (pages cells new_pages new_cells : ℕ) : Type 0 where
  pub below : level < top → (new_pages ≡ pages + 1) × (new_cells ≡ 1)
  pub at : level ≡ top
      → (new_pages + run_count (page_room level) cells ≡ pages + run_count (page_room level) (cells + 1))
      × (new_cells ≡ cells + 1)
  pub above : top < level → (new_pages ≡ pages) × (new_cells ≡ cells)

pub level_takes : (d : Draw) (s : List Pair) (y : Pair) (level : ℕ)
    → TakesPair level (d.level y.0) (length (level_pages d s level)) (last_length (groups d s level))
    (length (level_pages d (s ++ y ∷ []) level)) (last_length (groups d (s ++ y ∷ []) level))
unfolding level_pages
level_takes d s y level =
    let count = run_count (page_room level) in
    let made : List (List Cell) → List Page = flat_map (pages_of_group d level) in
    let counts = group_counts d level in
    record {
      below = λ low.
          let e = groups_below d s y level low in
          let first = one_run level in (
            ap (λ parts. length (made parts)) e ∙ made_of_new count (pages_of_group d level) (groups d s level)
                (cell_on level y) counts ∙ ap (λ n. length (made (groups d s level)) + n) first,
            ap last_length e ∙ last_length-new (groups d s level) (cell_on level y),
          );
      at = λ top.
          let e = groups_at d s y level top in (
            ap (λ parts. length (made parts) + count (last_length (groups d s level))) e
                ∙ made_of_more count (pages_of_group d level) (groups d s level) (cell_on level y) counts,
            ap last_length e ∙ last_length-more (groups d s level) (cell_on level y),
          );
      above = λ high. (
        ap length (level_pages-above d s y [] level high ∙ ap (λ t. level_pages d t level) (append-nil s)),
        ap last_length (groups-above d s y [] level high ∙ ap (λ t. groups d t level) (append-nil s)),
      );
    }

-- ---- one page more or none

-- how many pages more a group has with one cell more
abbrev pub opens : ℕ → ℕ → ℕ
opens level cells = cond (nat_eq (cells % page_room level) 0) 1 0

ten_opens : (n : ℕ) → run_count 10 (n + 1) ≡ run_count 10 n + cond (nat_eq (n % 10) 0) 1 0
ten_opens n = by_rest (nat_eq (n % 10) 0) refl
  where
    by_rest : (b : Bool) → nat_eq (n % 10) 0 ≡ b → run_count 10 (n + 1) ≡ run_count 10 n + cond b 1 0
    by_rest true e = let full = eqb-true (n % 10) 0 e in omega arith
    by_rest false e = let not_full = eqb-false (n % 10) 0 e in let some : 1 ≤ n % 10 =
        pos_of_ne-zero not_full in omega arith

others_open : (n : ℕ) → run_count 31 (n + 1) ≡ run_count 31 n + cond (nat_eq (n % 31) 0) 1 0
others_open n = by_rest (nat_eq (n % 31) 0) refl
  where
    by_rest : (b : Bool) → nat_eq (n % 31) 0 ≡ b → run_count 31 (n + 1) ≡ run_count 31 n + cond b 1 0
    by_rest true e = let full = eqb-true (n % 31) 0 e in omega arith
    by_rest false e = let not_full = eqb-false (n % 31) 0 e in let some : 1 ≤ n % 31 =
        pos_of_ne-zero not_full in omega arith

pub run_count-more : (level n : ℕ) → run_count (page_room level) (n + 1) ≡ run_count (page_room level) n + opens level n
run_count-more level n = elim (level == 0) as
    (λ b. run_count (cond b 10 31) (n + 1) ≡ run_count (cond b 10 31) n + cond (nat_eq (n % cond b 10 31) 0) 1 0)
    [ true ↦ ten_opens n | false ↦ others_open n ]

-- ---- all levels

-- the pages of the levels below one, with a page more on each level below the top, and some more there
record SumsTo (f g : ℕ → List Page) (top more n : ℕ) : Type 0 where
  low : n ≤ top → length (flat_map g (numbers_below n)) ≡ length (flat_map f (numbers_below n)) + n
  high : top < n → length (flat_map g (numbers_below n)) ≡ length (flat_map f (numbers_below n)) + (top + more)

-- what the lists on each level have to be
pub record Grows (f g : ℕ → List Page) (top more : ℕ) : Type 0 where
  pub below : (level : ℕ) → level < top → length (g level) ≡ length (f level) + 1
  pub at : length (g top) ≡ length (f top) + more
  pub above : (level : ℕ) → top < level → length (g level) ≡ length (f level)

-- the sum with one level more
length_of_levels : (f : ℕ → List Page) (n : ℕ)
    → length (flat_map f (numbers_below (suc n))) ≡ length (flat_map f (numbers_below n)) + length (f n)
length_of_levels f n = ap (λ k. length (flat_map f (numbers_below k))) (let e : suc n ≡ n + 1 = omega arith in e)
    ∙ ap length (made_of_levels f n) ∙ length-append (flat_map f (numbers_below n)) (f n)

sums_to : (f g : ℕ → List Page) (top more n : ℕ) → Grows f g top more → SumsTo f g top more n
unfolding numbers_from
sums_to f g top more zero grows = record { low = λ h. omega arith; high = λ h. absurd (omega arith) }
sums_to f g top more (suc n) grows =
    let before = sums_to f g top more n grows in
    let old = length_of_levels f n in
    let new = length_of_levels g n in
    record {
      low = λ h. omega (arith, old, new, before.low (omega arith), grows.below n (omega arith));
      high = λ h. elim (eq-or-lt_of_le {n = top} {m = n} (omega arith)) [
        | inl same ↦
            let here = subst (λ k. length (g k) ≡ length (f k) + more) same grows.at in
            omega (arith, old, new, before.low (omega arith), here, same)
        | inr higher ↦ omega (arith, old, new, before.high higher, grows.above n higher)
      ];
    }

pub grown_sum : (f g : ℕ → List Page) (top more height : ℕ) → Grows f g top more → top < height
    → length (flat_map g (numbers_below height)) ≡ length (flat_map f (numbers_below height)) + (top + more)
grown_sum f g top more height grows h = (sums_to f g top more height grows).high h
