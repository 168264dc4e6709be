-- What a counter knows, one key on.
use Rattle.std.proofs.Common.{◌≡◌, ℕ, ◌+◌, ◌%◌, ◌≤◌, ◌<◌, ◌⊎◌, inl, inr, List, [], ◌∷◌, ◌++◌, map, length, drop, get_or}
use Rattle.std.proofs.Common.{slice_index, replicate, set, min, ◌-◌, true, false, cond, nat_eq, refl, sym, ap, ap₂}
use Rattle.std.proofs.Common.{subst, ◌∙◌, arith}
use Rattle.std.specs.List.{flat_map}
use Rattle.std.proofs.lemmas.Bool.{cases_order, cases_lt}
use Rattle.std.proofs.lemmas.List.{length-append, length-map, length-drop, length-replicate, get_or-replicate}
use Rattle.std.proofs.lemmas.List.{get_or_past, get_or-set_same, get_or-set_other, get_or_append_left}
use Rattle.std.proofs.lemmas.List.{get_or-append_right, get_or-drop}
use Rattle.store_model.specs.Lists.{numbers_below, cut_before}
use Rattle.store_model.specs.Parameters.{height_limit}
use Rattle.store_model.specs.Draws.{Draw}
use Rattle.store_model.specs.Pairs.{Pair}
use Rattle.store_model.specs.Pages.{page_room, level_list, groups, level_pages, pages_of_pairs}
use Rattle.layout_scratch.specs.Sorting.{sorted_limit}
use Rattle.layout_scratch.specs.Counting.{HasCounted, last_length}
use Rattle.layout_scratch.specs.declared.counter.PageCounter.{PageCounter}
use Rattle.layout_scratch.proofs.OneMoreKey.{TakesPair, level_takes, opens, run_count-more, grown_sum, Grows}
use Rattle.layout_scratch.proofs.LevelPages.{level_pages-none}

-- the keys of pairs
abbrev pub keys_of : List Pair → List (List ℕ)
keys_of s = map (λ pair. pair.0) s

-- the last of some pairs, and those in front of it
record EndsWith (s : List Pair) (keys : List (List ℕ)) (key : List ℕ) : Type 0 where
  front : List Pair
  last : Pair
  whole : s ≡ front ++ last ∷ []
  front_keys : keys_of front ≡ keys
  last_key : last.0 ≡ key

-- no pairs
no_pairs : (s : List Pair) → length s ≡ 0 → s ≡ []
no_pairs [] h = refl
no_pairs (pair ∷ s) h = absurd (omega arith)

-- pairs whose keys end with one
ends_with : (s : List Pair) (keys : List (List ℕ)) (key : List ℕ) → keys_of s ≡ keys ++ key ∷ [] → EndsWith s keys key
ends_with [] keys key e = absurd (omega (arith, ap length e, length-append keys (key ∷ [])))
ends_with (pair ∷ s) [] key e = record {
  front = [];
  last = pair;
  whole = ap (λ t. pair ∷ t) (no_pairs s (omega (arith, ap length e, length-map s (λ (p : Pair). p.0))));
  front_keys = refl;
  last_key = ap (λ ks. get_or ks 0 key) e;
}
ends_with (pair ∷ s) (k ∷ keys) key e =
    let rest = ends_with s keys key (ap (drop 1) e) in
    record {
      front = pair ∷ rest.front;
      last = rest.last;
      whole = ap (λ t. pair ∷ t) rest.whole;
      front_keys = ap₂ (λ x xs. x ∷ xs) (ap (λ ks. get_or ks 0 key) e) rest.front_keys;
      last_key = rest.last_key;
    }

-- the counter took a key of a level, as far as its numbers go: they are exact where they are few
pub record TookKey (level : ℕ) (old new : PageCounter) : Type 0 where
  pub pages : old.pages + (level + opens level (slice_index old.cells level)) ≤ 4294967295
      → new.pages ≡ old.pages + (level + opens level (slice_index old.cells level))
  pub below : (other : ℕ) → other < level → slice_index new.cells other ≡ 1
  pub at : slice_index old.cells level + 1 ≤ 4294967295 → slice_index new.cells level ≡ slice_index old.cells level + 1
  pub above : (other : ℕ) → level < other → slice_index new.cells other ≡ slice_index old.cells other
  pub keys : new.keys ≡ old.keys + 1

-- what the counter's numbers become
pub took_key : (top : ℕ) (old new : PageCounter) (front : List ℕ) (cell : ℕ) → front ≡ replicate top 1
    → top < length old.cells → new.cells ≡ set (front ++ drop top old.cells) top cell
    → cell ≡ min (slice_index old.cells top + 1) 4294967295
    → new.pages ≡ min (old.pages + (top + opens top (slice_index old.cells top))) 4294967295
    → new.keys ≡ old.keys + 1 → TookKey top old new
took_key top old new front cell front_is within cells_are cell_is pages_are keys_are =
    let whole : List ℕ = replicate top 1 ++ drop top old.cells in
    let here : new.cells ≡ set whole top cell =
    cells_are ∙ ap (λ xs. set (xs ++ drop top old.cells) top cell) front_is in
    let front_long : length (replicate {A = ℕ} top 1) ≡ top = length-replicate top 1 in
    let long : top < length whole =
    omega (arith, length-append (replicate top 1) (drop top old.cells), length-drop top old.cells, front_long) in
    record {
      pages = λ few. omega (arith, pages_are);
      below = λ other low.
          ap (λ xs. slice_index xs other) here ∙ get_or-set_other whole top other cell 0 (λ same. omega arith)
          ∙ get_or_append_left (replicate top 1) (drop top old.cells) 0 other (omega arith)
          ∙ get_or-replicate top other 1 0 low;
      at = λ few. ap (λ xs. slice_index xs top) here ∙ get_or-set_same whole top cell 0 long
          ∙ (let exact : cell ≡ slice_index old.cells top + 1 = omega (arith, cell_is) in exact);
      above = λ other high.
          ap (λ xs. slice_index xs other) here ∙ get_or-set_other whole top other cell 0 (λ same. omega arith)
          ∙ get_or-append_right (replicate top 1) (drop top old.cells) top other 0 front_long (omega arith)
          ∙ get_or-drop top old.cells (other - top) 0
          ∙ ap (λ i. slice_index old.cells i) (let back : top + (other - top) ≡ other = omega arith in back);
      keys = keys_are;
    }

-- a group gets one page more at most
opens_one : (level cells : ℕ) → opens level cells ≤ 1
opens_one level cells = elim (nat_eq (cells % page_room level) 0) as
    (λ b. cond b 1 0 ≤ 1) [ true ↦ omega arith | false ↦ omega arith ]

-- the last group of a level has so many cells as the counter says
cells_by_order : (level top pages cells new_pages new_cells : ℕ) (old new : PageCounter)
    → TakesPair level top pages cells new_pages new_cells → cells ≡ slice_index old.cells level → TookKey top old new
    → slice_index old.cells top + 1 ≤ 4294967295 → (level ≡ top) ⊎ ((level < top) ⊎ (top < level))
    → new_cells ≡ slice_index new.cells level
cells_by_order level top pages cells new_pages new_cells old new takes before took few (inl same) =
    (takes.at same).1 ∙ ap (λ n. n + 1) (before ∙ ap (λ l. slice_index old.cells l) same) ∙ sym (took.at few)
    ∙ ap (λ l. slice_index new.cells l) (sym same)
cells_by_order level top pages cells new_pages new_cells old new takes before took few (inr (inl low)) =
    (takes.below low).1 ∙ sym (took.below level low)
cells_by_order level top pages cells new_pages new_cells old new takes before took few (inr (inr high)) =
    (takes.above high).1 ∙ before ∙ sym (took.above level high)

-- no group gets more cells than keys came
few_by_order : (level top n : ℕ) (old new : PageCounter) → ((other : ℕ) → slice_index old.cells other ≤ n)
    → TookKey top old new → slice_index old.cells top + 1 ≤ 4294967295 → (level ≡ top) ⊎ ((level < top) ⊎ (top < level))
    → slice_index new.cells level ≤ n + 1
few_by_order level top n old new before took few (inl same) =
    omega (arith, ap (λ l. slice_index new.cells l) same, took.at few, before top)
few_by_order level top n old new before took few (inr (inl low)) = omega (arith, took.below level low)
few_by_order level top n old new before took few (inr (inr high)) = omega (arith, took.above level high, before level)

-- the levels grow by one pair more
grows_by_pair : (d : Draw) (s : List Pair) (y : Pair)
    → Grows (level_pages d s) (level_pages d (s ++ y ∷ [])) (d.level y.0)
    (opens (d.level y.0) (last_length (groups d s (d.level y.0))))
grows_by_pair d s y =
    let top = d.level y.0 in
    record {
      below = λ level low. ((level_takes d s y level).below low).0;
      at = (let more = run_count-more top (last_length (groups d s top))
          in omega (arith, ((level_takes d s y top).at refl).0, more));
      above = λ level high. ((level_takes d s y level).above high).0;
    }

-- and so do all pages
pages_by_pair : (d : Draw) (s : List Pair) (y : Pair) → d.level y.0 < d.height
    → length (pages_of_pairs d (s ++ y ∷ [])) ≡ length (pages_of_pairs d s)
    + (d.level y.0 + opens (d.level y.0) (last_length (groups d s (d.level y.0))))
unfolding pages_of_pairs
pages_by_pair d s y low = grown_sum (level_pages d s) (level_pages d (s ++ y ∷ [])) (d.level y.0)
    (opens (d.level y.0) (last_length (groups d s (d.level y.0)))) d.height (grows_by_pair d s y) low

-- so a counter that took a key has counted it
pub counted_more : (d : Draw) (keys : List (List ℕ)) (key : List ℕ) (old new : PageCounter) → HasCounted d keys old
    → d.level key < d.height → d.height ≤ height_limit → old.keys < sorted_limit → TookKey (d.level key) old new
    → HasCounted d (keys ++ key ∷ []) new
counted_more d keys key old new counted low height few took =
    let top = d.level key in
    let cells = slice_index old.cells top in
    let more = opens_one top cells in
    let long = length-append keys (key ∷ []) in
    let pages = took.pages (omega (arith, counted.few_pages, counted.keys_are, more)) in
    let few_cells : cells + 1 ≤ 4294967295 = omega (arith, counted.few_cells top, counted.keys_are) in
    record {
      pages_are = λ s e.
          let ends = ends_with s keys key e in
          let level_is : d.level ends.last.0 ≡ top = ap d.level ends.last_key in
          let last_is = ap (λ l. last_length (groups d ends.front l)) level_is
          ∙ counted.cells_are ends.front ends.front_keys top low in
          ap (λ t. length (pages_of_pairs d t)) ends.whole
          ∙ pages_by_pair d ends.front ends.last (subst (λ l. l < d.height) (sym level_is) low)
          ∙ ap₂ (λ n m. n + m) (counted.pages_are ends.front ends.front_keys)
          (ap₂ (λ l n. l + opens l n) level_is last_is)
          ∙ sym pages;
      cells_are = λ s e level within.
          let ends = ends_with s keys key e in
          let level_is : d.level ends.last.0 ≡ top = ap d.level ends.last_key in
          let takes = level_takes d ends.front ends.last level in
          let took_there = subst (λ l. TookKey l old new) (sym level_is) took in
          ap (λ t. last_length (groups d t level)) ends.whole
          ∙ cells_by_order level (d.level ends.last.0) _ _ _ _ old new takes
          (counted.cells_are ends.front ends.front_keys level within) took_there
          (subst (λ l. slice_index old.cells l + 1 ≤ 4294967295) (sym level_is) few_cells)
          (cases_order level (d.level ends.last.0));
      keys_are = omega (arith, took.keys, counted.keys_are, long);
      few_pages = omega (arith, counted.few_pages, pages, more, long);
      few_cells = λ level.
          let few = few_by_order level top (length keys) old new counted.few_cells took few_cells
          (cases_order level top) in
          omega (arith, few, long);
    }

-- cells of a new counter
pub zero_cells : (level : ℕ) → slice_index (0 ∷ 0 ∷ 0 ∷ 0 ∷ 0 ∷ 0 ∷ 0 ∷ 0 ∷ []) level ≡ 0
zero_cells level = elim (cases_lt level 8) [
  | inl low ↦ get_or-replicate 8 level 0 0 low
  | inr high ↦ get_or_past (replicate 8 0) level 0 high
]

-- no pairs have no pages
no_level : (d : Draw) (levels : List ℕ) → length (flat_map (level_pages d []) levels) ≡ 0
no_level d [] = refl
no_level d (level ∷ levels) = ap (λ pages. length (pages ++ flat_map (level_pages d []) levels))
    (level_pages-none d level) ∙ no_level d levels

no_pages : (d : Draw) → length (pages_of_pairs d []) ≡ 0
unfolding pages_of_pairs
no_pages d = no_level d (numbers_below d.height)

-- nor groups
no_cells : (d : Draw) (level : ℕ) → last_length (groups d [] level) ≡ 0
unfolding groups level_list cut_before last_length
no_cells d level = refl

-- so a counter of zeros has counted no key
pub counted_none : (d : Draw) (counter : PageCounter) → counter.pages ≡ 0 → counter.keys ≡ 0
    → ((level : ℕ) → slice_index counter.cells level ≡ 0) → HasCounted d [] counter
counted_none d counter pages keys cells =
    let none : (s : List Pair) → keys_of s ≡ [] → s ≡ [] =
    λ s e. no_pairs s (omega (arith, length-map s (λ (p : Pair). p.0), ap length e)) in
    record {
      pages_are = λ s e. ap (λ t. length (pages_of_pairs d t)) (none s e) ∙ no_pages d ∙ sym pages;
      cells_are = λ s e level within. ap (λ t. last_length (groups d t level)) (none s e)
          ∙ no_cells d level ∙ sym (cells level);
      keys_are = keys;
      few_pages = omega arith;
      few_cells = λ level. omega (arith, cells level);
    }
