-- What one pair more costs.
use Rattle.std.proofs.Common.{◌≡◌, ℕ, ◌+◌, ◌<◌, ◌≤◌, List, [], ◌∷◌, ◌++◌, length}
use Rattle.std.proofs.Common.{cond}
use Rattle.std.proofs.Common.{nat_lt, filter, refl, sym, ap, ap₂, ◌∙◌, arith, lt-ltb}
use Rattle.std.specs.List.{flat_map}
use Rattle.std.proofs.lemmas.List.{length-append}
use Rattle.std.proofs.lemmas.List.Elements.{filter-append}
use Rattle.std.proofs.lemmas.List.Sums.{length-filter}
use Rattle.store_model.specs.Lists.{numbers_below}
use Rattle.store_model.specs.Draws.{Draw}
use Rattle.store_model.specs.Pairs.{Pair}
use Rattle.store_model.specs.Pages.{groups, level_pages, pages_of_pairs}
use Rattle.layout_scratch.specs.Counting.{last_length}
use Rattle.layout_scratch.proofs.OneMoreKey.{level_takes, opens, run_count-more, grown_sum, Grows}
use Rattle.layout_scratch.proofs.LevelPages.{level_pages-none}
use Rattle.pair_stream.specs.Streams.{leader_count, stream_cost}

module _ (d : Draw) where
  abbrev opens_own : List Pair → Pair → ℕ
  opens_own s e = opens (d.level e.0) (last_length (groups d s (d.level e.0)))

  -- a pair opens a page on each level below its own, and one on that where the last page is full
  levels_grow : (s : List Pair) (e : Pair)
      → Grows (level_pages d s) (level_pages d (s ++ e ∷ [])) (d.level e.0) (opens_own s e)
  levels_grow s e = record {
    below = λ level low. ((level_takes d s e level).below low).0;
    at = (let top = d.level e.0 in let more = run_count-more top (last_length (groups d s top))
        in omega (arith, ((level_takes d s e top).at refl).0, more));
    above = λ level high. ((level_takes d s e level).above high).0;
  }

  pages_more : (s : List Pair) (e : Pair) → d.level e.0 < d.height
      → length (pages_of_pairs d (s ++ e ∷ [])) ≡ length (pages_of_pairs d s) + (d.level e.0 + opens_own s e)
  unfolding pages_of_pairs
  pages_more s e low = grown_sum (level_pages d s) (level_pages d (s ++ e ∷ [])) (d.level e.0) (opens_own s e) d.height
      (levels_grow s e) low

  leaders_more : (s : List Pair) (e : Pair)
      → leader_count d (s ++ e ∷ []) ≡ leader_count d s + leader_count d (e ∷ [])
  leaders_more s e =
      let test = λ (pair : Pair). nat_lt 0 (d.level pair.0) in
      sym (length-filter test (s ++ e ∷ [])) ∙ ap length (filter-append test s (e ∷ []))
      ∙ length-append (filter test s) (filter test (e ∷ []))
      ∙ ap₂ (λ a b. a + b) (length-filter test s) (length-filter test (e ∷ []))

  leader_counts : (e : Pair) → 0 < d.level e.0 → leader_count d (e ∷ []) ≡ 1
  leader_counts e higher =
      let test = λ (pair : Pair). nat_lt 0 (d.level pair.0) in
      sym (length-filter test (e ∷ [])) ∙ ap (λ b. length (cond b (e ∷ []) [])) (lt-ltb 0 (d.level e.0) higher)

  -- a pair of level 0 costs a lookup where it opens a page
  pub pair_costs : (s : List Pair) (e : Pair) → 0 ≡ d.level e.0 → d.level e.0 < d.height
      → stream_cost d s + opens 0 (last_length (groups d s 0)) ≤ stream_cost d (s ++ e ∷ [])
  unfolding stream_cost
  pair_costs s e own low =
      let here : opens_own s e ≡ opens 0 (last_length (groups d s 0)) =
      ap (λ level. opens level (last_length (groups d s level))) (sym own) in
      omega (arith, pages_more s e low, leaders_more s e, here)

  -- one whose key leads groups costs a lookup for each of them, and two more
  pub leader_costs : (s : List Pair) (e : Pair) → 0 < d.level e.0 → d.level e.0 < d.height
      → stream_cost d s + (d.level e.0 + 2) ≤ stream_cost d (s ++ e ∷ [])
  unfolding stream_cost
  leader_costs s e higher low = omega (arith, pages_more s e low, leaders_more s e, leader_counts e higher)

  -- no pair costs nothing
  no_pages : (levels : List ℕ) → length (flat_map (level_pages d []) levels) ≡ 0
  no_pages [] = refl
  no_pages (level ∷ levels) =
      ap (λ pages. length (pages ++ flat_map (level_pages d []) levels)) (level_pages-none d level) ∙ no_pages levels

  pub no_cost : stream_cost d [] ≡ 0
  unfolding stream_cost pages_of_pairs
  no_cost = let none = no_pages (numbers_below d.height) in omega arith
