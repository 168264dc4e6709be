-- What reading the groups of a search path costs, level after level.
use Rattle.std.proofs.Common.{◌≡◌, ℕ, zero, suc, ◌+◌, ◌-◌, ◌<◌, ◌≤◌, List, map, ap, subst, sym, ◌∙◌, arith}
use Rattle.std.specs.List.{sum}
use Rattle.std.proofs.lemmas.List.Sums.{sum-map, sum_by-cons}
use Rattle.store_model.specs.Lists.{numbers_from}
use Rattle.store_model.specs.Draws.{Draw}
use Rattle.store_model.specs.Pairs.{Pair, IsPairs}
use Rattle.store_model.proofs.ListsLemmas.{rising_from_is_sorted}
use Rattle.store_model.specs.Paths.{key_cmp}
use Rattle.skip_levels.specs.SearchPath.{above, group_at_or_below, levels_cost, path_cost, not_above}
use Rattle.skip_groups.specs.Groups.{group_cost}
use Rattle.skip_levels.proofs.LedGroups.{led_by_place}
use Rattle.skip_levels.proofs.PathLemmas.{sides_of}
use Rattle.skip_levels.proofs.PlaceGroups.{group_of_place}

module _ (d : Draw) (s : List Pair) (key : List ℕ) where
  abbrev cost_at : ℕ → ℕ
  cost_at level = group_cost level (group_at_or_below d s level key)

  -- one level more, in front
  cost_step : (first count : ℕ) → levels_cost d s key first (suc count)
      ≡ cost_at first + levels_cost d s key (suc first) count
  unfolding numbers_from
  cost_step first count = sum-map cost_at (numbers_from first (suc count))
      ∙ sum_by-cons cost_at first (numbers_from (suc first) count)
      ∙ ap (λ n. cost_at first + n) (sym (sum-map cost_at (numbers_from (suc first) count)))

  -- no level costs nothing
  pub no_level : (most : ℕ) → levels_cost d s key 1 0 ≤ most
  unfolding numbers_from
  no_level most = omega arith

  -- levels and those behind them
  pub levels_joined : (first n m : ℕ) → levels_cost d s key first n + levels_cost d s key (first + n) m
      ≡ levels_cost d s key first (n + m)
  unfolding numbers_from
  levels_joined first zero m =
      let here : first + 0 ≡ first = omega arith in
      let all : 0 + m ≡ m = omega arith in
      omega (arith, ap (λ k. levels_cost d s key k m) here, ap (levels_cost d s key first) all)
  levels_joined first (suc n) m =
      let place : first + suc n ≡ suc first + n = omega arith in
      let more : suc n + m ≡ suc (n + m) = omega arith in
      omega (
        arith,
        cost_step first n,
        cost_step first
            (n + m),
        levels_joined (suc first) n m,
        ap (λ k. levels_cost d s key k m) place,
        ap (levels_cost d s key first) more,
      )

  -- levels further on cost no more
  further : (n first count : ℕ) → levels_cost d s key (first + n) count ≤ levels_cost d s key first (n + count)
  further n first count = omega (arith, levels_joined first n count)

  -- the levels from one on cost no more than those from a lower one on
  pub cost_within : (low level height : ℕ) → low ≤ level → level ≤ height
      → levels_cost d s key level (height - level) ≤ levels_cost d s key low (height - low)
  cost_within low level height up within =
      let place : low + (level - low) ≡ level = omega arith in
      let count : (level - low) + (height - level) ≡ height - low = omega arith in
      subst (λ n. levels_cost d s key level (height - level) ≤ levels_cost d s key low n) count
      (subst (λ k. levels_cost d s key k (height - level) ≤ levels_cost d s key low ((level - low) + (height - level)))
      place (further (level - low) low (height - level)))

  -- and no more than the whole path
  pub path_within : (level height : ℕ) → height ≡ d.height → level ≤ height
      → levels_cost d s key level (height - level) ≤ path_cost d s key
  path_within level height high within =
      let all : height - 0 ≡ d.height = omega (arith, high) in
      subst (λ n. levels_cost d s key level (height - level) ≤ levels_cost d s key 0 n) all
      (cost_within 0 level height (omega arith) within)

  -- the levels up to one cost no less than those from a lower one on
  pub levels_within : (level top : ℕ) → level ≤ suc top
      → levels_cost d s key level (suc top - level) ≤ levels_cost d s key 0 (suc top)
  levels_within level top within =
      let all : suc top - 0 ≡ suc top = omega arith in
      subst (λ n. levels_cost d s key level (suc top - level) ≤ levels_cost d s key 0 n) all
      (cost_within 0 level (suc top) (omega arith) within)

  -- fewer levels cost no more
  pub levels_up_to : (low top : ℕ) → low ≤ top → levels_cost d s key 0 (suc low) ≤ levels_cost d s key 0 (suc top)
  levels_up_to low top within =
      let all : suc low + (top - low) ≡ suc top = omega arith in
      omega (arith, levels_joined 0 (suc low) (top - low), ap (levels_cost d s key 0) all)

  -- the group of a level, and the levels above
  pub cost_of_level : (level height : ℕ) → IsPairs s → level < height
      → group_cost level (group_of_place d level (not_above key s) (above key s))
      + levels_cost d s key (suc level) (height - suc level) ≡ levels_cost d s key level (height - level)
  cost_of_level level height valid below =
      let sides = sides_of key s (rising_from_is_sorted key_cmp s valid.sorted) in
      let count : height - level ≡ suc (height - suc level) = omega arith in
      let group = led_by_place d level s (not_above key s) (above key s) sides valid in
      ap (λ g. group_cost level g + levels_cost d s key (suc level) (height - suc level)) (sym group)
      ∙ sym (cost_step level (height - suc level)) ∙ ap (levels_cost d s key level) (sym count)

-- ---- costs of levels in general

module _ (cost : ℕ → ℕ) where
  -- what so many levels cost from one on
  abbrev pub costs_from : ℕ → ℕ → ℕ
  costs_from first count = sum (map cost (numbers_from first count))

  pub costs_step : (first count : ℕ) → costs_from first (suc count) ≡ cost first + costs_from (suc first) count
  unfolding numbers_from
  costs_step first count = sum-map cost (numbers_from first (suc count))
      ∙ sum_by-cons cost first (numbers_from (suc first) count)
      ∙ ap (λ n. cost first + n) (sym (sum-map cost (numbers_from (suc first) count)))

  -- one level more below
  pub costs_down : (level height : ℕ) → level < height
      → cost level + costs_from (suc level) (height - suc level) ≡ costs_from level (height - level)
  costs_down level height below =
      let count : height - level ≡ suc (height - suc level) = omega arith in
      sym (costs_step level (height - suc level)) ∙ ap (costs_from level) (sym count)

  -- levels further up cost no more than all
  pub costs_within : (level height : ℕ) → level ≤ height → costs_from level (height - level) ≤ costs_from 0 height
  costs_within zero height within = let all : height - 0 ≡ height = omega arith
      in subst (λ n. costs_from 0 n ≤ costs_from 0 height) (sym all) (omega arith)
  costs_within (suc level) height within =
      omega (arith, costs_down level height (omega arith), costs_within level height (omega arith))
