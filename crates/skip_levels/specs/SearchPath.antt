-- The search path of a key: on each level the group in which it stands or would stand, and what reading these groups
-- costs.
use Rattle.std.specs.Prelude.{ℕ, suc, List, [], ◌∷◌, map, filter, nat_lt, not, unwrap_or, Option, slice_get}
use Rattle.std.specs.List.{sum, find}
use Rattle.std.specs.Ordering.{is_le, is_lt}
use Rattle.store_model.specs.Lists.{same_bytes, numbers_below, numbers_from}
use Rattle.store_model.specs.Paths.{key_cmp}
use Rattle.store_model.specs.Labels.{Lead, lead_bytes}
use Rattle.store_model.specs.Labels.Lead.{Start, Leader}
use Rattle.store_model.specs.Pairs.{Pair}
use Rattle.store_model.specs.Draws.{Draw}
use Rattle.store_model.specs.Pages.{Cell, groups, lead_of}
use Rattle.skip_groups.specs.Groups.{group_cost}

-- the pairs whose keys are not above the key, and those whose keys are below it
abbrev pub not_above : List ℕ → List Pair → List Pair
not_above key s = filter (λ pair. is_le (key_cmp pair.0 key)) s

abbrev pub below : List ℕ → List Pair → List Pair
below key s = filter (λ pair. is_lt (key_cmp pair.0 key)) s

-- the pairs whose keys are above the key
abbrev pub above : List ℕ → List Pair → List Pair
above key s = filter (λ pair. not (is_le (key_cmp pair.0 key))) s

-- the last of these keys leads, or the start where there is none
unfoldable pub last_lead : List (List ℕ) → Lead
last_lead [] = Start
last_lead (key ∷ []) = Leader key
last_lead (key ∷ other ∷ keys) = last_lead (other ∷ keys)

-- what leads the group of a level behind these pairs: the greatest of their keys that stands on a higher level, or
-- the start
abbrev pub leader_behind : Draw → ℕ → List Pair → Lead
leader_behind d level s = last_lead (map (λ pair. pair.0) (filter (λ pair. nat_lt level (d.level pair.0)) s))

-- the first key that leads a group of a level in these pairs: the least of their keys that stands on a higher level
abbrev pub leader_ahead : Draw → ℕ → List Pair → Option (List ℕ)
leader_ahead d level s = slice_get (map (λ pair. pair.0) (filter (λ pair. nat_lt level (d.level pair.0)) s)) 0

-- the group of a level that a lead leads; no cell where there is none
abbrev pub group_led_by : Draw → List Pair → ℕ → Lead → List Cell
group_led_by d s level lead =
    unwrap_or (find (λ group. same_bytes (lead_bytes (lead_of d level group)) (lead_bytes lead)) (groups d s level)) []

-- the group of a level on the search path of a key, at or below it
abbrev pub group_at_or_below : Draw → List Pair → ℕ → List ℕ → List Cell
group_at_or_below d s level key = group_led_by d s level (leader_behind d level (not_above key s))

-- the group of a level on the search path strictly below a key
abbrev pub group_below : Draw → List Pair → ℕ → List ℕ → List Cell
group_below d s level key = group_led_by d s level (leader_behind d level (below key s))

-- what reading the groups of so many levels of the search path costs, from a level on, at or below the key
abbrev pub levels_cost : Draw → List Pair → List ℕ → ℕ → ℕ → ℕ
levels_cost d s key first count =
    sum (map (λ level. group_cost level (group_at_or_below d s level key)) (numbers_from first count))

-- what reading the groups of the whole search path costs, at or below the key
abbrev pub path_cost : Draw → List Pair → List ℕ → ℕ
path_cost d s key = levels_cost d s key 0 d.height

-- the same up to the key's own level
abbrev pub low_cost : Draw → List Pair → List ℕ → ℕ
low_cost d s key = levels_cost d s key 0 (suc (d.level key))

-- what reading the groups of the whole search path strictly below the key costs
abbrev pub path_cost_below : Draw → List Pair → List ℕ → ℕ
path_cost_below d s key = sum (map (λ level. group_cost level (group_below d s level key)) (numbers_below d.height))
