-- The keys above level 0.
use Rattle.std.specs.Prelude.{◌≡◌, ℕ, ◌-◌, ◌<◌, ◌≤◌, List, [], ◌∷◌, ◌++◌, map, length, nat_le, Option, None}
use Rattle.std.specs.List.{filter, flat_map, AllByRecursion}
use Rattle.store_model.specs.Lists.{numbers_from}
use Rattle.store_model.specs.Pairs.{Pair, IsPairs, directory_value}
use Rattle.store_model.specs.Draws.{Draw}
use Rattle.store_model.specs.Pages.{Cell, Page, level_pages}
use Rattle.rising_pages.specs.declared.raised.RaisedKey.{RaisedKey}
use Rattle.rising_pages.specs.OpenPages.{open_page}

-- the pairs whose keys stand above level 0
unfoldable pub raised_pairs : Draw → List Pair → List Pair
raised_pairs d s = filter (λ pair. nat_le 1 (d.level pair.0)) s

-- their keys, each with its level
abbrev pub raised_keys : Draw → List Pair → List RaisedKey
raised_keys d s = map (λ pair. record { key = pair.0; level = d.level pair.0 }) (raised_pairs d s)

-- each level is that which the draw gives the key
abbrev pub AreRaised : Draw → List RaisedKey → Type 0
AreRaised d keys = AllByRecursion (λ r. r.level ≡ d.level r.key) keys

-- pairs with these keys: the pages above level 0 have no values, so it does not matter which
abbrev pub key_pair : RaisedKey → Pair
key_pair r = (r.key, directory_value)

abbrev pub key_pairs : List RaisedKey → List Pair
key_pairs keys = map key_pair keys

-- the cell of a key above level 0
abbrev pub bare_cell : RaisedKey → Cell
bare_cell r = record { key = r.key; value = None }

-- the keys that stand above level 0 have the pages above level 0 that all pairs have
abbrev pub RaisedTell : Draw → List Pair → ℕ → Type 0
RaisedTell d s level = 1 ≤ level → level_pages d (key_pairs (raised_keys d s)) level ≡ level_pages d s level

-- the pages of the levels above 0, level after level
abbrev pub upper_pages : Draw → List Pair → List Page
upper_pages d s = flat_map (level_pages d s) (numbers_from 1 (d.height - 1))

-- the next key comes to the last page of a level, on which it stands or not
pub record KeyComes (d : Draw) (level : ℕ) (s : List Pair) (key : RaisedKey) (last : Option Page) : Type 0 where
  pub pairs : IsPairs (s ++ key_pair key ∷ [])
  pub few : length s < 4294967296
  pub low : level < 256
  pub above : 1 ≤ level
  pub level_is : key.level ≡ d.level key.key
  pub last_is : last ≡ open_page d s level
