-- StagedPages of pages that are staged, and the map with them.
use Rattle.std.specs.Prelude.{ℕ, ◌+◌, ◌-◌, Bool, true, false, List, [], ◌∷◌, Option, Some, None}
use Rattle.std.specs.FinMap as maps
use Rattle.store_model.specs.Labels.{Label, label_bytes}
use Rattle.store_model.specs.Pages.{Page}
use Rattle.store_model.specs.PageMaps.{PageMap, without_page}

-- what is staged: under each label a page, or that there is none
abbrev pub StagedPages : Type 0
StagedPages = List (Label × Option Page)

-- the map with this under the label
abbrev pub with_change : PageMap → Label → Option Page → PageMap
with_change m l (Some page) = maps.insert m (label_bytes l) page
with_change m l None = without_page m l

-- the map with all changes
abbrev pub with_changes : PageMap → StagedPages → PageMap
with_changes m [] = m
with_changes m (change ∷ changes) = with_change (with_changes m changes) change.0 change.1

-- how many pages there are of so many, once one label has a page or none, and had one or none before
abbrev pub used_after : ℕ → Bool → Bool → ℕ
used_after used false true = used + 1
used_after used true false = used - 1
used_after used false false = used
used_after used true true = used
