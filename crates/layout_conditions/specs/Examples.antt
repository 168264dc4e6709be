-- The worked example: the directory `/Ua` under `ruler`, in two slots of height 2. Its key has one byte 55, so it
-- stands on levels 0 and 1.
use Rattle.std.specs.Prelude.{ℕ, List, [], ◌∷◌, Some, None, codes}
use Rattle.store_model.specs.declared.draw_kind.DrawKind.TheVariants.{Ruler}
use Rattle.store_model.specs.declared.version.Version.TheVariants.{One}
use Rattle.store_model.specs.Lists.{zeros, zero_filled}
use Rattle.store_model.specs.Parameters.{Parameters, seed_len}
use Rattle.store_model.specs.Paths.{key_len}
use Rattle.store_model.specs.Labels.Lead.{Start, Leader}
use Rattle.store_model.specs.Pages.{Page}
use Rattle.store_model.specs.Placement.{Table}

abbrev pub two_slots : Parameters
two_slots = record { slots = 2; height = 2; kind = Ruler; seed = zeros seed_len; version = One }

-- the key of the directory
unfoldable pub example_key : List ℕ
example_key = zero_filled key_len (codes "Ua")

-- on level 1 it is the group of the start
abbrev pub upper_page : Page
upper_page = record {
  label = record { level = 1; lead = Start; index = 0 };
  cells = record { key = example_key; value = None } ∷ [];
}

-- on level 0 it leads a group, and has its value
abbrev pub lower_page : Page
lower_page = record {
  label = record { level = 0; lead = Leader example_key; index = 0 };
  cells = record { key = example_key; value = Some (1 ∷ []) } ∷ [];
}

-- both pages start at slot 1; the smaller label, that of level 0, has it
abbrev pub both_pages : Table
both_pages = Some upper_page ∷ Some lower_page ∷ []

-- the page of level 0, with none that leads to it
abbrev pub lower_alone : Table
lower_alone = None ∷ Some lower_page ∷ []

-- the page of level 1, whose key leads no group
abbrev pub upper_alone : Table
upper_alone = None ∷ Some upper_page ∷ []
