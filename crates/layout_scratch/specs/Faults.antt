-- Why pages were not laid out.
use Rattle.std.specs.Prelude.{◌≡◌, ◌<◌, List, length}
use Rattle.store_model.specs.Pairs.{Pair}
use Rattle.store_model.specs.Draws.{Draw}
use Rattle.store_model.specs.Pages.{Page, pages_of_pairs}
use Rattle.layout_scratch.specs.declared.fault.ScratchFault.{ScratchFault}
use Rattle.layout_scratch.specs.declared.fault.ScratchFault.TheVariants.{Full, NoMemory}
use Rattle.layout_scratch.specs.Sorting.{by_key}

-- `Full` tells how many pages there are and how many slots, and the pages are more
abbrev pub RefusesPages : Draw → List Page → ScratchFault → Type 0
RefusesPages d pages (Full need slots) = (need ≡ length pages) × (slots ≡ d.slots) × (d.slots < need)
RefusesPages d pages NoMemory = Unit {0}

-- it tells so of the pages that the pairs have in the order of their keys
abbrev pub IsRefusal : Draw → List Pair → ScratchFault → Type 0
IsRefusal d s fault = RefusesPages d (pages_of_pairs d (by_key s)) fault
