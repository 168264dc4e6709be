-- Images that hold pages in their table.
use Rattle.std.specs.Prelude.{◌≡◌, ℕ, List, [], ◌==◌, if◌then◌else◌, Option, Some, None, map, length, take, drop}
use Rattle.std.specs.Prelude.{slice_get, slice_index}
use Rattle.std.specs.List.{filter_map}
use Rattle.std.specs.Option.{option_map_or}
use Rattle.store_model.specs.Lists.{numbers_below}
use Rattle.store_model.specs.Parameters.{Parameters, block_len, image_len}
use Rattle.store_model.specs.Draws.{Draw}
use Rattle.store_model.specs.Pages.{Page}
use Rattle.store_model.specs.Placement.{place}
use Rattle.store_model.specs.PageMaps.{PageMap, map_of_pages, pages_of_map, HoldsPages}
use Rattle.store_model.specs.Images.{header, recovered, slot_bytes}
use Rattle.node_pages.specs.PageSlots.{page_in}
use Rattle.disk_model.specs.DiskState.{DiskState, IsDurable}
use Rattle.gate_journal.specs.Phases.{table_slot, HasEmptyJournal}
use Rattle.table_memory.specs.Spelled.{label_in}
use Rattle.table_memory.specs.Differences.{differing}

-- the page that the bytes of a slot spell, and none in a slot whose byte 0 is not 1
unfoldable pub page_in_slot : List ℕ → Option Page
page_in_slot slot = if slice_index slot 0 == 1 then Some (page_in (label_in (take 130 (drop 1 slot))) slot) else None

-- the pages in these slots
unfoldable pub pages_in_slots : List (List ℕ) → PageMap
pages_in_slots slots = map_of_pages (filter_map page_in_slot slots)

-- the slots of the table of an image, as they stand in it
abbrev pub table_slots : ℕ → List ℕ → List (List ℕ)
table_slots slots image = map (table_slot slots image) (numbers_below slots)

-- the pages in the table of an image
abbrev pub pages_in_table : ℕ → List ℕ → PageMap
pages_in_table slots image = pages_in_slots (table_slots slots image)

-- the image is the layout of the pages: the header names the parameters, the journal is empty, and the table holds
-- the pages
pub record IsLayoutOf (d : Draw) (p : Parameters) (m : PageMap) (image : List ℕ) : Type 0 where
  pub header_is : take block_len image ≡ header p
  pub empty : HasEmptyJournal p.slots image
  pub holds : HoldsPages d (table_slots p.slots image) m

-- the disk reads as the layout of the pages, and a crash leaves exactly that
pub record SlotStandsAt (d : Draw) (p : Parameters) (m : PageMap) (disk : DiskState) : Type 0 where
  pub layout : IsLayoutOf d p m disk.bytes
  pub durable : IsDurable disk

-- an image of the parameters' length that recovers to the layout of the pages
pub record RepresentsPages (d : Draw) (p : Parameters) (m : PageMap) (image : List ℕ) : Type 0 where
  pub length_is : length image ≡ image_len p.slots
  pub layout : IsLayoutOf d p m (recovered p.slots image)

-- the bytes of slot i in the placement of the pages
abbrev pub placed_slot : Draw → PageMap → ℕ → List ℕ
placed_slot d m i = option_map_or slot_bytes (slice_get (place d (pages_of_map m)) i) []

-- how many slots differ between the placements of two maps
abbrev pub slots_between : Draw → PageMap → PageMap → ℕ
slots_between d m n = differing (placed_slot d m) (placed_slot d n) d.slots
