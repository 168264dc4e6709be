-- Lemmas on the pages in slots.
use Rattle.std.proofs.Common.{◌≡◌, ℕ, ◌==◌, List, [], ◌∷◌, if◌then◌else◌, take, drop, Option, Some, None, refl, sym, ap}
use Rattle.std.proofs.Common.{◌∙◌}
use Rattle.std.specs.List.{filter_map, cons_option, AllByRecursion}
use Rattle.store_model.specs.Labels.{Label}
use Rattle.store_model.specs.Draws.{Draw, IsLawful}
use Rattle.store_model.specs.Pages.{Page, IsPage}
use Rattle.store_model.specs.Placement.{Table, pages_in}
use Rattle.store_model.specs.Images.{page_bytes, slot_bytes, slots_of}
use Rattle.store_model.specs.PageMaps.{PageMap, map_of_pages, HoldsPages}
use Rattle.store_model.proofs.PageMapsLemmas.{table_of_held_map}
use Rattle.node_pages.specs.PageSlots.{page_in}
use Rattle.node_pages.proofs.PageBytes.{shown}
use Rattle.table_memory.specs.Spelled.{label_in}
use Rattle.table_memory.proofs.SpelledLemmas.{label_in-label_bytes}
use Rattle.page_store.specs.PageImages.{page_in_slot, pages_in_slots}

-- a page is told by its slot
page_in_slot-page : (page : Page) → IsPage page → page_in_slot (page_bytes page) ≡ Some page
unfolding page_in_slot
page_in_slot-page page valid =
    let slot = page_bytes page in
    let shows = shown page slot valid refl in
    let label : label_in (take 130 (drop 1 slot)) ≡ page.label =
    ap label_in (sym shows.label_bytes_are) ∙ label_in-label_bytes page.label valid.label in
    ap (λ (n : ℕ). if n == 1 then Some (page_in (label_in (take 130 (drop 1 slot))) slot) else None) shows.first
    ∙ ap (λ (l : Label). Some (page_in l slot)) label ∙ ap Some shows.read

-- a free slot has none
page_in_slot-free : page_in_slot (slot_bytes None) ≡ None
unfolding page_in_slot slot_bytes
page_in_slot-free = refl

-- the slots of a table of pages tell them
told_by_slots : (table : Table) → AllByRecursion IsPage (pages_in table)
    → filter_map page_in_slot (slots_of table) ≡ pages_in table
unfolding pages_in slot_bytes
told_by_slots [] all = refl
told_by_slots (None ∷ table) all =
    ap (λ (o : Option Page). cons_option o (filter_map page_in_slot (slots_of table))) page_in_slot-free
    ∙ told_by_slots table all
told_by_slots (Some page ∷ table) all =
    ap (λ (o : Option Page). cons_option o (filter_map page_in_slot (slots_of table))) (page_in_slot-page page all.0)
    ∙ ap (λ (ps : List Page). page ∷ ps) (told_by_slots table all.1)

-- slots that hold a map have its pages in them
pub pages_in_held : (d : Draw) (slots : List (List ℕ)) (m : PageMap) → IsLawful d → HoldsPages d slots m
    → pages_in_slots slots ≡ m
unfolding pages_in_slots
pages_in_held d slots m law held =
    let table = table_of_held_map d slots m law held in
    ap (λ (ss : List (List ℕ)). map_of_pages (filter_map page_in_slot ss)) table.1.slots_are
    ∙ ap map_of_pages (told_by_slots table.0 table.1.ordered.pages) ∙ table.1.pages_are
