-- Lookups of pages by an index, in slots that hold a map.
use Rattle.std.proofs.Common.{◌≡◌, ℕ, List, Option, Some, None, Result, Ok, Err, slice_get, refl, sym, ap, subst, ◌∙◌}
use Rattle.std.specs.List.{AllByRecursion}
use Rattle.std.specs.Option.{option_map}
use Rattle.std.proofs.lemmas.Option.{same_Some, none-some, slice_get-map}
use Rattle.store_model.specs.Labels.{Label, IsLabel, label_bytes}
use Rattle.store_model.specs.Draws.{Draw, IsLawful}
use Rattle.store_model.specs.Pages.{Page, IsPage}
use Rattle.store_model.specs.Placement.{Table, pages_in, HoldsPage}
use Rattle.store_model.specs.Images.{slot_bytes, slots_of}
use Rattle.store_model.specs.PageMaps.{PageMap, page_at, HoldsPages}
use Rattle.store_model.proofs.ImagesLemmas.{IsSlot}
use Rattle.store_model.proofs.TreesLemmasBytes.{labels_same, slots_same}
use Rattle.store_model.proofs.PageMapsLemmas.{table_of_held_map, found_stands, standing_found}
use Rattle.store_model.proofs.PlacementLemmasTables.{held_page}
use Rattle.store_base.specs.declared.store_fault.Fault.{Fault}
use Rattle.store_base.specs.SlotsState.{SlotsState, IsObservable}
use Rattle.table_walk.specs.declared.entry.Entry.{Entry}
use Rattle.table_walk.specs.Indexes.{LiesIn, IsIndexOf}
use Rattle.table_walk.specs.IndexLookups.{LooksUp}
use Rattle.table_walk.specs.Lookups.{FindsPage}

-- what a table has in a slot is a page, if it is not free
is_slot : (table : Table) (at : ℕ) (what : Option Page) → AllByRecursion IsPage (pages_in table)
    → slice_get table at ≡ Some what → IsSlot what
is_slot table at None pages there = tt
is_slot table at (Some page) pages there = held_page table at page pages there

-- a page that lies in a slot of a table is the table's
lies_in_table : (slots : List (List ℕ)) (table : Table) (at : ℕ) (page : Page) → slots ≡ slots_of table
    → AllByRecursion IsPage (pages_in table) → LiesIn slots at page → HoldsPage table at page
lies_in_table slots table at page are pages lies =
    by_case (slice_get table at) refl (sym (slice_get-map slot_bytes table at)
    ∙ ap (λ (ss : List (List ℕ)). slice_get ss at) (sym are) ∙ lies.in_slot)
  where
    by_case : (what : Option (Option Page)) → slice_get table at ≡ what
        → option_map slot_bytes (slice_get table at) ≡ Some (slot_bytes (Some page))
        → slice_get table at ≡ Some (Some page)
    by_case None there same =
        absurd (none-some (slot_bytes (Some page)) (sym (ap (option_map slot_bytes) there) ∙ same))
    by_case (Some what) there same = there
        ∙ ap Some (slots_same what (Some page) (is_slot table at what pages there)
        lies.valid (same_Some (slot_bytes what) (slot_bytes (Some page))
        (sym (ap (option_map slot_bytes) there) ∙ same)))

-- a page that lies in a slot is the map's
lies_in_map : (d : Draw) (slots : List (List ℕ)) (at : ℕ) (page : Page) (m : PageMap) → IsLawful d
    → HoldsPages d slots m → LiesIn slots at page → page_at m page.label ≡ Some page
lies_in_map d slots at page m law holds lies =
    let (table, is) = table_of_held_map d slots m law holds in
    standing_found d slots m table at page law is (lies_in_table slots table at page is.slots_are is.ordered.pages lies)

-- and a page of the map lies in a slot
map_lies : (d : Draw) (slots : List (List ℕ)) (m : PageMap) (page : Page) → IsLawful d → HoldsPages d slots m
    → page_at m page.label ≡ Some page → (at : ℕ) × LiesIn slots at page
map_lies d slots m page law holds in_map =
    let (table, is) = table_of_held_map d slots m law holds in
    let (at, held) = found_stands d slots m table page is in_map in (
      at,
      record {
        valid = held_page table at page is.ordered.pages held;
        in_slot = ap (λ (ss : List (List ℕ)). slice_get ss at) is.slots_are ∙ slice_get-map slot_bytes table at
            ∙ ap (option_map slot_bytes) held;
      },
    )

-- so what is looked up by an index is what the map has
pub found_by_index : (d : Draw) (digests : Label → ℕ) (old new : SlotsState) (entries : List Entry) (l : Label)
    (digest : ℕ) (result : Result (Option Page) Fault) → IsLawful d → IsLabel l → digest ≡ digests l
    → IsIndexOf digests old entries → LooksUp old new entries l digest result → FindsPage d old new l result
found_by_index d digests old new entries l digest (Err fault) law valid is_digest index looks = record {
  reads = looks.reads;
  label = tt;
  found = λ m observable holds. tt;
}
found_by_index d digests old new entries l digest (Ok (Some page)) law valid is_digest index looks = record {
  reads = looks.reads;
  label = looks.label;
  found = λ m observable holds.
      let there = looks.found digests is_digest observable (index.indexes observable) in
      sym (subst (λ (label : Label). page_at m label ≡ Some page)
      looks.label (lies_in_map d old.slots there.0 page m law holds there.1));
}
found_by_index d digests old new entries l digest (Ok None) law valid is_digest index looks = record {
  reads = looks.reads;
  label = tt;
  found = λ m observable holds. none m observable holds (page_at m l) refl;
}
  where
    none : (m : PageMap) → IsObservable old → HoldsPages d old.slots m → (found : Option Page)
        → page_at m l ≡ found → None ≡ page_at m l
    none m observable holds None is = sym is
    none m observable holds (Some page) is =
        let under = holds.pages (label_bytes l) page is in
        let same = labels_same page.label l under.valid.label valid (sym under.under) in
        let there = map_lies d old.slots m page law holds (ap (page_at m) same ∙ is) in
        absurd (looks.found digests is_digest observable (index.indexes observable) there.0 page there.1 same)
