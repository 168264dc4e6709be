-- Pages in memory as the entries of a finite map.
use Rattle.std.specs.Prelude.{ℕ, List, map, Option, Some, None}
use Rattle.std.specs.List.{AllByRecursion, AllByRecursion-prop}
use Rattle.std.specs.List.Sorted.{IsStrictlySortedBy-prop}
use Rattle.std.specs.FinMap as maps
use Rattle.std.proofs.Props.{props}
use Rattle.store_model.specs.Labels.{Lead, IsLead, label_bytes}
use Rattle.store_model.specs.Labels.Lead.{Start, Leader}
use Rattle.store_model.specs.Pages.{Page, IsPage, IsCellValue}
use Rattle.store_model.specs.PageMaps.{PageMap}

-- the entry of a page: the bytes of its label, and the page
abbrev pub entry_of : Page → List ℕ × Page
entry_of page = (label_bytes page.label, page)

-- the map of pages that come by rising label
abbrev pub map_of_sorted : List Page → PageMap
map_of_sorted pages = maps.from_sorted (map entry_of pages)

-- ---- that pages are valid is one fact, as a ghost field asks

IsLead-prop : (lead : Lead) → IsProp (IsLead lead)
IsLead-prop Start = hlevel props
IsLead-prop (Leader key) = hlevel props

IsCellValue-prop : (level : ℕ) (value : Option (List ℕ)) → IsProp (IsCellValue level value)
IsCellValue-prop level None = hlevel props
IsCellValue-prop level (Some value) = hlevel props

IsPage-prop : (page : Page) → IsProp (IsPage page)
IsPage-prop page = hlevel (props, AllByRecursion-prop, IsStrictlySortedBy-prop, IsLead-prop, IsCellValue-prop)

pub ArePages-prop : (pages : List Page) → IsProp (AllByRecursion IsPage pages)
ArePages-prop pages = AllByRecursion-prop IsPage IsPage-prop pages
