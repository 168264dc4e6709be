-- The page in a slot gives place to another one of its label.
use Rattle.std.proofs.Common.{◌≡◌, ◌≢◌, ℕ, ◌<◌, ◌⊎◌, inl, inr, List, true, false, Bool, cond, Option, Some, None}
use Rattle.std.proofs.Common.{length, slice_get, slice_set, refl, ap, sym, subst, ◌∙◌, arith, length-set}
use Rattle.std.specs.Prelude.{Result, Ok, Err, OnOk}
use Rattle.std.specs.declared.cmp.Ordering.{Ordering}
use Rattle.std.specs.declared.cmp.Ordering.TheVariants.{Less, Equal, Greater}
use Rattle.std.specs.Ordering.{is_eq, eq_by_cmp}
use Rattle.std.specs.FinMap as maps
use Rattle.std.proofs.lemmas.Bool.{false≢true}
use Rattle.std.proofs.lemmas.Cmp.{tied_itself}
use Rattle.std.proofs.lemmas.List.{map-set}
use Rattle.std.proofs.lemmas.Option.{same_Some, slice_get_within}
use Rattle.store_model.specs.Labels.{Label, label_bytes, label_cmp}
use Rattle.store_model.specs.Draws.{Draw, IsLawful}
use Rattle.store_model.specs.Pages.{Page, IsPage}
use Rattle.store_model.specs.Placement.{Table, probe, place, HoldsPage, IsOrderedTable}
use Rattle.store_model.specs.Images.{slot_bytes, slots_of}
use Rattle.store_model.specs.PageMaps.{PageMap, page_at, with_page, pages_of_map, IsUnder, HoldsPages, IsTableOf}
use Rattle.store_model.proofs.ImagesLemmas.{IsSlot}
use Rattle.store_model.proofs.PlacementLemmas.{label_cmp_total}
use Rattle.store_model.proofs.PlacementLemmasOrder.{one_page}
use Rattle.store_model.proofs.PlacementLemmasTables.{tied_label_bytes, held_page}
use Rattle.store_model.proofs.TreesLemmasBytes.{slots_same, labels_same}
use Rattle.store_model.proofs.PageMapsLemmas.{found_stands, standing_found, page_at-with_page, IsPageMap-with_page}
use Rattle.store_model.proofs.PageMapsLemmas.{HoldsPages-lookups}
use Rattle.store_base.specs.declared.store_fault.Fault.{Fault}
use Rattle.store_base.specs.SlotsState.{SlotsState, IsObservable, IsSet}
use Rattle.ordered_table.specs.Tables.{HasInSlot, Overwrites}
use Rattle.ordered_table.proofs.Reading.{Seen, seen}
use Rattle.ordered_table.proofs.Searching.{held_table}
use Rattle.ordered_table.proofs.Inserting.{get_set_same, get_set_other, get_set_back, same_or_not, all_in_slots}
use Rattle.ordered_table.proofs.Inserting.{one_place}

-- what a table with pages holds in a slot
slot_is : (table : Table) (at : ℕ) (d : Draw) → IsOrderedTable d table → (what : Option Page)
    → slice_get table at ≡ Some what → IsSlot what
slot_is table at d is None there = tt
slot_is table at d is (Some page) there = held_page table at page is.pages there

-- the page that a slot of a label holds stands there in the table, and has the label
pub record InTable (d : Draw) (slots : List (List ℕ)) (m : PageMap) (l : Label) (at : ℕ) (page : Page) : Type 0 where
  pub table : Table
  pub is : IsTableOf d slots m table
  pub held : HoldsPage table at page
  pub valid : IsPage page
  pub label_bytes_are : label_bytes l ≡ label_bytes page.label

pub in_table : (d : Draw) (slots : List (List ℕ)) (m : PageMap) (l : Label) (at : ℕ) → IsLawful d → at < d.slots
    → (h : HasInSlot d slots m l at) → InTable d slots m l at h.there.page
in_table d slots m l at law within h = record {
  table = place d (pages_of_map m);
  is = is;
  held = s.there ∙ ap Some (slots_same s.what (Some h.there.page)
      (slot_is (place d (pages_of_map m)) at d is.ordered s.what s.there) under.valid (sym s.bytes_are));
  valid = under.valid;
  label_bytes_are = under.under;
}
  where
    is : IsTableOf d slots m (place d (pages_of_map m))
    is = held_table d slots m law h.holds

    under : IsUnder (label_bytes l) h.there.page
    under = h.holds.pages (label_bytes l) h.there.page h.there.in_map

    s : Seen (place d (pages_of_map m)) at (slot_bytes (Some h.there.page))
    s = seen (place d (pages_of_map m)) slots at (slot_bytes (Some h.there.page))
        is.slots_are (omega (arith, within, is.ordered.slots)) h.there.in_slot

-- the slots with a page of the same label in the slot
pub replaced : (d : Draw) (slots : List (List ℕ)) (m : PageMap) (page : Page) (at : ℕ) (bytes : List ℕ) → IsLawful d
    → IsPage page → at < d.slots → HasInSlot d slots m page.label at → bytes ≡ slot_bytes (Some page)
    → HoldsPages d (slice_set slots at bytes) (with_page m page)
replaced d slots m page at bytes law valid within h bytes_are =
    subst (λ (ss : List (List ℕ)). HoldsPages d ss (with_page m page)) slots_are
    (HoldsPages-lookups d new (with_page m page) law ordered (IsPageMap-with_page m page h.holds.pages valid)
    (λ slot q held. there slot q held (same_or_not slot at))
    (λ q found. back q (eq_by_cmp label_cmp q.label page.label) refl
    (sym (page_at-with_page m page q.label) ∙ found)))
  where
    p : Page
    p = h.there.page

    t : InTable d slots m page.label at p
    t = in_table d slots m page.label at law within h

    new : Table
    new = slice_set t.table at (Some page)

    at_within : at < length t.table
    at_within = slice_get_within t.table at (Some p) t.held

    put : HoldsPage new at page
    put = get_set_same t.table at (Some page) at_within

    same_label : p.label ≡ page.label
    same_label = labels_same p.label page.label t.valid.label valid.label (sym t.label_bytes_are)

    slots_are : slots_of new ≡ slice_set slots at bytes
    slots_are = map-set slot_bytes t.table at (Some page) ∙ ap (slice_set (slots_of t.table) at) (sym bytes_are)
        ∙ ap (λ (ss : List (List ℕ)). slice_set ss at bytes) (sym t.is.slots_are)

    is_page : (slot : ℕ) (q : Page) → HoldsPage new slot q → slot ≡ at → page ≡ q
    is_page slot q held same = same_Some page q
        (same_Some (Some page) (Some q) (sym put ∙ ap (slice_get new) (sym same) ∙ held))

    still_smaller : (q r : Page) (slot : ℕ) → HoldsPage t.table slot r → label_cmp r.label q.label ≡ Less
        → (slot ≡ at) ⊎ (slot ≢ at) → (other : Page) × HoldsPage new slot other × (label_cmp other.label q.label ≡ Less)
    still_smaller q r slot held less (inl same) =
        let r_is : r ≡ p = one_page t.table at r p (subst (λ (s : ℕ). HoldsPage t.table s r) same held) t.held in (
          page,
          subst (λ (s : ℕ). HoldsPage new s page) (sym same) put,
          ap (λ (l : Label). label_cmp l q.label)
              (sym same_label ∙ ap (λ (x : Page). x.label) (sym r_is)) ∙ less,
        )
    still_smaller q r slot held less (inr other) =
        (r, get_set_other t.table at slot (Some page) (Some r) other held, less)

    -- before the page stood p, of the same label
    old_there : (q : Page) (slot : ℕ) → HoldsPage new slot q → (slot ≡ at) ⊎ (slot ≢ at)
        → (o : Page) × HoldsPage t.table slot o × (o.label ≡ q.label)
    old_there q slot held (inl same) = (
      p,
      subst (λ (s : ℕ). HoldsPage t.table s p) (sym same) t.held,
      same_label
          ∙ ap (λ (x : Page). x.label) (is_page slot q held same),
    )
    old_there q slot held (inr other) = (q, get_set_back t.table at slot (Some page) (Some q) other held, refl)

    in_order : (q : Page) (i : ℕ) → i < d.slots → HoldsPage new (probe d.slots (d.start q.label) i) q → (k : ℕ) → k < i
        → (other : Page) × HoldsPage new (probe d.slots (d.start q.label) k) other
        × (label_cmp other.label q.label ≡ Less)
    in_order q i below held k before =
        let o = old_there q (probe d.slots (d.start q.label) i) held
        (same_or_not (probe d.slots (d.start q.label) i) at) in
        let r = t.is.ordered.in_order o.0 i below
        (subst (λ (l : Label). HoldsPage t.table (probe d.slots (d.start l) i) o.0) (sym o.2) o.1) k before in
        let held_r = subst (λ (l : Label). HoldsPage t.table (probe d.slots (d.start l) k) r.0) o.2 r.1 in
        still_smaller q r.0 (probe d.slots (d.start q.label) k) held_r (ap (label_cmp r.0.label) (sym o.2) ∙ r.2)
        (same_or_not (probe d.slots (d.start q.label) k) at)

    valid_there : (slot : ℕ) (q : Page) → HoldsPage new slot q → (slot ≡ at) ⊎ (slot ≢ at) → IsPage q
    valid_there slot q held (inl same) = subst IsPage (is_page slot q held same) valid
    valid_there slot q held (inr other) =
        held_page t.table slot q t.is.ordered.pages (get_set_back t.table at slot (Some page) (Some q) other held)

    ordered : IsOrderedTable d new
    ordered = record {
      slots = length-set t.table at (Some page) ∙ t.is.ordered.slots;
      pages = all_in_slots IsPage new (λ slot q held. valid_there slot q held (same_or_not slot at));
      in_order = in_order;
    }

    tie_of : (o : Ordering) → is_eq o ≡ true → o ≡ Equal
    tie_of Less e = cc
    tie_of Equal e = refl
    tie_of Greater e = cc

    there : (slot : ℕ) (q : Page) → HoldsPage new slot q → (slot ≡ at) ⊎ (slot ≢ at)
        → page_at (with_page m page) q.label ≡ Some q
    there slot q held (inl same) = subst (λ (x : Page). page_at (with_page m page) x.label ≡ Some x)
        (is_page slot q held same) (page_at-with_page m page page.label
        ∙ ap (λ o. cond (is_eq o) (Some page) (page_at m page.label)) (tied_itself label_cmp_total page.label))
    there slot q held (inr other) = page_at-with_page m page q.label
        ∙ by_tie (eq_by_cmp label_cmp q.label page.label) refl
      where
        old : HoldsPage t.table slot q
        old = get_set_back t.table at slot (Some page) (Some q) other held

        found : page_at m q.label ≡ Some q
        found = standing_found d slots m t.table slot q law t.is old

        by_tie : (b : Bool) → eq_by_cmp label_cmp q.label page.label ≡ b
            → cond b (Some page) (page_at m q.label) ≡ Some q
        by_tie true tie =
            let q_is : q ≡ p =
            same_Some q p (sym found ∙ ap (maps.get m)
            (tied_label_bytes q.label page.label (tie_of (label_cmp q.label page.label) tie)) ∙ h.there.in_map) in
            absurd (other (one_place d t.table slot at p law
            t.is.ordered (subst (λ (x : Page). HoldsPage t.table slot x) q_is old) t.held))
        by_tie false tie = found

    back : (q : Page) → (b : Bool) → eq_by_cmp label_cmp q.label page.label ≡ b
        → cond b (Some page) (page_at m q.label) ≡ Some q → (slot : ℕ) × HoldsPage new slot q
    back q true tie found = (at, put ∙ ap Some found)
    back q false tie found = by_slot (same_or_not stands.0 at)
      where
        stands : (slot : ℕ) × HoldsPage t.table slot q
        stands = found_stands d slots m t.table q t.is found

        by_slot : (stands.0 ≡ at) ⊎ (stands.0 ≢ at) → (slot : ℕ) × HoldsPage new slot q
        by_slot (inl same) =
            let q_is : q ≡ p = one_page t.table at q p (subst (λ (s : ℕ). HoldsPage t.table s q) same stands.1) t.held
            in
            let is_same : q.label ≡ page.label = ap (λ (x : Page). x.label) q_is ∙ same_label in
            let tied : label_cmp q.label page.label ≡ Equal =
            ap (label_cmp q.label) (sym is_same) ∙ tied_itself label_cmp_total q.label in
            absurd (false≢true (sym tie ∙ ap is_eq tied))
        by_slot (inr other) = (stands.0, get_set_other t.table at stands.0 (Some page) (Some q) other stands.1)

-- one write
pub overwrites : (d : Draw) (old new : SlotsState) (page : Page) (at : ℕ) (bytes : List ℕ)
    (result : Result (Unit {0}) Fault) → IsLawful d → IsPage page → at < d.slots → bytes ≡ slot_bytes (Some page)
    → IsSet old new at bytes result → Overwrites d old new at page result
overwrites d old new page at bytes result law valid within bytes_are set = record {
  calls = set.calls;
  overwritten = λ m observable h. written m observable h result set;
}
  where
    written : (m : PageMap) → IsObservable old → HasInSlot d old.slots m page.label at
        → (result : Result (Unit {0}) Fault) → IsSet old new at bytes result
        → OnOk result (HoldsPages d new.slots (with_page m page))
    written m observable h (Err fault) set = tt
    written m observable h (Ok u) set =
        subst (λ (ss : List (List ℕ)). HoldsPages d ss (with_page m page)) (sym (set.observed observable).written)
        (replaced d old.slots m page at bytes law valid within h bytes_are)
