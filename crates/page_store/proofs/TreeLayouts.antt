-- The layouts of pages that are those of a tree are the layouts of the tree.
use Rattle.std.proofs.Common.{◌≡◌, ℕ, suc, ◌+◌, ◌<◌, List, [], ◌∷◌, map, length, Option, Some, slice_get, refl, sym, ap}
use Rattle.std.proofs.Common.{ap₂, subst, ◌∙◌, arith}
use Rattle.std.specs.Option.{option_map}
use Rattle.std.proofs.lemmas.Option.{same_Some, slice_get-map, slice_get_within}
use Rattle.store_model.specs.Lists.{numbers_from}
use Rattle.store_model.specs.Parameters.{Parameters, IsParameters, image_len}
use Rattle.store_model.specs.Trees.{Tree, IsTree}
use Rattle.store_model.specs.Draws.{draw_of}
use Rattle.store_model.specs.Pages.{Page, Fits, pages}
use Rattle.store_model.specs.Placement.{place}
use Rattle.store_model.specs.Images.{slot_bytes, slots_of, layout, recovered, Represents}
use Rattle.store_model.specs.PageMaps.{map_of_pages, HoldsPages}
use Rattle.store_model.proofs.ImagesLemmas.{header-layout}
use Rattle.store_model.proofs.PlacementLemmas.{length-place}
use Rattle.store_model.proofs.PageMapsLemmas.{HoldsPages-tree}
use Rattle.gate_journal.specs.Phases.{table_slot}
use Rattle.gate_journal.proofs.Layouts.{layout-slots, layout-has-empty-journal, slots-make-layout, recovered-represents}
use Rattle.gate_journal.proofs.Recovering.{long-recovered}
use Rattle.page_store.specs.PageImages.{table_slots, IsLayoutOf, RepresentsPages}
use Rattle.page_store.proofs.OverlayLemmas.{get_number}

-- slots that are those of a table, one by one
pub slots_by_number : (f : ℕ → List ℕ) (first : ℕ) (table : List (Option Page))
    → ((i : ℕ) (content : Option Page) → slice_get table i ≡ Some content → f (first + i) ≡ slot_bytes content)
    → map f (numbers_from first (length table)) ≡ map slot_bytes table
unfolding numbers_from
slots_by_number f first [] same = refl
slots_by_number f first (content ∷ table) same =
    let here : first ≡ first + 0 = omega arith in
    ap₂ (λ (x : List ℕ) (xs : List (List ℕ)). x ∷ xs) (ap f here ∙ same 0 content refl)
    (slots_by_number f (suc first) table (λ i other at. let there : suc first + i ≡ first + suc i = omega arith
    in ap f there ∙ same (suc i) other at))

-- the table of a tree has as many slots as its parameters say
table_long : (t : Tree) (p : Parameters) → length (place (draw_of p) (pages t p)) ≡ p.slots
unfolding draw_of
table_long t p = length-place (draw_of p) (pages t p)

module _ (t : Tree) (p : Parameters) (valid : IsParameters p) (tree : IsTree t) (fits : Fits t p) where
  -- the layout of the pages of a tree is that of the tree
  pub tree_layout : (image : List ℕ) → length image ≡ image_len p.slots
      → IsLayoutOf (draw_of p) p (map_of_pages (pages t p)) image → image ≡ layout t p
  tree_layout image long laid =
      slots-make-layout t p valid tree fits image long laid.header_is laid.empty
      (λ i content below at.
      let here : 0 + i ≡ i = omega arith in
      let slots : table_slots p.slots image ≡ slots_of (place (draw_of p) (pages t p)) =
      laid.holds.slots_are ∙ sym (HoldsPages-tree t p valid tree fits).slots_are in
      same_Some (table_slot p.slots image i) (slot_bytes content)
      (ap (λ (n : ℕ). Some (table_slot p.slots image n)) (sym here)
      ∙ sym (get_number (table_slot p.slots image) 0 p.slots i below)
      ∙ ap (λ (ss : List (List ℕ)). slice_get ss i) slots
      ∙ slice_get-map slot_bytes (place (draw_of p) (pages t p)) i ∙ ap (option_map slot_bytes) at))

  -- and that of the tree is that of its pages
  pub layout_of_tree : (image : List ℕ) → image ≡ layout t p → IsLayoutOf (draw_of p) p (map_of_pages (pages t p)) image
  layout_of_tree image is =
      let table = place (draw_of p) (pages t p) in
      let slots : table_slots p.slots (layout t p) ≡ slots_of table =
      ap (λ (n : ℕ). map (table_slot p.slots (layout t p)) (numbers_from 0 n)) (sym (table_long t p))
      ∙ slots_by_number (table_slot p.slots (layout t p)) 0 table
      (λ i content at.
      let here : 0 + i ≡ i = omega arith in
      ap (table_slot p.slots (layout t p)) here
      ∙ layout-slots t p valid tree fits i content
      (subst (λ n. i < n) (table_long t p) (slice_get_within table i content at)) at) in
      subst (IsLayoutOf (draw_of p) p (map_of_pages (pages t p))) (sym is) (record {
        header_is = header-layout t p valid;
        empty = layout-has-empty-journal t p valid tree fits;
        holds = subst (λ (ss : List (List ℕ)). HoldsPages (draw_of p) ss (map_of_pages (pages t p))) (sym slots)
            (HoldsPages-tree t p valid tree fits);
      })

  -- an image that represents the pages of a tree represents the tree
  pub represents_tree : (image : List ℕ) → RepresentsPages (draw_of p) p (map_of_pages (pages t p)) image
      → Represents image t p
  represents_tree image is = recovered-represents image t p valid tree fits
      is.length_is (tree_layout (recovered p.slots image) (long-recovered p.slots image is.length_is) is.layout)

  -- and the other way round
  pub represents_pages : (image : List ℕ) → Represents image t p
      → RepresentsPages (draw_of p) p (map_of_pages (pages t p)) image
  represents_pages image is = record {
    length_is = is.length_is;
    layout = layout_of_tree (recovered p.slots image) is.layout_is;
  }
