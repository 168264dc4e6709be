-- Images and the slots that recovery would leave of them.
use Rattle.std.proofs.Common.{◌≡◌, ℕ, zero, suc, ◌+◌, ◌<◌, List, map, length, Option, Some, None, slice_get, sym, ap}
use Rattle.std.proofs.Common.{◌∙◌, arith}
use Rattle.std.specs.Option.{option_map}
use Rattle.std.proofs.lemmas.List.{length-map, same_lists}
use Rattle.std.proofs.lemmas.Option.{same_Some, slice_get-map, slice_get-get_or}
use Rattle.std.proofs.Common.{get_or}
use Rattle.store_model.specs.Lists.{numbers_from, numbers_below}
use Rattle.store_model.specs.Parameters.{Parameters}
use Rattle.store_model.specs.Trees.{Tree}
use Rattle.store_model.specs.Draws.{draw_of}
use Rattle.store_model.specs.Pages.{Page, pages}
use Rattle.store_model.specs.Images.{slot_bytes, slots_of, recovered_slot, Represents}
use Rattle.store_model.proofs.ListsLemmas.{length-numbers_from}
use Rattle.store_model.proofs.PlacementLemmas.{length-place}
use Rattle.store_model.proofs.TreesLemmasBytes.{viewed_headers_same}
use Rattle.gate_journal.proofs.Layouts.{represented-slots, slots-represent}
use Rattle.layout_conditions.specs.Layouts.{table_of_tree, HaveLayout}
use Rattle.gate_journal.specs.Headers.{IsImageWith}

-- the slots that recovery would leave
abbrev pub slots_in : ℕ → List ℕ → List (List ℕ)
slots_in slots image = map (recovered_slot slots image) (numbers_below slots)

made_at : (f : ℕ → List ℕ) (first count i : ℕ) → i < count
    → slice_get (map f (numbers_from first count)) i ≡ Some (f (first + i))
unfolding numbers_from
made_at f first zero i l = absurd (omega arith)
made_at f first (suc count) zero l = ap (λ n. Some (f n)) (let e : first ≡ first + 0 = omega arith in e)
made_at f first (suc count) (suc i) l = made_at f (suc first) count i (omega arith)
    ∙ ap (λ n. Some (f n)) (let e : suc first + i ≡ first + suc i = omega arith in e)

-- each of them by its number
pub slot_at : (slots : ℕ) (image : List ℕ) (i : ℕ) → i < slots
    → slice_get (slots_in slots image) i ≡ Some (recovered_slot slots image i)
slot_at slots image i l = made_at (recovered_slot slots image) 0 slots i l
    ∙ ap (λ n. Some (recovered_slot slots image n)) (let e : 0 + i ≡ i = omega arith in e)

-- an image names one set of parameters
pub one_name : (image : List ℕ) (p q : Parameters) → IsImageWith image p → IsImageWith image q → q ≡ p
one_name image p q named is = viewed_headers_same image q p
    is.names.in_range named.names.in_range is.names.header_is named.names.header_is

-- the table has as many slots as the parameters say
pub length-table_of : (t : Tree) (p : Parameters) → length (table_of_tree t p) ≡ p.slots
unfolding draw_of
length-table_of t p = length-place (draw_of p) (pages t p)

-- an image whose slots are the layout of a tree represents it
pub represents_tree : (image : List ℕ) (t : Tree) (p : Parameters) → IsImageWith image p
    → HaveLayout (slots_in p.slots image) t p → Represents image t p
represents_tree image t p named held =
    slots-represent image t p named.names named.length_is held.tree held.fits (λ i content low there.
    same_Some (recovered_slot p.slots image i) (slot_bytes content)
    (sym (slot_at p.slots image i low) ∙ ap (λ (xs : List (List ℕ)). slice_get xs i) held.slots_are
    ∙ slice_get-map slot_bytes (table_of_tree t p) i ∙ ap (option_map slot_bytes) there))

-- and one that represents a tree has such slots
pub represented_layout : (image : List ℕ) (t : Tree) (p : Parameters) → Represents image t p
    → HaveLayout (slots_in p.slots image) t p
represented_layout image t p is = record {
  tree = is.tree;
  fits = is.fits;
  slots_are = same_lists (slots_in p.slots image) (slots_of (table_of_tree t p)) (long ∙ sym long_table) (λ i d low.
      same_Some (get_or (slots_in p.slots image) i d) (get_or (slots_of (table_of_tree t p)) i d)
      (sym (slice_get-get_or (slots_in p.slots image) i d low) ∙ at i (omega (arith, low, long))
      ∙ slice_get-get_or (slots_of (table_of_tree t p)) i d (omega (arith, low, long, long_table))));
}
  where
    long : length (slots_in p.slots image) ≡ p.slots
    long = length-map (numbers_below p.slots) (recovered_slot p.slots image) ∙ length-numbers_from 0 p.slots

    long_table : length (slots_of (table_of_tree t p)) ≡ p.slots
    long_table = length-map (table_of_tree t p) slot_bytes ∙ length-table_of t p

    at : (i : ℕ) → i < p.slots → slice_get (slots_in p.slots image) i ≡ slice_get (slots_of (table_of_tree t p)) i
    at i low =
        let held : Option Page = get_or (table_of_tree t p) i None in
        let there : slice_get (table_of_tree t p) i ≡ Some held =
        slice_get-get_or (table_of_tree t p) i None (omega (arith, low, length-table_of t p)) in
        slot_at p.slots image i low ∙ ap Some (represented-slots image t p is i held low there)
        ∙ sym (slice_get-map slot_bytes (table_of_tree t p) i ∙ ap (option_map slot_bytes) there)
