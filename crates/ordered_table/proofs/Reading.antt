-- What a slot that was read tells of the table.
use Rattle.std.proofs.Common.{◌≡◌, ℕ, ◌+◌, ◌%◌, ◌<◌, List, Option, Some, None, length, get_or, slice_get, ap, sym, ◌∙◌}
use Rattle.std.proofs.Common.{arith}
use Rattle.std.specs.Option.{option_map}
use Rattle.std.proofs.Math.Nat.{mod-eq_of_lt, mod-add-mod}
use Rattle.std.proofs.lemmas.Option.{same_Some, slice_get-map, slice_get-get_or}
use Rattle.store_model.specs.Draws.{Draw}
use Rattle.store_model.specs.Pages.{Page, IsPage}
use Rattle.store_model.specs.Placement.{Table, probe, IsOrderedTable}
use Rattle.store_model.specs.Images.{slot_bytes, slots_of}
use Rattle.store_model.proofs.PlacementLemmasTables.{held_page}

-- the next slot of a probe sequence
pub probe_next : (slots start i at : ℕ) → at ≡ probe slots start i → (at + 1) % slots ≡ probe slots start (i + 1)
probe_next slots start i at here =
    let behind : start + i + 1 ≡ start + (i + 1) = omega arith in
    ap (λ (n : ℕ). (n + 1) % slots) here ∙ mod-add-mod (start + i) slots 1 ∙ ap (λ (n : ℕ). n % slots) behind

-- the first one
pub probe_first : (slots start : ℕ) → start < slots → start ≡ probe slots start 0
probe_first slots start below = let same : start + 0 ≡ start = omega arith
    in sym (ap (λ (n : ℕ). n % slots) same ∙ mod-eq_of_lt below)

-- each lies in the table
pub probe_within : (slots start i : ℕ) → start < slots → probe slots start i < slots
probe_within slots start i below = omega arith

-- what a table holds in a slot, and the bytes that stand there
pub record Seen (table : Table) (at : ℕ) (bytes : List ℕ) : Type 0 where
  pub what : Option Page
  pub there : slice_get table at ≡ Some what
  pub bytes_are : bytes ≡ slot_bytes what

pub seen : (table : Table) (slots : List (List ℕ)) (at : ℕ) (bytes : List ℕ) → slots ≡ slots_of table
    → at < length table → slice_get slots at ≡ Some bytes → Seen table at bytes
seen table slots at bytes are within got =
    let there = slice_get-get_or table at None within in
    record {
      what = get_or table at None;
      there = there;
      bytes_are = same_Some bytes (slot_bytes (get_or table at None))
          (sym got ∙ ap (λ (ss : List (List ℕ)). slice_get ss at) are ∙ slice_get-map slot_bytes table at
          ∙ ap (option_map slot_bytes) there);
    }

-- what a table holds in a slot, whose bytes stand there
pub stands_in : (table : Table) (slots : List (List ℕ)) (at : ℕ) → slots ≡ slots_of table → at < length table
    → (what : Option Page) × (slice_get table at ≡ Some what) × (slice_get slots at ≡ Some (slot_bytes what))
stands_in table slots at are within =
    let there = slice_get-get_or table at None within in (
      get_or table at None,
      there,
      ap (λ (ss : List (List ℕ)). slice_get ss at) are ∙ slice_get-map slot_bytes table at
          ∙ ap (option_map slot_bytes) there,
    )

-- a page that a table holds is one
pub seen_page : (d : Draw) (table : Table) (at : ℕ) (what : Option Page) (page : Page) → IsOrderedTable d table
    → slice_get table at ≡ Some what → what ≡ Some page → IsPage page
seen_page d table at what page is there same = held_page table at page is.pages (there ∙ ap Some same)
