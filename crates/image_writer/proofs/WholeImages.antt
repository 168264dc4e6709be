-- An image whose parts are written is that of its table.
use Rattle.std.proofs.Common.{◌≡◌, ℕ, zero, suc, ◌+◌, ◌-◌, ◌*◌, ◌<◌, ◌≤◌, List, [], ◌∷◌, ◌++◌, length, take, drop, map}
use Rattle.std.proofs.Common.{Bool, true, Option, Some, None, is_none, slice_get, slice_index, refl, sym, ap}
use Rattle.std.proofs.Common.{ap₂, subst, ◌∙◌, inl, inr, arith}
use Rattle.std.specs.List.{filter, flat_map}
use Rattle.std.proofs.lemmas.List.Sums.{length-filter}
use Rattle.std.proofs.lemmas.Bool.{cases_eq}
use Rattle.std.proofs.lemmas.List.{ext_get_or, get_or-take, get_or-drop, get_or-replicate, length-replicate}
use Rattle.std.proofs.lemmas.List.{length-take}
use Rattle.std.proofs.lemmas.List.{length-drop, take_all}
use Rattle.std.proofs.lemmas.Option.{same_Some, slice_get_within}
use Rattle.store_model.specs.Lists.{zeros, numbers_from}
use Rattle.store_model.specs.Parameters.{Parameters, IsParameters, image_len, table_at}
use Rattle.store_model.specs.Pages.{Page}
use Rattle.store_model.specs.Placement.{Table, pages_in}
use Rattle.store_model.specs.Images.{header, slot_bytes, table_bytes, journal_len, bytes_at}
use Rattle.store_model.proofs.ImagesLemmas.{length-header}
use Rattle.gate_journal.specs.Places.{IsZeroAt}
use Rattle.gate_journal.specs.Phases.{table_slot}
use Rattle.gate_journal.proofs.Areas.{areas, table_end, shadow_end, marks_end, journal_end}
use Rattle.gate_journal.proofs.Slots.{take_split, flat_map-blocks}
use Rattle.gate_journal.proofs.Formatting.{first_of_header}
use Rattle.rising_pages.specs.FreePlaces.{AreFree}
use Rattle.image_writer.specs.Filling.{AreFilled, free_count, HasHeaderRest}
use Rattle.image_writer.specs.Placing.{HasPages}
use Rattle.image_writer.specs.Sealing.{image_of}

-- a range that is zero, as bytes
zero_range : (image : List ℕ) (at n : ℕ) → at + n ≤ length image → IsZeroAt at n image
    → take n (drop at image) ≡ zeros n
zero_range image at n fits is_zero =
    ext_get_or 0 (take n (drop at image)) (zeros n)
    (sym (length-replicate {A = ℕ} n 0 ∙ (let whole : n ≡ length (take n (drop at image)) =
    omega (arith, length-take n (drop at image), length-drop at image) in whole))) λ i low.
    let few : i < n = omega (arith, length-take n (drop at image)) in
    get_or-take n (drop at image) i 0 few ∙ get_or-drop at image i 0 ∙ is_zero (at + i) (omega arith) (omega arith)
    ∙ sym (get_or-replicate n i 0 0 few)

-- what is made of numbers is made of the slots of a table
numbered_slots : (table : Table) (f : ℕ → List ℕ) (first : ℕ)
    → ((i : ℕ) (slot : Option Page) → slice_get table i ≡ Some slot → f (first + i) ≡ slot_bytes slot)
    → flat_map f (numbers_from first (length table)) ≡ flat_map slot_bytes table
unfolding numbers_from
numbered_slots [] f first same = refl
numbered_slots (slot ∷ table) f first same =
    let here : first ≡ first + 0 = omega arith in
    let on : (i : ℕ) → suc first + i ≡ first + suc i = λ i. omega arith in
    ap₂ (λ us vs. us ++ vs) (ap f here ∙ same 0 slot refl)
    (numbered_slots table f (suc first) (λ i other is. ap f (on i) ∙ same (suc i) other is))

-- ---- the image

module _ (p : Parameters) (valid : IsParameters p) (table : Table) (slots : length table ≡ p.slots) (image : List ℕ)
    (long : length image ≡ image_len p.slots) where
  header_is : slice_index image 0 ≡ 72 → HasHeaderRest p image → take 4096 image ≡ header p
  header_is first rest =
      let head = length-header p valid in
      let whole : length (take 4096 image) ≡ 4096 =
      omega (arith, length-take 4096 image, long, table_end p.slots, shadow_end p.slots, marks_end p.slots) in
      ext_get_or 0 (take 4096 image) (header p) (whole ∙ sym head) λ i low.
      let few : i < 4096 = omega (arith, whole) in
      get_or-take 4096 image i 0 few
      ∙ elim (cases_eq i 0) [
        | inl start ↦ ap (slice_index image) start ∙ first ∙ sym (first_of_header p)
            ∙ ap (slice_index (header p)) (sym start)
        | inr later ↦ rest i (omega (arith, later)) few
      ]

  pub image_is : slice_index image 0 ≡ 72 → HasHeaderRest p image → IsZeroAt 4096 (table_at p.slots 0 - 4096) image
      → ((i : ℕ) (slot : Option Page) → slice_get table i ≡ Some slot → table_slot p.slots image i ≡ slot_bytes slot)
      → image ≡ image_of p table
  unfolding image_of table_bytes
  image_is first rest is_zero same =
      let n = p.slots in
      let jl = journal_len n in
      let start = table_at n 0 in
      let journal = journal_end n in
      let all : image_len n ≡ 4096 + jl + 4096 * n = omega (arith, table_end n, journal) in
      let gap : start - 4096 ≡ jl = omega (arith, journal) in
      let none : start + 4096 * 0 ≡ 4096 + jl = omega (arith, journal) in
      let blocks : flat_map (λ i. bytes_at image (start + 4096 * i) 4096) (numbers_from 0 (length table))
      ≡ flat_map slot_bytes table =
      numbered_slots table (λ i. bytes_at image (start + 4096 * i) 4096) 0
      (λ i slot is.
      let below : i < n = omega (arith, within i slot is, slots) in
      let at : start + 4096 * (0 + i) ≡ table_at n i = omega (arith, (areas n i below).table_is) in
      ap (λ a. bytes_at image a 4096) at ∙ same i slot is) in
      sym (take_all (image_len n) image (omega (arith, long)))
      ∙ ap (λ k. take k image) all ∙ take_split (4096 + jl) (4096 * n) image
      ∙ ap₂ (λ us vs. us ++ vs)
      (take_split 4096 jl image
      ∙ ap₂ (λ us vs. us ++ vs) (header_is first rest)
      (zero_range image 4096 jl (omega (arith, long, all)) (subst (λ m. IsZeroAt 4096 m image) gap is_zero)))
      (sym (ap (λ a. take (4096 * n) (drop a image)) none)
      ∙ sym (flat_map-blocks image start 4096 0 n)
      ∙ ap (λ k. flat_map (λ i. bytes_at image (start + 4096 * i) 4096) (numbers_from 0 k)) (sym slots) ∙ blocks)
    where
      within : (i : ℕ) (slot : Option Page) → slice_get table i ≡ Some slot → i < length table
      within i slot is = slice_get_within table i slot is

  -- the slots of the image, where the pages stand in theirs and the others are zero
  pub slots_are : (free : List Bool) → AreFree table free → HasPages p.slots table image
      → AreFilled p.slots free p.slots image
      → (i : ℕ) (slot : Option Page) → slice_get table i ≡ Some slot → table_slot p.slots image i ≡ slot_bytes slot
  unfolding slot_bytes
  slots_are free are pages filled i (Some page) is = pages i page is
  slots_are free are pages filled i None is =
      let below : i < p.slots = omega (arith, slice_get_within table i None is, slots) in
      let at = areas p.slots i below in
      let free_there : slice_get free i ≡ Some true =
      ap (λ l. slice_get l i) are ∙ slice_get-map is_none table i None is in
      zero_range image (table_at p.slots i) 4096 (omega (arith, at.table_end, long)) (filled i below free_there)
    where
      slice_get-map : {X Y : Type 0} (f : X → Y) (xs : List X) (k : ℕ) (x : X) → slice_get xs k ≡ Some x
          → slice_get (map f xs) k ≡ Some (f x)
      slice_get-map f [] k x e = cc
      slice_get-map f (y ∷ xs) zero x e = ap (λ z. Some (f z)) (same_Some y x e)
      slice_get-map f (y ∷ xs) (suc k) x e = slice_get-map f xs k x e

-- ---- how many slots are free

counted : (t : Table) → length (filter (λ b. b) (map is_none t)) + length (pages_in t) ≡ length t
unfolding pages_in
counted [] = refl
counted (None ∷ t) =
    let rest = counted t in
    let used : pages_in (None ∷ t) ≡ pages_in t = refl in
    omega (arith, rest, ap length used)
counted (Some page ∷ t) =
    let rest = counted t in
    let used : pages_in (Some page ∷ t) ≡ page ∷ pages_in t = refl in
    omega (arith, rest, ap length used)

pub free_and_used : (table : Table) (free : List Bool) → AreFree table free
    → free_count free + length (pages_in table) ≡ length table
free_and_used table free are =
    ap (λ l. free_count l + length (pages_in table)) are
    ∙ ap (λ n. n + length (pages_in table)) (sym (length-filter (λ b. b) (map is_none table))) ∙ counted table
