-- One page more is placed.
use Rattle.std.proofs.Common.{◌≡◌, ℕ, zero, suc, ◌+◌, ◌-◌, ◌<◌, ◌≤◌, List, [], ◌∷◌, ◌++◌, length, take, drop}
use Rattle.std.proofs.Common.{replicate, slice_get}
use Rattle.std.proofs.Common.{append-nil, Bool, map, is_none, ap₂, OnOk, Err}
use Rattle.std.proofs.Common.{slice_set, Option, Some, None, Result, Ok, refl, sym, ap, subst, ◌∙◌, ◌⊎◌, inl, inr}
use Rattle.std.proofs.Common.{arith}
use Rattle.std.specs.List.{find}
use Rattle.std.proofs.lemmas.Bool.{cases_eq, cases_lt}
use Rattle.std.proofs.lemmas.List.{length-append, length-replicate}
use Rattle.std.proofs.lemmas.List.Sorted.{length_permutation}
use Rattle.std.proofs.lemmas.Option.{same_Some, slice_get_within}
use Rattle.store_model.specs.Parameters.{image_len, table_at}
use Rattle.store_model.specs.Lists.{numbers_below}
use Rattle.store_model.specs.Labels.{Label}
use Rattle.store_model.specs.Draws.{Draw, IsLawful}
use Rattle.store_model.specs.Pages.{Page}
use Rattle.store_model.specs.Placement.{Table, HoldsPage, probe, probes, is_free, put_at, put_first_free, pages_in}
use Rattle.store_model.specs.Images.{page_bytes, bytes_at}
use Rattle.store_model.proofs.PlacementLemmas.{first_free, length-put_all, IsPermutation-put_all, pages_in-replicate}
use Rattle.disk_model.specs.DiskState.{DiskState, IsObservable, IsSound}
use Rattle.disk_model.specs.DiskCalls.{IsWrite, overwrite}
use Rattle.disk_model.proofs.Images.{take-drop-overwrite, take-drop-outside}
use Rattle.gate_journal.specs.Places.{Keeps}
use Rattle.gate_journal.specs.Phases.{table_slot}
use Rattle.gate_journal.proofs.Areas.{areas, shadow_end, marks_end}
use Rattle.gate_journal.proofs.Places.{Keeps-trans, Keeps-write}
use Rattle.gate_journal.proofs.Calls.{AreCalls-then, AreCalls-one, AreCalls-answered, Made-then, Made-as, Makes-write}
use Rattle.gate_journal.proofs.Calls.{observable_after}
use Rattle.gate_journal.proofs.Reading.{apart_within}
use Rattle.layout_scratch.proofs.Placing.{put_all-push}
use Rattle.rising_pages.specs.FreePlaces.{AreFree, taken_at}
use Rattle.rising_pages.proofs.FreeLemmas.{put_free}
use Rattle.image_writer.specs.Placing.{placed, HasPages, FirstByte, ArePlaced, Places}

-- ---- the table

pub length-placed : (d : Draw) (pages : List Page) → length (placed d pages) ≡ d.slots
length-placed d pages = length-put_all d (replicate d.slots None) pages ∙ length-replicate d.slots None

-- it holds as many pages as were put in, where they are no more than the slots
pub used_placed : (d : Draw) (pages : List Page) → IsLawful d → length pages ≤ d.slots
    → length (pages_in (placed d pages)) ≡ length pages
used_placed d pages law fits =
    let none : length (pages_in (replicate d.slots None)) ≡ 0 = ap length (pages_in-replicate d.slots) in
    let joined = length-append pages (pages_in (replicate d.slots None)) in
    omega (
      arith,
      none,
      joined,
      length_permutation (pages ++ pages_in (replicate d.slots None)) (pages_in (placed d pages))
          (IsPermutation-put_all d (replicate d.slots None) pages law (length-replicate d.slots None)
          (omega (arith, none))),
    )

-- where there is room one slot of a probe sequence is free
pub some_free : (d : Draw) (pages : List Page) (page : Page) → IsLawful d → length pages < d.slots
    → (k : ℕ) × (find (is_free (placed d pages)) (probes d page.label) ≡ Some k)
    × (slice_get (placed d pages) k ≡ Some None)
some_free d pages page law room =
    first_free d (placed d pages) page law (length-placed d pages)
    (omega (arith, used_placed d pages law (omega arith)))

-- and the page comes into it
pub placed_more : (d : Draw) (pages : List Page) (page : Page) (at : ℕ)
    → find (is_free (placed d pages)) (probes d page.label) ≡ Some at
    → placed d (pages ++ page ∷ []) ≡ slice_set (placed d pages) at (Some page)
unfolding put_first_free
placed_more d pages page at found =
    put_all-push d (replicate d.slots None) pages page ∙ ap (put_at (placed d pages) page) found

-- ---- the image

-- a page of the table with one more is that one, or was there before
held_cases : (table : Table) (at i : ℕ) (page other : Page) → HoldsPage (slice_set table at (Some page)) i other
    → ((i ≡ at) × (page ≡ other)) ⊎ ((i ≡ at → ⊥) × HoldsPage table i other)
held_cases table at i page other held = elim (cases_eq i at) [
  | inl same ↦ inl (same, by_place same)
  | inr apart ↦ inr (apart, sym (get_set_apart table at i (Some page) apart) ∙ held)
]
  where
    get_set_same : {X : Type 0} (xs : List X) (k : ℕ) (x y : X) → slice_get (slice_set xs k x) k ≡ Some y → x ≡ y
    get_set_same [] k x y e = cc
    get_set_same (z ∷ xs) zero x y e = same_Some x y e
    get_set_same (z ∷ xs) (suc k) x y e = get_set_same xs k x y e

    get_set_apart : {X : Type 0} (xs : List X) (k j : ℕ) (x : X) → (j ≡ k → ⊥)
        → slice_get (slice_set xs k x) j ≡ slice_get xs j
    get_set_apart [] k j x n = refl
    get_set_apart (z ∷ xs) zero zero x n = absurd (n refl)
    get_set_apart (z ∷ xs) zero (suc j) x n = refl
    get_set_apart (z ∷ xs) (suc k) zero x n = refl
    get_set_apart (z ∷ xs) (suc k) (suc j) x n = get_set_apart xs k j x (λ e. n (ap suc e))

    by_place : i ≡ at → page ≡ other
    by_place same = same_Some page other (get_set_same table at (Some page) (Some other)
        (subst (λ k. slice_get (slice_set table at (Some page)) k ≡ Some (Some other)) same held))

module _ (d : Draw) (pages : List Page) (page : Page) (at : ℕ) (start mid new : DiskState) (below : at < d.slots)
    (long : length (page_bytes page) ≡ 4096) (before : ArePlaced d pages start mid)
    (found : find (is_free (placed d pages)) (probes d page.label) ≡ Some at) where
  -- the first byte is kept
  keeps_more : {T E : Type 0} (result : Result T E) → IsWrite mid new (table_at d.slots at) (page_bytes page) result
      → IsObservable start → IsSound mid → Keeps (FirstByte d.slots) start new
  keeps_more result write observable sound =
      let here = areas d.slots at below in
      let observable_mid = observable_after start mid (Ok tt) before.calls observable in
      let inside : 1 ≤ table_at d.slots at = omega (arith, here.table_is, marks_end d.slots, shadow_end d.slots) in
      let there : table_at d.slots at ≡ 1 + (table_at d.slots at - 1) = omega (arith, inside) in
      Keeps-trans (FirstByte d.slots) start mid new sound (before.placed observable).keeps
      (Keeps-write (FirstByte d.slots) mid new result observable_mid (table_at d.slots at) (page_bytes page)
      (apart_within 1 (image_len d.slots - 1) (table_at d.slots at - 1) (table_at d.slots at)
      (length (page_bytes page)) there (omega (arith, here.table_end, long, inside))) write)

  -- the pages stand in their slots
  holds_more : {T E : Type 0} (value : T)
      → IsWrite {E = E} mid new (table_at d.slots at) (page_bytes page) (Ok value) → IsObservable start → IsSound mid
      → HasPages d.slots (placed d (pages ++ page ∷ [])) new.bytes
  holds_more value write observable sound i other held =
      let observable_mid = observable_after start mid (Ok tt) before.calls observable in
      let effect = write.observed observable_mid in
      let place = table_at d.slots at in
      let here = areas d.slots at below in
      let fits : place + length (page_bytes page) ≤ length mid.bytes =
      omega (arith, here.table_end, long, sound.size, before.calls.size, before.size) in
      elim (held_cases (placed d pages) at i page other
      (subst (λ t. HoldsPage t i other) (placed_more d pages page at found) held)) [
        | inl same ↦
            ap (table_slot d.slots new.bytes) same.0 ∙ ap (λ (l : List ℕ). bytes_at l place 4096) effect.written
            ∙ ap (λ n. take n (drop place (overwrite mid.bytes place (page_bytes page)))) (sym long)
            ∙ take-drop-overwrite mid.bytes place (page_bytes page) fits ∙ ap page_bytes same.1
        | inr kept ↦
            let inside : i < d.slots =
            omega (arith, slice_get_within (placed d pages) i (Some other) kept.1, length-placed d pages) in
            let there = areas d.slots i inside in
            take-drop-outside place (length (page_bytes page)) (table_at d.slots i) 4096 mid.bytes new.bytes
            (elim (cases_lt i at) [
              | inl lower ↦ inl (omega (arith, here.table_is, there.table_is))
              | inr higher ↦ inr (omega (arith, here.table_is, there.table_is, long, kept.0))
            ])
            effect.outside ∙ (before.placed observable).holds i other kept.1
      ]

  -- so one page more is placed
  placed_one : {T E : Type 0} (value : T)
      → IsWrite {E = E} mid new (table_at d.slots at) (page_bytes page) (Ok value) → (IsObservable mid → IsSound mid)
      → ArePlaced d (pages ++ page ∷ []) start new
  placed_one value write sound = record {
    size = before.size;
    calls = AreCalls-then start mid new tt (Ok tt) before.calls
        (AreCalls-answered mid new value tt (AreCalls-one mid new (Ok value) write.call));
    placed = λ observable.
        let observable_mid = observable_after start mid (Ok tt) before.calls observable in
        let one : length pages + 1 ≡ length (pages ++ page ∷ []) = omega (arith, length-append pages (page ∷ [])) in
        record {
          keeps = keeps_more (Ok value) write observable (sound observable_mid);
          holds = holds_more value write observable (sound observable_mid);
          made = Made-as start new (length pages + 1) (0 + 0) (length (pages ++ page ∷ [])) 0 one (omega arith)
              (Made-then start mid new value (length pages) 0 1 0 (before.placed observable).made
              (Makes-write mid new (Ok value) observable_mid (table_at d.slots at) (page_bytes page) write));
        };
  }

  pub places_one : {T E : Type 0} (result : Result T E)
      → IsWrite mid new (table_at d.slots at) (page_bytes page) result → (IsObservable mid → IsSound mid)
      → Places d (pages ++ page ∷ []) start new result
  places_one result write sound = record {
    calls = AreCalls-then start mid new tt result before.calls (AreCalls-one mid new result write.call);
    keeps = λ observable. keeps_more result write observable
        (sound (observable_after start mid (Ok tt) before.calls observable));
    done = by_result result write;
  }
    where
      by_result : {T E : Type 0} (r : Result T E) → IsWrite mid new (table_at d.slots at) (page_bytes page) r
          → OnOk r (ArePlaced d (pages ++ page ∷ []) start new)
      by_result (Ok value) written = placed_one value written sound
      by_result (Err error) written = tt

-- the slots of the table that are free without the page's
pub free_more : (d : Draw) (pages : List Page) (page : Page) (found : Option ℕ) (free : List Bool)
    → found ≡ find (is_free (placed d pages)) (probes d page.label) → AreFree (placed d pages) free
    → AreFree (placed d (pages ++ page ∷ [])) (taken_at free found)
unfolding put_first_free
free_more d pages page found free is are =
    put_free (placed d pages) page found free are
    ∙ ap (λ t. map is_none t)
    (ap (put_at (placed d pages) page) is ∙ sym (put_all-push d (replicate d.slots None) pages page))

-- what was found from the start that the draw gives of the label
pub found_by_label : (d : Draw) (pages : List Page) (page : Page) (start : ℕ) (label : Label) (found : Option ℕ)
    → label ≡ page.label → start ≡ d.start label
    → found ≡ find (is_free (placed d pages))
    (map (probe (length (placed d pages)) start) (numbers_below (length (placed d pages))))
    → found ≡ find (is_free (placed d pages)) (probes d page.label)
unfolding probes
found_by_label d pages page start label found label_is start_is is =
    is ∙ ap₂ (λ n s. find (is_free (placed d pages)) (map (probe n s) (numbers_below n))) (length-placed d pages)
    (start_is ∙ ap d.start label_is)

-- no page more
pub places_none : {E : Type 0} (d : Draw) (pages : List Page) (start now : DiskState) → ArePlaced d pages start now
    → Places {T = Unit {0}} {E = E} d (pages ++ []) start now (Ok tt)
places_none d pages start now before = record {
  calls = AreCalls-answered start now tt tt before.calls;
  keeps = λ observable. (before.placed observable).keeps;
  done = subst (λ ps. ArePlaced d ps start now) (sym (append-nil pages)) before;
}
