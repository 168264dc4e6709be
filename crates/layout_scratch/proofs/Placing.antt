-- Pages put in one after another, by their numbers.
use Rattle.std.proofs.Common.{◌≡◌, ℕ, zero, suc, ◌+◌, ◌<◌, ◌≤◌, List, [], ◌∷◌, ◌++◌, Option, Some, None, IfSome, length}
use Rattle.std.proofs.Common.{map, take, get_or, replicate, slice_get, slice_set, refl, ap, ap₂, sym, subst, ◌∙◌}
use Rattle.std.proofs.Common.{⊎_elim, arith}
use Rattle.std.specs.List.{find, AllByRecursion}
use Rattle.std.specs.List.Sorted.{IsStrictlySortedBy}
use Rattle.std.proofs.lemmas.List.{map-set, take_more, take_all}
use Rattle.std.proofs.lemmas.List.Sorted.{length_permutation}
use Rattle.std.proofs.lemmas.Option.{slice_get_cases}
use Rattle.store_model.specs.Lists.{numbers_below}
use Rattle.store_model.specs.Labels.{Label, label_cmp}
use Rattle.store_model.specs.Draws.{Draw, IsLawful}
use Rattle.store_model.specs.Pages.{Page}
use Rattle.store_model.specs.Placement.{Table, probe, probes, is_free, put_at, put_first_free, put_all, page_cmp, place}
use Rattle.store_model.specs.Placement.{pages_in}
use Rattle.store_model.proofs.ListsLemmas.{in_order_of_rising, rising_from_map, all_replicate}
use Rattle.store_model.proofs.PlacementLemmas.{IsPermutation-place}
use Rattle.layout_scratch.specs.Layouts.{table_of, numbered_page, IsNumber, ArePlaces}

-- the places with a number where a search found one
abbrev pub places_with : List (Option ℕ) → Option ℕ → ℕ → List (Option ℕ)
places_with places None number = places
places_with places (Some at) number = slice_set places at (Some number)

-- their table has the page of that number in the first free slot of its probe sequence
put_first_free-places : (d : Draw) (pages : List Page) (places : List (Option ℕ)) (number : ℕ) (page : Page)
    (found : Option ℕ) → slice_get pages number ≡ Some page
    → found ≡ find (is_free (table_of pages places)) (probes d page.label)
    → table_of pages (places_with places found number) ≡ put_first_free d (table_of pages places) page
unfolding put_first_free
put_first_free-places d pages places number page found page_is found_is =
    put_by found ∙ ap (put_at (table_of pages places) page) found_is
  where
    put_by : (o : Option ℕ) → table_of pages (places_with places o number) ≡ put_at (table_of pages places) page o
    put_by None = refl
    put_by (Some at) = map-set (numbered_page pages) places at (Some number)
        ∙ ap (slice_set (table_of pages places) at) page_is

-- so it is where the search began at the start that the draw gives of the page's label
pub put_where_found : (d : Draw) (pages : List Page) (places : List (Option ℕ)) (number start : ℕ) (page : Page)
    (label : Label) (answer found : Option ℕ) → length places ≡ d.slots
    → slice_get pages number ≡ Some page → label ≡ page.label → start ≡ d.start label
    → answer ≡ find (is_free (table_of pages places))
    (map (probe (length places) start) (numbers_below (length places))) → answer ≡ found
    → IfSome (slice_get pages number) (λ p. table_of pages (places_with places found number)
    ≡ put_first_free d (table_of pages places) p)
unfolding probes
put_where_found d pages places number start page label answer found slots page_is label_is start_is answer_is found_is =
    let free = is_free (table_of pages places) in
    let along = ap₂ (λ n s. find free (map (probe n s) (numbers_below n))) slots (start_is ∙ ap d.start label_is) in
    subst (λ o. IfSome o (λ p. table_of pages (places_with places found number)
    ≡ put_first_free d (table_of pages places) p)) (sym page_is)
    (put_first_free-places d pages places number page found page_is (sym found_is ∙ answer_is ∙ along))

-- pages put in, and one more
pub put_all-push : (d : Draw) (table : Table) (pages : List Page) (page : Page)
    → put_all d table (pages ++ page ∷ []) ≡ put_first_free d (put_all d table pages) page
unfolding put_all
put_all-push d table [] page = refl
put_all-push d table (first ∷ pages) page = put_all-push d (put_first_free d table first) pages page

-- the first count pages stand where placing them puts them
pub record ArePlaced (d : Draw) (pages : List Page) (places : List (Option ℕ)) (count : ℕ) : Type 0 where
  pub numbers : AllByRecursion (IsNumber pages) places
  pub table : table_of pages places ≡ put_all d (replicate d.slots None) (take count pages)

-- a table of places with no number is empty
empty_table : (pages : List Page) (n : ℕ) → table_of pages (replicate n None) ≡ replicate n None
empty_table pages zero = refl
empty_table pages (suc n) = ap (λ table. None ∷ table) (empty_table pages n)

-- no page is placed where no place has a number
pub none_placed : (d : Draw) (pages : List Page) (slots : ℕ) (places : List (Option ℕ)) → slots ≡ d.slots
    → places ≡ replicate slots None → ArePlaced d pages places 0
unfolding put_all
none_placed d pages slots places slots_is places_are =
    subst (λ before. ArePlaced d pages before 0) (sym (places_are ∙ ap (λ n. replicate n None) slots_is)) none
  where
    none : ArePlaced d pages (replicate d.slots None) 0
    none = record { numbers = all_replicate (IsNumber pages) d.slots None tt; table = empty_table pages d.slots }

-- one more is placed where the next page is put first free
pub one_more_placed : (d : Draw) (pages : List Page) (before after : List (Option ℕ)) (count : ℕ)
    → ArePlaced d pages before count → count < length pages → AllByRecursion (IsNumber pages) after
    → IfSome (slice_get pages count) (λ page. table_of pages after ≡ put_first_free d (table_of pages before) page)
    → ArePlaced d pages after (count + 1)
one_more_placed d pages before after count placed below numbers put_in =
    ⊎_elim (λ found. next found.0 found.2 found.3) (λ past. absurd (omega (arith, past.0)))
    ((slice_get_cases pages count).1)
  where
    next : (page : Page) → slice_get pages count ≡ Some page → get_or pages count page ≡ page
        → ArePlaced d pages after (count + 1)
    next page is at =
        let here : table_of pages after ≡ put_first_free d (table_of pages before) page =
        subst (λ o. IfSome o (λ p. table_of pages after ≡ put_first_free d (table_of pages before) p)) is put_in in
        let taken = take_more pages count page below ∙ ap (λ p. take count pages ++ p ∷ []) at in
        record {
          numbers = numbers;
          table = here ∙ ap (λ table. put_first_free d table page) placed.table
              ∙ sym (ap (put_all d (replicate d.slots None)) taken
              ∙ put_all-push d (replicate d.slots None) (take count pages) page);
        }

-- when all are placed and come by rank, the table is theirs
pub all_placed : (d : Draw) (pages : List Page) (places : List (Option ℕ)) (count : ℕ) → ArePlaced d pages places count
    → length pages ≤ count → IsStrictlySortedBy label_cmp (map (λ page. page.label) pages)
    → table_of pages places ≡ place d pages
unfolding place
all_placed d pages places count placed whole ranked =
    placed.table ∙ ap (put_all d (replicate d.slots None))
    (take_all count pages whole
    ∙ sym (in_order_of_rising page_cmp pages (rising_from_map label_cmp (λ page. page.label) pages ranked)))

-- and the table holds as many pages as there are
pub are_places : (d : Draw) (pages : List Page) (places : List (Option ℕ)) (count : ℕ) → IsLawful d
    → ArePlaced d pages places count → length pages ≤ count → length pages ≤ d.slots
    → IsStrictlySortedBy label_cmp (map (λ page. page.label) pages) → ArePlaces pages places
are_places d pages places count law placed whole fits ranked =
    let is = all_placed d pages places count placed whole ranked in
    record {
      numbers = placed.numbers;
      used = ap (λ table. length (pages_in table)) is
          ∙ (length_permutation pages (pages_in (place d pages)) (IsPermutation-place d pages law fits));
    }
