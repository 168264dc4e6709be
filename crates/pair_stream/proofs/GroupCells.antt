-- The cell of a group that has a number, in the page that has it.
use Rattle.std.proofs.Common.{◌≡◌, ℕ, zero, suc, ◌+◌, ◌*◌, ◌/◌, ◌%◌, ◌<◌, List, [], ◌∷◌, take, drop, true, false, cond}
use Rattle.std.proofs.Common.{◌==◌, refl, sym, ap, ◌∙◌, arith}
use Rattle.std.specs.List.{slice_get}
use Rattle.std.proofs.lemmas.Option.{slice_get_past}
use Rattle.store_model.specs.Labels.{Lead}
use Rattle.store_model.specs.Pages.{Cell, page_room}
use Rattle.store_model.specs.PageMaps.{PageMap, page_at}
use Rattle.node_pages.specs.LastPages.{pages_from}
use Rattle.node_pages.proofs.Runs.{all_pages, next_page, no_page}
use Rattle.skip_groups.specs.Groups.{HoldsGroup, label_of}
use Rattle.pair_stream.specs.GroupReads.{cell_in}

-- an element within the front of a list, and one behind it
slice_get-take : {X : Type 0} (xs : List X) (n i : ℕ) → i < n → slice_get (take n xs) i ≡ slice_get xs i
slice_get-take [] zero i within = absurd (omega arith)
slice_get-take [] (suc n) i within = refl
slice_get-take (x ∷ xs) zero i within = absurd (omega arith)
slice_get-take (x ∷ xs) (suc n) zero within = refl
slice_get-take (x ∷ xs) (suc n) (suc i) within = slice_get-take xs n i (omega arith)

slice_get-drop : {X : Type 0} (xs : List X) (n i : ℕ) → slice_get (drop n xs) i ≡ slice_get xs (n + i)
slice_get-drop xs zero i = ap (slice_get xs) (let e : i ≡ 0 + i = omega arith in e)
slice_get-drop [] (suc n) i = slice_get_past (drop (suc n) []) i (omega arith)
    ∙ sym (slice_get_past [] (suc n + i) (omega arith))
slice_get-drop (x ∷ xs) (suc n) i = slice_get-drop xs n i
    ∙ ap (slice_get (x ∷ xs)) (let e : suc (n + i) ≡ suc n + i = omega arith in e)

-- the cell of a run
pub cell_of_run : (level : ℕ) (lead : Lead) (first index at : ℕ) (cells : List Cell) → at < page_room level
    → cell_in (slice_get (pages_from level lead first cells) index) at ≡ slice_get cells (page_room level * index + at)
cell_of_run level lead first index at [] within =
    ap (λ ps. cell_in (slice_get ps index) at) (no_page level lead first [] refl)
    ∙ ap (λ o. cell_in o at) (slice_get_past [] index (omega arith))
    ∙ sym (slice_get_past [] (page_room level * index + at) (omega arith))
cell_of_run level lead first zero at (c ∷ cells) within =
    let n = page_room level in
    ap (λ ps. cell_in (slice_get ps 0) at) (next_page level lead first (c ∷ cells) (omega arith))
    ∙ slice_get-take (c ∷ cells) n at within
    ∙ ap (slice_get (c ∷ cells)) (let e : at ≡ n * 0 + at = omega arith in e)
cell_of_run level lead first (suc index) at (c ∷ cells) within =
    let n = page_room level in
    ap (λ ps. cell_in (slice_get ps (suc index)) at) (next_page level lead first (c ∷ cells) (omega arith))
    ∙ cell_of_run level lead (first + 1) index at (drop n (c ∷ cells)) within
    ∙ slice_get-drop (c ∷ cells) n (n * index + at)
    ∙ ap (slice_get (c ∷ cells)) (let e : n + (n * index + at) ≡ n * suc index + at = omega arith in e)

-- its number in the group is told by those of its page and of its place there
rest_within : (level n : ℕ) → n % page_room level < page_room level
rest_within level n = elim (level == 0) as (λ b. n % cond b 10 31 < cond b 10 31)
    [ true ↦ omega arith | false ↦ omega arith ]

number_is : (level n : ℕ) → page_room level * (n / page_room level) + n % page_room level ≡ n
number_is level n = elim (level == 0) as (λ b. cond b 10 31 * (n / cond b 10 31) + n % cond b 10 31 ≡ n)
    [ true ↦ omega arith | false ↦ omega arith ]

-- so it is found in the map
pub cell_at : {m : PageMap} {level : ℕ} {lead : Lead} {cells : List Cell} (n : ℕ) → HoldsGroup m level lead cells
    → n / page_room level < 4294967296
    → cell_in (page_at m (label_of level lead (n / page_room level))) (n % page_room level) ≡ slice_get cells n
cell_at {level = level} {lead = lead} {cells = cells} n holds below =
    let at = n % page_room level in
    let index = n / page_room level in
    ap (λ page. cell_in page at) (holds.each index below)
    ∙ ap (λ ps. cell_in (slice_get ps index) at) (sym (all_pages level lead cells))
    ∙ cell_of_run level lead 0 index at cells (rest_within level n)
    ∙ ap (slice_get cells) (number_is level n)
