-- The pages that are left when the last pair came: those of the levels above 0, level after level.
use Rattle.std.proofs.Common.{◌≡◌, ℕ, zero, suc, ◌+◌, ◌-◌, ◌≤◌, ◌<◌, List, ◌++◌, length, refl, sym, ap}
use Rattle.std.proofs.Common.{◌∙◌}
use Rattle.std.proofs.Common.{Option, Ok, append-nil, append_assoc, arith}
use Rattle.std.specs.List.{flat_map}
use Rattle.std.proofs.lemmas.List.{length-append}
use Rattle.store_model.specs.Lists.{numbers_from}
use Rattle.store_model.specs.Draws.{Draw}
use Rattle.store_model.specs.Pairs.{Pair}
use Rattle.store_model.specs.Pages.{Page, level_pages, pages_of_pairs}
use Rattle.disk_model.specs.DiskState.{DiskState}
use Rattle.gate_journal.proofs.Calls.{AreCalls-answered}
use Rattle.rising_pages.specs.declared.raised.RaisedKey.{RaisedKey}
use Rattle.rising_pages.specs.Ends.{list_of}
use Rattle.rising_pages.specs.OpenPages.{open_page, closed_pages}
use Rattle.rising_pages.specs.Raised.{raised_keys, key_pairs, upper_pages}
use Rattle.rising_pages.proofs.Ends.{ends_whole}
use Rattle.rising_pages.proofs.RaisedPairs.{upper_told, lower_and_upper}
use Rattle.image_writer.specs.Placing.{ArePlaced, Places}

-- ---- level after level

-- the pages of the levels from 1 on that are below this one
abbrev pub levels_below : Draw → List Pair → ℕ → List Page
levels_below d s level = flat_map (level_pages d s) (numbers_from 1 (level - 1))

-- what a function makes of one number more
made_of_numbers : {A : Type 0} (f : ℕ → List A) (first count : ℕ)
    → flat_map f (numbers_from first (suc count)) ≡ flat_map f (numbers_from first count) ++ f (first + count)
unfolding numbers_from
made_of_numbers f first zero = append-nil (f first) ∙ ap f (let e : first ≡ first + 0 = omega arith in e)
made_of_numbers f first (suc count) =
    ap (λ made. f first ++ made) (made_of_numbers f (suc first) count
    ∙ ap (λ n. flat_map f (numbers_from (suc first) count) ++ f n)
    (let e : suc first + count ≡ first + suc count = omega arith in e))
    ∙ sym (append_assoc (f first) (flat_map f (numbers_from (suc first) count)) (f (first + suc count)))

-- of more numbers it makes no less
made_of_more : {A : Type 0} (f : ℕ → List A) (first few many : ℕ) → few ≤ many
    → length (flat_map f (numbers_from first few)) ≤ length (flat_map f (numbers_from first many))
unfolding numbers_from
made_of_more f first zero many more =
    let none : length (flat_map f (numbers_from first zero)) ≡ 0 = refl in omega (arith, none)
made_of_more f first (suc few) zero more = absurd (omega (arith, more))
made_of_more f first (suc few) (suc many) more =
    let rest = made_of_more f (suc first) few many (omega (arith, more)) in
    omega (
      arith,
      rest,
      length-append (f first) (flat_map f (numbers_from (suc first) few)),
      length-append (f first) (flat_map f (numbers_from (suc first) many)),
    )

-- below level 1 there is none
pub no_level : (d : Draw) (s : List Pair) (before : List Page) → before ≡ before ++ levels_below d s 1
unfolding numbers_from
no_level d s before = sym (append-nil before)

-- one level on
pub one_level_more : (d : Draw) (s : List Pair) (level : ℕ) (before : List Page) → 1 ≤ level
    → before ++ levels_below d s level ++ level_pages d s level ≡ before ++ levels_below d s (level + 1)
one_level_more d s level before above =
    let f = level_pages d s in
    append_assoc before (levels_below d s level) (f level)
    ∙ ap (λ ps. before ++ ps) (sym (ap (λ n. flat_map f (numbers_from 1 n))
    (let e : level + 1 - 1 ≡ suc (level - 1) = omega (arith, above) in e)
    ∙ made_of_numbers f 1 (level - 1)
    ∙ ap (λ n. levels_below d s level ++ f n) (let e : 1 + (level - 1) ≡ level = omega (arith, above) in e)))

-- the pages up to a level are no more than those of all levels
pub levels_fit : (d : Draw) (s : List Pair) (level : ℕ) (before : List Page) → level < d.height
    → length (before ++ upper_pages d s) ≤ d.slots → length (before ++ levels_below d s (level + 1)) ≤ d.slots
levels_fit d s level before below fits =
    omega (
      arith,
      fits,
      made_of_more (level_pages d s) 1 (level + 1 - 1) (d.height - 1) (omega (arith, below)),
      length-append before (upper_pages d s),
      length-append before (levels_below d s (level + 1)),
    )

-- at the end they are those of all levels
pub all_levels : (d : Draw) (s : List Pair) (level : ℕ) (before : List Page) → level ≡ d.height
    → before ++ levels_below d s level ≡ before ++ upper_pages d s
all_levels d s level before end = ap (λ n. before ++ levels_below d s n) end

-- what was placed so far
pub places_so_far : {E : Type 0} (d : Draw) (pages : List Page) (start now : DiskState) → ArePlaced d pages start now
    → Places {T = Unit {0}} {E = E} d pages start now (Ok tt)
places_so_far d pages start now before = record {
  calls = AreCalls-answered start now tt tt before.calls;
  keeps = λ observable. (before.placed observable).keeps;
  done = before;
}

-- ---- all pages

module _ (d : Draw) (s : List Pair) (some : 1 ≤ d.height) where
  -- with the last page of level 0 all of level 0
  pub last_closed : (last : Option Page) → last ≡ open_page d s 0
      → closed_pages d s 0 ++ list_of last ≡ level_pages d s 0
  last_closed last last_is =
      ap (λ o. closed_pages d s 0 ++ list_of o) last_is ∙ ends_whole (level_pages d s 0)

  -- and with the others all
  pub all_pages : (last : Option Page) (keys : List RaisedKey) → last ≡ open_page d s 0 → keys ≡ raised_keys d s
      → closed_pages d s 0 ++ list_of last ++ upper_pages d (key_pairs keys) ≡ pages_of_pairs d s
  all_pages last keys last_is keys_are =
      ap (λ ps. ps ++ upper_pages d (key_pairs keys)) (last_closed last last_is)
      ∙ ap (λ ps. level_pages d s 0 ++ ps)
      (ap (λ ks. upper_pages d (key_pairs ks)) keys_are ∙ upper_told d s)
      ∙ lower_and_upper d s some

  -- the pages of level 0 are no more than all
  pub level_fits : length (level_pages d s 0) ≤ length (pages_of_pairs d s)
  level_fits = omega (
    arith,
    ap length (lower_and_upper d s some),
    length-append (level_pages d s 0) (upper_pages d s),
  )

  pub closed_of_level : length (closed_pages d s 0) ≤ length (pages_of_pairs d s)
  closed_of_level = omega (
    arith,
    level_fits,
    ap length (ends_whole (level_pages d s 0)),
    length-append (closed_pages d s 0) (list_of (open_page d s 0)),
  )
