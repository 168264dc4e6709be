-- A search in the pages of one group, page after page.
use Rattle.std.proofs.Common.{◌≡◌, ◌⊎◌, ℕ, zero, suc, ◌+◌, ◌-◌, ◌<◌, ◌≤◌, List, length, Option, Some, None, Ok}
use Rattle.std.proofs.Common.{refl, sym, ap, ◌∙◌, arith}
use Rattle.std.specs.List.{prefix_len, slice_get}
use Rattle.store_model.specs.Labels.{Lead}
use Rattle.store_model.specs.Pages.{Cell, Page, page_room}
use Rattle.node_pages.specs.PagesState.{PagesState, IsPageGet}
use Rattle.skip_groups.specs.Groups.{label_of}
use Rattle.skip_groups.specs.Floors.{is_not_above, after_of}
use Rattle.skip_groups.specs.Searches.{seen, IsSeen, IsGroupSearch}
use Rattle.skip_groups.proofs.GroupSteps.{WalksTo, begins, ends, goes_on}
use Rattle.skip_groups.proofs.Walks.{Walked, Ends, some_at, walk_start, walk_none, walk_stop, walk_on}

module _ {T : Type 0} (floor after : Cell → T → T)
    (last_counts : (first second : Cell) (found : T) → floor second (floor first found) ≡ floor second found)
    (start : T) (old : PagesState) (level : ℕ) (lead : Lead) (key : List ℕ) where
  -- all cells of the pages that were read are not above the key, and the last of them was seen
  pub record IsPassed (index : ℕ) (found : T) (cells : List Cell) : Type 0 where
    pub cell : Option Cell
    pub walked : Walked (is_not_above key) level lead cells index cell
    pub is : found ≡ seen floor cell start

  abbrev pub Walks : PagesState → ℕ → T → Type 0
  Walks now index found = WalksTo old level lead now index (IsPassed index found)

  -- the search at its end
  neighbours : (cells : List Cell) (below above : Option Cell) (passed found : T) → passed ≡ seen floor below start
      → found ≡ seen after above passed → Ends (is_not_above key) level lead cells below above
      → IsSeen floor after key start found cells
  neighbours cells below above passed found passed_is found_is e =
      found_is ∙ ap (λ o. seen after o passed) e.after_is
      ∙ ap (seen after (after_of key cells)) (passed_is ∙ ap (λ o. seen floor o start) e.floor_is)

  -- the last of the first so many cells of a page, or else the one before
  record Picks (page : Page) (count : ℕ) (last : Option Cell) (found : T) : Type 0 where
    cell : Option Cell
    none : count ≡ 0 → cell ≡ last
    some : 0 < count → cell ≡ slice_get page.cells (count - 1)
    is : found ≡ seen floor cell start

  picks : (page : Page) (count : ℕ) (last : Option Cell) (before found : T) → count ≤ length page.cells
      → before ≡ seen floor last start → (count ≡ 0 → found ≡ before)
      → (0 < count → found ≡ seen floor (slice_get page.cells (count - 1)) before) → Picks page count last found
  picks page zero last before found within is none some = record {
    cell = last;
    none = λ e. refl;
    some = λ h. absurd (omega arith);
    is = none refl ∙ is;
  }
  picks page (suc n) last before found within is none some =
      let at = some_at page.cells (suc n - 1) (omega arith) in
      record {
        cell = Some at.0;
        none = λ e. absurd (omega arith);
        some = λ h. sym at.1;
        is = some (omega arith) ∙ ap (λ o. seen floor o before) at.1 ∙ ap (floor at.0) is ∙ counts last at.0;
      }
    where
      counts : (o : Option Cell) (second : Cell) → floor second (seen floor o start) ≡ floor second start
      counts None second = refl
      counts (Some first) second = last_counts first second start

pub walks_start : {T : Type 0} {floor after : Cell → T → T}
    {last_counts : (first second : Cell) (found : T) → floor second (floor first found) ≡ floor second found}
    {start : T} {old : PagesState} {level : ℕ} {lead : Lead} {key : List ℕ}
    → Walks floor after last_counts start old level lead key old 0 start
walks_start {level = level} {lead = lead} {key = key} = begins (λ cells. record {
  cell = None;
  walked = walk_start (is_not_above key) level lead cells;
  is = refl;
})

module _ {T : Type 0} {floor after : Cell → T → T}
    {last_counts : (first second : Cell) (found : T) → floor second (floor first found) ≡ floor second found}
    {start : T} {old now next : PagesState} {level : ℕ} {lead : Lead} {key : List ℕ} {index : ℕ} {before : T}
    (w : Walks floor after last_counts start old level lead key now index before) where
  pub search_ends : {S : Type 0} {done : S} → index < 4294967296
      → IsPageGet now next (label_of level lead index) (Ok None)
      → IsGroupSearch floor after old next level lead key start before (Ok done)
  search_ends below get =
      ends w (IsSeen floor after key start before) below get
      (λ cells passed here.
      neighbours floor after last_counts start old level lead key cells passed.cell None before before passed.is refl
      (walk_none (is_not_above key) level lead cells index passed.cell passed.walked here))

  module _ {page : Page} {count : ℕ} {passing : T} (below : index < 4294967296)
      (get : IsPageGet now next (label_of level lead index) (Ok (Some page)))
      (counted : count ≡ prefix_len (is_not_above key) page.cells) (within : count ≤ length page.cells)
      (none : count ≡ 0 → passing ≡ before) (some : 0 < count
      → passing ≡ seen floor (slice_get page.cells (count - 1)) before) where
    pub search_stops : {S : Type 0} {done : S} {found : T}
        → (count < length page.cells) ⊎ (length page.cells < page_room level)
        → found ≡ seen after (slice_get page.cells count) passing
        → IsGroupSearch floor after old next level lead key start found (Ok done)
    search_stops {found = found} end is =
        ends w (IsSeen floor after key start found) below get
        (λ cells passed here.
        let p = picks floor after last_counts start old level lead key
        page count passed.cell before passing within passed.is none some in
        neighbours floor after last_counts start old level lead key
        cells p.cell (slice_get page.cells count) passing found p.is is
        (walk_stop (is_not_above key) level lead cells index passed.cell p.cell (slice_get page.cells count) page
        count passed.walked here counted within end p.none p.some refl))

    pub search_goes_on : length page.cells ≤ count → page_room level ≤ length page.cells
        → Walks floor after last_counts start old level lead key next (index + 1) passing
    search_goes_on all full =
        goes_on w full below get (λ cells passed here.
        let p = picks floor after last_counts start old level lead key
        page count passed.cell before passing within passed.is none some in
        record {
          cell = p.cell;
          walked = walk_on (is_not_above key) level lead cells index passed.cell p.cell page count
              passed.walked here counted within all full p.none p.some;
          is = p.is;
        })
