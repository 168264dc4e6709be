-- The pages of a group read to part its cells by a key.
use Rattle.std.proofs.Common.{◌≡◌, ℕ, ◌+◌, ◌<◌, ◌≤◌, List, [], ◌∷◌, ◌++◌, length, take, Some, None, Ok}
use Rattle.std.proofs.Common.{sym, ap, subst, arith}
use Rattle.std.specs.List.{slice_get}
use Rattle.std.proofs.lemmas.List.{length-drop, take_all}
use Rattle.store_model.specs.Labels.{Lead}
use Rattle.store_model.specs.Pages.{Cell, Page, page_room, group_pages}
use Rattle.node_pages.specs.PagesState.{PagesState, IsPageGet}
use Rattle.node_pages.proofs.Joined.{take_next}
use Rattle.skip_groups.specs.declared.new_cells.NewCells.{NewCells}
use Rattle.skip_groups.specs.Groups.{label_of}
use Rattle.skip_groups.specs.GroupParts.{IsParted, IsGroupParted}
use Rattle.skip_groups.proofs.GroupEnds.{last_page}
use Rattle.skip_groups.proofs.GroupSteps.{WalksTo, ends, goes_on}
use Rattle.skip_groups.proofs.MapChanges.{nothing_behind}

past_end : (i : ℕ) (ps : List Page) → slice_get ps i ≡ None → take i ps ≡ ps
past_end i ps e = take_all i ps (let l = ap length (nothing_behind i ps e) in omega (arith, length-drop i ps))

module _ (level : ℕ) (lead : Lead) (key : List ℕ) (start : List Cell) where
  -- so many pages of the group were read
  abbrev Parts : NewCells → List Cell → ℕ → List Cell → Type 0
  Parts made above index cells = IsParted level lead key (take index (group_pages level lead cells)) start made above

  -- and all of them
  abbrev Whole : NewCells → List Cell → List Cell → Type 0
  Whole made above cells = IsParted level lead key (group_pages level lead cells) start made above

  abbrev pub ArePartedTo : PagesState → PagesState → ℕ → NewCells → List Cell → Type 0
  ArePartedTo old now index made above = WalksTo old level lead now index (Parts made above index)

module _ {old now next : PagesState} {level : ℕ} {lead : Lead} {key : List ℕ} {start : List Cell} {index : ℕ}
    {made : NewCells} {above : List Cell} (w : ArePartedTo level lead key start old now index made above) where
  -- there is no further page
  pub parting_ends : index < 4294967296 → IsPageGet now next (label_of level lead index) (Ok None)
      → IsGroupParted old next level lead key start made above (Ok (tt {0}))
  parting_ends below get =
      ends w (Whole level lead key start made above) below get
      (λ cells parted none. subst (λ ps. IsParted level lead key ps start made above)
      (past_end index (group_pages level lead cells) none) parted)

  -- a page was taken in
  module _ {page : Page} {other : NewCells} {others : List Cell}
      (part : (pages : List Page) → IsParted level lead key pages start made above
      → IsParted level lead key (pages ++ page ∷ []) start other others) (below : index < 4294967296)
      (get : IsPageGet now next (label_of level lead index) (Ok (Some page))) where
    with_page : (cells : List Cell) → Parts level lead key start made above index cells
        → slice_get (group_pages level lead cells) index ≡ Some page
        → Parts level lead key start other others (index + 1) cells
    with_page cells parted there = subst (λ ps. IsParted level lead key ps start other others)
        (sym (take_next (group_pages level lead cells) index page there))
        (part (take index (group_pages level lead cells)) parted)

    pub parting_goes_on : page_room level ≤ length page.cells
        → ArePartedTo level lead key start old next (index + 1) other others
    parting_goes_on full = goes_on w full below get with_page

    pub parting_stops_short : length page.cells < page_room level
        → IsGroupParted old next level lead key start other others (Ok (tt {0}))
    parting_stops_short short =
        ends w (Whole level lead key start other others) below get
        (λ cells parted there. subst (λ ps. IsParted level lead key ps start other others)
        (past_end (index + 1) (group_pages level lead cells) (last_page level lead index cells page there short))
        (with_page cells parted there))
