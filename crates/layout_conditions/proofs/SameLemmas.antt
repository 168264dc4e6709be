-- Two sets of pages that meet the conditions with the same pairs have the same pages.
use Rattle.std.proofs.Common.{◌≡◌, ℕ, zero, suc, ◌+◌, ◌-◌, ◌<◌, ◌≤◌, List, [], ◌∷◌, ◌++◌, length, ◌⊎◌, inl, inr, ⊎_elim}
use Rattle.std.proofs.Common.{Option, Ordering, Less, Equal, Greater, refl, sym, ap, ap₂, subst, ◌∙◌, arith, add-one}
use Rattle.std.specs.Cmp.{IsTotalOrder}
use Rattle.std.specs.Cmp.Lexicographic.{nat_list_cmp_total}
use Rattle.std.specs.Ordering.{ordering_reverse}
use Rattle.std.specs.List.{AllByRecursion, Contains}
use Rattle.std.proofs.lemmas.Bool.{cases_lt}
use Rattle.std.proofs.lemmas.Cmp.{on_total}
use Rattle.std.proofs.lemmas.List.{length-append}
use Rattle.std.proofs.lemmas.Map.Lookups.{exact_bytes}
use Rattle.std.proofs.lemmas.List.Elements.{Contains-append_cases}
use Rattle.store_model.specs.Paths.{key_cmp}
use Rattle.store_model.specs.Labels.{Lead, Label}
use Rattle.store_model.specs.Labels.Lead.{Start, Leader}
use Rattle.store_model.specs.Draws.{Draw}
use Rattle.store_model.specs.Pairs.{Pair}
use Rattle.store_model.specs.Pages.{Cell, Page, page_room, IsCell, IsPage}
use Rattle.store_model.proofs.ListsLemmas.{rising_append, rising_one}
use Rattle.store_model.proofs.ListsLemmasOrder.{held_cases, held_all, same_rising}
use Rattle.store_model.proofs.PagesLemmasOrder.{cell_cmp}
use Rattle.layout_conditions.specs.Pages.{LeadsBefore, HasCell, HasKey}
use Rattle.layout_conditions.proofs.HeldLemmas.{all_held, held_none, some_held, no_longer}
use Rattle.layout_conditions.proofs.GroupLemmas.{AreLayout, IsThere, same_label, no_key_below_itself, key_trans}
use Rattle.layout_conditions.proofs.GroupLemmas.{rising_cells, pair_of_cell, value_above, one_run, runs_rise}
use Rattle.layout_conditions.proofs.GroupLemmas.{run_before, first_of_group, leader_stands, group_of_page}
use Rattle.layout_conditions.proofs.GroupLemmas.{leader_is_least, key_stands_above, key_leads, relabelled}

-- cells are in a total order by their keys
pub cell_cmp_total : IsTotalOrder cell_cmp
cell_cmp_total = on_total (λ (c : Cell). c.key) nat_list_cmp_total

-- ---- leads

-- what leads behind another lead is a key
record IsKeyBehind (lead other : Lead) : Type 0 where
  key : List ℕ
  is : other ≡ Leader key

key_behind : (lead other : Lead) → LeadsBefore lead other → IsKeyBehind lead other
key_behind Start Start h = absurd h
key_behind (Leader a) Start h = absurd h
key_behind Start (Leader b) h = record { key = b; is = refl }
key_behind (Leader a) (Leader b) h = record { key = b; is = refl }

-- of two leads one is before the other, or they are one
leads_apart : (lead other : Lead) → (LeadsBefore lead other → ⊥) → (LeadsBefore other lead → ⊥) → lead ≡ other
leads_apart Start Start h g = refl
leads_apart Start (Leader b) h g = absurd (h tt)
leads_apart (Leader a) Start h g = absurd (g tt)
leads_apart (Leader a) (Leader b) h g = by_order (key_cmp a b) refl
  where
    by_order : (o : Ordering) → key_cmp a b ≡ o → Leader a ≡ Leader b
    by_order Less e = absurd (h e)
    by_order Equal e = ap Leader (exact_bytes a b e)
    by_order Greater e = absurd (g (nat_list_cmp_total.antisymm b a ∙ ap ordering_reverse e))

-- ---- the same keys and cells

-- what a page of a level holds is a cell of that level
cell_there : (level : ℕ) (page : Page) (cell : Cell) → IsPage page → page.label.level ≡ level
    → Contains page.cells cell → IsCell level cell
cell_there level page cell is e held =
    held_all (IsCell level) page.cells cell (subst (λ n. AllByRecursion (IsCell n) page.cells) e is.cells) held

module _ {d : Draw} {s : List Pair} {A B : Page → Type 0} (a : AreLayout d s A) (b : AreLayout d s B) where
  -- cells of level 0 are those of the pairs
  lowest_agree : (cell : Cell) → HasCell A 0 cell → HasCell B 0 cell
  lowest_agree cell h =
      let pair = pair_of_cell cell (cell_there 0 h.page cell (a.pages h.page h.there) h.on_level h.in_page).value in
      subst (HasCell B 0) pair.1 ((b.cells pair.0).1 ((a.cells pair.0).0 (subst (HasCell A 0) (sym pair.1) h)))

  -- a key stands on a higher level where it stands on the level below and is drawn above it
  keys_agree : (level : ℕ) (key : List ℕ) → HasKey A level key → HasKey B level key
  keys_agree zero key h = record { cell = h.cell; key_is = h.key_is; has = lowest_agree h.cell h.has }
  keys_agree (suc level) key h =
      let group = a.groups.leads level key (subst (λ n. HasKey A n key) (sym (add-one level)) h) in
      let above = (first_of_group a level key group).above in
      let below = keys_agree level key (leader_stands a level key group) in
      let at = below.has.on_level in
      let up : below.has.page.label.level < d.level below.cell.key = omega (arith, ap d.level below.key_is) in
      let found = key_stands_above b below.has.page below.cell below.has.there below.has.in_page up in
      subst (λ k. HasKey B (suc level) k) below.key_is
      (subst (λ n. HasKey B n below.cell.key) (ap (λ n. n + 1) at ∙ add-one level) found)

  -- so each level has the same cells
  cells_agree : (level : ℕ) (cell : Cell) → HasCell A level cell → HasCell B level cell
  cells_agree zero cell h = lowest_agree cell h
  cells_agree (suc level) cell h =
      let k = keys_agree (suc level) cell.key (record { cell = cell; key_is = refl; has = h }) in
      let here = value_above level cell.value
      (cell_there (suc level) h.page cell (a.pages h.page h.there) h.on_level h.in_page).value in
      let there = value_above level k.cell.value
      (cell_there (suc level) k.has.page k.cell (b.pages k.has.page k.has.there) k.has.on_level k.has.in_page).value
      in
      let make : List ℕ → Option (List ℕ) → Cell = λ key value. record { key = key; value = value } in
      let same : k.cell ≡ cell = ap₂ make k.key_is (there ∙ sym here) in
      subst (HasCell B (suc level)) same k.has

-- ---- the same groups

-- no key is below the least of those that it is among
not_below_least : (key other : List ℕ) → key_cmp other key ≡ Less → (key ≡ other) ⊎ (key_cmp key other ≡ Less) → ⊥
not_below_least key other below (inl e) = no_key_below_itself key (subst (λ k. key_cmp k key ≡ Less) (sym e) below)
not_below_least key other below (inr less) = no_key_below_itself key (key_trans key other key less below)

module _ {d : Draw} {s : List Pair} {A B : Page → Type 0} (a : AreLayout d s A) (b : AreLayout d s B) where
  -- a cell stands in groups of no two leads: the later lead would be above its key
  not_led_before : (x y : Page) (cell : Cell) → A x → B y → x.label.level ≡ y.label.level → Contains x.cells cell
      → Contains y.cells cell → LeadsBefore x.label.lead y.label.lead → ⊥
  not_led_before x y cell here there level held_x held_y before =
      let behind = key_behind x.label.lead y.label.lead before in
      let group = group_of_page b y behind.key there behind.is in
      let above = (first_of_group b y.label.level behind.key group).above in
      let own = keys_agree b a y.label.level behind.key (leader_stands b y.label.level behind.key group) in
      let at = own.has.on_level in
      let up : own.has.page.label.level < d.level own.cell.key = omega (arith, ap d.level own.key_is) in
      let led = (key_leads a own.has.page own.cell own.has.there own.has.in_page up).0 in
      let first : LeadsBefore x.label.lead own.has.page.label.lead =
      subst (LeadsBefore x.label.lead) (behind.is ∙ sym (led ∙ ap Leader own.key_is)) before in
      let rise = a.groups.rise x own.has.page here own.has.there (level ∙ sym at) first cell
      own.cell held_x own.has.in_page in
      not_below_least behind.key cell.key (subst (λ k. key_cmp cell.key k ≡ Less) own.key_is rise)
      (leader_is_least b y behind.key cell there behind.is held_y)

-- so its groups have one lead
same_lead : {d : Draw} {s : List Pair} {A B : Page → Type 0} (a : AreLayout d s A) (b : AreLayout d s B)
    (x y : Page) (cell : Cell)
    → A x → B y → x.label.level ≡ y.label.level → Contains x.cells cell → Contains y.cells cell
    → x.label.lead ≡ y.label.lead
same_lead a b x y cell here there level held_x held_y =
    leads_apart x.label.lead y.label.lead (not_led_before a b x y cell here there level held_x held_y)
    (not_led_before b a y x cell there here (sym level) held_y held_x)

-- ---- the same runs

-- the run of the number, where it is in the first set, is in the second
abbrev IsCopied : (Page → Type 0) → (Page → Type 0) → ℕ → Lead → ℕ → Type 0
IsCopied A B level lead index = (page : Page) → A page → page.label.level ≡ level → page.label.lead ≡ lead
    → page.label.index ≡ index → B page

-- and so are those of smaller numbers
abbrev AreCopied : (Page → Type 0) → (Page → Type 0) → ℕ → Lead → ℕ → Type 0
AreCopied A B level lead bound = (index : ℕ) → index < bound → IsCopied A B level lead index

-- the cell stands in this run of the group or in a later one
record StandsFrom (There : Page → Type 0) (level : ℕ) (lead : Lead) (index : ℕ) (cell : Cell) : Type 0 where
  page : Page
  there : There page
  level_is : page.label.level ≡ level
  lead_is : page.label.lead ≡ lead
  from : index ≤ page.label.index
  in_page : Contains page.cells cell

module _ {d : Draw} {s : List Pair} {A B : Page → Type 0} (a : AreLayout d s A) (b : AreLayout d s B) (level : ℕ)
    (lead : Lead) (index : ℕ) (x : IsThere A level lead index) where
  -- a cell of a run stands in no earlier run of the other set, where those are the same
  stands_from : AreCopied B A level lead index → (cell : Cell) → Contains x.page.cells cell
      → StandsFrom B level lead index cell
  stands_from back cell held = by_number (cases_lt h.page.label.index index)
    where
      h : HasCell B level cell
      h = cells_agree a b level cell (record { page = x.page; there = x.there; on_level = x.level_is; in_page = held })

      led : h.page.label.lead ≡ lead
      led = sym (same_lead a b x.page h.page cell x.there h.there (x.level_is ∙ sym h.on_level) held h.in_page)
          ∙ x.lead_is

      by_number : (h.page.label.index < index) ⊎ (index ≤ h.page.label.index) → StandsFrom B level lead index cell
      by_number (inl before) =
          let own = back h.page.label.index before h.page h.there h.on_level led refl in
          let at = x.index_is in
          let rise = runs_rise a (index - h.page.label.index - 1) h.page x.page own
          x.there (h.on_level ∙ sym x.level_is) (led ∙ sym x.lead_is) (omega arith) in
          absurd (no_key_below_itself cell.key (rise cell cell h.in_page held))
      by_number (inr from) = record {
        page = h.page;
        there = h.there;
        level_is = h.on_level;
        lead_is = led;
        from = from;
        in_page = h.in_page;
      }

-- the run before the one that the cell stands in, which is full
run_before_cell : {d : Draw} {s : List Pair} {There : Page → Type 0} (are : AreLayout d s There) (level : ℕ)
    (lead : Lead) (index : ℕ) (cell : Cell) (f : StandsFrom There level lead index cell)
    → index < f.page.label.index → (run : IsThere There level lead index) × (length run.page.cells ≡ page_room level)
run_before_cell are level lead index cell f later =
    let r = run_before are (f.page.label.index - index - 1) f.page index f.there (omega arith) in (
      relabelled f.page.label.level level f.page.label.lead lead index f.level_is f.lead_is r.0,
      r.1
          ∙ ap page_room f.level_is,
    )

-- so the run of the number is there
run_of_cell : {d : Draw} {s : List Pair} {There : Page → Type 0} (are : AreLayout d s There) (level : ℕ) (lead : Lead)
    (index : ℕ) (cell : Cell) → StandsFrom There level lead index cell → IsThere There level lead index
run_of_cell {There = There} are level lead index cell f = by_number (cases_lt index f.page.label.index)
  where
    by_number : (index < f.page.label.index) ⊎ (f.page.label.index ≤ index) → IsThere There level lead index
    by_number (inl later) = (run_before_cell are level lead index cell f later).0
    by_number (inr own) = let from = f.from in record {
      page = f.page;
      there = f.there;
      level_is = f.level_is;
      lead_is = f.lead_is;
      index_is = omega arith;
    }

-- two runs of one label are one
one_there : {d : Draw} {s : List Pair} {There : Page → Type 0} (are : AreLayout d s There) (level : ℕ) (lead : Lead)
    (index : ℕ) (x y : IsThere There level lead index) → x.page ≡ y.page
one_there are level lead index x y = one_run are x.page y.page x.there y.there (x.level_is ∙ sym y.level_is)
    (x.lead_is ∙ sym y.lead_is) (x.index_is ∙ sym y.index_is)

-- a cell of the group that stands in no later run stands in this one
stands_in : {d : Draw} {s : List Pair} {There : Page → Type 0} (are : AreLayout d s There) (level : ℕ) (lead : Lead)
    (index : ℕ) (y : IsThere There level lead index) (cell : Cell) (f : StandsFrom There level lead index cell)
    → f.page.label.index ≤ index → Contains y.page.cells cell
stands_in are level lead index y cell f own =
    let from = f.from in
    let here : IsThere _ level lead index = record {
      page = f.page;
      there = f.there;
      level_is = f.level_is;
      lead_is = f.lead_is;
      index_is = omega arith;
    } in
    subst (λ (p : Page). Contains p.cells cell) (one_there are level lead index here y) f.in_page

-- what cannot be of a run: all of it stands in another, which has a greater cell besides, and it is full
not_one_more : (level : ℕ) (full other : Page) (cell : Cell) → IsPage full → IsPage other
    → length full.cells ≡ page_room level → other.label.level ≡ level
    → ((c : Cell) → Contains full.cells c → Contains other.cells c)
    → ((c : Cell) → Contains full.cells c → cell_cmp c cell ≡ Less) → Contains other.cells cell → ⊥
not_one_more level full other cell is other_is count at within below held =
    let rise = rising_append cell_cmp full.cells (cell ∷ []) (rising_cells full is) (rising_one cell_cmp cell)
    (all_held (λ c. AllByRecursion (λ y. cell_cmp c y ≡ Less) (cell ∷ []))
    full.cells (λ c there. (below c there, tt))) in
    let most = no_longer cell_cmp_total (full.cells ++ cell ∷ []) other.cells rise
    (λ c there. by_place c (Contains-append_cases full.cells (cell ∷ []) c there)) in
    let room = other_is.room in
    omega (arith, length-append full.cells (cell ∷ []), ap page_room at)
  where
    alone : (c : Cell) → (cell ≡ c) ⊎ Contains [] c → Contains other.cells c
    alone c (inl e) = subst (Contains other.cells) e held
    alone c (inr none) = absurd (held_none c none)

    by_place : (c : Cell) → Contains full.cells c ⊎ Contains (cell ∷ []) c → Contains other.cells c
    by_place c (inl there) = within c there
    by_place c (inr last) = alone c (held_cases cell [] c last)

module _ {d : Draw} {s : List Pair} {A B : Page → Type 0} (a : AreLayout d s A) (b : AreLayout d s B) (level : ℕ)
    (lead : Lead) (index : ℕ) (to : AreCopied A B level lead index) (back : AreCopied B A level lead index)
    (x : IsThere A level lead index) (y : IsThere B level lead index) where
  -- a run whose group has the same runs before it in both sets has no cell that stands later in the other set
  not_later : (cell : Cell) → Contains x.page.cells cell → (f : StandsFrom B level lead index cell)
      → index < f.page.label.index → ⊥
  not_later cell held f later = not_one_more level y.page x.page cell (b.pages y.page y.there)
      (a.pages x.page x.there) full x.level_is within below held
    where
      earlier : (run : IsThere B level lead index) × (length run.page.cells ≡ page_room level)
      earlier = run_before_cell b level lead index cell f later

      full : length y.page.cells ≡ page_room level
      full = ap (λ (p : Page). length p.cells) (one_there b level lead index y earlier.0) ∙ earlier.1

      below : (c : Cell) → Contains y.page.cells c → cell_cmp c cell ≡ Less
      below c there =
          let at = y.index_is in
          runs_rise b (f.page.label.index - index - 1) y.page f.page y.there f.there (y.level_is ∙ sym f.level_is)
          (y.lead_is ∙ sym f.lead_is) (omega arith) c cell there f.in_page

      within : (c : Cell) → Contains y.page.cells c → Contains x.page.cells c
      within c there = by_number (stands_from b a level lead index y to c there)
          (λ g. cases_lt index g.page.label.index)
        where
          by_case : (g : StandsFrom A level lead index c) → (index < g.page.label.index) ⊎ (g.page.label.index ≤ index)
              → Contains x.page.cells c
          by_case g (inl behind) =
              let at = x.index_is in
              let rise = runs_rise a (g.page.label.index - index - 1)
              x.page g.page x.there g.there (x.level_is ∙ sym g.level_is) (x.lead_is ∙ sym g.lead_is)
              (omega arith) cell c held g.in_page in
              absurd (no_key_below_itself cell.key (key_trans cell.key c.key cell.key rise (below c there)))
          by_case g (inr own) = stands_in a level lead index x c g own

          by_number : (g : StandsFrom A level lead index c)
              → ((h : StandsFrom A level lead index c) → (index < h.page.label.index) ⊎ (h.page.label.index ≤ index))
              → Contains x.page.cells c
          by_number g cases = by_case g (cases g)

  -- so its cells stand in the run of its number
  stands_alike : (cell : Cell) → Contains x.page.cells cell → Contains y.page.cells cell
  stands_alike cell held = by_case (stands_from a b level lead index x back cell held)
      (λ f. cases_lt index f.page.label.index)
    where
      by_case : (f : StandsFrom B level lead index cell)
          → ((g : StandsFrom B level lead index cell) → (index < g.page.label.index) ⊎ (g.page.label.index ≤ index))
          → Contains y.page.cells cell
      by_case f cases = ⊎_elim (λ (later : index < f.page.label.index). absurd (not_later cell held f later))
          (λ (own : f.page.label.index ≤ index). stands_in b level lead index y cell f own) (cases f)

-- pages of one label with the same cells are one
same_page : (x y : Page) → x.label ≡ y.label → x.cells ≡ y.cells → x ≡ y
same_page x y label cells = let make : Label → List Cell → Page = λ l cs. record {
  label = l;
  cells = cs;
} in ap₂ make label cells

-- a run is in the other set where those before it in its group are the same
copied_next : {d : Draw} {s : List Pair} {A B : Page → Type 0} (a : AreLayout d s A) (b : AreLayout d s B) (level : ℕ)
    (lead : Lead) (index : ℕ) → AreCopied A B level lead index → AreCopied B A level lead index
    → IsCopied A B level lead index
copied_next {A = A} {B = B} a b level lead index to back page here level_is lead_is index_is =
    subst B (sym same) y.there
  where
    x : IsThere A level lead index
    x = record { page = page; there = here; level_is = level_is; lead_is = lead_is; index_is = index_is }

    y : IsThere B level lead index
    y = let c = some_held page.cells (a.pages page here).some_cell
        in run_of_cell b level lead index c.0 (stands_from a b level lead index x back c.0 c.1)

    same : page ≡ y.page
    same =
        same_page page y.page (same_label page.label y.page.label (level_is ∙ sym y.level_is) (lead_is ∙ sym y.lead_is)
        (index_is ∙ sym y.index_is))
        (same_rising cell_cmp_total page.cells y.page.cells (rising_cells page (a.pages page here))
        (rising_cells y.page (b.pages y.page y.there)) (stands_alike a b level lead index to back x y)
        (stands_alike b a level lead index back to y x))

-- one more number
one_more : (A B : Page → Type 0) (level : ℕ) (lead : Lead) (bound : ℕ) → AreCopied A B level lead bound
    → IsCopied A B level lead bound → AreCopied A B level lead (suc bound)
one_more A B level lead bound below here index l = by_case (cases_lt index bound)
  where
    by_case : (index < bound) ⊎ (bound ≤ index) → IsCopied A B level lead index
    by_case (inl less) = below index less
    by_case (inr own) = let e : bound ≡ index = omega arith in subst (IsCopied A B level lead) e here

-- so all runs are
copied_both : {d : Draw} {s : List Pair} {A B : Page → Type 0} (a : AreLayout d s A) (b : AreLayout d s B) (level : ℕ)
    (lead : Lead) (bound : ℕ) → AreCopied A B level lead bound × AreCopied B A level lead bound
copied_both a b level lead zero = (λ index l. absurd (omega arith), λ index l. absurd (omega arith))
copied_both {A = A} {B = B} a b level lead (suc bound) =
    let both = copied_both a b level lead bound in (
      one_more A B level lead bound both.0 (copied_next a b level lead bound both.0 both.1),
      one_more B A level lead
          bound both.1 (copied_next b a level lead bound both.1 both.0),
    )

-- the pages of one set are in the other
pub same_pages : {d : Draw} {s : List Pair} {A B : Page → Type 0} (a : AreLayout d s A) (b : AreLayout d s B)
    (page : Page) → A page → B page
same_pages a b page here =
    (copied_both a b page.label.level page.label.lead (suc page.label.index)).0 page.label.index (omega arith)
    page here refl refl refl
